pub mod Notes
pub mod Found
pub mod Flips
pub mod Evens
pub mod Splits
pub mod Recovers
pub mod Resumes
