pub mod Notes
pub mod Puts
pub mod Removes
pub mod Evens
pub mod Builds
pub mod Counts
pub mod Valid
