pub mod Fences
pub mod Scans
pub mod Keeping
pub mod Aheads
pub mod Monotone
pub mod Boxing
pub mod Skipping
