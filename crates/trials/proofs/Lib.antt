pub mod Insertion
pub mod Steps
pub mod Rating
pub mod Rounds
pub mod Falling
pub mod Reaching
pub mod Corners
