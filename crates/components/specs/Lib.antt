pub mod Flood
pub mod Seek
pub mod Near
pub mod Odd
pub mod Sizes
