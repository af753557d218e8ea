pub mod Returned
pub mod Corners
pub mod Filling
pub mod Numbers
