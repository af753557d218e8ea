pub mod Points
pub mod Vectors
pub mod Columns
pub mod Measures
