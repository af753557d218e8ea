-- Laws that the proofs share.
pub mod Marks
pub mod Files
pub mod Totals
pub mod Coordinates
pub mod Sorting
pub mod Rotations
pub mod Refusals
pub mod Theorems
