-- Laws that several proofs cite.
pub mod Puts
pub mod Shows
pub mod Rows
pub mod Parts
