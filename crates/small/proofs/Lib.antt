-- Laws that several proofs cite.
pub mod Counting
pub mod Places
pub mod Answers
pub mod Slices
pub mod Theorems
