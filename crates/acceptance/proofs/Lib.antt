-- Laws that the proofs cite.
pub mod Folding
pub mod Counting
