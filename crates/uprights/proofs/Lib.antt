-- Laws that the functions' proofs share.
pub mod Words
pub mod Turns
