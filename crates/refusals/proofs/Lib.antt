-- Laws that the proofs share.
pub mod Near
pub mod Pairs
