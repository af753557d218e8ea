-- Laws that the proofs share.
pub mod Searches
pub mod Puts
