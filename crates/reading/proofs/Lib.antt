-- Laws that several proofs cite.
pub mod Bytes
pub mod Digits
pub mod Hexes
pub mod Chains
pub mod Threes
pub mod Rows
pub mod Heads
pub mod Wholes
