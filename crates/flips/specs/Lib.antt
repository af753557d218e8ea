pub mod Nodes
pub mod Flip
pub mod Twins
pub mod Recover
pub mod Split
