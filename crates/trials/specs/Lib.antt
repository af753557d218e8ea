pub mod Kept
pub mod Ranked
pub mod Nodes
pub mod Floors
