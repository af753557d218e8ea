pub mod Nodes
pub mod Cross
pub mod Crossings
pub mod Limits
pub mod Boxes
