pub mod Selects
pub mod Pick
pub mod Lengths
pub mod Ranks
