-- The runs, what is folded of each, and how many lists have the stored hashes.
pub mod Folded
pub mod Positions
pub mod Runs
pub mod Tallies
