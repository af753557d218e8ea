pub mod Stored
pub mod Takes
pub mod Plays
pub mod Opening
pub mod Ending
pub mod Replaying
pub mod Reads
