pub mod Standings
pub mod Settles
