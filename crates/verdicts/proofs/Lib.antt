-- Laws that the functions' proofs cite.
pub mod Odds
pub mod Rooms
pub mod Returns
