pub mod Tests
pub mod Squares
pub mod Ways
pub mod Picks
pub mod Turns
pub mod Lines
pub mod Ranking
