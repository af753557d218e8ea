-- Refused edges in lent memory.
pub mod Records
pub mod Blocks
