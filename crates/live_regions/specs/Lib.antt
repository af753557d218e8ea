pub mod Walls
pub mod Stack
pub mod Visit
pub mod Squares
