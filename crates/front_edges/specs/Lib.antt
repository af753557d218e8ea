pub mod Rows
pub mod Runs
pub mod Noting
pub mod Front
