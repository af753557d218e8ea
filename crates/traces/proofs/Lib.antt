pub mod Parts
pub mod Logs
