pub mod Layout
pub mod Notes
pub mod Rep
pub mod Walk
pub mod Counting
