-- The numbers that are told.
pub mod Runs
pub mod Jobs
pub mod Previews
pub mod Replays
