-- The sheet of a run.
pub mod Runs
