-- What the exported functions promise.
pub mod Exported
pub mod Filed
pub mod Jobs
pub mod Previews
pub mod Replays
pub mod Verdicts
