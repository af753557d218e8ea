pub mod Handing
pub mod Judging
pub mod Meshes
pub mod Replaying
pub mod Showing
pub mod Unplayed
