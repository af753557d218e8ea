pub mod Changes
pub mod Build
