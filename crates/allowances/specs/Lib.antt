-- The state of a job in the definition's words.
pub mod States
