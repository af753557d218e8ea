-- What the refusals of a call mean, and what passing them gives.
pub mod Numbers
pub mod Stated
pub mod Tests
pub mod Passed
pub mod Refusals
