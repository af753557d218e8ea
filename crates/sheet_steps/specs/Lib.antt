-- The worst so far, and the count of the bounds that a quad reaches.
pub mod Values
pub mod Counting
