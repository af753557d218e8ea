pub mod Lengths
pub mod Numbers
pub mod Shown
pub mod States
