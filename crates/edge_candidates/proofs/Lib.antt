pub mod Bits
pub mod Halves
pub mod Around
pub mod Closes
pub mod Keeping
pub mod Givers
pub mod Nears
pub mod Fours
