pub mod Tris
pub mod Sorts
pub mod Sides
pub mod Crosses
pub mod Tests
pub mod Limits
pub mod Boxing
pub mod Noted
