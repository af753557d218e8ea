pub mod Tests
pub mod Lists
pub mod Roots
pub mod Growth
pub mod Words
