-- Every small mesh in its order, and that the order has each exactly once.
pub mod Small
pub mod Lent
pub mod Order
pub mod Lists
pub mod Choices
pub mod Counts
