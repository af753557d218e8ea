pub mod Lists
pub mod Chains
pub mod Rings
pub mod Families
pub mod Opens
