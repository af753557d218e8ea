pub mod Listing
pub mod Flood
pub mod Fill
