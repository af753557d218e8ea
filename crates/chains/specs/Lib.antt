pub mod Chain0
pub mod Chain1
pub mod Chain2
