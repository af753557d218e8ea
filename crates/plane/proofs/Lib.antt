pub mod Ground
pub mod Laws
pub mod Mirror
pub mod Signs
pub mod Inside
pub mod Jacobians
pub mod Measured
