pub mod Loop
pub mod Trace
pub mod Link
pub mod Sift
pub mod Keep
