-- Joints: the table of the locked edges.
pub mod Table
pub mod Put
