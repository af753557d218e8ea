-- What the call promises, and what its answer means.
-- what the parts answer is what the verdict says: areas, odd components, sides,
-- and all of them with the triangles turned upright
pub mod Flat
pub mod Odd
pub mod Sides
pub mod Turned
pub mod Leaves
-- the answer read back, and what it means
pub mod Promise
pub mod Means
