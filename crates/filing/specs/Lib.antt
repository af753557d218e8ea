-- The filing order of two meshes: what it is (Filing),
-- and that it is a total order on the classes that it names (Theorems).
pub mod Filing
-- total orders, coordinates, lists sorted by an order, rotations of a triangle
pub mod Totals
pub mod Coordinates
pub mod Rotations
-- what the code's functions promise
pub mod Places
pub mod Promise
pub mod Refusals
pub mod Theorems
