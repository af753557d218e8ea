-- The acceptance of a finished mesh: what it is (Accept, Call), and what it says (Theorems;
-- of triangles wound either way, Upright).
-- a place of the plane, and the cells that cover it
-- what the tests mean: first offenders, each test beside its clause, the given points, the least edge
pub mod Firsts
pub mod Tests
pub mod Moved
pub mod Least
-- sums over sides that balance
pub mod Balance
-- signs and identities of whole numbers; a triangle and a quad seen from a place; the crossings of its ray
pub mod Signs
pub mod Triangle
pub mod Quadrangle
pub mod Crossings
pub mod QuadCrossings
-- the cover and the area
pub mod Named
pub mod Covered
pub mod Area
-- a call that answered; the mesh of a run; quads by their nodes
pub mod Passed
pub mod Own
pub mod Bare
pub mod Theorems
-- triangles wound either way: their corners, and all clauses
pub mod Thin
pub mod Upright
pub mod Wound
-- the sizes of components
pub mod Unique
pub mod Examples
