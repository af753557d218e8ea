-- The quality sheet of a list of quads.
-- what the code's functions promise
pub mod Promise
pub mod Refusals
pub mod Lent
-- the steps and the worst of each kind
pub mod Steps
pub mod Worst
-- what holds of every sheet, and of one on what run_front handed back
pub mod Theorems
pub mod Standing
pub mod OurMeshes
