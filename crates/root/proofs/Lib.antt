-- The proofs of `root`, over the laws of crate `rounding`, in the order of its steps.
-- `Special`: the operands that `sqrt` tests for first.
-- `Radicands`: the number under the root, scaled, and what the exact result says of the double itself.
-- `Squares`: what the square of a guess leaves over.
-- `Steps`: a step of the whole root, two digits at a time.
-- `Rounds`: the exact result, rounded.
-- `Cut`: the floor's cases.
pub mod Special
pub mod Radicands
pub mod Squares
pub mod Steps
pub mod Rounds
pub mod Cut
