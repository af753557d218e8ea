-- Laws of the definition's `sqrt` and `floor` over whole numbers.
-- No code is cited here.
-- `Nearest` states what the nearest double to a root is, and `Near` proves it.
-- `Floored` says what a floor is.
-- `Isqrt`: the whole root.
-- `Rounded`: how `round` rounds a whole root with what is left over.
-- `Fields`: the value of a bit pattern and the pattern of a value.
-- `Parts`: a double taken apart.
-- `Shift`: how far a significand is shifted.
-- `Root`: the bits of `sqrt x`.
-- `Floor`: the bits of `floor x`.
-- `Fourfold`: squares, sums and roots of doubled numbers.
-- `Halves`: a length from twice the length.
-- `Order`: the order of doubles, which `round` keeps.
-- `RootOrder`: the square root keeps it too.
-- `Keys`: a bucket key grows with its coordinate.
pub mod Nearest
pub mod Parts
pub mod Rounded
pub mod Fields
pub mod Root
pub mod Near
pub mod Floor
pub mod Floored
pub mod Fourfold
pub mod Halves
pub mod Order
pub mod RootOrder
pub mod Keys
