-- What the exact tests ask and promise.
-- numbers of u32 digits: their value, the room that a sum takes, a double's magnitude
pub mod Value
pub mod Room
pub mod Magnitude
-- signed numbers as two wide ones; a corner of three spots, its cosine,
-- and the corner of the nodes that the spots stand for
pub mod Parts
pub mod Corners
pub mod Cosines
pub mod Nodes
