-- The proofs of crate replies.
-- `Fills`: floats from their bits, and a slice of them.
-- `Empties`, `Bounds`: how large the numbers of an answer are.
-- `Texts`: the reply by what was read.
-- `Lends`: the program's call.
-- `Shown`: an answer as text.
pub mod Fills
pub mod Empties
pub mod Bounds
pub mod Shown
pub mod Lends
pub mod Texts
