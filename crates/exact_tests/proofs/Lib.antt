-- Laws that the functions' proofs share.
-- loops over digits; a double as two words
pub mod Steps
pub mod Units
mod Doubles
-- the sizes of differences and products; signs and cosines by wide numbers;
-- the limit as a fraction; what the tests on doubles show
mod Bounds
mod Signs
mod Angles
mod Fractions
mod Obtuse
