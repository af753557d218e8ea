-- What reading the program's input means, in the definition's terms.
pub mod Found
pub mod Whole
