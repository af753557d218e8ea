-- What the program's reply means, in the definition's terms.
pub mod Tells
