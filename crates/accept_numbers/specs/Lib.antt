-- The numbers that are told, what the code's answer says in them, and what a yes means.
pub mod Numbers
pub mod Said
pub mod Means
