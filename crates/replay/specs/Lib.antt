-- What the totals are: replies against stored answers.
pub mod Agreeing
pub mod Stored
