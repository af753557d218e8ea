pub mod Choice
pub mod Spans
pub mod Words
