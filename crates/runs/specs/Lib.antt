pub mod Answers0
pub mod Answers1
pub mod Answers2
pub mod Answers3
pub mod Calls
