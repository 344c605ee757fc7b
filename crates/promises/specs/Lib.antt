pub mod Answers
pub mod Promise
