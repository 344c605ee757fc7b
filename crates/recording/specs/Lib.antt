pub mod Answers
pub mod Layout
pub mod Call
pub mod InnerRecords
pub mod Shown
pub mod InnerTotal
pub mod Journal
