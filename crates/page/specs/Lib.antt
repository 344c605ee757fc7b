pub mod Layout
pub mod Call
pub mod Journal
pub mod Claims
