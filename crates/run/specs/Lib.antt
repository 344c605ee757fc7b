pub mod Answer
pub mod Layout
pub mod State
pub mod Opening
pub mod Calls
pub mod Model
pub mod Lists
pub mod Claims
