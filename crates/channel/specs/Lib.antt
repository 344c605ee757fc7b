pub mod Words
pub mod Channels
pub mod Claims
