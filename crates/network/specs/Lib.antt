pub mod Network
pub mod Polls
