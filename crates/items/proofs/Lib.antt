pub mod Counting
pub mod ChannelBegins
pub mod Walking
pub mod Writing
