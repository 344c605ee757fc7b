pub mod Ranges
pub mod Shown
pub mod Waiting
pub mod Sized
pub mod Recorded
pub mod Total
