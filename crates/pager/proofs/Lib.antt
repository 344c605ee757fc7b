pub mod Stored
pub mod Joined
pub mod Tables
pub mod Shown
pub mod Called
