pub mod Bytes
pub mod InnerWrote
pub mod Header
