pub mod Codes
pub mod Text
pub mod InnerColumn
