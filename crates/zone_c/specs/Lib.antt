pub mod Plain
pub mod Lists
