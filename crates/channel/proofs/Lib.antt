pub mod Laws
pub mod Indices
pub mod Rows
pub mod View
pub mod Highest
pub mod Search
