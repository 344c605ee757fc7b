pub mod Made
pub mod Demand
pub mod Stays
pub mod Page
pub mod Conversion
