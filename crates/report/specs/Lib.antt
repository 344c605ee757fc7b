pub mod Report
pub mod Wall
pub mod Choice
