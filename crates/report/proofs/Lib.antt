pub mod Laws
pub mod Within
pub mod Enough
pub mod Overlong
pub mod Wall
pub mod Choice
