pub mod Zone
pub mod Controller
pub mod ZoneC
pub mod Site
pub mod Journal
pub mod Cursor
pub mod Recording
pub mod SiteC
