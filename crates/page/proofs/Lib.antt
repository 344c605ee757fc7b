pub mod Lines
pub mod LineFeeds
pub mod ReadBack
pub mod Enough
pub mod Whole
pub mod Outcome
pub mod Computed
pub mod Examples
