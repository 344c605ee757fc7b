pub mod InnerItems
