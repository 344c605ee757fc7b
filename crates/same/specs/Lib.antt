pub mod InnerAt
