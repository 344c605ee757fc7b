pub mod InnerLines
