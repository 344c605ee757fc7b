pub mod ByteLaws
pub mod WriteLaws
pub mod SameLaws
