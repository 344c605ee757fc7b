pub mod InnerEffect
pub mod InnerReady
