pub mod Laws
pub mod Asks
pub mod Computed
pub mod Examples
pub mod Targets
pub mod Next
pub mod Checks
pub mod Gates
