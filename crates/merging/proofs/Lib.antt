pub mod Raising
pub mod AnyOrder
pub mod Settings
pub mod Showing
