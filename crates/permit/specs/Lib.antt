pub mod Keys
pub mod Permission
