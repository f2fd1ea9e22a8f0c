pub mod Finding
pub mod Pass
pub mod Permits
