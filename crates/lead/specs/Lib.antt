pub mod Notes
pub mod Early
pub mod Taking
pub mod Ending
