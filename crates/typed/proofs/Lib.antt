pub mod Digits
pub mod Finding
