pub mod Ahead
pub mod Whole
