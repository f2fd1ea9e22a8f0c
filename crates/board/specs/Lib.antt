pub mod Begins
pub mod Ranges
pub mod Resets
