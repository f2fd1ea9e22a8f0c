pub mod Cards
pub mod Reading
pub mod Writing
pub mod Flat
