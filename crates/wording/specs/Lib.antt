pub mod Counts
pub mod Rights
