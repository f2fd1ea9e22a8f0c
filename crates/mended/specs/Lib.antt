pub mod Rows
pub mod Passes
pub mod Second
pub mod Cutting
