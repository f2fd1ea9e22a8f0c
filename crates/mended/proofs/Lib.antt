pub mod Bits
pub mod Rows
pub mod Listed
pub mod Reports
pub mod Passes
pub mod Again
pub mod Second
pub mod Cutting
