pub mod Changing
pub mod Made
