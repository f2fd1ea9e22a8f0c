pub mod Ends
pub mod Found
