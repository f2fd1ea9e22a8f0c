pub mod Digits
pub mod Places
pub mod Counts
pub mod Codes
pub mod Checks
pub mod Lowest
pub mod Unfit
pub mod Telling
