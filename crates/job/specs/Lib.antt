pub mod Burning
pub mod Jobs
