pub mod Refusing
pub mod Jobs
pub mod Reading
