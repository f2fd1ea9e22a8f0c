pub mod Fitting
pub mod Upward
pub mod Telling
