pub mod Images
pub mod Comparing
pub mod Making
