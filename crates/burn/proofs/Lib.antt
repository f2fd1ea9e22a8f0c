pub mod Judged
pub mod Staying
