pub mod Answering
pub mod Passing
pub mod Upward
