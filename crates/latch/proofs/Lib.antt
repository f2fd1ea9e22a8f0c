pub mod Decoding
pub mod Majority
