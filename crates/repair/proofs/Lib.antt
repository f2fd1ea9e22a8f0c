pub mod Bits
pub mod Decoding
pub mod Rising
pub mod SecurePages
pub mod Ahead
pub mod Passing
pub mod Turns
