pub mod Burning
pub mod Writes
