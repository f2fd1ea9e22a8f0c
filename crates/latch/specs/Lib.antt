pub mod Locks
pub mod Resetting
