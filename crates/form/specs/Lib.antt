pub mod Entries
pub mod Faults
pub mod Said
pub mod Writing
