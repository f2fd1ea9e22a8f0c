pub mod Counts
pub mod SoFar
pub mod Storing
pub mod InTurn
pub mod Heads
pub mod Noting
pub mod Takes
pub mod Ends
