pub mod Answers
pub mod Conditions
pub mod Refusals
pub mod Rungs
