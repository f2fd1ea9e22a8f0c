pub mod Judging
pub mod Reads
pub mod Votes
