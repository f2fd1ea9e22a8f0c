pub mod Votes
