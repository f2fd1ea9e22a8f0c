pub mod Syndromes
pub mod Undecoded
pub mod Telling
