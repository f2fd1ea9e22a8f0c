pub mod Answering
pub mod Leaving
pub mod PageThree
pub mod Telling
