pub mod Choices
pub mod Conditioned
pub mod Ladders
pub mod Numbered
pub mod Telling
