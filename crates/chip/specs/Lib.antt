pub mod Lists
pub mod Slices
pub mod Pages
pub mod States
pub mod Tallies
pub mod Callers
