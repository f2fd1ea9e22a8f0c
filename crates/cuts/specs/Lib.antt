pub mod Cuts
pub mod Versions
pub mod Pulses
pub mod Jobs
pub mod Tallies
