pub mod RefusedAlike
pub mod StillAgree
pub mod Plugins
pub mod TwoChips
