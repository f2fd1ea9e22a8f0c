pub mod Faulty
pub mod Judged
pub mod Placed
pub mod Putting
pub mod ReadBack
pub mod Upward
pub mod WholeJob
pub mod Telling
