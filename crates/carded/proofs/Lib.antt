pub mod Saying
pub mod CardRows
pub mod Sizes
pub mod Refusals
pub mod SameCard
pub mod Wear
pub mod CardJobs
pub mod RoundTrip
