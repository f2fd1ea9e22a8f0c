pub mod Ends
pub mod Files
pub mod Given
pub mod Takes
