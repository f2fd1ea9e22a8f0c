pub mod Pieces
pub mod Words
pub mod Chunks
pub mod Ends
