pub mod Numbers
pub mod Words
