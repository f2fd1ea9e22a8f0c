pub mod Handing
pub mod Numbers
