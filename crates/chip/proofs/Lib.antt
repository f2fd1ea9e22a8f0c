pub mod Lists
pub mod Orders
pub mod PageBits
pub mod Same
pub mod Made
