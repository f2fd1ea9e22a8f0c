pub mod Sizes
pub mod Refusing
pub mod Looking
pub mod RoundTrip
