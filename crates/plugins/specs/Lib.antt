pub mod Plugins
