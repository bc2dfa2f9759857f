pub mod Lights
pub mod Relay
pub mod Twins
