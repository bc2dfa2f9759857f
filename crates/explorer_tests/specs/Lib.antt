pub mod Dials
pub mod Lights
pub mod Relay
pub mod Road
pub mod Stairs
pub mod Twins
