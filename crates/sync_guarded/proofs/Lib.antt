pub mod Turns
pub mod Keeping
pub mod Starting
pub mod Guards
pub mod Law
