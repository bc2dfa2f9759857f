pub mod Writing
pub mod Coming
pub mod Storing
pub mod Waking
pub mod Clearing
