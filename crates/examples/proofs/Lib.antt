pub mod Weighing
pub mod Queueing
pub mod Turns
