pub mod Mutex
pub mod Moves
pub mod Parts
pub mod Queue
