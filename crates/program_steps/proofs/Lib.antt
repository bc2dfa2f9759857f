mod Standing
pub mod Staying
pub mod Calling
pub mod GivingUp
pub mod Layers
mod Fitting
pub mod Counting
pub mod Alike
mod Marking
mod MarkingEntrances
pub mod Entering
