pub mod Asked
pub mod FileFault
pub mod Invocation
pub mod ProgressText
pub mod Columns
pub mod Surroundings
