pub mod Tried
pub mod Ends
