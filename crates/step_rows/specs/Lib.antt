pub mod Roots
pub mod Seats
pub mod Stored
pub mod ListStored
pub mod Apart
pub mod Gone
pub mod RootWords
