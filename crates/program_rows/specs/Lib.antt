pub mod Fitting
pub mod Stored
pub mod Rows
pub mod Settling
pub mod Starting
pub mod Key
