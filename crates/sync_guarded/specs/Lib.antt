pub mod Rule
pub mod Seats
pub mod Making
pub mod Calls
pub mod Law
