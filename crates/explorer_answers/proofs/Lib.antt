pub mod Filling
pub mod Beginnings
pub mod SeatCalls
pub mod Telling
