pub mod Showing
pub mod Asking
pub mod Running
pub mod Standing
pub mod Lines
pub mod Stepping
pub mod Past
pub mod FirstSeats
pub mod Seeing
pub mod Telling
pub mod Properties
pub mod Passing
pub mod Judging
mod Pieces
mod Spare
mod Beyond
pub mod Exact
pub mod Entering
