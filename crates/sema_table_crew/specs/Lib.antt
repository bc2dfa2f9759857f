pub mod Turns
pub mod Crew
