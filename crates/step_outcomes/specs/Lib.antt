pub mod Outcomes
pub mod ListOutcomes
