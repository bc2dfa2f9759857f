pub mod Signs
pub mod WellFormed
