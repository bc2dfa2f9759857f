pub mod StepLine
pub mod Lines
pub mod Columns
