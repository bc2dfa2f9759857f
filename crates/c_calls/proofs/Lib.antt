mod CellFields
mod AsBox
mod Dealing
