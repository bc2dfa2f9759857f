pub mod Rule
pub mod Pools
