pub mod Chains
pub mod Lists
pub mod Slabs
pub mod Whereabouts
