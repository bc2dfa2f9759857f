pub mod Sums
pub mod Keeping
pub mod Lending
pub mod Filling
pub mod Numbered
