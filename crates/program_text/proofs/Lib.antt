pub mod Forms
pub mod Parts
pub mod Shaping
pub mod Spelling
pub mod Verbs
pub mod Wording
pub mod Judging
pub mod Texts
