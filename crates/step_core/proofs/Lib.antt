pub mod Costs
pub mod Once
pub mod Going
pub mod Withdrawing
pub mod Fewness
pub mod Changing
pub mod Settling
pub mod ListRanges
pub mod Ranges
mod Asking
pub mod NextCalls
pub mod Moving
pub mod Reading
pub mod Scheduling
pub mod RunningRows
pub mod Readying
pub mod Beginning
pub mod Worlds
pub mod KeyErasing
pub mod KeyExact
pub mod Alone
pub mod KeyNames
pub mod KeyForms
pub mod KeySpares
pub mod KeyWhole
mod ChangedMoving
mod Independent
mod Finding
pub mod ListsWriting
pub mod Naming
pub mod NamedFacts
pub mod NamedKeys
pub mod Often
pub mod Skips
pub mod StandingOnce
pub mod WaitingOnce
pub mod NamedLaw
