pub mod Lock
pub mod Locking
pub mod LockRows
pub mod Exclusion
pub mod GroupRule
pub mod GroupLaw
pub mod GroupPlays
pub mod GroupSeats
pub mod GroupMaking
pub mod GroupCallers
pub mod GroupCalls
pub mod GroupWalks
pub mod Cond
-- what clauses of this crate, and those of a caller, cite of the crates below
pub use Rattle.step_table.specs.declared.entry.Entry
pub use Rattle.step_table.specs.Counting
pub use Rattle.step_table.specs.Journal
pub use Rattle.step_table.specs.World
pub use Rattle.step_law_semaphores.specs.Balances
pub use Rattle.sema_table.specs.declared.answers.Wake
pub use Rattle.sema_table.specs.declared.setup_error.SetupError
pub use Rattle.sema_table.specs.declared.view.Setting
pub use Rattle.sema_table.specs.Callers as TableCallers
pub use Rattle.sema_table.specs.CallersEnding
pub use Rattle.sema_table.specs.CallersLeaving as TableCallersLeaving
pub use Rattle.sema_table.specs.CallersTimed as TableCallersTimed
pub use Rattle.sema_table.specs.CallersReleasing
pub use Rattle.sema_table.specs.Closing as TableClosing
pub use Rattle.sema_table.specs.Making as TableMaking
pub use Rattle.sema_table.specs.Seats as TableSeats
pub use Rattle.sema_table.specs.Setting as TableLayout
pub use Rattle.sema_table.specs.Whole as TableWhole
pub use Rattle.notify_list.specs.Callers as ListCallers
pub use Rattle.notify_list.specs.Calls as ListCalls
pub use Rattle.notify_list.specs.Seats as ListSeats
pub use Rattle.notify_list.specs.Tickets as ListTickets
