-- Whether the first row of a call can run, and what a row of the layer asks for.
use Rattle.std.specs.Prelude.{◌≡◌, ◌↔◌, ◌<◌, ℕ, Bool, IsTrue, [], length, ⊤}
use Rattle.step_core.specs.State.{WholeMachine, Becomes, HasSeatAt, AsksFor, MayGo, IsMachineFor, core_of}
use Rattle.step_law_whole.specs.TheCore.{MayCall}
use Rattle.step_rows.specs.Stored.{each}
use Rattle.step_table.specs.declared.call.Call.{Call}
use Rattle.step_table.specs.declared.call.Call.TheVariants.{Wait, WaitOrLeave}
use Rattle.step_table.specs.declared.standing.Standing.TheVariants.{Rest}
use Rattle.step_table.specs.Core.{CoreLayout}
use Rattle.step_table.specs.CoreSteps.{calls}

-- the list of a wait is there
abbrev pub HasListOf : WholeMachine → Call → Type 0
HasListOf h (Wait l) = l < length h.lists
HasListOf h (WaitOrLeave l how) = l < length h.lists
HasListOf h _ = ⊤

-- the seat may begin this call: what it is on is there, and so is the ticket of a wait
abbrev pub HasCall : WholeMachine → ℕ → Call → Type 0
HasCall h i call = (m : CoreLayout) × IsMachineFor m h × MayCall m (core_of h []) i call

-- a wait begins where the list's lock is free, and any other call
abbrev pub CanBegin : WholeMachine → Call → Bool → Type 0
CanBegin h (Wait l) can = IsTrue can ↔ (((core_of h []).lists l).words.lock ≡ 0)
CanBegin h (WaitOrLeave l how) can = IsTrue can ↔ (((core_of h []).lists l).words.lock ≡ 0)
CanBegin h _ can = IsTrue can

-- the row at which the seat stands may be asked for and run
pub record MayRun (h : WholeMachine) (i : ℕ) : Type 0 where
  pub at : HasSeatAt h i
  pub asks : AsksFor h i (each Rest h.standing i)
  pub goes : MayGo h (each Rest h.standing i)

-- and so may the first row of the call, once that has begun
abbrev pub MayRunFirst : WholeMachine → ℕ → Call → Type 0
MayRunFirst h i call = (k : WholeMachine) → Becomes (λ m s. calls s i call) h k → MayRun k i
