-- A line of the sleeping layer as a call of the layer, or why its seat fails in place of the call's first
-- row.
use Rattle.std.specs.Prelude.{ℕ, ◌+◌, ◌^◌, ℤ, pos, Bool, true, false, ◌&&◌, cond, nat_lt, int_le}
use Rattle.std.specs.Prelude.{unsigned_abs}
use Rattle.std.specs.Prelude.{Option, Some, None, Result, Ok, Err, is_some}
use Rattle.program_code.specs.declared.instruction.Instruction.{Instruction}
use Rattle.program_code.specs.declared.instruction.Instruction.TheVariants as line
use Rattle.program_code.specs.declared.operand.Share.{Share}
use Rattle.program_code.specs.declared.operand.Share.TheVariants as share
use Rattle.program_steps.specs.declared.failure.Failure.{Failure}
use Rattle.program_steps.specs.declared.failure.Failure.TheVariants.{Index, Overflow, Many, Ticket}
use Rattle.program_steps.specs.World.{ProgramWorld}
use Rattle.program_steps.specs.Reading.{value, place_of}
use Rattle.step_table.specs.declared.call.Call.{Call}
use Rattle.step_table.specs.declared.call.Call.TheVariants.{Acquire, Release, ReleaseMany, Add, Wait, One}
use Rattle.step_table.specs.declared.call.Call.TheVariants.{All}

-- a release of n units on a counter, unless it would take the counter above 4294967295
abbrev pub unless_over : ProgramWorld → ℕ → ℕ → Call → Result Call Failure
unless_over s c n call =
    cond (nat_lt (s.layer.semaphores.words.numbers c + n) (2 ^ 32)) (Ok call) (Err Overflow)

-- of many units: 1 to 256
abbrev pub many_of : ProgramWorld → ℕ → ℤ → Result Call Failure
many_of s c n =
    cond (int_le (pos 1) n && int_le n (pos 256))
    (unless_over s c (unsigned_abs n) (ReleaseMany c (unsigned_abs n))) (Err Many)

abbrev pub release_of : ProgramWorld → ℕ → (ℕ → ℤ) → ℕ → Share → Result Call Failure
release_of s me registers c share.One = unless_over s c 1 (Release c false)
release_of s me registers c share.Handoff = unless_over s c 1 (Release c true)
release_of s me registers c (share.Many e) = many_of s c (value me registers e)

-- a call on the counter of a place, where its index is within the array
abbrev pub on_counter : Option ℕ → (ℕ → Result Call Failure) → Result Call Failure
on_counter None call = Err Index
on_counter (Some c) call = call c

-- whether the seat holds a ticket of the list
abbrev pub holds_ticket : ProgramWorld → ℕ → ℕ → Bool
holds_ticket s i l = is_some ((s.layer.lists l).seats i).ticket

-- the call that the line begins, if it is one of the layer: or why the seat fails
abbrev pub call_of : ProgramWorld → ℕ → Instruction → Option (Result Call Failure)
call_of s i (line.Acquire c lifo) =
    Some (on_counter (place_of i (s.seats i).registers c) (λ c. Ok (Acquire c lifo)))
call_of s i (line.Release c share) =
    Some (on_counter (place_of i (s.seats i).registers c) (λ c. release_of s i (s.seats i).registers c share))
call_of s i (line.Ticket l) = Some (cond (holds_ticket s i l) (Err Ticket) (Ok (Add l)))
call_of s i (line.Wait l) = Some (cond (holds_ticket s i l) (Ok (Wait l)) (Err Ticket))
call_of s i (line.One l) = Some (Ok (One l))
call_of s i (line.All l) = Some (Ok (All l))
call_of s i _ = None
