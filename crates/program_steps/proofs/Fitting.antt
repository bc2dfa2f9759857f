-- A release that a line begins takes no counter above 32 bits.
use Rattle.std.proofs.Common.{◌≡◌, ℕ, ◌+◌, ◌<◌, ℤ, pos, negsuc, Bool, true, false, refl}
use Rattle.std.specs.Prelude.{cond, nat_lt, nat_le, ◌&&◌, ⊤, Option, Some, None, Result, Ok, Err}
use Rattle.std.proofs.lemmas.Bool.{ltb-true}
use Rattle.program_code.specs.declared.instruction.Instruction.{Instruction}
use Rattle.program_code.specs.declared.instruction.Instruction.TheVariants as line
use Rattle.program_code.specs.declared.operand.Share.{Share}
use Rattle.program_code.specs.declared.operand.Share.TheVariants as share
use Rattle.program_steps.specs.declared.failure.Failure.{Failure}
use Rattle.program_steps.specs.declared.failure.Failure.TheVariants.{Ticket as TicketFailure}
use Rattle.program_steps.specs.World.{ProgramWorld}
use Rattle.program_steps.specs.Reading.{value, place_of}
use Rattle.program_steps.specs.Calls.{unless_over, many_of, release_of, on_counter, holds_ticket, call_of}
use Rattle.step_table.specs.declared.call.Call.{Call}
use Rattle.step_table.specs.declared.call.Call.TheVariants.{Acquire, Release, ReleaseMany, Add, Wait}
use Rattle.step_table.specs.Core.{Core}

-- the units that the call adds fit its counter
abbrev pub Fits : Core → Call → Type 0
Fits s (Release c handoff) = s.semaphores.words.numbers c + 1 < 4294967296
Fits s (ReleaseMany c n) = s.semaphores.words.numbers c + n < 4294967296
Fits s _ = ⊤

abbrev pub FitsWhere : Core → Result Call Failure → Type 0
FitsWhere s (Ok call) = Fits s call
FitsWhere s (Err why) = ⊤

abbrev pub FitsIf : Core → Option (Result Call Failure) → Type 0
FitsIf s None = ⊤
FitsIf s (Some call) = FitsWhere s call

module _ (s : ProgramWorld) (i : ℕ) where
  abbrev registers : ℕ → ℤ
  registers = (s.seats i).registers

  where_so : (b : Bool) (x y : Result Call Failure) → (b ≡ true → FitsWhere s.layer x) → FitsWhere s.layer y → FitsWhere s.layer (cond b x y)
  where_so true x y so other = so refl
  where_so false x y so other = other

  at_counter : (o : Option ℕ) (call : ℕ → Result Call Failure) → ((c : ℕ) → FitsWhere s.layer (call c)) → FitsWhere s.layer (on_counter o call)
  at_counter None call each = tt
  at_counter (Some c) call each = each c

  over_fits : (c n : ℕ) (call : Call) → (s.layer.semaphores.words.numbers c + n < 4294967296 → Fits s.layer call)
      → FitsWhere s.layer (unless_over s c n call)
  over_fits c n call fits =
      where_so (nat_lt (s.layer.semaphores.words.numbers c + n) 4294967296) (Ok call) _
      (λ e. fits (ltb-true (s.layer.semaphores.words.numbers c + n) 4294967296 e)) tt

  many_fits : (c : ℕ) (n : ℤ) → FitsWhere s.layer (many_of s c n)
  many_fits c (pos k) = where_so (nat_le 1 k && nat_le k 256) _ _ (λ e. over_fits c k (ReleaseMany c k) (λ less. less)) tt
  many_fits c (negsuc k) = tt

  release_fits : (c : ℕ) (units : Share) → FitsWhere s.layer (release_of s i registers c units)
  release_fits c share.One = over_fits c 1 (Release c false) (λ less. less)
  release_fits c share.Handoff = over_fits c 1 (Release c true) (λ less. less)
  release_fits c (share.Many e) = many_fits c (value i registers e)

  -- what a line begins
  pub fits_line : (l : Instruction) → FitsIf s.layer (call_of s i l)
  fits_line (line.Acquire c lifo) = at_counter (place_of i registers c) (λ c. Ok (Acquire c lifo)) (λ c. tt)
  fits_line (line.Release c units) =
      at_counter (place_of i registers c) (λ c. release_of s i registers c units) (λ c. release_fits c units)
  fits_line (line.Ticket l) = where_so (holds_ticket s i l) (Err TicketFailure) (Ok (Add l)) (λ e. tt) tt
  fits_line (line.Wait l) = where_so (holds_ticket s i l) (Ok (Wait l)) (Err TicketFailure) (λ e. tt) tt
  fits_line (line.One l) = tt
  fits_line (line.All l) = tt
  fits_line (line.Load w r) = tt
  fits_line (line.Store w e) = tt
  fits_line (line.Swap w e r) = tt
  fits_line (line.Add w e r) = tt
  fits_line (line.Exchange w e f r) = tt
  fits_line (line.Await w rel e r) = tt
  fits_line (line.Park w e) = tt
  fits_line (line.Unpark w e) = tt
  fits_line (line.Out k) = tt
  fits_line (line.Let r e) = tt
  fits_line (line.Compute r e op f) = tt
  fits_line (line.If e rel f to) = tt
  fits_line (line.Goto to) = tt
  fits_line (line.In k) = tt
  fits_line (line.Ask k) = tt
  fits_line (line.Assert e rel f) = tt
  fits_line line.Fail = tt
