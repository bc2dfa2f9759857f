-- A call that a line begins is one that the layer's seat may begin.
use Rattle.std.proofs.Common.{◌≡◌, ℕ, ◌+◌, ◌<◌, ◌≤◌, ℤ, pos, negsuc, Bool, true, false, length, arith, refl}
use Rattle.std.specs.Prelude.{◌^◌, ◌&&◌, cond, nat_lt, nat_le, int_lt, int_le, is_some, ⊤}
use Rattle.std.specs.Prelude.{Option, Some, None, Result, Ok, Err}
use Rattle.std.proofs.lemmas.Bool.{ltb-true, leb-true, and_parts}
use Rattle.std.proofs.lemmas.Option.{none-some, cond_some, same_Some}
use Rattle.program_code.specs.declared.instruction.Instruction.{Instruction}
use Rattle.program_code.specs.declared.instruction.Instruction.TheVariants as line
use Rattle.program_code.specs.declared.operand.CodePlace.{CodePlace}
use Rattle.program_code.specs.declared.operand.CodePlace.TheVariants.{Single, Member}
use Rattle.program_code.specs.declared.operand.Share.{Share}
use Rattle.program_code.specs.declared.operand.Share.TheVariants as share
use Rattle.program_code.specs.declared.program.Program.{Program}
use Rattle.program_steps.specs.declared.failure.Failure.{Failure}
use Rattle.program_steps.specs.declared.failure.Failure.TheVariants.{Ticket as TicketFailure}
use Rattle.program_steps.specs.World.{ProgramWorld, layer_of}
use Rattle.program_steps.specs.Reading.{value, member, place_of}
use Rattle.program_steps.specs.Calls.{unless_over, many_of, release_of, on_counter, call_of}
use Rattle.program_code.specs.WellFormed.{IsLine, IsCounter}
use Rattle.program_steps.proofs.Staying.{IsStaying}
use Rattle.step_law_whole.specs.TheCore.{MayCall}
use Rattle.step_table.specs.declared.call.Call.{Call}
use Rattle.step_table.specs.declared.call.Call.TheVariants.{Acquire, Release, ReleaseMany, Add, Wait}
use Rattle.step_table.specs.declared.list_place.Ticket.{Ticket}

-- a member of an array that ends by n is below n
member_below : (first many n c : ℕ) (i : ℤ) → first + many ≤ n → member first many i ≡ Some c → c < n
member_below first many n c (pos k) le is =
    let told : ((int_le (pos 0) (pos k) && int_lt (pos k) (pos many)) ≡ true) × (first + k ≡ c) =
    cond_some (int_le (pos 0) (pos k) && int_lt (pos k) (pos many)) (first + k) c is in
    let less : k < many = ltb-true k many (and_parts (int_le (pos 0) (pos k)) (int_lt (pos k) (pos many)) told.0).1 in
    let same : first + k ≡ c = told.1 in omega arith
member_below first many n c (negsuc k) le is = absurd (none-some c is)

module _ (p : Program) (s : ProgramWorld) (i : ℕ) where
  abbrev registers : ℕ → ℤ
  registers = (s.seats i).registers

  place_below : (place : CodePlace) (c : ℕ) → IsCounter p place → place_of i registers place ≡ Some c → c < length p.counters
  place_below (Single w) c below is = let same : w ≡ c = same_Some w c is in omega arith
  place_below (Member first many e) c below is =
      member_below first many (length p.counters) c (value i registers e) below.0 is

  -- the call may begin, if this is one, and its seat gives up no sleep
  abbrev pub Allowed : Result Call Failure → Type 0
  Allowed (Ok call) = MayCall (layer_of p) s.layer i call × IsStaying call
  Allowed (Err why) = ⊤

  abbrev pub AllowedIf : Option (Result Call Failure) → Type 0
  AllowedIf None = ⊤
  AllowedIf (Some call) = Allowed call

  where_so : (b : Bool) (x y : Result Call Failure) → (b ≡ true → Allowed x) → (b ≡ false → Allowed y) → Allowed (cond b x y)
  where_so true x y so other = so refl
  where_so false x y so other = other refl

  at_counter : (o : Option ℕ) (call : ℕ → Result Call Failure) → ((c : ℕ) → o ≡ Some c → Allowed (call c)) → Allowed (on_counter o call)
  at_counter None call each = tt
  at_counter (Some c) call each = each c refl

  over_may : (c n : ℕ) (call : Call) → Allowed (Ok call) → Allowed (unless_over s c n call)
  over_may c n call may =
      where_so (nat_lt (s.layer.semaphores.words.numbers c + n) (2 ^ 32)) _ _ (λ e. may) (λ e. tt)

  many_may : (c : ℕ) (n : ℤ) → c < length p.counters → Allowed (many_of s c n)
  many_may c (pos k) below =
      where_so (nat_le 1 k && nat_le k 256) _ _
      (λ e. let both : (nat_le 1 k ≡ true) × (nat_le k 256 ≡ true) = and_parts (nat_le 1 k) (nat_le k 256) e in
      over_may c k (ReleaseMany c k) ((below, leb-true 1 k both.0, leb-true k 256 both.1), tt))
      (λ e. tt)
  many_may c (negsuc k) below = tt

  release_may : (c : ℕ) (units : Share) → c < length p.counters → Allowed (release_of s i registers c units)
  release_may c share.One below = over_may c 1 (Release c false) (below, tt)
  release_may c share.Handoff below = over_may c 1 (Release c true) (below, tt)
  release_may c (share.Many e) below = many_may c (value i registers e) below

  ticket_may : (l : ℕ) (o : Option Ticket) → ((s.layer.lists l).seats i).ticket ≡ o → l < p.lists
      → Allowed (cond (is_some o) (Err TicketFailure) (Ok (Add l)))
  ticket_may l None is below = ((below, is), tt)
  ticket_may l (Some t) is below = tt

  wait_may : (l : ℕ) (o : Option Ticket) → ((s.layer.lists l).seats i).ticket ≡ o → l < p.lists
      → Allowed (cond (is_some o) (Ok (Wait l)) (Err TicketFailure))
  wait_may l None is below = tt
  wait_may l (Some t) is below = ((below, t, is), tt)

  -- what a line of the program begins
  pub may_begin : (lines : ℕ) (l : Instruction) → IsLine p lines l → AllowedIf (call_of s i l)
  may_begin lines (line.Acquire c lifo) is =
      at_counter (place_of i registers c) (λ c. Ok (Acquire c lifo)) (λ k e. (place_below c k is e, tt))
  may_begin lines (line.Release c units) is =
      at_counter (place_of i registers c) (λ c. release_of s i registers c units)
      (λ k e. release_may k units (place_below c k is.0 e))
  may_begin lines (line.Ticket l) is = ticket_may l ((s.layer.lists l).seats i).ticket refl is
  may_begin lines (line.Wait l) is = wait_may l ((s.layer.lists l).seats i).ticket refl is
  may_begin lines (line.One l) is = (is, tt)
  may_begin lines (line.All l) is = (is, tt)
  may_begin lines (line.Load w r) is = tt
  may_begin lines (line.Store w e) is = tt
  may_begin lines (line.Swap w e r) is = tt
  may_begin lines (line.Add w e r) is = tt
  may_begin lines (line.Exchange w e f r) is = tt
  may_begin lines (line.Await w rel e r) is = tt
  may_begin lines (line.Park w e) is = tt
  may_begin lines (line.Unpark w e) is = tt
  may_begin lines (line.Out k) is = tt
  may_begin lines (line.Let r e) is = tt
  may_begin lines (line.Compute r e op f) is = tt
  may_begin lines (line.If e rel f to) is = tt
  may_begin lines (line.Goto to) is = tt
  may_begin lines (line.In k) is = tt
  may_begin lines (line.Ask k) is = tt
  may_begin lines (line.Assert e rel f) is = tt
  may_begin lines line.Fail is = tt
