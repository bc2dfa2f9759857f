-- What a row leaves of other seats, and that the lines at which seats stand in calls or asleep are lines of their codes.
use Rattle.std.proofs.Common.{◌≡◌, ◌≢◌, ℕ, zero, suc, ◌+◌, ◌<◌, Bool, true, false, cond, eqb, List, Option, Some, None}
use Rattle.std.proofs.Common.{Result, Ok, Err, length, slice_get, refl, sym, ap, ◌∙◌, subst}
use Rattle.std.specs.Ordering.{int_eq}
use Rattle.std.specs.Prelude.{⊤}
use Rattle.std.proofs.lemmas.Option.{slice_get_within}
use native.Mathlib.Decide.{ℕ_discrete}
use Rattle.program_code.specs.declared.instruction.Instruction.{Instruction}
use Rattle.program_code.specs.declared.instruction.Instruction.TheVariants as line
use Rattle.program_code.specs.declared.program.CodeLine.{CodeLine}
use Rattle.program_code.specs.declared.program.Program.{Program}
use Rattle.program_steps.specs.declared.failure.Failure.{Failure}
use Rattle.program_steps.specs.declared.failure.Failure.TheVariants.{Index}
use Rattle.program_steps.specs.declared.stand.Stand.{Stand}
use Rattle.program_steps.specs.declared.stand.Stand.TheVariants.{Before, Within, Asleep, Ended, FailedAt}
use Rattle.program_steps.specs.declared.stand.Then.{Then}
use Rattle.program_steps.specs.declared.stand.Then.TheVariants.{OnFromNext, Stands, Fails}
use Rattle.program_steps.specs.Calls.{call_of}
use Rattle.program_steps.specs.Going.{advanced, advanced_from, after_line, after_line_of, endless_from, endless_at, at_line, GoesOn}
use Rattle.program_steps.specs.Numbers.{holds}
use Rattle.program_steps.specs.Reading.{place_of, value, makes_steps}
use Rattle.program_steps.specs.Steps.{Did, row_at, row_before, first_row, row_of_line, layer_row, after_call, is_first, on_word, at, IsSeatAfter, StepsTo}
use Rattle.program_steps.specs.Steps.{Reaches, start, step}
use Rattle.program_steps.specs.World.{ProgramWorld, ProgramSeat, layer_of, code_of}
use Rattle.step_table.specs.declared.call.Call.{Call}
use Rattle.step_table.specs.declared.standing.Standing.{Standing}
use Rattle.step_table.specs.declared.standing.Standing.TheVariants.{Rest, AtCounter, AtList, AtGroup, Left, Failed}
use Rattle.step_table.specs.Core.{Core}
use Rattle.step_table.specs.CoreSteps.{calls, can_run, core_turned}
use Rattle.step_table.specs.World.{put}
use Rattle.step_table.proofs.Sums.{put_else}

-- where a seat stands in a call or asleep, that is a line of the code
abbrev pub IsThere : List CodeLine → Stand → Type 0
IsThere code (Within n) = n < length code
IsThere code (Asleep n) = n < length code
IsThere code _ = ⊤

abbrev LeadsThere : List CodeLine → Then → Type 0
LeadsThere code (Stands stand) = IsThere code stand
LeadsThere code _ = ⊤

some_is : {A : Type 0} (x y : A) → Some x ≡ Some y → x ≡ y
some_is x y e = ap (λ (o : Option _). or x o) e
  where
    or : {A : Type 0} → A → Option A → A
    or d None = d
    or d (Some a) = a

module _ (p : Program) (s : ProgramWorld) (i : ℕ) where
  -- what a row has led to
  pub record Kept (did : Did) : Type 0 where
    pub others : (k : ℕ) → k ≢ i → did.world.seats k ≡ s.seats k
    pub there : LeadsThere (code_of p i) did.next

  told : (x did : Did) → Kept x → Some x ≡ Some did → Kept did
  told x did kept is = subst Kept (some_is x did is) kept

  none : (did : Did) → None ≡ Some did → Kept did
  none did is = absurd cc

  fails_kept : (why : Failure) → Kept (record { world = s; next = Fails why })
  fails_kept why = record { others = λ k ne. refl; there = tt }

  on_word_kept : (o : Option ℕ) (row : ℕ → Option Did) (did : Did) → ((w : ℕ) → row w ≡ Some did → Kept did)
      → on_word s o row ≡ Some did → Kept did
  on_word_kept None row did each is = told _ did (fails_kept Index) is
  on_word_kept (Some w) row did each is = each w is

  -- a row that changes its own seat at most
  own_kept : (seat : ProgramSeat) (world : ProgramWorld) → world.seats ≡ put s.seats i seat → Kept (record { world = world; next = OnFromNext })
  own_kept seat world same = record { others = λ k ne. ap (λ f. f k) same ∙ put_else s.seats i seat k ne; there = tt }

  if_kept : (b : Bool) (x did : Did) → Kept x → cond b (Some x) None ≡ Some did → Kept did
  if_kept true x did kept is = told x did kept is
  if_kept false x did kept is = none did is

  unless_kept : (b : Bool) (x did : Did) → Kept x → cond b None (Some x) ≡ Some did → Kept did
  unless_kept true x did kept is = none did is
  unless_kept false x did kept is = told x did kept is

  either_kept : (b : Bool) (x y did : Did) → Kept x → Kept y → cond b (Some x) (Some y) ≡ Some did → Kept did
  either_kept true x y did one other is = told x did one is
  either_kept false x y did one other is = told y did other is

  module _ (n : ℕ) (within : n < length (code_of p i)) where
    line_kept : (l : Instruction) (did : Did) → row_of_line s i n l ≡ Some did → Kept did
    line_kept (line.Load w r) did is =
        on_word_kept (place_of i (s.seats i).registers w) _ did (λ w e. told _ did (own_kept _ _ refl) e) is
    line_kept (line.Store w v) did is =
        on_word_kept (place_of i (s.seats i).registers w) _ did (λ w e. told _ did (own_kept _ _ refl) e) is
    line_kept (line.Swap w v r) did is =
        on_word_kept (place_of i (s.seats i).registers w) _ did (λ w e. told _ did (own_kept _ _ refl) e) is
    line_kept (line.Add w v r) did is =
        on_word_kept (place_of i (s.seats i).registers w) _ did (λ w e. told _ did (own_kept _ _ refl) e) is
    line_kept (line.Exchange w v f r) did is =
        on_word_kept (place_of i (s.seats i).registers w) _ did (λ w e. told _ did (own_kept _ _ refl) e) is
    line_kept (line.Await w rel v r) did is =
        on_word_kept (place_of i (s.seats i).registers w) _ did
        (λ k e. if_kept (holds rel (s.words k) (value i (s.seats i).registers v)) _ did (own_kept _ _ refl) e) is
    line_kept (line.Park w v) did is =
        on_word_kept (place_of i (s.seats i).registers w) _ did
        (λ k e. either_kept (int_eq (s.words k) (value i (s.seats i).registers v)) _ _ did
        (record { others = λ k ne. refl; there = within }) (record { others = λ k ne. refl; there = tt }) e) is
    line_kept (line.Unpark w v) did is =
        on_word_kept (place_of i (s.seats i).registers w) _ did
        (λ w e. told _ did (record { others = λ k ne. refl; there = tt }) e) is
    line_kept (line.Out k) did is = told _ did (own_kept _ _ refl) is
    line_kept (line.Acquire c lifo) did is = none did is
    line_kept (line.Release c units) did is = none did is
    line_kept (line.Ticket l) did is = none did is
    line_kept (line.Wait l) did is = none did is
    line_kept (line.One l) did is = none did is
    line_kept (line.All l) did is = none did is
    line_kept (line.Let r v) did is = none did is
    line_kept (line.Compute r v op f) did is = none did is
    line_kept (line.If v rel f to) did is = none did is
    line_kept (line.Goto to) did is = none did is
    line_kept (line.In k) did is = none did is
    line_kept (line.Ask k) did is = none did is
    line_kept (line.Assert v rel f) did is = none did is
    line_kept line.Fail did is = none did is

    after_there : (standing : Standing) → LeadsThere (code_of p i) (after_call n standing)
    after_there Rest = tt
    after_there (AtCounter after) = within
    after_there (AtList l ending) = within
    after_there (AtGroup g row) = within
    after_there (Left skips) = within
    after_there (Failed misuse) = within

    row_there : (b : Bool) (standing : Standing) → LeadsThere (code_of p i) (cond b (Stands (Before n)) (after_call n standing))
    row_there true standing = tt
    row_there false standing = after_there standing

    layer_kept : (c : Core) (did : Did) → layer_row (layer_of p) s i n c ≡ Some did → Kept did
    layer_kept c did is = if_kept (can_run (layer_of p) c i (c.standing i)) _ did
        (record { others = λ k ne. refl; there = row_there (is_first ((core_turned (layer_of p) c i).semaphores.seats i).place) ((core_turned (layer_of p) c i).standing i) }) is

    first_kept : (l : Instruction) (call : Option (Result Call Failure)) (did : Did)
        → first_row (layer_of p) s i n l call ≡ Some did → Kept did
    first_kept l None did is = line_kept l did is
    first_kept l (Some (Ok call)) did is = layer_kept (calls s.layer i call) did is
    first_kept l (Some (Err why)) did is = told _ did (fails_kept why) is

  before_kept : (n : ℕ) (l : Option CodeLine) → slice_get (code_of p i) n ≡ l → (did : Did)
      → row_before (layer_of p) s i n l ≡ Some did → Kept did
  before_kept n None here did is = none did is
  before_kept n (Some l) here did is =
      first_kept n (slice_get_within (code_of p i) n l here) l.instruction (call_of s i l.instruction) did is

  pub row_kept : (stand : Stand) → IsThere (code_of p i) stand → (did : Did) → row_at p s i stand ≡ Some did → Kept did
  row_kept (Before n) there did is = before_kept n (slice_get (code_of p i) n) refl did is
  row_kept (Within n) there did is = layer_kept n there s.layer did is
  row_kept (Asleep n) there did is =
      unless_kept (eqb (s.grants i) 0) _ did (record { others = λ k ne. refl; there = tt }) is
  row_kept Ended there did is = none did is
  row_kept (FailedAt n why) there did is = none did is

-- who goes on line by line is in no call, and not asleep
abbrev IsFree : Stand → Type 0
IsFree (Within n) = ⊥
IsFree (Asleep n) = ⊥
IsFree _ = ⊤

free_there : (code : List CodeLine) (stand : Stand) → IsFree stand → IsThere code stand
free_there code (Before n) free = tt
free_there code (Within n) free = absurd free
free_there code (Asleep n) free = absurd free
free_there code Ended free = tt
free_there code (FailedAt n why) free = tt

module _ (code : List CodeLine) (me : ℕ) where
  either_free : (b : Bool) (s t : ProgramSeat) → IsFree s.stand → IsFree t.stand → IsFree (cond b s t).stand
  either_free true s t one other = one
  either_free false s t one other = other

  line_free : (s : ProgramSeat) (n : ℕ) (l : Instruction) → IsFree s.stand → IsFree (after_line me s n l).stand
  line_free s n (line.Let r v) free = tt
  line_free s n (line.Compute r v op f) free = tt
  line_free s n (line.If v rel f to) free = tt
  line_free s n (line.Goto to) free = tt
  line_free s n (line.In k) free = tt
  line_free s n (line.Ask k) free = tt
  line_free s n (line.Assert v rel f) free =
      either_free (holds rel (value me s.registers v) (value me s.registers f)) _ _ tt tt
  line_free s n line.Fail free = tt
  line_free s n (line.Load w r) free = free
  line_free s n (line.Store w v) free = free
  line_free s n (line.Swap w v r) free = free
  line_free s n (line.Add w v r) free = free
  line_free s n (line.Exchange w v f r) free = free
  line_free s n (line.Await w rel v r) free = free
  line_free s n (line.Acquire c lifo) free = free
  line_free s n (line.Release c units) free = free
  line_free s n (line.Ticket l) free = free
  line_free s n (line.Wait l) free = free
  line_free s n (line.One l) free = free
  line_free s n (line.All l) free = free
  line_free s n (line.Park w v) free = free
  line_free s n (line.Unpark w v) free = free
  line_free s n (line.Out k) free = free

  line_of_free : (s : ProgramSeat) (n : ℕ) (l : Option CodeLine) → IsFree s.stand → IsFree (after_line_of me s n l).stand
  line_of_free s n None free = tt
  line_of_free s n (Some l) free = line_free s n l.instruction free

  from_free : (s : ProgramSeat) (stand : Stand) → IsFree s.stand → IsFree (advanced_from code me s stand).stand
  from_free s (Before n) free = line_of_free s n (slice_get code n) free
  from_free s (Within n) free = free
  from_free s (Asleep n) free = free
  from_free s Ended free = free
  from_free s (FailedAt n why) free = free

  advanced_free : (k : ℕ) (s : ProgramSeat) → IsFree s.stand → IsFree (advanced code me k s).stand
  unfolding advanced
  advanced_free zero s free = free
  advanced_free (suc k) s free = advanced_free k (advanced_from code me s s.stand) (from_free s s.stand free)

  at_free : (s : ProgramSeat) (n : ℕ) (l : Option CodeLine) → IsFree s.stand → IsFree (endless_at s n l).stand
  at_free s n None free = tt
  at_free s n (Some l) free = either_free (makes_steps l.instruction) _ _ free tt

  end_free : (s : ProgramSeat) (stand : Stand) → IsFree s.stand → IsFree (endless_from code s stand).stand
  end_free s (Before n) free = at_free s n (slice_get code n) free
  end_free s (Within n) free = free
  end_free s (Asleep n) free = free
  end_free s Ended free = free
  end_free s (FailedAt n why) free = free

  pub gone_there : (s : ProgramSeat) (n : ℕ) (t : ProgramSeat) → GoesOn code me s n t → IsThere code t.stand
  gone_there s n t goes = free_there code t.stand (subst IsFree (sym goes.stand)
      (end_free (advanced code me 256 (at_line s n)) (advanced code me 256 (at_line s n)).stand (advanced_free 256 (at_line s n) tt)))

module _ (p : Program) where
  settled_there : (i n : ℕ) (s : ProgramSeat) (then : Then) (t : ProgramSeat) → LeadsThere (code_of p i) then → IsSeatAfter p i n s then t
      → IsThere (code_of p i) t.stand
  settled_there i n s OnFromNext t there is = gone_there (code_of p i) i s (n + 1) t is
  settled_there i n s (Stands stand) t there is = subst (λ (q : ProgramSeat). IsThere (code_of p i) q.stand) (sym is) there
  settled_there i n s (Fails why) t there is = subst (λ (q : ProgramSeat). IsThere (code_of p i) q.stand) (sym is) tt

  -- so it is in each reached world
  pub stands_there : (schedule : List ℕ) (s : ProgramWorld) → Reaches p schedule s → (k : ℕ) → k < length p.seats
      → IsThere (code_of p k) (s.seats k).stand
  stands_there schedule s (start is) k below = gone_there (code_of p k) k _ 0 (s.seats k) (is.seats k below)
  stands_there schedule s (step {s = r} i there reached to) k below =
      after i (stands_there _ r reached i there) (stands_there _ r reached k below) (ℕ_discrete k i) to
    where
      after : (i : ℕ) → IsThere (code_of p i) (r.seats i).stand → IsThere (code_of p k) (r.seats k).stand → Dec (k ≡ i)
          → StepsTo p r i s → IsThere (code_of p k) (s.seats k).stand
      after i here there (yes e) to = subst (λ j. IsThere (code_of p j) (s.seats j).stand) (sym e)
          (settled_there i (at (r.seats i).stand) (to.did.world.seats i) to.did.next (s.seats i)
          (row_kept p r i (r.seats i).stand here to.did to.is).there to.seat)
      after i here there (no ne) to = subst (λ (q : ProgramSeat). IsThere (code_of p k) q.stand) (sym (to.others k ne)) there
