-- What a seat comes into it is in, where it was outside before; alike worlds lead into the same sections; and who
-- may come in behind a step could come in before it.
use Rattle.std.proofs.Common.{◌≡◌, ℕ, zero, suc, ◌+◌, Bool, true, false, ◌⊎◌, inl, inr, refl, sym, ap, ◌∙◌, subst}
use Rattle.std.specs.Prelude.{cond, eqb, ◌||◌, IsTrue, ◌↔◌, List, Option, Some, None, Result, Ok, Err, slice_get}
use Rattle.std.proofs.lemmas.Bool.{or_cases, or_left, or_right, false≢true}
use Rattle.std.proofs.lemmas.Option.{same_Some}
use Rattle.std.specs.Ordering.{int_eq}
use Rattle.program_code.specs.declared.instruction.Instruction.{Instruction}
use Rattle.program_code.specs.declared.instruction.Instruction.TheVariants as line
use Rattle.program_code.specs.declared.program.CodeLine.{CodeLine}
use Rattle.program_code.specs.declared.program.Program.{Program}
use Rattle.program_steps.specs.AlikeWorlds.{AreAlike}
use Rattle.program_steps.specs.Calls.{call_of}
use Rattle.program_steps.specs.declared.failure.Failure.{Failure}
use Rattle.program_steps.specs.declared.failure.Failure.TheVariants.{Assert, Endless, Index}
use Rattle.program_steps.specs.declared.stand.Stand.{Stand}
use Rattle.program_steps.specs.declared.stand.Stand.TheVariants.{Before, Within, Asleep, Ended, FailedAt}
use Rattle.program_steps.specs.Entering.{is_in_of, is_in_there, is_in_next, comes_into_within, comes_into, comes_into_then, EntersBy}
use Rattle.program_steps.specs.Entering.{outside, is_in, MayEnterFrom, here, later, MayEnter}
use Rattle.program_steps.specs.Entrances.{AreEntrances, may_enter}
use Rattle.program_steps.specs.Going.{at_line, after_line, after_line_of, advanced, advanced_from, endless_at, endless_from, come_from}
use Rattle.program_steps.specs.Marks.{marked}
use Rattle.program_steps.specs.Numbers.{holds}
use Rattle.program_steps.specs.Reading.{MayGo, makes_steps, place_of, value}
use Rattle.program_steps.specs.Steps.{Then, OnFromNext, Stands, Fails, Did, on_word, row_of_line, after_call, is_first, layer_row}
use Rattle.program_steps.specs.Steps.{first_row, row_before, row_at, row_of, at}
use Rattle.program_steps.specs.World.{ProgramWorld, ProgramSeat, layer_of, code_of}
use Rattle.program_steps.proofs.Alike.{same_row, some_too}
use Rattle.step_table.specs.declared.call.Call.{Call}
use Rattle.step_table.specs.declared.standing.Standing.{Standing}
use Rattle.step_table.specs.declared.standing.Standing.TheVariants.{Rest, AtCounter, AtList, AtGroup}
use Rattle.step_table.specs.declared.standing.Standing.TheVariants as doing
use Rattle.step_table.specs.Core.{Core}
use Rattle.step_table.specs.CoreSteps.{calls, can_run, core_turned}

-- ---- what a seat comes into

none_more : (b : Bool) → b ≡ (b || false)
none_more true = refl
none_more false = refl

one_more : (b entered : Bool) → cond entered true b ≡ (b || entered)
one_more true true = refl
one_more true false = refl
one_more false true = refl
one_more false false = refl

or_in_turn : (a b c : Bool) → ((a || b) || c) ≡ (a || (b || c))
or_in_turn true b c = refl
or_in_turn false b c = refl

module _ (k : ℕ) where
  assert_adds : (s : ProgramSeat) (n : ℕ) (so : Bool)
      → (cond so (at_line s (n + 1)) (record s { stand = FailedAt n Assert })).sections k ≡ (s.sections k || false)
  assert_adds s n true = none_more (s.sections k)
  assert_adds s n false = none_more (s.sections k)

  -- a line without a step adds the section that it enters
  line_adds : (me n : ℕ) (s : ProgramSeat) (l : Instruction) → (after_line me s n l).sections k ≡ (s.sections k || is_in_of k l)
  line_adds me n s (line.In j) = one_more (s.sections k) (eqb k j)
  line_adds me n s (line.Assert e rel f) =
      assert_adds s n (holds rel (value me s.registers e) (value me s.registers f))
  line_adds me n s _ = none_more (s.sections k)

  line_of_adds : (me n : ℕ) (s : ProgramSeat) (l : Option CodeLine)
      → (after_line_of me s n l).sections k ≡ (s.sections k || is_in_there k l)
  line_of_adds me n s None = none_more (s.sections k)
  line_of_adds me n s (Some l) = line_adds me n s l.instruction

  endless_same : (s : ProgramSeat) (n : ℕ) (steps : Bool)
      → (cond steps s (record s { stand = FailedAt n Endless })).sections k ≡ s.sections k
  endless_same s n true = refl
  endless_same s n false = refl

  endless_at_same : (s : ProgramSeat) (n : ℕ) (l : Option CodeLine) → (endless_at s n l).sections k ≡ s.sections k
  endless_at_same s n None = refl
  endless_at_same s n (Some l) = endless_same s n (makes_steps l.instruction)

assert_blind : (s : ProgramSeat) (n : ℕ) (so : Bool)
    → outside (cond so (at_line (outside s) (n + 1)) (record (outside s) { stand = FailedAt n Assert }))
    ≡ outside (cond so (at_line s (n + 1)) (record s { stand = FailedAt n Assert }))
assert_blind s n true = refl
assert_blind s n false = refl

-- which sections a seat is in decides nothing of where it goes
line_blind : (me n : ℕ) (s : ProgramSeat) (l : Instruction)
    → outside (after_line me (outside s) n l) ≡ outside (after_line me s n l)
line_blind me n s (line.Assert e rel f) =
    assert_blind s n (holds rel (value me s.registers e) (value me s.registers f))
line_blind me n s _ = refl

line_of_blind : (me n : ℕ) (s : ProgramSeat) (l : Option CodeLine)
    → outside (after_line_of me (outside s) n l) ≡ outside (after_line_of me s n l)
line_of_blind me n s None = refl
line_of_blind me n s (Some l) = line_blind me n s l.instruction

module _ (code : List CodeLine) (me : ℕ) where
  next_blind : (s : ProgramSeat) (stand : Stand)
      → outside (advanced_from code me (outside s) stand) ≡ outside (advanced_from code me s stand)
  next_blind s (Before n) = line_of_blind me n s (slice_get code n)
  next_blind s (Within n) = refl
  next_blind s (Asleep n) = refl
  next_blind s Ended = refl
  next_blind s (FailedAt n why) = refl

  module _ (k : ℕ) where
    next_adds : (s : ProgramSeat) (stand : Stand)
        → (advanced_from code me s stand).sections k ≡ (s.sections k || is_in_next code stand k)
    next_adds s (Before n) = line_of_adds k me n s (slice_get code n)
    next_adds s (Within n) = none_more (s.sections k)
    next_adds s (Asleep n) = none_more (s.sections k)
    next_adds s Ended = none_more (s.sections k)
    next_adds s (FailedAt n why) = none_more (s.sections k)

    all_add : (lines : ℕ) (s : ProgramSeat)
        → (advanced code me lines s).sections k ≡ (s.sections k || comes_into_within code me lines s k)
    unfolding advanced comes_into_within
    all_add zero s = none_more (s.sections k)
    all_add (suc lines) s =
        let next : ProgramSeat = advanced_from code me s s.stand in
        all_add lines next
        ∙ ap (λ b. b || comes_into_within code me lines next k) (next_adds s s.stand)
        ∙ or_in_turn (s.sections k) (is_in_next code s.stand k) (comes_into_within code me lines next k)

    all_blind : (lines : ℕ) (s : ProgramSeat)
        → comes_into_within code me lines (outside s) k ≡ comes_into_within code me lines s k
    unfolding comes_into_within
    all_blind zero s = refl
    all_blind (suc lines) s =
        ap (λ b. is_in_next code s.stand k || b)
        (sym (all_blind lines (advanced_from code me (outside s) s.stand))
        ∙ ap (λ (q : ProgramSeat). comes_into_within code me lines q k) (next_blind s s.stand)
        ∙ all_blind lines (advanced_from code me s s.stand))

    end_adds : (s : ProgramSeat) (stand : Stand) → (endless_from code s stand).sections k ≡ s.sections k
    end_adds s (Before n) = endless_at_same k s n (slice_get code n)
    end_adds s (Within n) = refl
    end_adds s (Asleep n) = refl
    end_adds s Ended = refl
    end_adds s (FailedAt n why) = refl

    -- who was outside is in what it has come into
    pub came_into : (s : ProgramSeat) (n : ℕ) → (come_from code me (outside s) n).sections k ≡ comes_into code me s n k
    came_into s n =
        end_adds (advanced code me 256 (at_line (outside s) n)) (advanced code me 256 (at_line (outside s) n)).stand
        ∙ all_add 256 (at_line (outside s) n) ∙ all_blind 256 (at_line s n)

-- ---- alike worlds

-- a step leads into the same sections
pub enters_too : (p : Program) (s t : ProgramWorld) → AreAlike s t → (i k : ℕ) → EntersBy p s i k → EntersBy p t i k
enters_too p s t e i k enters =
    let found = some_too p i s t e enters.did (row_of p s i) (row_of p t i) (same_row p i s t e) enters.is in
    let Into : ProgramSeat → ProgramSeat → Then → Type 0
    = λ was did then. IsTrue (comes_into_then (code_of p i) i did (at was.stand) then k) in
    record {
      did = found.0;
      is = found.1;
      into =
          subst (λ then. Into (t.seats i) (found.0.world.seats i) then) (ap (λ (d : Did). d.next) found.2)
          (subst (λ (q : ProgramSeat). Into (t.seats i) q enters.did.next) (ap (λ (d : Did). d.world.seats i) found.2)
          (subst (λ (q : ProgramSeat). Into q (enters.did.world.seats i) enters.did.next) (ap (λ (w : ProgramWorld). w.seats i) e)
          enters.into));
    }

-- ---- who may come in

module _ (code : List CodeLine) where
  -- the line is an `in`, or the seat may go from it to a line from which it may come in
  abbrev Leads : ℕ → Instruction → Type 0
  Leads n i = IsTrue (is_in i) ⊎ ((m : ℕ) × MayGo i n m × MayEnterFrom code m)

  way_on : (n : ℕ) (l : CodeLine) → slice_get code n ≡ Some l → Leads n l.instruction → MayEnterFrom code n
  way_on n l e (inl is) = here e is
  way_on n l e (inr to) = later e to.1 to.2

  if_leads : (n to : ℕ) → (MayEnterFrom code to → MayEnterFrom code n) → (MayEnterFrom code (n + 1) → MayEnterFrom code n)
      → (so : Bool) → MayEnterFrom code (cond so to (n + 1)) → MayEnterFrom code n
  if_leads n to there next true may = there may
  if_leads n to there next false may = next may

  assert_leads : (s : ProgramSeat) (n : ℕ) → (MayEnterFrom code (n + 1) → MayEnterFrom code n) → (so : Bool)
      → MayEnter code (cond so (at_line s (n + 1)) (record s { stand = FailedAt n Assert })).stand → MayEnterFrom code n
  assert_leads s n next true may = next may
  assert_leads s n next false may = absurd may

  line_back : (me n : ℕ) (s : ProgramSeat) → s.stand ≡ Before n → (i : Instruction) → (Leads n i → MayEnterFrom code n)
      → MayEnter code (after_line me s n i).stand → MayEnterFrom code n
  line_back me n s before (line.Let r e) on may = on (inr (n + 1, refl, may))
  line_back me n s before (line.Compute r e op f) on may = on (inr (n + 1, refl, may))
  line_back me n s before (line.If e rel f to) on may =
      if_leads n to (λ more. on (inr (to, inr refl, more))) (λ more. on (inr (n + 1, inl refl, more)))
      (holds rel (value me s.registers e) (value me s.registers f)) may
  line_back me n s before (line.Goto to) on may = on (inr (to, refl, may))
  line_back me n s before (line.In k) on may = on (inl refl)
  line_back me n s before (line.Ask k) on may = on (inr (n + 1, refl, may))
  line_back me n s before (line.Assert e rel f) on may =
      assert_leads s n (λ more. on (inr (n + 1, refl, more))) (holds rel (value me s.registers e) (value me s.registers f)) may
  line_back me n s before line.Fail on may = absurd may
  line_back me n s before _ on may = subst (MayEnter code) before may

  line_of_back : (me n : ℕ) (s : ProgramSeat) → s.stand ≡ Before n → (l : Option CodeLine) → slice_get code n ≡ l
      → MayEnter code (after_line_of me s n l).stand → MayEnterFrom code n
  line_of_back me n s before None is may = absurd may
  line_of_back me n s before (Some l) is may = line_back me n s before l.instruction (way_on n l is) may

  next_back : (me : ℕ) (s : ProgramSeat) (stand : Stand) → s.stand ≡ stand
      → MayEnter code (advanced_from code me s stand).stand → MayEnter code stand
  next_back me s (Before n) is may = line_of_back me n s is (slice_get code n) refl may
  next_back me s (Within n) is may = subst (MayEnter code) is may
  next_back me s (Asleep n) is may = subst (MayEnter code) is may
  next_back me s Ended is may = subst (MayEnter code) is may
  next_back me s (FailedAt n why) is may = subst (MayEnter code) is may

  all_back : (me lines : ℕ) (s : ProgramSeat) → MayEnter code (advanced code me lines s).stand → MayEnter code s.stand
  unfolding advanced
  all_back me zero s may = may
  all_back me (suc lines) s may = next_back me s s.stand refl (all_back me lines (advanced_from code me s s.stand) may)

  endless_back : (s : ProgramSeat) (n : ℕ) → s.stand ≡ Before n → (steps : Bool)
      → MayEnter code (cond steps s (record s { stand = FailedAt n Endless })).stand → MayEnterFrom code n
  endless_back s n is true may = subst (MayEnter code) is may
  endless_back s n is false may = absurd may

  endless_at_back : (s : ProgramSeat) (n : ℕ) → s.stand ≡ Before n → (l : Option CodeLine)
      → MayEnter code (endless_at s n l).stand → MayEnterFrom code n
  endless_at_back s n is None may = absurd may
  endless_at_back s n is (Some l) may = endless_back s n is (makes_steps l.instruction) may

  end_back : (s : ProgramSeat) (stand : Stand) → s.stand ≡ stand → MayEnter code (endless_from code s stand).stand
      → MayEnter code stand
  end_back s (Before n) is may = endless_at_back s n is (slice_get code n) may
  end_back s (Within n) is may = subst (MayEnter code) is may
  end_back s (Asleep n) is may = subst (MayEnter code) is may
  end_back s Ended is may = subst (MayEnter code) is may
  end_back s (FailedAt n why) is may = subst (MayEnter code) is may

  -- who may come in where it has come to from line n may from line n
  pub come_back : (me : ℕ) (s : ProgramSeat) (n : ℕ) → MayEnter code (come_from code me s n).stand → MayEnterFrom code n
  come_back me s n may =
      all_back me 256 (at_line s n)
      (end_back (advanced code me 256 (at_line s n)) (advanced code me 256 (at_line s n)).stand refl may)

-- who may come in by what comes after its row at line n
abbrev pub MayEnterThen : List CodeLine → ℕ → Then → Type 0
MayEnterThen code n OnFromNext = MayEnterFrom code (n + 1)
MayEnterThen code n (Stands stand) = MayEnter code stand
MayEnterThen code n (Fails why) = ⊥

module _ (p : Program) (s : ProgramWorld) (i : ℕ) where
  module _ (n : ℕ) (May : Type 0) (now : MayEnterFrom (code_of p i) n → May) (onward : MayEnterFrom (code_of p i) (n + 1) → May) where
    -- who may come in by what the row has led to may before it
    abbrev Back : Did → Type 0
    Back did = MayEnterThen (code_of p i) n did.next → May

    told : (x did : Did) → Some x ≡ Some did → Back x → Back did
    told x did is back = subst Back (same_Some x did is) back

    none : (did : Did) → None ≡ Some did → Back did
    none did is = absurd cc

    if_back : (b : Bool) (x did : Did) → cond b (Some x) None ≡ Some did → Back x → Back did
    if_back true x did is back = told x did is back
    if_back false x did is back = none did is

    unless_back : (b : Bool) (x did : Did) → cond b None (Some x) ≡ Some did → Back x → Back did
    unless_back true x did is back = none did is
    unless_back false x did is back = told x did is back

    either_back : (b : Bool) (x y did : Did) → cond b (Some x) (Some y) ≡ Some did → Back x → Back y → Back did
    either_back true x y did is one other = told x did is one
    either_back false x y did is one other = told y did is other

    on_word_back : (o : Option ℕ) (row : ℕ → Option Did) (did : Did) → on_word s o row ≡ Some did
        → ((w : ℕ) → row w ≡ Some did → Back did) → Back did
    on_word_back None row did is each = told (record { world = s; next = Fails Index }) did is (λ no. absurd no)
    on_word_back (Some w) row did is each = each w is

    still : MayEnterFrom (code_of p i) n ⊎ MayEnterFrom (code_of p i) (n + 1) → May
    still (inl here_still) = now here_still
    still (inr behind) = onward behind

    row_of_line_back : (l : Instruction) (did : Did) → row_of_line s i n l ≡ Some did → Back did
    row_of_line_back (line.Load w r) did is =
        on_word_back (place_of i (s.seats i).registers w) _ did is (λ w e. told _ did e onward)
    row_of_line_back (line.Store w v) did is =
        on_word_back (place_of i (s.seats i).registers w) _ did is (λ w e. told _ did e onward)
    row_of_line_back (line.Swap w v r) did is =
        on_word_back (place_of i (s.seats i).registers w) _ did is (λ w e. told _ did e onward)
    row_of_line_back (line.Add w v r) did is =
        on_word_back (place_of i (s.seats i).registers w) _ did is (λ w e. told _ did e onward)
    row_of_line_back (line.Exchange w v f r) did is =
        on_word_back (place_of i (s.seats i).registers w) _ did is (λ w e. told _ did e onward)
    row_of_line_back (line.Await w rel v r) did is =
        on_word_back (place_of i (s.seats i).registers w) _ did is
        (λ k e. if_back (holds rel (s.words k) (value i (s.seats i).registers v)) _ did e onward)
    row_of_line_back (line.Park w v) did is =
        on_word_back (place_of i (s.seats i).registers w) _ did is
        (λ k e. either_back (int_eq (s.words k) (value i (s.seats i).registers v)) _ _ did e still onward)
    row_of_line_back (line.Unpark w v) did is =
        on_word_back (place_of i (s.seats i).registers w) _ did is (λ w e. told _ did e onward)
    row_of_line_back (line.Out k) did is = told _ did is onward
    row_of_line_back (line.Acquire c lifo) did is = none did is
    row_of_line_back (line.Release c units) did is = none did is
    row_of_line_back (line.Ticket l) did is = none did is
    row_of_line_back (line.Wait l) did is = none did is
    row_of_line_back (line.One l) did is = none did is
    row_of_line_back (line.All l) did is = none did is
    row_of_line_back (line.Let r v) did is = none did is
    row_of_line_back (line.Compute r v op f) did is = none did is
    row_of_line_back (line.If v rel f to) did is = none did is
    row_of_line_back (line.Goto to) did is = none did is
    row_of_line_back (line.In k) did is = none did is
    row_of_line_back (line.Ask k) did is = none did is
    row_of_line_back (line.Assert v rel f) did is = none did is
    row_of_line_back line.Fail did is = none did is

    call_back : (standing : Standing) → MayEnterThen (code_of p i) n (after_call n standing) → May
    call_back Rest may = onward may
    call_back (AtCounter after) may = still may
    call_back (AtList l ending) may = still may
    call_back (AtGroup g row) may = still may
    call_back (doing.Left skips) may = still may
    call_back (doing.Failed misuse) may = still may

    row_then_back : (up : Bool) (standing : Standing)
        → MayEnterThen (code_of p i) n (cond up (Stands (Before n)) (after_call n standing)) → May
    row_then_back true standing may = now may
    row_then_back false standing may = call_back standing may

    layer_back : (c : Core) (did : Did) → layer_row (layer_of p) s i n c ≡ Some did → Back did
    layer_back c did is =
        if_back (can_run (layer_of p) c i (c.standing i)) _ did is
        (row_then_back (is_first ((core_turned (layer_of p) c i).semaphores.seats i).place) ((core_turned (layer_of p) c i).standing i))

    first_back : (l : Instruction) (call : Option (Result Call Failure)) (did : Did)
        → first_row (layer_of p) s i n l call ≡ Some did → Back did
    first_back l None did is = row_of_line_back l did is
    first_back l (Some (Ok call)) did is = layer_back (calls s.layer i call) did is
    first_back l (Some (Err why)) did is = told _ did is (λ no. absurd no)

    awoken_back : (b : Bool) (world : ProgramWorld) (did : Did) → cond b None (Some (record { world = world; next = OnFromNext })) ≡ Some did
        → Back did
    awoken_back b world did is = unless_back b _ did is onward

  -- whose line has a row may go on from the next line
  goes_on : (n : ℕ) (l : Instruction) (did : Did) → first_row (layer_of p) s i n l (call_of s i l) ≡ Some did → MayGo l n (n + 1)
  goes_on n (line.If e rel f to) did is = inl refl
  goes_on n (line.Goto to) did is = absurd cc
  goes_on n line.Fail did is = absurd cc
  goes_on n _ did is = refl

  before_back : (n : ℕ) (l : Option CodeLine) → slice_get (code_of p i) n ≡ l → (did : Did)
      → row_before (layer_of p) s i n l ≡ Some did → MayEnterThen (code_of p i) n did.next → MayEnterFrom (code_of p i) n
  before_back n None there did is may = absurd cc
  before_back n (Some l) there did is may =
      first_back n (MayEnterFrom (code_of p i) n) (λ still. still) (λ more. later there (goes_on n l.instruction did is) more)
      l.instruction (call_of s i l.instruction) did is may

  -- who may come in by what comes after a row may before the row
  pub row_back : (stand : Stand) (did : Did) → row_at p s i stand ≡ Some did
      → MayEnterThen (code_of p i) (at stand) did.next → MayEnter (code_of p i) stand
  row_back (Before n) did is may = before_back n (slice_get (code_of p i) n) refl did is may
  row_back (Within n) did is may = layer_back n (MayEnter (code_of p i) (Within n)) (λ h. inl h) (λ h. inr h) s.layer did is may
  row_back (Asleep n) did is may =
      awoken_back n (MayEnter (code_of p i) (Asleep n)) (λ h. inl h) (λ h. inr h) (eqb (s.grants i) 0) _ did is may
  row_back Ended did is may = absurd cc
  row_back (FailedAt n why) did is may = absurd cc

-- marks say who may come in
module _ (code : List CodeLine) (marks : List Bool) (are : AreEntrances code marks) where
  either_marked : (n : ℕ) → IsTrue (marked marks n || marked marks (n + 1)) ↔ (MayEnterFrom code n ⊎ MayEnterFrom code (n + 1))
  either_marked n = (
    λ is. elim (or_cases (marked marks n) (marked marks (n + 1)) is) [
      | inl one ↦ inl ((are n).0 one)
      | inr other ↦ inr ((are (n + 1)).0 other)
    ],
    λ may. elim may [
      | inl one ↦ or_left (marked marks n) (marked marks (n + 1)) ((are n).1 one)
      | inr other ↦ or_right (marked marks n) (marked marks (n + 1)) ((are (n + 1)).1 other)
    ],
  )

  pub may_enter_is : (stand : Stand) → IsTrue (may_enter marks stand) ↔ MayEnter code stand
  may_enter_is (Before n) = are n
  may_enter_is (Within n) = either_marked n
  may_enter_is (Asleep n) = either_marked n
  may_enter_is Ended = (λ is. absurd (false≢true is), λ may. absurd may)
  may_enter_is (FailedAt n why) = (λ is. absurd (false≢true is), λ may. absurd may)
