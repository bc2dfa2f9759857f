-- The row of the line before which a seat stands: what it asks for is there, and what it has made is the definition's row.
use Rattle.std.proofs.Common.{◌≡◌, ℕ, ◌<◌, List, [], Option, Some, None, Result, Ok, Err, IfOk, IfErr, OnOk}
use Rattle.std.proofs.Common.{length, refl, sym, ap, ◌∙◌, subst}
use Rattle.std.specs.Prelude.{slice_index_or}
use Rattle.program_code.specs.declared.instruction.Instruction.{Instruction}
use Rattle.program_code.specs.declared.instruction.Instruction.TheVariants as line
use Rattle.program_code.specs.declared.operand.CodePlace.{CodePlace}
use Rattle.program_code.specs.declared.operand.CodePlace.TheVariants.{Single, Member}
use Rattle.program_code.specs.declared.operand.Share.TheVariants as share
use Rattle.program_code.specs.declared.program.Program.{Program}
use Rattle.program_code.specs.WellFormed.{IsFew, IsLine, IsPlace}
use Rattle.program_machine.specs.Beginning.{HasCall, MayRun, MayRunFirst}
use Rattle.program_machine.specs.Calling.{FitsCall}
use Rattle.program_machine.specs.LayerRows.{HasLayerRow, HasNoLayerRow, with_call}
use Rattle.program_machine.specs.Shared.{Shared, world_of, world_at}
use Rattle.program_machine.specs.Sound.{IsSound, CanGoOn, IsBefore, IsAsLarge, HasRun, HasNoRow}
use Rattle.program_machine.proofs.Asking.{line_may_call, line_may_begin, line_may_run_first, may_run}
use Rattle.program_machine.proofs.Showing.{IsLayer, layer_reached, machine_is}
use Rattle.program_rows.specs.Fitting.{FitsPlace}
use Rattle.program_rows.specs.Rows.{Does, row_at as row_of_words}
use Rattle.program_rows.specs.Stored.{Stored, world_over}
use Rattle.program_rows.proofs.Storing.{same_size}
use Rattle.program_steps.specs.declared.failure.Failure.{Failure}
use Rattle.program_steps.specs.declared.stand.Then.{Then}
use Rattle.program_steps.specs.declared.stand.Then.TheVariants.{Fails}
use Rattle.program_steps.specs.Calls.{call_of}
use Rattle.program_steps.specs.Steps.{row_of, row_at, row_before, first_row}
use Rattle.program_steps.specs.World.{ProgramWorld, layer_of, code_of}
use Rattle.program_steps.proofs.Layers.{all_keep, IsAtRest}
use Rattle.step_core.specs.State.{WholeMachine, AreSameSize, MayBegin, core_of}
use Rattle.step_law_whole.specs.TheCore.{MayCall}
use Rattle.step_rows.specs.Stored.{each}
use Rattle.step_table.specs.declared.call.Call.{Call}
use Rattle.step_table.specs.declared.call.Call.TheVariants.{Acquire, AcquireOrLeave, Release, ReleaseMany, Add, Wait, WaitOrLeave}
use Rattle.step_table.specs.declared.call.Call.TheVariants.{One, All, GroupAdd, GroupWait, GroupWaitOrLeave}
use Rattle.step_table.specs.declared.entry.Entry.{Entry}
use Rattle.step_table.specs.declared.standing.Standing.TheVariants.{Rest}
use Rattle.step_table.specs.Core.{CoreLayout}

pub alike_self : (h : WholeMachine) → AreSameSize h h
alike_self h = record {
  semaphores = record {
    own = refl;
    roots = refl;
    numbers = refl;
    locks = refl;
    waiters = refl;
    grants = refl;
    lists = refl;
    hands = refl;
    callers = refl;
  };
  lists = refl;
  seats = λ l. refl;
  groups = refl;
  standing = refl;
}

pub as_large_self : (s : Shared) → IsAsLarge s s
as_large_self s = record { layer = alike_self s.layer; own = same_size s.own }

-- what a line begins has nothing to do with what the journal tells
module _ (h : WholeMachine) (own : Stored) (i : ℕ) (j k : List Entry) where
  pub call_same : (l : Instruction) → call_of (world_over (core_of h j) own) i l ≡ call_of (world_over (core_of h k) own) i l
  call_same (line.Load w r) = refl
  call_same (line.Store w e) = refl
  call_same (line.Swap w e r) = refl
  call_same (line.Add w e r) = refl
  call_same (line.Exchange w e f r) = refl
  call_same (line.Await w rel e r) = refl
  call_same (line.Acquire c lifo) = refl
  call_same (line.Release c share.One) = refl
  call_same (line.Release c share.Handoff) = refl
  call_same (line.Release c (share.Many e)) = refl
  call_same (line.Ticket l) = refl
  call_same (line.Wait l) = refl
  call_same (line.One l) = refl
  call_same (line.All l) = refl
  call_same (line.Park w e) = refl
  call_same (line.Unpark w e) = refl
  call_same (line.Out s) = refl
  call_same (line.Let r e) = refl
  call_same (line.Compute r e op f) = refl
  call_same (line.If e rel f to) = refl
  call_same (line.Goto to) = refl
  call_same (line.In s) = refl
  call_same (line.Ask s) = refl
  call_same (line.Assert e rel f) = refl
  call_same line.Fail = refl

  may_same : (m : CoreLayout) (call : Call) → MayCall m (core_of h j) i call → MayCall m (core_of h k) i call
  may_same m (Acquire c lifo) may = may
  may_same m (AcquireOrLeave c lifo how) may = may
  may_same m (Release c handoff) may = may
  may_same m (ReleaseMany c n) may = may
  may_same m (Add l) may = may
  may_same m (Wait l) may = may
  may_same m (WaitOrLeave l how) may = may
  may_same m (One l) may = may
  may_same m (All l) may = may
  may_same m (GroupAdd g d) may = may
  may_same m (GroupWait g) may = may
  may_same m (GroupWaitOrLeave g skips) may = may

-- what a line of a well formed program asks for
module _ (p : Program) (few : IsFew p) (lines : ℕ) where
  fits_place : (n : ℕ) (w : CodePlace) → IsPlace p n w → FitsPlace n w
  fits_place n (Single w) is = is
  fits_place n (Member first many e) is = is.0

  pub fits_call : (counters lists : ℕ) → length p.counters ≡ counters → p.lists ≡ lists → (l : Instruction) → IsLine p lines l
      → FitsCall counters lists l
  fits_call n q same all (line.Acquire c lifo) is = subst (λ k. FitsPlace k c) same (fits_place (length p.counters) c is)
  fits_call n q same all (line.Release c units) is = subst (λ k. FitsPlace k c) same (fits_place (length p.counters) c is.0)
  fits_call n q same all (line.Ticket l) is = subst (λ k. l < k) all is
  fits_call n q same all (line.Wait l) is = subst (λ k. l < k) all is
  fits_call n q same all (line.One l) is = subst (λ k. l < k) all is
  fits_call n q same all (line.All l) is = subst (λ k. l < k) all is
  fits_call n q same all (line.Load w r) is = tt
  fits_call n q same all (line.Store w e) is = tt
  fits_call n q same all (line.Swap w e r) is = tt
  fits_call n q same all (line.Add w e r) is = tt
  fits_call n q same all (line.Exchange w e f r) is = tt
  fits_call n q same all (line.Await w rel e r) is = tt
  fits_call n q same all (line.Park w e) is = tt
  fits_call n q same all (line.Unpark w e) is = tt
  fits_call n q same all (line.Out k) is = tt
  fits_call n q same all (line.Let r e) is = tt
  fits_call n q same all (line.Compute r e op f) is = tt
  fits_call n q same all (line.If e rel f to) is = tt
  fits_call n q same all (line.Goto to) is = tt
  fits_call n q same all (line.In k) is = tt
  fits_call n q same all (line.Ask k) is = tt
  fits_call n q same all (line.Assert e rel f) is = tt
  fits_call n q same all line.Fail is = tt

-- seat i of what is stored, which can go on
module _ (p : Program) (s : Shared) (i : ℕ) (can : CanGoOn p s i) where
  sound : IsSound p can.steps s
  sound = can.sound

  abbrev world : ProgramWorld
  world = world_of s can.sound.past.journal

  -- its layer
  pub shows : IsLayer p can.steps s.layer can.sound.past.journal
  shows = subst (λ n. IsLayer p n s.layer can.sound.past.journal) can.sound.past.count
      (layer_reached p can.sound.few can.sound.formed can.sound.few.starts can.sound.past.schedule world can.sound.past.reached s.layer
      can.sound.past.journal can.sound.form refl)

  -- the row of the layer at which it stands may be run
  pub may_run_here : MayRun s.layer i
  may_run_here = may_run p can.sound.few can.steps can.sound.small s.layer can.sound.past.journal shows i can.there

  -- it stands before this line
  module _ (n : ℕ) (l : Instruction) (before : IsBefore p s i n l) where
    pub line_is : IsLine p (length (code_of p i)) l
    line_is = subst (IsLine p (length (code_of p i))) before.is
        (can.sound.formed.codes (slice_index_or p.seats i 0) n before.code before.at)

    row_is : (journal : List Entry) → row_of p (world_of s journal) i
        ≡ first_row (layer_of p) (world_of s journal) i n l (call_of (world_of s journal) i l)
    row_is journal = ap (row_at p (world_of s journal) i) before.stand ∙ ap (row_before (layer_of p) (world_of s journal) i n) before.at
        ∙ ap (λ q. first_row (layer_of p) (world_of s journal) i n q (call_of (world_of s journal) i q)) before.is

    -- what the line begins was found out
    module _ (found : Option (Result Call Failure)) (is : found ≡ call_of (world_at s.layer s.own) i l) where
      call_is : (journal : List Entry) → call_of (world_of s journal) i l ≡ found
      call_is journal = call_same s.layer s.own i journal [] l ∙ sym is

      pub row_then : (journal : List Entry) → row_of p (world_of s journal) i ≡ first_row (layer_of p) (world_of s journal) i n l found
      row_then journal = row_is journal ∙ ap (first_row (layer_of p) (world_of s journal) i n l) (call_is journal)

      -- nothing of the layer: a row on words
      pub own_ran : found ≡ None → (t : Stored) (then : Then) → Does (row_of_words i n l) s.own t then
          → HasRun p s i (record { layer = s.layer; own = t }) then
      own_ran none t then does = record {
        row = λ journal. (
          journal,
          row_then journal ∙ ap (first_row (layer_of p) (world_of s journal) i n l) none
              ∙ does.did (core_of s.layer journal),
        );
        size = record { layer = alike_self s.layer; own = does.size };
      }

      -- its seat fails
      pub line_fails : (why : Failure) → found ≡ Some (Err why) → HasRun p s i s (Fails why)
      line_fails why fails = record {
        row = λ journal. (journal, row_then journal ∙ ap (first_row (layer_of p) (world_of s journal) i n l) fails);
        size = as_large_self s;
      }

      -- a call of the layer
      module _ (call : Call) (begins : found ≡ Some (Ok call)) where
        begins_here : call_of world i l ≡ Some (Ok call)
        begins_here = call_is can.sound.past.journal ∙ begins

        rests : each Rest s.layer.standing i ≡ Rest
        rests = subst (IsAtRest world i) before.stand
            ((all_keep p can.sound.formed can.sound.past.schedule world can.sound.past.reached).resting i can.there)

        pub seat_may : MayCall (layer_of p) (core_of s.layer []) i call
        seat_may = may_same s.layer s.own i can.sound.past.journal [] (layer_of p) call
            (line_may_call p can.sound.few can.steps can.sound.small s.layer can.sound.past.journal shows i can.there rests world refl
            (length (code_of p i)) l line_is call begins_here)

        pub call_may : HasCall s.layer i call
        call_may = (layer_of p, machine_is p s.layer can.sound.form, seat_may)

        pub call_may_begin : MayBegin s.layer i call
        call_may_begin =
            line_may_begin p can.sound.few can.steps can.sound.small s.layer can.sound.past.journal shows i can.there rests world refl
            (length (code_of p i)) l line_is call begins_here

        pub call_may_run : MayRunFirst s.layer i call
        call_may_run =
            line_may_run_first p can.sound.few can.steps can.sound.small s.layer can.sound.past.journal shows i can.there rests world refl
            (length (code_of p i)) l line_is call begins_here

        pub call_ran : (k : WholeMachine) (then : Then) → HasLayerRow s.layer i n (with_call i call) k then → AreSameSize s.layer k
            → HasRun p s i (record { layer = k; own = s.own }) then
        call_ran k then row alike = record {
          row = λ journal. let got = row (layer_of p) (machine_is p s.layer can.sound.form) journal in (
            got.0,
            row_then journal ∙ ap (first_row (layer_of p) (world_of s journal) i n l) begins ∙ got.1 (world_of s journal),
          );
          size = record { layer = alike; own = same_size s.own };
        }

        pub call_refused : HasNoLayerRow s.layer i n (with_call i call) → HasNoRow p s i
        call_refused can_not journal = row_then journal ∙ ap (first_row (layer_of p) (world_of s journal) i n l) begins
            ∙ can_not (layer_of p) (machine_is p s.layer can.sound.form) journal (world_of s journal)

-- h is what a value shows, and s what a clause calls it
module _ (p : Program) (i : ℕ) (h s : Shared) (same : h ≡ s) where
  pub can_inside : CanGoOn p s i → CanGoOn p h i
  can_inside = subst (λ t. CanGoOn p t i) (sym same)

  pub before_inside : (n : ℕ) (l : Instruction) → IsBefore p s i n l → IsBefore p h i n l
  before_inside n l = subst (λ t. IsBefore p t i n l) (sym same)

  pub run_outside : (t : Shared) (then : Then) → HasRun p h i t then → HasRun p s i t then
  run_outside t then = subst (λ q. HasRun p q i t then) same

  pub none_outside : HasNoRow p h i → HasNoRow p s i
  none_outside = subst (λ q. HasNoRow p q i) same

pub on_ok : {A B : Type 0} (P Q : A → Type 0) → ((a : A) → P a → Q a) → (r : Result A B) → IfOk r P → IfOk r Q
on_ok P Q f (Ok a) is = f a is
on_ok P Q f (Err b) is = tt

pub on_err : {A B : Type 0} (P Q : B → Type 0) → ((b : B) → P b → Q b) → (r : Result A B) → IfErr r P → IfErr r Q
on_err P Q f (Ok a) is = tt
on_err P Q f (Err b) is = f b is

pub on_any : {A B : Type 0} (X : Type 0) → X → (r : Result A B) → OnOk r X
on_any X x (Ok a) = x
on_any X x (Err b) = tt
