-- A step of a moment is a step of the run that it shows, with each journal behind it.
use Rattle.std.proofs.Common.{◌≡◌, ◌≢◌, ℕ, ◌<◌, ◌≤◌, Bool, true, false, List, [], Some, None, Option, nat_lt, cond, length}
use Rattle.std.proofs.Common.{refl, sym, ap, ◌∙◌}
use Rattle.std.proofs.Common.{subst, ltb-true}
use Rattle.step_table.specs.declared.entry.Entry.{Entry}
use Rattle.step_table.specs.declared.list_place.ListEffect.{ListEffect}
use Rattle.step_table.specs.declared.list_place.ListEffect.TheVariants.{HandsOut, Grants as GrantsUpTo, Forgoes}
use Rattle.step_table.specs.declared.effect.Effect.{Effect}
use Rattle.step_table.specs.declared.refusal.StepRefused.TheVariants.{NoSuchSeat}
use Rattle.step_table.specs.declared.parts.Parts.{Parts}
use Rattle.step_table.specs.declared.standing.GroupNext.{GroupNext}
use Rattle.step_table.specs.declared.standing.GroupNext.TheVariants as group
use Rattle.step_table.specs.declared.standing.Standing.{Standing}
use Rattle.step_table.specs.declared.standing.Standing.TheVariants.{Rest, AtCounter, AtList, AtGroup, Failed, Left}
use Rattle.step_core.specs.declared.turn.Turn.{Turn}
use Rattle.step_core.specs.declared.turn.Turn.TheVariants.{OnCounter, OnList, OnGroup, GivesUp, GivesUpOnList}
use Rattle.step_table.specs.World.{SeatState, journal_after}
use Rattle.step_table.specs.Steps.{event_of, finds}
use Rattle.step_rows.specs.Stored.{each, idle, seat_of}
use Rattle.step_rows.specs.Stored as sema
use Rattle.step_table.specs.Core.{CoreLayout, Core, journal_after_list}
use Rattle.step_table.specs.CoreSteps.{releases, goes_on, after_counter, after_list, after_group, row_of_standing, core_turned}
use Rattle.step_table.specs.Run.{Run, layout, continued, refusal_of, refusal, begun, call_of}
use Rattle.step_table.specs.Core.{counters_of}
use Rattle.step_law_whole.specs.RunInvariant.{IsSoundRun, IsSoundRunOf, calls_of}
use Rattle.step_law_alike.specs.declared.variant.Variant.{Variant}
use Rattle.step_law_alike.specs.ChangedInvariant.{IsWellFormedCore, WaitersRaisedIn}
use Rattle.step_law_alike.specs.Changed.{changed_stepped}
use Rattle.step_law_alike.proofs.ChangedRuns.{changed_kept}
use Rattle.step_core.specs.Stepping.{HasStepped, Steps}
use Rattle.step_core.specs.WellFormed.{HasPast, IsSoundBy}
use Rattle.step_core.specs.State.{WholeMachine, Moment, IsMachineFor, HasRunRow, HasBegun, GoesOn, IsRefusal, IsReady, IsReadyAt, core_of, run_with}
use Rattle.step_core.specs.State.{run_of, run_at, telling, entry_of, list_entry, and_then, HasLeftOut, FewLeave}
use Rattle.step_rows.proofs.Storing.{get_here}
use Rattle.step_core.proofs.Changing.{same_layout, then_all}
use Rattle.step_core.proofs.Ranges.{well_formed_by}
use Rattle.step_core.proofs.Fewness.{few_go_on}
use Rattle.step_core.proofs.Asking.{said}
use Rattle.step_law_whole.proofs.RunSound.{is_stepped}
use Rattle.step_core.proofs.NextCalls.{still_stored}
use Rattle.step_core.proofs.RunningRows.{releases_quiet, counter_quiet, counter_tells, of_test, same_test, of_list_test, same_list_test, list_quiet}
use Rattle.step_core.proofs.Settling.{no_change_of}

-- no row reads the journal, and so it refuses no step
same_refusal_of : (m : CoreLayout) (h : WholeMachine) (journal : List Entry) (i : ℕ) (doing : Standing)
    → refusal_of m (core_of h journal) i doing ≡ refusal_of m (core_of h []) i doing
same_refusal_of m h journal i Rest = refl
same_refusal_of m h journal i (AtCounter after) = refl
same_refusal_of m h journal i (AtList l ending) = refl
same_refusal_of m h journal i (AtGroup g row) = refl
same_refusal_of m h journal i (Left skips) = refl
same_refusal_of m h journal i (Failed misuse) = refl

pub same_refusal : (m : Moment) (journal : List Entry) (i : ℕ) → refusal m.parts (run_of (telling m journal)) i ≡ refusal m.parts (run_at m) i
same_refusal m journal i =
    ap (λ r. cond (nat_lt i (length m.parts.calls)) r (Some NoSuchSeat))
    (same_refusal_of (layout m.parts) m.machine journal i (each Rest m.machine.standing i))

-- a seat that isn't refused is one of the scenario's
pub seat_free : (parts : Parts) (run : Run) (i : ℕ) → refusal parts run i ≡ None → i < length parts.calls
seat_free parts run i free = by (nat_lt i (length parts.calls)) refl free
  where
    by : (b : Bool) → nat_lt i (length parts.calls) ≡ b
        → cond b (refusal_of (layout parts) run.core i (run.core.standing i)) (Some NoSuchSeat) ≡ None → i < length parts.calls
    by true less e = ltb-true i (length parts.calls) less
    by false less e = absurd cc

group_journal : (m : CoreLayout) (s : Core) (i g : ℕ) (next : GroupNext) → (after_group m s i g next).journal ≡ s.journal
group_journal m s i g group.Ends = refl
group_journal m s i g (group.Goes row) = refl
group_journal m s i g (group.Fails misuse) = refl
group_journal m s i g (group.Acquires ending) = refl
group_journal m s i g (group.Releases n) = releases_quiet m s i g n
group_journal m s i g (group.SleepsOn how) = refl
group_journal m s i g (group.Withdraws how) = refl

list_effect_entry : (l i : ℕ) (effect : ListEffect) (journal : List Entry)
    → journal_after_list l i effect journal ≡ and_then journal (list_entry l i effect)
list_effect_entry l i (HandsOut t) journal = refl
list_effect_entry l i (GrantsUpTo upto) journal = refl
list_effect_entry l i (Forgoes w) journal = refl
list_effect_entry l i _ journal = refl

-- a row that is ready tells its entry, and nothing else
row_tells : (m : CoreLayout) (h : WholeMachine) (i : ℕ) → IsMachineFor m h → (doing : Standing) (turn : Turn) → IsReadyAt h i doing turn
    → (journal : List Entry) → (row_of_standing m (core_of h journal) i doing).journal ≡ and_then journal (entry_of i turn)
row_tells m h i is (AtCounter after) (OnCounter next ready) can journal =
    let s : Core = core_of h journal in
    let found = get_here idle h.semaphores.callers i ready.caller can.1.there in
    let effect_at : SeatState → (ℕ → ℕ) → Effect
    = λ z root.
    let e = Rattle.step_table.specs.Table.event_at i z (sema.stored_words h.semaphores.stored).lists z.place in
    (e.leads (Rattle.step_table.specs.World.found root (sema.stored_words h.semaphores.stored) e.word)).1 in
    let effect : ready.outcome.effect ≡ ((event_of s.semaphores i).leads (finds m.root s.semaphores i)).1
    = can.1.row.does.effect
    ∙ (λ j. effect_at (seat_of (sym found.1 j) (each [] h.semaphores.stored.hands i)) (is.root j)) in
    (λ j. (of_test h h i after ((same_test h h i after m journal ∙ can.3) j) m s).journal)
    ∙ counter_quiet m (Rattle.step_table.specs.CoreSteps.counter_row m s i) i after _ _
    ∙ (λ j. journal_after (sym effect j) journal)
    ∙ counter_tells ready.outcome.effect journal
row_tells m h i is (AtCounter after) (GivesUp next) can journal =
    λ j. (of_test h h i after ((same_test h h i after m journal ∙ can.1) j) m (core_of h journal)).journal
row_tells m h i is (AtList l ending) (OnList k next ready) can journal =
    let s : Core = core_of h journal in
    (λ j. (of_list_test h h i l ending ((same_list_test h h i l ending journal ∙ can.4) j) s).journal)
    ∙ list_quiet (Rattle.step_table.specs.CoreSteps.list_row s i l) i l ending _ _
    ∙ (λ j. journal_after_list l i (sym can.3.does.effect j) journal)
    ∙ list_effect_entry l i ready.outcome.effect journal
    ∙ (λ j. and_then journal (list_entry (sym can.0 j) i ready.outcome.effect))
row_tells m h i is (AtList l ending) (GivesUpOnList k next) can journal =
    λ j. (of_list_test h h i l ending ((same_list_test h h i l ending journal ∙ can.3) j) (core_of h journal)).journal
row_tells m h i is (AtGroup g row) (OnGroup k now) can journal = group_journal m _ i g _
row_tells m h i is _ _ can journal = absurd can

pub turn_tells : (m : CoreLayout) (h : WholeMachine) (i : ℕ) → IsMachineFor m h → (turn : Turn) → IsReady h i turn
    → (journal : List Entry) → (core_turned m (core_of h journal) i).journal ≡ and_then journal (entry_of i turn)
turn_tells m h i is turn can journal = row_tells m h i is (each Rest h.standing i) turn can journal

module _ (parts : Parts) (i : ℕ) (h : WholeMachine) (counts : List ℕ) where
  -- whose call hasn't ended stays
  pub stays : (doing : Standing) → doing ≢ Rest → ((skips : ℕ) → doing ≢ Left skips) → GoesOn parts i h counts h counts doing
  stays doing awake there = record { alike = no_change_of h; count = refl; run = λ journal. by doing awake there journal }
    where
      by : (doing : Standing) → doing ≢ Rest → ((skips : ℕ) → doing ≢ Left skips) → (journal : List Entry)
          → run_with h counts journal ≡ continued parts (run_with h counts journal) i doing
      by Rest awake there journal = absurd (awake refl)
      by (Left skips) awake there journal = absurd (there skips refl)
      by _ awake there journal = refl

  pub begins : (doing : Standing) → doing ≡ Rest → (k : WholeMachine) (now : List ℕ)
      → HasBegun parts i h counts k now → GoesOn parts i h counts k now doing
  begins doing rest k now is =
      subst (GoesOn parts i h counts k now) (sym rest) (record { alike = is.alike; count = is.count; run = is.run })

  pub leaves_out : (doing : Standing) (skips : ℕ) → doing ≡ Left skips → (m : WholeMachine) (between : List ℕ)
      → HasLeftOut parts i skips h counts m between → (k : WholeMachine) (now : List ℕ) → HasBegun parts i m between k now
      → GoesOn parts i h counts k now doing
  leaves_out doing skips left m between out k now is =
      subst (GoesOn parts i h counts k now) (sym left)
      (record {
        alike = then_all h m k out.alike is.alike;
        count = is.count ∙ out.count;
        run = λ journal. is.run journal ∙ (λ j. let next : Run = out.run journal j in begun next i (call_of parts i (next.begun i)));
      })

-- the row has run
module _ (parts : Parts) (h : WholeMachine) (counts : List ℕ) (i : ℕ) (is : IsMachineFor (layout parts) h) (k : WholeMachine) (entry : Option Entry)
    (ran : HasRunRow i h k entry) where
  pub machine_ran : IsMachineFor (layout parts) k
  machine_ran = same_layout (layout parts) h k ran.turned.alike is

  abbrev after : List Entry → List Entry
  after journal = and_then journal entry

  between : (journal : List Entry) → core_of k (after journal) ≡ core_turned (layout parts) (core_of h journal) i
  between journal =
      (λ j. core_of k (sym (ran.told (layout parts) is journal) j)) ∙ ran.turned.core (layout parts) is journal

  -- and the next call has begun, where it ended one
  pub has_stepped : (n : WholeMachine) (now : List ℕ) → GoesOn parts i k counts n now (each Rest k.standing i)
      → HasStepped None parts i h counts n now entry
  has_stepped n now goes = record {
    alike = then_all h k n ran.turned.alike goes.alike;
    count = goes.count;
    run = λ journal.
        goes.run (after journal)
        ∙ (λ j. let s : Core = between journal j in continued parts (record { core = s; begun = each 0 counts }) i (s.standing i));
  }

-- a step keeps what is true of the run, by each table
module _ (m : Moment) (i : ℕ) (entry : Option Entry) (free : refusal m.parts (run_at m) i ≡ None) (n : WholeMachine) (now : List ℕ) where
  abbrev after_it : Moment
  after_it = record { parts = m.parts; machine = n; begun = now; table = m.table }

  few_ran : (table : Option Variant) → HasStepped table m.parts i m.machine m.begun n now entry → (journal : List Entry)
      → ((k : ℕ) → (run_of (telling m journal)).begun k ≤ length (calls_of m.parts k)) → FewLeave m.parts (run_of (telling m journal))
      → FewLeave m.parts (run_of (telling after_it (and_then journal entry)))
  few_ran table is journal begun few =
      let run : Run = run_of (telling m journal) in
      subst (FewLeave m.parts) (sym (is.run journal))
      (few_go_on table m.parts run i (seat_free m.parts run i (same_refusal m journal i ∙ free)) (begun i) few)

  sound_ran : (table : Option Variant) → HasStepped table m.parts i m.machine m.begun n now entry
      → (journal : List Entry) → IsSoundBy table (telling m journal) → IsSoundBy table (telling after_it (and_then journal entry))
  sound_ran None is journal sound = record {
    scenario = sound.scenario;
    starts = sound.starts;
    stored =
        still_stored (length m.parts.starts) m.parts.groups m.parts.roots (length m.parts.calls) m.machine n is.alike.semaphores sound.stored;
    machine = same_layout (layout m.parts) m.machine n is.alike sound.machine;
    begun = is.count ∙ sound.begun;
    run = subst (IsSoundRun m.parts) (sym (is.run journal))
        (is_stepped m.parts (run_of (telling m journal)) i sound.scenario sound.run (same_refusal m journal i ∙ free));
    leave = few_ran None is journal sound.run.begun sound.leave;
  }
  sound_ran (Some v) is journal before = record {
    scenario = before.scenario;
    starts = before.starts;
    stored =
        still_stored (length m.parts.starts) m.parts.groups m.parts.roots (length m.parts.calls) m.machine n is.alike.semaphores before.stored;
    machine = same_layout (layout m.parts) m.machine n is.alike before.machine;
    begun = is.count ∙ before.begun;
    run = subst (IsSoundRunOf (IsWellFormedCore (layout m.parts)) m.parts) (sym (is.run journal)) kept.0;
    leave = few_ran (Some v) is journal before.run.begun before.leave;
    waiters = subst (λ (r : Run). WaitersRaisedIn v (counters_of (layout m.parts)) r.core.semaphores) (sym (is.run journal)) kept.1;
  }
    where
      kept : IsSoundRunOf (IsWellFormedCore (layout m.parts)) m.parts (changed_stepped v m.parts (run_of (telling m journal)) i)
          × WaitersRaisedIn v (counters_of (layout m.parts)) (changed_stepped v m.parts (run_of (telling m journal)) i).core.semaphores
      kept =
          changed_kept v m.parts (run_of (telling m journal)) i before.scenario before.run before.waiters (same_refusal m journal i ∙ free)

-- the moment has stepped
module _ (m : Moment) (past : HasPast m) (i : ℕ) (entry : Option Entry) (free : refusal m.parts (run_at m) i ≡ None) (n : WholeMachine) (now : List ℕ)
    (is : HasStepped m.table m.parts i m.machine m.begun n now entry) where
  pub past_ran : HasPast (after_it m i entry free n now)
  past_ran = (and_then past.0 entry, sound_ran m i entry free n now m.table is past.0 past.1)

  pub steps_ran : (shows : Moment) → m ≡ shows → Steps shows i (after_it m i entry free n now) entry
  steps_ran shows same =
      subst (λ (z : Moment). Steps z i (after_it m i entry free n now) entry) same
      (record {
        table = refl;
        steps = λ journal. record { parts = refl; run = is.run journal };
        sound = sound_ran m i entry free n now m.table is;
      })

-- the machine has run the row of a seat that can, and gone on: so the moment has stepped by the step table
module _ (m : Moment) (past : HasPast m) (table : m.table ≡ None) (i : ℕ) (there : i < length m.parts.calls) (was : WholeMachine)
    (at : was ≡ m.machine) (can : IsRefusal was i None) (k : WholeMachine) (entry : Option Entry) (ran : HasRunRow i was k entry)
    (between : WholeMachine) (same : between ≡ k) (n : WholeMachine) (now : List ℕ)
    (goes : GoesOn m.parts i between m.begun n now (each Rest between.standing i)) where
  free_at_once : refusal m.parts (run_at m) i ≡ None
  free_at_once = said m past i there m refl None (subst (λ (z : WholeMachine). IsRefusal z i None) at can)

  stepped_at_once : HasStepped m.table m.parts i m.machine m.begun n now entry
  stepped_at_once =
      subst (λ t. HasStepped t m.parts i m.machine m.begun n now entry) (sym table)
      (has_stepped m.parts m.machine m.begun i (well_formed_by m.table (telling m past.0) past.1).machine k entry
      (subst (λ (z : WholeMachine). HasRunRow i z k entry) at ran) n now
      (subst (λ (z : WholeMachine). GoesOn m.parts i z m.begun n now (each Rest z.standing i)) same goes))

  pub past_at_once : HasPast (record { parts = m.parts; machine = n; begun = now; table = m.table })
  past_at_once = past_ran m past i entry free_at_once n now stepped_at_once

  pub steps_at_once : (shows : Moment) → m ≡ shows
      → Steps shows i (record { parts = m.parts; machine = n; begun = now; table = m.table }) entry
  steps_at_once = steps_ran m past i entry free_at_once n now stepped_at_once
