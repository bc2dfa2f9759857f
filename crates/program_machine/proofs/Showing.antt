-- The machine that stores the sleeping layer of a lock program: its form, the layer of a reached world that it shows, and the
-- layer in which a call has begun.
use Rattle.std.proofs.Common.{◌≡◌, ℕ, ◌+◌, ◌^◌, ◌<◌, ◌≤◌, List, [], length, max}
use Rattle.std.proofs.Common.{refl, sym, ap, ◌∙◌, subst, arith}
use Rattle.std.specs.Prelude.{slice_index_or}
use Rattle.std.proofs.lemmas.List.{length-replicate}
use Rattle.program_code.specs.declared.program.Program.{Program}
use Rattle.program_machine.specs.Layer.{parts_of}
use Rattle.program_steps.specs.Counting.{CountsAtMost}
use Rattle.program_steps.specs.Steps.{Reaches}
use Rattle.program_code.specs.WellFormed.{IsWellFormed, IsFew}
use Rattle.program_steps.specs.World.{ProgramWorld, layer_of}
use Rattle.program_steps.proofs.Counting.{counts_at_most}
use Rattle.program_steps.proofs.Layers.{all_keep}
use Rattle.program_steps.proofs.Staying.{AllStay, IsStaying, calls_stay}
use Rattle.step_core.specs.Key.{HasForm}
use Rattle.step_core.specs.State.{WholeMachine, core_of, IsMachineFor, AreSameSize, Becomes, HasSeat, HasListSeat}
use Rattle.step_core.specs.State.{MayBegin}
use Rattle.step_core.proofs.Changing.{same_layout}
use Rattle.step_core.proofs.NextCalls.{still_stored}
use Rattle.step_law_whole.specs.CoreLaw.{IsCoreInvariant}
use Rattle.step_law_whole.specs.TheCore.{MayCall}
use Rattle.step_law_whole.proofs.CoreCalling.{calls_keep}
use Rattle.step_rows.specs.Stored.{Stored, IsStoredFor, each}
use Rattle.step_rows.proofs.Storing.{copies}
use Rattle.step_table.specs.declared.call.Call.{Call}
use Rattle.step_table.specs.declared.call.Call.TheVariants.{Acquire, AcquireOrLeave, Release, ReleaseMany, Add, Wait as WaitCall}
use Rattle.step_table.specs.declared.call.Call.TheVariants.{WaitOrLeave, One, All, GroupAdd, GroupWait, GroupWaitOrLeave}
use Rattle.step_table.specs.declared.standing.Ending.{Ending}
use Rattle.step_table.specs.declared.entry.Entry.{Entry}
use Rattle.step_table.specs.declared.parts.Parts.{Parts}
use Rattle.step_table.specs.declared.place.Place.{Place}
use Rattle.step_table.specs.declared.standing.After.{After}
use Rattle.step_table.specs.declared.standing.Standing.{Standing}
use Rattle.step_table.specs.declared.standing.Standing.TheVariants.{Rest, AtList}
use Rattle.step_table.specs.Core.{Core, first_core}
use Rattle.step_table.specs.CoreSteps.{at_counter, stands, calls}
use Rattle.step_table.specs.ListWorld.{Numbers, ListWorld}
use Rattle.step_table.specs.Run.{layout}
use Rattle.step_table.specs.World.{SeatState, root_number, put}
use Rattle.step_table.proofs.Sums.{put_at}

-- the machine of the layer has its layout
pub layout_is : (p : Program) → layout (parts_of p) ≡ layer_of p
layout_is p j = record {
  seats = length-replicate {A = List Call} (length p.seats) [] j;
  counters = length p.counters;
  lists = length-replicate {A = ℕ} p.lists 0 j;
  groups = 0;
  root = root_number (length p.counters) (max 1 (length p.counters));
  starts = λ c. slice_index_or p.counters c 0;
  firsts = λ l. copies 0 p.lists l j;
}

-- a machine that is as large has the same form
pub form_after : (parts : Parts) (h k : WholeMachine) → AreSameSize h k → HasForm parts h → HasForm parts k
form_after parts h k alike form = record {
  stored = still_stored (length parts.starts) parts.groups parts.roots (length parts.calls) h k alike.semaphores form.stored;
  machine = same_layout (layout parts) h k alike form.machine;
}

-- the machine shows a layer after n steps, with this journal
pub record IsLayer (p : Program) (n : ℕ) (h : WholeMachine) (journal : List Entry) : Type 0 where
  pub form : HasForm (parts_of p) h
  pub invariant : IsCoreInvariant (layer_of p) (core_of h journal)
  pub stay : AllStay (core_of h journal)
  pub counts : CountsAtMost n (core_of h journal)

-- so does that of each reached world
pub layer_reached : (p : Program) → IsFew p → IsWellFormed p → ((c : ℕ) → slice_index_or p.counters c 0 < 2 ^ 32)
    → (schedule : List ℕ) (s : ProgramWorld) → Reaches p schedule s
    → (h : WholeMachine) (journal : List Entry) → HasForm (parts_of p) h → core_of h journal ≡ s.layer → IsLayer p (length schedule) h journal
layer_reached p few formed starts schedule s reached h journal form same =
    let small : length p.seats ≤ 9223372036854775808 = let seats = few.seats in omega arith in
    let keeps = all_keep p formed schedule s reached in
    record {
      form = form;
      invariant = subst (IsCoreInvariant (layer_of p)) (sym same) keeps.layer;
      stay = subst AllStay (sym same) keeps.stay;
      counts = subst (CountsAtMost (length schedule)) (sym same) (counts_at_most p formed starts small schedule s reached);
    }

-- and the first layer is that of the machine's start
pub first_layer : (p : Program) (h : WholeMachine) → core_of h [] ≡ first_core (layout (parts_of p)) → core_of h [] ≡ first_core (layer_of p)
first_layer p h is = is ∙ ap first_core (layout_is p)

-- so much as the parts say can be stored
pub record ArePartsFew (parts : Parts) : Type 0 where
  pub some_root : 0 < parts.roots
  pub counters : length parts.starts + parts.groups < 2 ^ 32
  pub roots : parts.roots + parts.groups < 2 ^ 32
  pub seats : length parts.calls < 2 ^ 16

-- the machine has each seat and each list
module _ (p : Program) (h : WholeMachine) (form : HasForm (parts_of p) h) where
  abbrev stored : Stored
  stored = h.semaphores.stored

  pub machine_is : IsMachineFor (layer_of p) h
  machine_is = subst (λ m. IsMachineFor m h) (layout_is p) form.machine

  pub stored_is : IsStoredFor (length p.counters) 0 (max 1 (length p.counters)) (length p.seats) stored
  stored_is = subst (λ n. IsStoredFor (length p.counters) 0 (max 1 (length p.counters)) n stored)
      (length-replicate {A = List Call} (length p.seats) []) form.stored

  pub has_seat : (i : ℕ) → i < length p.seats → HasSeat h i
  has_seat i there = (let a = machine_is.callers in omega arith, let a = machine_is.standing in omega arith)

  pub has_list_seat : (l i : ℕ) → l < p.lists → i < length p.seats → HasListSeat h l i
  has_list_seat l i within there = (let a = machine_is.lists in omega arith, let a = machine_is.seats l within in omega arith)

  -- a call that the layer's seat may begin
  pub may_call : (s : Core) (i : ℕ) → i < length p.seats → (call : Call) → MayCall (layer_of p) s i call → MayBegin h i call
  may_call s i there (Add l) may = has_list_seat l i may.0 there
  may_call s i there (WaitCall l) may = has_list_seat l i may.0 there
  may_call s i there (WaitOrLeave l how) may = has_list_seat l i may.0 there
  may_call s i there (One l) may = has_list_seat l i may there
  may_call s i there (All l) may = has_list_seat l i may there
  may_call s i there (Acquire c lifo) may = tt
  may_call s i there (AcquireOrLeave c lifo how) may = tt
  may_call s i there (Release c handoff) may = tt
  may_call s i there (ReleaseMany c n) may = tt
  may_call s i there (GroupAdd g d) may = tt
  may_call s i there (GroupWait g) may = tt
  may_call s i there (GroupWaitOrLeave g skips) may = tt

-- a call that begins tells nothing, and counts nothing
calls_told : (s : Core) (i : ℕ) (call : Call) → (calls s i call).journal ≡ s.journal
calls_told s i (Acquire c lifo) = refl
calls_told s i (AcquireOrLeave c lifo how) = refl
calls_told s i (Release c handoff) = refl
calls_told s i (ReleaseMany c n) = refl
calls_told s i (Add l) = refl
calls_told s i (WaitCall l) = refl
calls_told s i (WaitOrLeave l how) = refl
calls_told s i (One l) = refl
calls_told s i (All l) = refl
calls_told s i (GroupAdd g d) = refl
calls_told s i (GroupWait g) = refl
calls_told s i (GroupWaitOrLeave g skips) = refl

module _ (n : ℕ) (s : Core) (i : ℕ) (counts : CountsAtMost n s) where
  counter_counts : (place : Place) (after : After) → CountsAtMost n (at_counter s i place after)
  counter_counts place after = record {
    turns = λ k. put_at (λ k (z : SeatState). z.turn ≤ n) s.semaphores.seats i (record (s.semaphores.seats i) { place = place }) k
        (counts.turns i) (λ ne. counts.turns k);
    handed = counts.handed;
    passed = counts.passed;
    gone = counts.gone;
    numbers = counts.numbers;
  }

  list_counts : (l : ℕ) (w : ListWorld) (ending : Ending) → w.words.numbers ≡ (s.lists l).words.numbers
      → CountsAtMost n (stands (record s { lists = put s.lists l w }) i (AtList l ending))
  list_counts l w ending same = record {
    turns = counts.turns;
    handed = λ k. put_at (λ k (w : ListWorld). w.words.numbers.handed ≤ n) s.lists l w k
        (subst (λ (x : Numbers). x.handed ≤ n) (sym same) (counts.handed l)) (λ ne. counts.handed k);
    passed = λ k. put_at (λ k (w : ListWorld). w.words.numbers.passed ≤ w.words.numbers.handed) s.lists l w k
        (subst (λ (x : Numbers). x.passed ≤ x.handed) (sym same) (counts.passed l)) (λ ne. counts.passed k);
    gone = λ k. put_at (λ k (w : ListWorld). w.words.numbers.gone ≡ []) s.lists l w k
        (subst (λ (x : Numbers). x.gone ≡ []) (sym same) (counts.gone l)) (λ ne. counts.gone k);
    numbers = counts.numbers;
  }

  group_counts : (standing : Standing) → CountsAtMost n (stands s i standing)
  group_counts standing = record {
    turns = counts.turns;
    handed = counts.handed;
    passed = counts.passed;
    gone = counts.gone;
    numbers = counts.numbers;
  }

  calls_count : (call : Call) → CountsAtMost n (calls s i call)
  calls_count (Acquire c lifo) = counter_counts _ _
  calls_count (AcquireOrLeave c lifo how) = counter_counts _ _
  calls_count (Release c handoff) = counter_counts _ _
  calls_count (ReleaseMany c m) = counter_counts _ _
  calls_count (Add l) = list_counts l _ _ refl
  calls_count (WaitCall l) = list_counts l _ _ refl
  calls_count (WaitOrLeave l how) = list_counts l _ _ refl
  calls_count (One l) = list_counts l _ _ refl
  calls_count (All l) = list_counts l _ _ refl
  calls_count (GroupAdd g d) = group_counts _
  calls_count (GroupWait g) = group_counts _
  calls_count (GroupWaitOrLeave g skips) = group_counts _

-- once a seat at rest has begun a call that it doesn't give up, the machine shows the layer in which it has
pub layer_called : (p : Program) → IsFew p → (n : ℕ) (h : WholeMachine) (journal : List Entry) → IsLayer p n h journal
    → (i : ℕ) → i < length p.seats → each Rest h.standing i ≡ Rest → (call : Call) → MayCall (layer_of p) (core_of h journal) i call → IsStaying call
    → (k : WholeMachine) → Becomes (λ m s. calls s i call) h k → IsLayer p n k journal
layer_called p few n h journal shows i there rests call may staying k is =
    let same : core_of k journal ≡ calls (core_of h journal) i call
    = subst (λ told. core_of k told ≡ calls (core_of h journal) i call) (calls_told (core_of h journal) i call)
    (is.core (layer_of p) (machine_is p h shows.form) journal) in
    record {
      form = form_after (parts_of p) h k is.alike shows.form;
      invariant = subst (IsCoreInvariant (layer_of p)) (sym same)
          (calls_keep (layer_of p) (core_of h journal) i call there shows.invariant rests may);
      stay = subst AllStay (sym same) (calls_stay (core_of h journal) i shows.stay call staying);
      counts = subst (CountsAtMost n) (sym same) (calls_count n (core_of h journal) i shows.counts call);
    }
