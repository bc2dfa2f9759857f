-- A run keeps form and bounds: it starts with them, and each step by a changed table keeps them.
use Rattle.std.proofs.Common.{◌≡◌, ℕ, ◌+◌, ◌<◌, None, length, refl, ap, ◌∙◌, arith}
use Rattle.step_table.specs.declared.list_place.ListPlace.{ListPlace}
use Rattle.step_table.specs.declared.place.Place.{Place}
use Rattle.step_table.specs.declared.parts.Parts.{Parts}
use Rattle.step_table.specs.declared.standing.Standing.{Standing}
use Rattle.step_table.specs.declared.standing.Standing.TheVariants.{Rest, AtCounter, AtList, AtGroup, Failed, Left}
use Rattle.step_law_alike.specs.declared.variant.Variant.{Variant}
use Rattle.step_table.specs.World.{SeatState, put}
use Rattle.step_table.specs.Counting.{total}
use Rattle.step_table.specs.ListWorld.{ListSeat, ListWorld}
use Rattle.step_table.specs.ListSteps as list
use Rattle.step_table.specs.Core.{Core, counters_of}
use Rattle.step_table.specs.Run.{Run, layout, stepped, refusal_of, refusal}
use Rattle.step_law_whole.specs.RunInvariant.{may_add, to_take, holds, more_to_add, IsSoundRunOf, IsScenario}
use Rattle.step_law_alike.specs.Changed.{changed_place, changed_list_place, changed, changed_stepped}
use Rattle.step_law_alike.specs.ChangedInvariant.{IsWellFormedCore, WaitersRaisedIn}
use Rattle.step_table.proofs.Sums.{put_at, total_same}
use Rattle.step_law_whole.proofs.CoreCalling as calling
use Rattle.step_law_whole.proofs.CoreKeeping as keeping
use Rattle.step_law_whole.proofs.RunBeginning.{KeepsRuns}
use Rattle.step_law_whole.proofs.RunStepping.{is_there, can_run_at, steps_so}
use Rattle.step_law_whole.proofs.CoreCalling.{left_kept}
use Rattle.step_law_alike.proofs.ChangedPlaces.{IsAsGood, IsAsGoodOnList, as_good, as_good_on_list, changes, list_changes}
use Rattle.step_law_alike.proofs.ChangedRaising.{waiters_stepped}
use Rattle.step_law_alike.proofs.ChangedCore.{well_formed_keep, well_formed_core_first, well_formed_changed, goods, list_goods}

pub well_formed_runs : (parts : Parts) → KeepsRuns parts (IsWellFormedCore (layout parts))
well_formed_runs parts = record {
  starts = well_formed_core_first (layout parts);
  stand = λ s inv. inv.standing;
  known = λ s i there inv. record { seat = inv.semaphores.seats i; finds = inv.semaphores.finds i there };
  called = calling.called (layout parts) (well_formed_keep (layout parts));
  rests = λ s i skips there inv at. left_kept (layout parts) s i skips inv at;
  kept = keeping.kept (layout parts) (well_formed_keep (layout parts));
}

pub well_formed_stepped : (parts : Parts) (run : Run) (i : ℕ) → IsScenario parts → IsSoundRunOf (IsWellFormedCore (layout parts)) parts run
    → refusal parts run i ≡ None → IsSoundRunOf (IsWellFormedCore (layout parts)) parts (stepped parts run i)
well_formed_stepped parts run i scenario sound free = steps_so parts (well_formed_runs parts) run i scenario sound free

-- a place that is as good adds as much
adds_same : {p q : Place} → IsAsGood p q → (standing : Standing) → may_add q standing ≡ may_add p standing
adds_same good (AtCounter after) = ap (λ n. n + more_to_add after) good.to_add
adds_same good _ = refl

module _ (v : Variant) (parts : Parts) (s : Core) (run : Run) (i : ℕ) (there : i < length parts.calls)
    (sound : IsSoundRunOf (IsWellFormedCore (layout parts)) parts run) where
  pub runs_changed : (standing : Standing)
      → IsSoundRunOf (IsWellFormedCore (layout parts)) parts (record run { core = changed v s run.core i standing })
  runs_changed (AtCounter after) =
      let t : Core = run.core in
      let place : Place = changed_place v (s.semaphores.seats i).place (t.semaphores.seats i).place in
      let good = as_good (changes v (s.semaphores.seats i).place (t.semaphores.seats i).place) in
      let seat : SeatState = record (t.semaphores.seats i) { place = place } in
      record {
        core = well_formed_changed v (layout parts) s t i there sound.core (AtCounter after);
        begun = sound.begun;
        ended = sound.ended;
        tickets = sound.tickets;
        skipped = sound.skipped;
        words = sound.words;
        carried = sound.carried;
        units =
            let is : total (length parts.calls) (λ k. may_add (put t.semaphores.seats i seat k).place (t.standing k))
            ≡ total (length parts.calls) (λ k. may_add (t.semaphores.seats k).place (t.standing k))
            = total_same (length parts.calls) (λ k. may_add (put t.semaphores.seats i seat k).place (t.standing k))
            (λ k. may_add (t.semaphores.seats k).place (t.standing k)) (λ k lt. adds_same (goods t i place good k) (t.standing k)) in
            let before = sound.units in omega arith;
        handed = sound.handed;
      }
  runs_changed (AtList l ending) =
      let t : Core = run.core in
      let place : ListPlace = changed_list_place v (s.lists l).words.notify ((s.lists l).seats i).place ((t.lists l).seats i).place in
      let good = as_good_on_list (list_changes v (s.lists l).words.notify ((s.lists l).seats i).place ((t.lists l).seats i).place) in
      let w : ListWorld = list.moved (t.lists l) i place in
      record {
        core = well_formed_changed v (layout parts) s t i there sound.core (AtList l ending);
        begun = sound.begun;
        ended = sound.ended;
        tickets = λ k j. held t l w i place good k j ∙ sound.tickets k j;
        skipped = sound.skipped;
        words = sound.words;
        carried = sound.carried;
        units = sound.units;
        handed = λ j.
            (let is : total (length parts.calls) (λ k. to_take ((put t.lists l w j).seats k).place)
            ≡ total (length parts.calls) (λ k. to_take ((t.lists j).seats k).place)
            = total_same (length parts.calls) (λ k. to_take ((put t.lists l w j).seats k).place) (λ k. to_take ((t.lists j).seats k).place)
            (λ k lt. (list_goods t i l place good k j).to_take) in
            let number = put_at (λ j (w : ListWorld). w.words.numbers.handed ≡ (t.lists j).words.numbers.handed) t.lists l w j refl (λ ne. refl) in
            let before = sound.handed j in omega arith);
      }
    where
      held : (t : Core) (l : ℕ) (w : ListWorld) (i : ℕ) (place : ListPlace) → IsAsGoodOnList ((t.lists l).seats i).place place
          → (k j : ℕ) → holds ((put t.lists l (list.moved (t.lists l) i place) j).seats k) ≡ holds ((t.lists j).seats k)
      held t l w i place good k j =
          put_at (λ j (w : ListWorld). holds (w.seats k) ≡ holds ((t.lists j).seats k)) t.lists l (list.moved (t.lists l) i place) j
          (put_at (λ k (z : ListSeat). holds z ≡ holds ((t.lists l).seats k)) (t.lists l).seats i
          (record ((t.lists l).seats i) { place = place }) k (good.has ((t.lists l).seats i).ticket) (λ ne. refl))
          (λ ne. refl)
  runs_changed Rest = sound
  runs_changed (AtGroup g row) = sound
  runs_changed (Left skips) = sound
  runs_changed (Failed misuse) = sound

-- a step by a changed table keeps form and bounds, and the count of waiter words
pub changed_kept : (v : Variant) (parts : Parts) (run : Run) (i : ℕ) → IsScenario parts → IsSoundRunOf (IsWellFormedCore (layout parts)) parts run
    → WaitersRaisedIn v (counters_of (layout parts)) run.core.semaphores → refusal parts run i ≡ None
    → IsSoundRunOf (IsWellFormedCore (layout parts)) parts (changed_stepped v parts run i)
    × WaitersRaisedIn v (counters_of (layout parts)) (changed_stepped v parts run i).core.semaphores
changed_kept v parts run i scenario sound waiters free =
    let there = is_there i (length parts.calls) (refusal_of (layout parts) run.core i (run.core.standing i)) free in (
      runs_changed v parts run.core (stepped parts run i) i there.0 (well_formed_stepped parts run i scenario sound free) (run.core.standing i),
      waiters_stepped v parts run i there.0 sound.core waiters (can_run_at (layout parts) run.core i (run.core.standing i) there.1),
    )
