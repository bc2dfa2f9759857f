-- The machine keeps form and bounds where a seat goes on as a changed table leads.
use Rattle.std.proofs.Common.{◌≡◌, ℕ, ◌<◌, refl}
use Rattle.step_table.specs.declared.list_place.ListPlace.{ListPlace}
use Rattle.step_table.specs.declared.place.Place.{Place}
use Rattle.step_table.specs.declared.standing.Standing.{Standing}
use Rattle.step_table.specs.declared.standing.Standing.TheVariants.{Rest, AtCounter, AtList, AtGroup, Failed, Left}
use Rattle.step_law_alike.specs.declared.variant.Variant.{Variant}
use Rattle.step_table.specs.World.{SeatState, put}
use Rattle.step_table.specs.ListWorld.{ListSeat, ListWorld}
use Rattle.step_table.specs.ListSteps as list
use Rattle.step_table.specs.Core.{CoreLayout, Core, counters_of, list_entries, first_core}
use Rattle.step_law_whole.specs.CoreLaw.{IsStanding, IsBesideGroup}
use Rattle.step_law_alike.specs.Changed.{changed_place, changed_list_place, changed}
use Rattle.step_law_alike.specs.ChangedInvariant.{IsWellFormedCore}
use Rattle.step_law_lists.specs.ListWellFormed.{IsWellFormedWhileFew}
use Rattle.step_law_semaphores.specs.WellFormed.{IsWellFormedWorld}
use Rattle.step_table.proofs.Sums.{put_at}
use Rattle.step_law_whole.proofs.CoreStanding.{StepsKeep}
use Rattle.step_law_alike.proofs.ChangedPlaces.{IsAsGood, IsAsGoodOnList, same, same_place, as_good, as_good_on_list, changes, list_changes}
use Rattle.step_law_alike.proofs.ChangedCounters.{well_formed_first, well_formed_kept, well_formed_moved}
use Rattle.step_law_alike.proofs.ChangedLists.{well_formed_list_first, well_formed_list_kept, well_formed_list_moved}
use Rattle.step_table.specs.declared.standing.GroupRow.{GroupRow}
use Rattle.step_table.specs.declared.standing.GroupRow.TheVariants.{V1, V2, V4, V5}

pub well_formed_keep : (m : CoreLayout) → StepsKeep (IsWellFormedWorld (counters_of m)) (λ l w. IsWellFormedWhileFew (m.firsts l) m.seats w) m
well_formed_keep m = record {
  counters = well_formed_kept (counters_of m);
  lists = λ l s t i there known step. well_formed_list_kept (m.firsts l) m.seats i s t there known step;
}

pub well_formed_core_first : (m : CoreLayout) → IsWellFormedCore m (first_core m)
well_formed_core_first m = record {
  semaphores = well_formed_first (counters_of m);
  lists = λ l few. well_formed_list_first (m.firsts l) m.seats;
  journals = record { semaphores = refl; lists = λ l. refl };
  standing = λ k. (refl, (λ l. refl));
}

beside_good : (m : CoreLayout) (g : ℕ) (row : GroupRow) {p q : Place} → IsAsGood p q → IsBesideGroup m g row p → IsBesideGroup m g row q
beside_good m g (V1 ending) good is = (good.rest is.0, is.1)
beside_good m g (V2 ending w) good is = (good.rest is.0, is.1)
beside_good m g (V4 how) good is = good.queued m g is
beside_good m g (V5 how w) good is = good.queued m g is
beside_good m g row good is = good.rest is

-- a seat stands as it stood where its places are as good
carry_good : (m : CoreLayout) (s t : Core) (k : ℕ) (standing : Standing) → IsAsGood (s.semaphores.seats k).place (t.semaphores.seats k).place
    → ((l : ℕ) → IsAsGoodOnList ((s.lists l).seats k).place ((t.lists l).seats k).place) → IsStanding m s k standing → IsStanding m t k standing
carry_good m s t k Rest good lists is = (good.rest is.0, (λ l. (lists l).still (is.1 l)))
carry_good m s t k (AtCounter after) good lists is = (good.call m after is.0, (λ l. (lists l).still (is.1 l)))
carry_good m s t k (AtList l ending) good lists is =
    (good.rest is.0, (lists l).call ending is.1, is.2, (λ j ne. (lists j).still (is.3 j ne)))
carry_good m s t k (AtGroup g row) good lists is = (beside_good m g row good is.0, is.1, (λ l. (lists l).still (is.2 l)))
carry_good m s t k (Left skips) good lists is = (good.rest is.0, (λ l. (lists l).still (is.1 l)))
carry_good m s t k (Failed misuse) good lists is = (good.rest is.0, (λ l. (lists l).still (is.1 l)))

-- seat i at a place on the counters that is as good
pub goods : (t : Core) (i : ℕ) (place : Place) → IsAsGood (t.semaphores.seats i).place place → (k : ℕ)
    → IsAsGood (t.semaphores.seats k).place (put t.semaphores.seats i (record (t.semaphores.seats i) { place = place }) k).place
goods t i place good k =
    put_at (λ k (z : SeatState). IsAsGood (t.semaphores.seats k).place z.place) t.semaphores.seats i (record (t.semaphores.seats i) { place = place }) k
    good (λ ne. as_good same)

-- and on the list l
pub list_goods : (t : Core) (i l : ℕ) (place : ListPlace) → IsAsGoodOnList ((t.lists l).seats i).place place → (k j : ℕ)
    → IsAsGoodOnList ((t.lists j).seats k).place ((put t.lists l (list.moved (t.lists l) i place) j).seats k).place
list_goods t i l place good k j =
    put_at (λ j (w : ListWorld). IsAsGoodOnList ((t.lists j).seats k).place (w.seats k).place) t.lists l (list.moved (t.lists l) i place) j
    (put_at (λ k (z : ListSeat). IsAsGoodOnList ((t.lists l).seats k).place z.place) (t.lists l).seats i
    (record ((t.lists l).seats i) { place = place }) k good (λ ne. as_good_on_list same_place))
    (λ ne. as_good_on_list same_place)

module _ (v : Variant) (m : CoreLayout) (s t : Core) (i : ℕ) (there : i < m.seats) (inv : IsWellFormedCore m t) where
  pub well_formed_changed : (standing : Standing) → IsWellFormedCore m (changed v s t i standing)
  well_formed_changed (AtCounter after) =
      let place : Place = changed_place v (s.semaphores.seats i).place (t.semaphores.seats i).place in
      let good = as_good (changes v (s.semaphores.seats i).place (t.semaphores.seats i).place) in
      record {
        semaphores = well_formed_moved (counters_of m) t.semaphores i there place good inv.semaphores;
        lists = inv.lists;
        journals = record { semaphores = inv.journals.semaphores; lists = inv.journals.lists };
        standing = λ k.
            carry_good m t (changed v s t i (AtCounter after)) k (t.standing k) (goods t i place good k) (λ l. as_good_on_list same_place) (inv.standing k);
      }
  well_formed_changed (AtList l ending) =
      let place : ListPlace = changed_list_place v (s.lists l).words.notify ((s.lists l).seats i).place ((t.lists l).seats i).place in
      let good = as_good_on_list (list_changes v (s.lists l).words.notify ((s.lists l).seats i).place ((t.lists l).seats i).place) in
      let w : ListWorld = list.moved (t.lists l) i place in
      record {
        semaphores = inv.semaphores;
        lists = λ j. put_at (λ j w. IsWellFormedWhileFew (m.firsts j) m.seats w) t.lists l w j
            (well_formed_list_moved (m.firsts l) m.seats i (t.lists l) there place good (inv.lists l)) (λ ne. inv.lists j);
        journals = record {
          semaphores = inv.journals.semaphores;
          lists =
              λ j. put_at (λ j (w : ListWorld). w.journal ≡ list_entries j t.journal) t.lists l w j (inv.journals.lists l) (λ ne. inv.journals.lists j);
        };
        standing = λ k.
            carry_good m t (changed v s t i (AtList l ending)) k (t.standing k) (as_good same) (list_goods t i l place good k) (inv.standing k);
      }
  well_formed_changed Rest = inv
  well_formed_changed (AtGroup g row) = inv
  well_formed_changed (Left skips) = inv
  well_formed_changed (Failed misuse) = inv
