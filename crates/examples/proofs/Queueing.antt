-- What a worker has after a call.
use Rattle.std.proofs.Common.{◌≡◌, ℕ, ◌+◌, ◌≤◌, false, Ok, List, [], ◌∷◌, inl, inr, slice_index_or, arith, ap, ◌∙◌, subst}
use Rattle.atomic_table.specs.Seated.{TableId}
use Rattle.sync_parts.specs.Entry.{Entry}
use Rattle.sync_parts.specs.World.{Layout}
use Rattle.sync_parts.specs.Journal.{plain_start, IsLawful}
use Rattle.sync_parts.specs.Balances.{added_on, taken_on}
use Rattle.step_law_semaphores.proofs.Balancing.{lawful_balanced}
use Rattle.sync_parts.specs.Wake.{Wake}
use Rattle.sync_parts.specs.Wake.TheVariants.{Nobody, One, Handed}
use Rattle.sync_parts.specs.TableLayout.{layout}
use Rattle.sync_parts.specs.TableSeats.{TableModel, SeatModel}
use Rattle.sync_parts.specs.TableCallers.{IsSeatAfter, AcquiresUnit}
use Rattle.sync_parts.specs.CallersReleasing.{ReleasesUnit}
use Rattle.examples.specs.declared.moves.Moves.{Moves}
use Rattle.examples.specs.Moves.{with_put, with_taken}
use Rattle.examples.specs.Parts.{QueueModel}
use Rattle.examples.specs.Queue.{free, full, IsOf, InBounds, HasPut, HasTaken}

acquired_table : (s u : SeatModel) (c : ℕ) → AcquiresUnit s c false u → u.table ≡ s.table
acquired_table s u c (inl x) = x.table
acquired_table s u c (inr (v, none, (waits, all, inl own))) = own.table ∙ none.0.table
acquired_table s u c (inr (v, none, (waits, all, inr served))) = served.0.table ∙ none.0.table

released_after : (u t : SeatModel) (d : ℕ) (wake : Wake) → ReleasesUnit u d false (Ok (t, wake)) → (told : List Entry) × IsSeatAfter u 1 0 told t
released_after u t d Nobody x = (_, x.1)
released_after u t d (One w) x = (_, x.2)
released_after u t d (Handed w) x = (_, x.2)

-- in a lawful journal no more units of a counter are taken than were there and came
bounded : (m : Layout) (journal : List Entry) (c : ℕ) → IsLawful (plain_start m.starts) journal → taken_on c journal ≤ m.starts c + added_on c journal
bounded m journal c lawful = let all = lawful_balanced (plain_start m.starts) journal c lawful in omega arith

module _ (q : QueueModel) (starts : q.table.setting.starts ≡ q.places ∷ 0 ∷ []) (s u t : SeatModel) (ring at : TableId)
    (m n : Moves) (c d : ℕ) (wake : Wake)
    (mine : IsOf q (record {
      seat = s;
      ring = ring;
      moves = m;
    })) (acquired : AcquiresUnit s c false u) (released : ReleasesUnit u d false (Ok (t, wake))) (same : at ≡ ring) where
  table_u : u.table ≡ q.table
  table_u = acquired_table s u c acquired ∙ mine.0

  own : IsOf q (record { seat = t; ring = at; moves = n })
  own = ((released_after u t d wake released).1.table ∙ table_u, same ∙ mine.1)

  in_bounds : InBounds q t.sight.seen
  in_bounds =
      let seen = (released_after u t d wake released).1.lawful in
      let is : u.table.setting.starts ≡ q.places ∷ 0 ∷ [] = ap (λ (x : TableModel). x.setting.starts) table_u ∙ starts in
      record {
        places = subst (λ (l : List ℕ). taken_on free t.sight.seen ≤ slice_index_or l free 0 + added_on free t.sight.seen) is
            (bounded (layout u.table.setting) t.sight.seen free seen);
        items = let few : taken_on full t.sight.seen ≤ 0 + added_on full t.sight.seen = subst (λ
            (l : List ℕ). taken_on full t.sight.seen ≤ slice_index_or l full 0 + added_on full t.sight.seen) is (bounded
            (layout u.table.setting) t.sight.seen full seen) in omega arith;
      }

module _ (q : QueueModel) (starts : q.table.setting.starts ≡ q.places ∷ 0 ∷ []) (s u t : SeatModel) (ring at : TableId)
    (m n : Moves) (item : ℕ) (wake : Wake)
    (mine : IsOf q (record { seat = s; ring = ring; moves = m })) (same : at ≡ ring) where
  pub has_put : AcquiresUnit s free false u → ReleasesUnit u full false (Ok (t, wake)) → n ≡ with_put m item
      → HasPut q (record { seat = s; ring = ring; moves = m }) item (record { seat = t; ring = at; moves = n })
  has_put acquired released put = record {
    own = own q starts s u t ring at m n free full wake mine acquired released same;
    counters = record { claimed = u; acquired = acquired; wake = wake; released = released };
    bounds = in_bounds q starts s u t ring at m n free full wake mine acquired released same;
    put = put;
  }

  pub has_taken : AcquiresUnit s full false u → ReleasesUnit u free false (Ok (t, wake)) → n ≡ with_taken m item
      → HasTaken q (record { seat = s; ring = ring; moves = m }) item (record { seat = t; ring = at; moves = n })
  has_taken acquired released taken = record {
    own = own q starts s u t ring at m n full free wake mine acquired released same;
    counters = record { claimed = u; acquired = acquired; wake = wake; released = released };
    bounds = in_bounds q starts s u t ring at m n full free wake mine acquired released same;
    taken = taken;
  }
