use Rattle.std.proofs.Common.{◌≡◌, ℕ, ◌+◌, ◌-◌, ◌<◌, ◌++◌, List, [], ◌∷◌, length, map}
use Rattle.std.specs.Prelude.{reverse}
use Rattle.std.specs.List.{range_with_len}
use Rattle.sync_parts.specs.GroupSeats.{GroupSeatModel}
use Rattle.sync_parts.specs.GroupMaking.{has_made, seat_on}
use Rattle.sync_parts.proofs.group_make.seat_all.Given as goal

abbrev pub invariant-loop-sema : goal.invariant-loop-sema
invariant-loop-sema l = record {
  first : l.first.table_id ≡ l.word.id;
  makes : l.first.me ≡ (has_made l.word.seats (length l.made.items + 1), []);
  own : ◌≡◌ {A = ℕ} l.own.number 0;
  numbers : ◌≡◌ {A = List ℕ} (map (λ s. s.number) (reverse l.rest.items))
      (range_with_len (length l.made.items + 1) (l.word.seats - (length l.made.items + 1)));
  seated : ◌≡◌ {A = List GroupSeatModel} (seat_on l.word.id l.own ∷ (l.made.items ++ map (seat_on l.word.id) (reverse l.rest.items)))
      (map (seat_on l.word.id) l.fn.seats.items);
  room : length l.made.items + length l.rest.items < l.made.cap;
}

abbrev pub decreases-loop-sema : goal.decreases-loop-sema
decreases-loop-sema l = goal.left-loop-sema l
