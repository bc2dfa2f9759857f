-- A word as it is made shows that nothing was run.
use Rattle.std.proofs.Common.{◌≡◌, ℕ, zero, suc, ◌+◌, ◌-◌, ◌<◌, List, [], ◌∷◌, ◌++◌, map, refl, sym, ap, ◌∙◌, subst, arith}
use Rattle.std.specs.List.{All, range_with_len}
use Rattle.std.specs.Prelude.{reverse}
use Rattle.std.proofs.lemmas.List.{reverse-append}
use Rattle.std.proofs.lemmas.List.Elements.{All-map}
use mathlib.Core.Option.{Option}
use Rattle.step_table.specs.declared.standing.GroupNext.TheVariants.{Ends}
use Rattle.step_table.specs.Group.{empty_word}
use Rattle.running_rows.specs.Rule.{Opens}
use Rattle.sync_parts.specs.GroupRule.{group_rows}
use Rattle.sync_parts.specs.GroupSeats.{GroupModel, GroupSeatModel}
use Rattle.sync_parts.specs.GroupMaking.{seat_on, IsGroupMade}
use Rattle.sema_table.specs.Seats.{TableModel, SeatModel}
use Rattle.sema_table.specs.Making.{new_seat, new_seats}

pub opens : (seats : ℕ) (homes : List (Option (Unit {0}))) → 0 < seats → Opens group_rows seats (0 ∷ []) homes
opens seats homes some_seats = record {
  world = record { word = empty_word; nexts = λ k. Ends; history = [] };
  shows = record { word_is = refl; leads = refl; there = λ m h. absurd h; wide = omega arith };
  unwritten = refl;
  unmade = λ n low. record { own = refl; calls = refl };
  some_seats = some_seats;
  futexes = record {
    two = λ x is. absurd is;
    apart = λ x y is. absurd is;
    there = λ x world words homes is. absurd is;
    unseen = λ x world words homes n is. absurd is;
  };
  none_sleep = λ x is. absurd is;
}

-- the numbers of new seats
pub numbers : (t : TableModel) (n count : ℕ) → map (λ s. s.number) (new_seats t n count) ≡ range_with_len n count
numbers t n zero = refl
numbers t n (suc count) = ap (λ l. n ∷ l) (numbers t (n + 1) count)

abbrev head_of : List ℕ → ℕ
head_of [] = 0
head_of (x ∷ xs) = x

abbrev tail_of : List ℕ → List ℕ
tail_of [] = []
tail_of (x ∷ xs) = xs

-- the first of seats whose numbers are in order, and the rest
next_number : (n count : ℕ) (s : SeatModel) (rest : List SeatModel) → map (λ s. s.number) (s ∷ rest) ≡ range_with_len n count
    → (s.number ≡ n) × (0 < count) × (map (λ s. s.number) rest ≡ range_with_len (n + 1) (count - 1))
next_number n zero s rest e = absurd (cc)
next_number n (suc count) s rest e = (
  ap head_of e,
  omega arith,
  ap tail_of e ∙ ap (range_with_len (n + 1)) (omega arith),
)

-- what was taken off the end comes first from the other side
pub turned : {A : Type 0} (all rest : List A) (x : A) → all ≡ rest ++ x ∷ [] → reverse all ≡ x ∷ reverse rest
turned all rest x e = ap reverse e ∙ reverse-append rest (x ∷ [])

pub popped : (n count : ℕ) (all rest : List SeatModel) (s : SeatModel) → all ≡ rest ++ s ∷ []
    → map (λ s. s.number) (reverse all) ≡ range_with_len n count
    → (s.number ≡ n) × (0 < count) × (map (λ s. s.number) (reverse rest) ≡ range_with_len (n + 1) (count - 1))
popped n count all rest s e in_order = next_number n count s (reverse rest) (ap (map (λ s. s.number)) (sym (turned all rest s e)) ∙ in_order)

-- the seats of a group are of this group
pub seats_own : (seats : ℕ) (g : GroupModel) (made : List GroupSeatModel) → IsGroupMade seats g made → All (λ s. s.group ≡ g) made
seats_own seats g made is = subst (All (λ s. s.group ≡ g)) (sym is.seats_are)
    (All-map (λ s. s.group ≡ g) (seat_on g.word) (new_seats g.sema 0 seats)
    (All-map (λ s. (seat_on g.word s).group ≡ g) (new_seat g.sema) (range_with_len 0 seats) (λ i n low. refl)))
