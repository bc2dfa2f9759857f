-- A guarded value as it is made.
use Rattle.std.proofs.Common.{◌≡◌, ℕ, zero, suc, ◌+◌, ◌<◌, length, length-append, List, [], ◌∷◌, ◌++◌, map, refl, sym, ap, inl, slice_index, slice_set}
use Rattle.std.proofs.Common.{◌∙◌, subst, arith}
use Rattle.std.specs.List.{All, range_with_len}
use Rattle.std.proofs.lemmas.List.{map-append}
use Rattle.std.proofs.lemmas.List.Elements.{All-map}
use mathlib.Core.Option as slot
use Rattle.running_rows.specs.Rule.{AreFutexes, Opens}
use Rattle.running_rows.specs.Futex.{Futex}
use Rattle.sync_guarded.specs.Rule.{home, guard_rows, ShowsGuard}
use Rattle.sync_guarded.proofs.Keeping.{sleepers_aside}
use Rattle.sync_guarded.specs.Seats.{GuardedModel, SeatModel}
use Rattle.sync_guarded.specs.Making.{new_seat}

-- threads sleep at the lock alone
pub futexes : {T : Type 0} (seats : ℕ) → AreFutexes (guard_rows {T = T}) seats
futexes seats = record {
  two = λ x is e. let a = ap (λ (z : Futex). z.word) is in let b = ap (λ (z : Futex). z.sleepers) is in absurd (omega (arith, e));
  apart = λ x y is also. inl (is ∙ sym also);
  there = λ x world words homes is shows. let a = ap (λ (z : Futex). z.word) is in let b = ap (λ (z : Futex). z.sleepers) is in
      let w = shows.wide in (omega arith, omega arith);
  unseen = λ x world words homes n is shows. subst (λ (z : Futex). ShowsGuard seats world (slice_set words z.sleepers n) homes) (sym is)
      (sleepers_aside seats world words homes n shows);
}

pub opens : {T : Type 0} (seats : ℕ) (x : T) → 0 < seats → Opens guard_rows seats (0 ∷ 0 ∷ []) (slot.some x ∷ [])
opens seats x some_seats = record {
  world = record { word = 0; first = x; at = home x; history = [] };
  shows = record { word_is = refl; wide = refl; lies = (refl, refl); in_turns = refl; there = λ m h. absurd h };
  unwritten = refl;
  unmade = λ n low. record { own = refl; holds = refl };
  some_seats = some_seats;
  futexes = futexes seats;
  none_sleep = λ y is. ap (λ (z : Futex). slice_index (0 ∷ 0 ∷ []) z.sleepers) is;
}

-- one number more
pub range_more : (from n : ℕ) → range_with_len from n ++ (from + n) ∷ [] ≡ range_with_len from (suc n)
range_more from zero = let e : from + 0 ≡ from = omega arith in ap (λ (k : ℕ). k ∷ []) e
range_more from (suc n) = ap (λ l. from ∷ l) (ap (λ (k : ℕ). range_with_len (from + 1) n ++ k ∷ []) (omega arith) ∙ range_more (from + 1) n)

-- the seats are of this value
pub seats_own : {T : Type 0} (seats : ℕ) (g : GuardedModel) (made : List (SeatModel T))
    → made ≡ map (new_seat g) (range_with_len 0 seats) → All (λ s. s.guarded ≡ g) made
seats_own seats g made is = subst (All (λ s. s.guarded ≡ g)) (sym is)
    (All-map (λ s. s.guarded ≡ g) (new_seat g) (range_with_len 0 seats) (λ i n low. refl))

-- one seat more, after those from 1 on
pub seats_more : {T : Type 0} (g : GuardedModel) (made : List (SeatModel T)) (s : SeatModel T) → made ≡ map (new_seat g) (range_with_len 1 (length made))
    → s ≡ new_seat g (length made + 1) → made ++ s ∷ [] ≡ map (new_seat g) (range_with_len 1 (length (made ++ s ∷ [])))
seats_more {T} g made s are is = let n : ℕ = length made in let before = range_with_len 1 n in
    let next : n + 1 ≡ 1 + n = omega arith in let longer : suc n ≡ length (made ++ s ∷ []) = let l = length-append made (s ∷ []) in omega arith in
    ap (λ (l : List (SeatModel T)). l ++ s ∷ []) are
    ∙ ap (λ (x : SeatModel T). map (new_seat g) before ++ x ∷ []) is
    ∙ sym (map-append (new_seat g) before ((n + 1) ∷ []))
    ∙ ap (λ (k : ℕ). map (new_seat g) (before ++ k ∷ [])) next
    ∙ ap (map (new_seat g)) (range_more 1 n)
    ∙ ap (λ (k : ℕ). map (new_seat g) (range_with_len 1 k)) longer

-- and the seat 0 before them
pub seats_all : {T : Type 0} (g : GuardedModel) (seats : ℕ) (made : List (SeatModel T)) (s : SeatModel T) → made ≡ map (new_seat g) (range_with_len 1 (length made))
    → s ≡ new_seat g 0 → length made + 1 ≡ seats → s ∷ made ≡ map (new_seat g) (range_with_len 0 seats)
seats_all {T} g seats made s are is count = let all : suc (length made) ≡ seats = omega arith in
    ap (λ (x : SeatModel T). x ∷ made) is ∙ ap (λ (l : List (SeatModel T)). new_seat g 0 ∷ l) are
    ∙ ap (λ (k : ℕ). map (new_seat g) (range_with_len 0 k)) all
