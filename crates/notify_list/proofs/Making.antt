-- A list as it is made.
use Rattle.std.proofs.Common.{◌≡◌, ℕ, zero, suc, ◌+◌, ◌-◌, ◌%◌, ◌^◌, ◌<◌, List, [], ◌∷◌, ◌++◌, length, replicate, map, get_or}
use Rattle.std.proofs.Common.{slice_index, All, sym, refl, ap, ◌∙◌}
use Rattle.std.proofs.Common.{subst, arith}
use Rattle.std.proofs.lemmas.List.{length-replicate}
use Rattle.std.proofs.lemmas.List.FromFn.{map-range_with_len_more}
use Rattle.std.proofs.lemmas.List.Elements.{All-map}
use Rattle.std.proofs.Math.Nat.{mod-eq_of_lt}
use Rattle.std.specs.List.{range_with_len}
use mathlib.Core.Option.{some}
use Rattle.step_table.specs.declared.list_place.ListWord.{ListWord}
use Rattle.step_table.specs.declared.list_place.ListWord.TheVariants.{Wait, Notify, Lock, Grant}
use Rattle.step_table.specs.Wrapping.{word_of}
use Rattle.step_table.specs.ListWorld.{found, first_list}
use Rattle.step_table.specs.ListSteps.{none}
use Rattle.step_table.proofs.Paths.{goes_on_here}
use Rattle.step_law_lists.proofs.ListPromises.{the_list_law}
use Rattle.running_rows.specs.Futex.{Futex}
use Rattle.running_rows.specs.Rule.{Opens, fresh_seat}
use Rattle.notify_list.specs.declared.view.Record.{Record}
use Rattle.notify_list.specs.declared.view.Setting.{Setting}
use Rattle.notify_list.specs.Setting.{address, words_in, IsThere}
use Rattle.notify_list.specs.Rule.{nothing_guarded, IsMet, Lands, IsRecord, fresh}
use Rattle.notify_list.specs.Futexes.{IsFutex}
use Rattle.notify_list.specs.Rows.{list_rows}
use Rattle.notify_list.proofs.Futexes.{are_futexes, far_away}
use Rattle.notify_list.specs.Making.{IsMadeWith, AreAllowed, new_seat, new_seats}
use Rattle.notify_list.specs.Places.{is_free}
use Rattle.notify_list.specs.Plays.{OneSeat}
use Rattle.notify_list.specs.Seats.{ListModel, SeatModel, Token, IsSeat}

zeros : (n k : ℕ) → ◌≡◌ {A = ℕ} (get_or (replicate n 0) k 0) 0
zeros zero k = refl
zeros (suc n) zero = refl
zeros (suc n) (suc k) = zeros n k

-- the words of a list at its start
abbrev pub words_of : Setting → List ℕ
words_of z = z.first ∷ z.first ∷ replicate (2 + z.seats + z.seats + z.seats + z.seats + z.seats) 0

pub words_long : (z : Setting) → length (words_of z) ≡ words_in z
words_long z = ap (λ (k : ℕ). suc (suc k)) (length-replicate (2 + z.seats + z.seats + z.seats + z.seats + z.seats) 0) ∙ omega arith

at_start : (first : ℕ) → first < 2 ^ 64 → first ≡ word_of first 0
unfolding word_of
at_start first fits = sym (ap (λ (k : ℕ). k % 2 ^ 64) (let e : first + 0 ≡ first = omega arith in e) ∙ mod-eq_of_lt fits)

first_words : (z : Setting) → z.first < 2 ^ 64 → (w : ListWord) → IsThere z w
    → slice_index (words_of z) (address w) ≡ found (first_list z.first).words w
first_words z fits Wait h = at_start z.first fits
first_words z fits Notify h = at_start z.first fits
first_words z fits Lock h = zeros (2 + z.seats + z.seats + z.seats + z.seats + z.seats) 0
first_words z fits (Grant s) h = ap (λ i. get_or (words_of z) i 0) (let e : 3 + s ≡ suc (suc (1 + s)) = omega arith in e)
    ∙ zeros (2 + z.seats + z.seats + z.seats + z.seats + z.seats) (1 + s)

-- nobody sleeps yet
none_sleep : (z : Setting) (x : Futex) → IsFutex z x → slice_index (words_of z) x.sleepers ≡ 0
none_sleep z x is = let far = far_away z x is in let k : ℕ = x.sleepers - 2 in
    ap (λ i. get_or (words_of z) i 0) (let e : x.sleepers ≡ suc (suc k) = omega arith in e)
    ∙ zeros (2 + z.seats + z.seats + z.seats + z.seats + z.seats) k

-- one more of them
pub one_more : {A : Type 0} (f : ℕ → A) (a n j : ℕ) (xs : List A) (x : A) → a + n ≡ j → xs ≡ map f (range_with_len a n) → x ≡ f j
    → xs ++ x ∷ [] ≡ map f (range_with_len a (n + 1))
one_more f a n j xs x at before is = (λ i. before i ++ is i ∷ []) ∙ sym (map-range_with_len_more f a n j at)

-- the seat 0 goes to the front of the others
pub in_front : (t u : ListModel) (n seats : ℕ) (xs : List SeatModel) (x : SeatModel) → t ≡ u → n + 1 ≡ seats → xs ≡ new_seats t 1 n
    → x ≡ new_seat t 0 → ◌≡◌ {A = List SeatModel} (x ∷ xs) (new_seats u 0 seats)
in_front t u n seats xs x same all before is =
    let e : suc n ≡ seats = omega (arith, all) in (λ i. is i ∷ before i) ∙ ap (new_seats t 0) e ∙ ap (λ (y : ListModel). new_seats y 0 seats) same

-- the first world is met
first_met : (z : Setting) → IsMet z (first_list z.first)
first_met z = record {
  reached = none;
  reach = (the_list_law.early z.first z.seats (first_list z.first) none (omega arith)).1;
  early = λ n late. refl;
  going = λ k there. tt;
  parked = λ k t row there at early fresh some. absurd cc;
}

-- a seat that was just made may meet the first world, which is its own
pub lands_fresh : (z : Setting) (k : ℕ) → Lands k (fresh z)
lands_fresh z k = record { world = first_list z.first; met = first_met z; sees = refl; guarded = refl }

-- words and record of a list as it is made show the first world
pub opens : (z : Setting) (y : Record) → z.first < 2 ^ 64 → AreAllowed z.seats → IsRecord z y nothing_guarded
    → Opens list_rows z (words_of z) (map some (y ∷ []))
opens z y fits seats empty = record {
  world = first_list z.first;
  shows = record {
    met = first_met z;
    words = first_words z fits;
    home = λ free. (y, refl, empty);
    wide = words_long z;
    deep = refl;
    few = seats.1;
  };
  unwritten = refl;
  unmade = λ n low. record {
    meets = record { met = none; stands = refl; later = goes_on_here []; quiet = refl };
    held = λ h. refl;
  };
  some_seats = (let k = seats.0 in omega arith);
  futexes = are_futexes z;
  none_sleep = none_sleep z;
}

-- the seats of a list are of this list
pub seats_own : (z : Setting) (t : ListModel) (seats : List SeatModel) → IsMadeWith z t seats → All (λ s. s.list ≡ t) seats
seats_own z t seats made =
    subst (All (λ s. s.list ≡ t)) (sym made.seats_are) (All-map (λ s. s.list ≡ t) (new_seat t) (range_with_len 0 z.seats) (λ i n low. refl))

-- a token of a seat that has run nothing
pub seat_made : (t : Token) (z : Setting) (number : ℕ) → t.me.0.own ≡ fresh_seat list_rows z number → t.me.1 ≡ [] → number < z.seats
    → AreAllowed z.seats → IsSeat t number
seat_made t z number is bare there allowed = record {
  token_is = record {
    bare = bare;
    number_is = ap (λ (u : OneSeat). u.number) is;
    there = let e = ap (λ (u : OneSeat). u.knows.setting.seats) is in omega arith;
    few = let e = ap (λ (u : OneSeat). u.knows.setting.seats) is in let k = allowed.1 in omega arith;
    lands = subst (λ (u : OneSeat). Lands u.number u.knows) (sym is) (lands_fresh z number);
  };
  free = ap (λ (u : OneSeat). is_free u.knows.sight.stands.place) is;
  holds_none = ap (λ (u : OneSeat). u.knows.sight.stands.ticket) is;
}
