-- A table as it is made shows the first world.
use Rattle.std.proofs.Common.{◌≡◌, ℕ, zero, suc, ◌+◌, ◌*◌, ◌%◌, ◌^◌, ◌<◌, ◌≤◌, List, [], ◌∷◌, ◌++◌, length}
use Rattle.std.proofs.Common.{replicate, map, get_or, slice_index, slice_index_or}
use Rattle.std.proofs.Common.{inl, inr, All, sym, refl, ap, ◌∙◌, subst, arith, length-append, lt_of_not-le}
use Rattle.std.proofs.lemmas.List.{get_or-append-add, get_or_past, length-map, length-replicate}
use Rattle.std.proofs.lemmas.List.FromFn.{length-map-range_with_len, map-range_with_len_more}
use Rattle.std.specs.List.{range_with_len}
use mathlib.Core.Logic.{dite}
use mathlib.Core.Option.{some}
use native.Mathlib.Decide.{dec_le}
use lib.ListN.{get_elem?}
use Rattle.step_table.specs.declared.word.Word.{Word}
use Rattle.step_table.specs.declared.word.Word.TheVariants.{Counter, Lock, Waiters, Grant}
use Rattle.step_table.specs.World.{SemaWorld, first_world, found}
use Rattle.step_table.specs.Turn.{none}
use Rattle.step_table.specs.Counting.{on}
use Rattle.step_table.proofs.Sums.{nothing, on_else, on_zero}
use Rattle.step_table.proofs.Paths.{goes_on_here}
use Rattle.step_law_semaphores.specs.Served.{served}
use Rattle.sema_table.specs.declared.view.Setting.{Setting}
use Rattle.sema_root.specs.Treap.{tickets_from}
use Rattle.sema_table.specs.Setting.{root, layout, address, apart, words_in, IsThere}
use Rattle.running_rows.specs.Rule.{Opens}
use Rattle.sema_table.specs.Rule.{Knows}
use Rattle.sema_table.specs.Rows.{fresh, semaphore_rows}
use Rattle.std.proofs.lemmas.List.Elements.{All-map}
use Rattle.sema_table.specs.declared.settings.TableKey.{TableKey}
use Rattle.sema_table.specs.Making.{IsMadeWith, new_root, new_roots, new_seat, new_seats}
use Rattle.sema_table.specs.Seats.{TableModel, SeatModel}
use Rattle.sema_table.specs.Futexes.{IsTableFutex}
use Rattle.running_rows.specs.Futex.{Futex}
use Rattle.sema_table.proofs.Futexes.{are_futexes}
use Rattle.sema_table.proofs.Apart.{at_apart, length_apart}

zeros : (n k : ℕ) → ◌≡◌ {A = ℕ} (get_or (replicate n 0) k 0) 0
zeros zero k = refl
zeros (suc n) zero = refl
zeros (suc n) (suc k) = zeros n k

behind : (xs : List ℕ) (n k i : ℕ) → i ≡ 8 * length xs + k → slice_index (apart xs ++ replicate n 0) i ≡ 0
behind xs n k i e = let long = length_apart xs in
    ap (λ (j : ℕ). get_or (apart xs ++ replicate n 0) j 0) (let same : i ≡ length (apart xs) + k = omega (arith, e, long) in same)
    ∙ get_or-append-add (apart xs) (replicate n 0) k 0 ∙ zeros n k

-- the counters' starts with a 0 for each other word are the words of the first world
first_words : (z : Setting) (n : ℕ) (w : Word) → IsThere z w → slice_index (apart z.starts ++ replicate n 0) (address z w)
    ≡ found (root z) (first_world (layout z).starts).words w
first_words z n (Counter c) h = at_apart z.starts (replicate n 0) c h
first_words z n (Lock c) h = behind z.starts n (root z c) (address z (Lock c)) refl
first_words z n (Waiters c) h = behind z.starts n (z.roots + root z c) (address z (Waiters c)) (omega arith)
first_words z n (Grant s) h = behind z.starts n (z.roots + z.roots + s) (address z (Grant s)) (omega arith)

pub words_long : (z : Setting) → length (apart z.starts ++ replicate (z.roots + z.roots + z.seats + z.seats + z.seats + z.roots) 0) ≡ words_in z
words_long z = length-append (apart z.starts) (replicate (z.roots + z.roots + z.seats + z.seats + z.seats + z.roots) 0)
    ∙ (λ i. length_apart z.starts i + length-replicate {A = ℕ} (z.roots + z.roots + z.seats + z.seats + z.seats + z.roots) 0 i) ∙ omega arith

small_starts : (xs : List ℕ) → All (λ n. n < 2 ^ 32) xs → (c : ℕ) → slice_index_or xs c 0 < 2 ^ 32
small_starts xs all c = dite (dec_le (length xs) c) (λ l. let e = get_or_past xs c 0 l in omega (arith, e)) (λ n. all c 0 (lt_of_not-le n))

-- what stands at a place of a list that a function tells
listed : {A : Type 0} (f : ℕ → A) (a n k : ℕ) → k < n → get_elem? (map some (map f (range_with_len a n))) k ≡ some (some (f (a + k)))
listed f a zero k h = absurd (omega arith)
listed f a (suc n) zero h = ap (λ j. some (some (f j))) (omega arith)
listed f a (suc n) (suc k) h = listed f (a + 1) n k (omega arith) ∙ ap (λ j. some (some (f j))) (omega arith)

-- one more of them
pub one_more : {A : Type 0} (f : ℕ → A) (a n j : ℕ) (xs : List A) (x : A) → a + n ≡ j → xs ≡ map f (range_with_len a n) → x ≡ f j
    → xs ++ x ∷ [] ≡ map f (range_with_len a (n + 1))
one_more f a n j xs x at before is = (λ i. before i ++ is i ∷ []) ∙ sym (map-range_with_len_more f a n j at)

-- the seat 0 goes to the front of the others
pub in_front : (t u : TableModel) (n seats : ℕ) (xs : List SeatModel) (x : SeatModel) → t ≡ u → n + 1 ≡ seats → xs ≡ new_seats t 1 n
    → x ≡ new_seat t 0 → ◌≡◌ {A = List SeatModel} (x ∷ xs) (new_seats u 0 seats)
in_front t u n seats xs x same all before is =
    let e : suc n ≡ seats = omega (arith, all) in (λ i. is i ∷ before i) ∙ ap (new_seats t 0) e ∙ ap (λ (y : TableModel). new_seats y 0 seats) same

module _ (z : Setting) where
  abbrev first : SemaWorld
  first = first_world (layout z).starts

  unserved : (k : ℕ) → served (layout z) first k ≡ 0
  unserved k = let a = nothing z.seats (λ i. 0) (λ i. refl) in let o = on_else 0 2 1 (λ e. absurd (omega arith)) in omega (arith, a, o)

  -- a seat that was just made may meet the first world
  meets_first : (k : ℕ) → Knows z k (fresh z) first
  meets_first k = record {
    meets = record { met = none; stands = refl; later = goes_on_here []; quiet = refl };
    held = λ c h. refl;
    takes = let n = unserved k in omega arith;
  }

  -- behind the words of the world lies a 0 in each
  none_sleep : (n : ℕ) (x : Futex) → IsTableFutex z x → slice_index (apart z.starts ++ replicate n 0) x.sleepers ≡ 0
  none_sleep n x (inl a) = behind z.starts n (z.roots + z.roots + z.seats + (z.seats + z.seats + a.0)) x.sleepers
      (let s = ap (λ (y : Futex). y.sleepers) a.2 in omega arith)
  none_sleep n x (inr a) = behind z.starts n (z.roots + z.roots + z.seats + a.0) x.sleepers (let s = ap (λ (y : Futex). y.sleepers) a.2 in omega arith)

  -- words as they are made are those of the first world, and the roots are empty
  pub opens : 0 < z.roots → 0 < z.seats → z.seats ≤ 65536 → z.seats * z.limit ≤ 2 ^ 62 → length z.starts ≤ 65536 → All (λ n. n < 2 ^ 32) z.starts
      → Opens semaphore_rows z (apart z.starts ++ replicate (z.roots + z.roots + z.seats + z.seats + z.seats + z.roots) 0)
      (map some (new_roots z.seats z.seed z.roots))
  opens rooted seated most shares counted starts = record {
    world = first;
    shows = record {
      reached = none;
      small = record { seats = most; starts = small_starts z.starts starts; shares = shares; few = λ k h. omega arith };
      words = first_words z (z.roots + z.roots + z.seats + z.seats + z.seats + z.roots);
      homes = λ r h free. (
        _,
        listed (λ q. new_root z.seats ((z.seed + q) % 2 ^ 64)) 0 z.roots r h,
        record {
          waits = λ c e. refl;
          count = sym (nothing (length z.starts) (λ c. on (root z c) r 0) (λ c. on_zero (root z c) r));
          seats = refl;
          drawn = (0, ap (λ k. tickets_from ((z.seed + k) % 2 ^ 64)) (omega arith));
        },
      );
      wide = words_long z;
      deep = length-map (new_roots z.seats z.seed z.roots) some ∙ length-map-range_with_len _ 0 z.roots;
      rooted = rooted;
      counted = counted;
    };
    unwritten = refl;
    unmade = λ k low. meets_first k;
    some_seats = seated;
    futexes = are_futexes z;
    none_sleep = none_sleep (z.roots + z.roots + z.seats + z.seats + z.seats + z.roots);
  }

-- the seats of a table are of this table
pub seats_own : (k : TableKey) (t : TableModel) (seats : List SeatModel) → IsMadeWith k t seats → All (λ s. s.table ≡ t) seats
seats_own k t seats made =
    subst (All (λ s. s.table ≡ t)) (sym made.seats_are) (All-map (λ s. s.table ≡ t) (new_seat t) (range_with_len 0 k.settings.seats) (λ i n low. refl))
