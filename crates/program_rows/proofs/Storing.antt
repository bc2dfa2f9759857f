-- A seat or a word that is stored anew shows the world with that one changed.
use Rattle.std.proofs.Common.{◌≡◌, ℕ, ℤ, ◌<◌, pos, List, All, length, get_or, set, Option, Some, None, refl, sym, ap, ◌∙◌}
use Rattle.std.proofs.Common.{length-set, subst}
use Rattle.std.proofs.lemmas.Option.{slice_get_read, get_or_from_slice_get}
use native.Mathlib.Decide.{ℕ_discrete}
use mathlib.Core.Path.{fun_ext}
use Rattle.program_rows.specs.declared.seat.Seat.{Seat}
use Rattle.program_rows.specs.Stored.{Stored, world_over, seat_of, seats_of, grants_of, no_seat, IsSameSize}
use Rattle.program_rows.specs.Rows.{Does, reads_at}
use Rattle.program_steps.specs.declared.stand.Sleeper.{Sleeper}
use Rattle.program_steps.specs.declared.stand.Then.{Then}
use Rattle.program_steps.specs.declared.stand.Then.TheVariants.{OnFromNext, Fails}
use Rattle.program_code.specs.declared.operand.CodePlace.{CodePlace}
use Rattle.program_steps.specs.Reading.{place_of}
use Rattle.program_steps.specs.declared.failure.Failure.TheVariants.{Index}
use Rattle.program_steps.specs.Going.{with_register}
use Rattle.program_steps.specs.Steps.{Did, on_word, reading, with_seat}
use Rattle.program_steps.specs.World.{ProgramWorld, ProgramSeat}
use Rattle.step_table.specs.Core.{Core}
use Rattle.step_rows.specs.Stored.{each}
use Rattle.step_rows.proofs.Storing.{each_set}
use Rattle.step_table.specs.World.{put}
use Rattle.step_table.proofs.Sums.{put_here, put_else}

-- what is read of each seat where one is changed
read_put : {A B : Type 0} (f : A → B) (g : ℕ → A) (i : ℕ) (x : A) → (λ k. f (put g i x k)) ≡ put (λ k. f (g k)) i (f x)
read_put f g i x = fun_ext (λ k. by k (ℕ_discrete k i))
  where
    by : (k : ℕ) → Dec (k ≡ i) → f (put g i x k) ≡ put (λ k. f (g k)) i (f x) k
    by k (yes e) = rw e (ap f (put_here g i x) ∙ sym (put_here (λ k. f (g k)) i (f x)))
    by k (no ne) = ap f (put_else g i x k ne) ∙ sym (put_else (λ k. f (g k)) i (f x) k ne)

put_as_it_was : {A : Type 0} (g : ℕ → A) (i : ℕ) (x : A) → x ≡ g i → put g i x ≡ g
put_as_it_was g i x same = fun_ext (λ k. by k (ℕ_discrete k i))
  where
    by : (k : ℕ) → Dec (k ≡ i) → put g i x k ≡ g k
    by k (yes e) = rw e (put_here g i x ∙ same)
    by k (no ne) = put_else g i x k ne

pub same_size : (s : Stored) → IsSameSize s s
same_size s = record { words = refl; seats = refl; there = λ t. t }

-- one seat is stored anew
module _ (seats : List Seat) (i : ℕ) (there : i < length seats) (seat : Seat) where
  pub seats_show : seats_of (set seats i seat) ≡ put (seats_of seats) i (seat_of seat)
  seats_show = (λ j k. seat_of (each_set no_seat seats i seat there j k)) ∙ read_put seat_of (each no_seat seats) i seat

  pub grants_show : grants_of (set seats i seat) ≡ put (grants_of seats) i seat.grant
  grants_show =
      (λ j k. (each_set no_seat seats i seat there j k).grant) ∙ read_put (λ (s : Seat). s.grant) (each no_seat seats) i seat

  pub seats_kept : seat_of seat ≡ seat_of (each no_seat seats i)
      → seats_of (set seats i seat) ≡ seats_of seats
  seats_kept same = seats_show ∙ put_as_it_was (seats_of seats) i (seat_of seat) same

  pub grants_kept : seat.grant ≡ (each no_seat seats i).grant
      → grants_of (set seats i seat) ≡ grants_of seats
  grants_kept same = grants_show ∙ put_as_it_was (grants_of seats) i seat.grant same

-- the size of what is stored where words and a seat are set
pub set_size : (s : Stored) (words : List ℤ) (i : ℕ) (seat : Seat) → length words ≡ length s.words
    → IsSameSize s (record { words = words; sleepers = s.sleepers; seats = set s.seats i seat })
set_size s words i seat same = record {
  words = same;
  seats = length-set s.seats i seat;
  there = λ t. subst (λ n. All (λ (x : Sleeper). x.seat < n) s.sleepers) (sym (length-set s.seats i seat)) t;
}

-- a word and a register change
module _ (s : Stored) (i : ℕ) (there : i < length s.seats) (r : Option ℕ) (w : ℕ) (within : w < length s.words) (x : ℤ) where
  pub read_does : (seat : Seat)
      → seat_of seat ≡ with_register (seat_of (each no_seat s.seats i)) r (each (pos 0) s.words w)
      → seat.grant ≡ (each no_seat s.seats i).grant
      → Does (reads_at i r w x) s (record { words = set s.words w x; sleepers = s.sleepers; seats = set s.seats i seat }) OnFromNext
  read_does seat is grant = record {
    did = λ layer. sym (λ j. Some (record {
      world = record {
        words = each_set (pos 0) s.words w x within j;
        layer = layer;
        sleepers = s.sleepers;
        grants = grants_kept s.seats i there seat grant j;
        seats = shown j;
      };
      next = OnFromNext;
    }));
    size = set_size s (set s.words w x) i seat (length-set s.words w x);
  }
    where
      shown : seats_of (set s.seats i seat)
          ≡ put (seats_of s.seats) i (with_register (seat_of (each no_seat s.seats i)) r (each (pos 0) s.words w))
      shown = seats_show s.seats i there seat ∙ ap (put (seats_of s.seats) i) is

-- a row on the word of a place: of an array without such a member its seat fails
module _ (row : ProgramWorld → Option Did) (s : Stored) (place : Option ℕ) (then_do : ProgramWorld → ℕ → Option Did)
    (on : (layer : Core) → row (world_over layer s) ≡ on_word (world_over layer s) place (then_do (world_over layer s))) where
  pub fails : ((w : ℕ) → place ≡ Some w → ⊥) → Does row s s (Fails Index)
  fails not = record { did = λ layer. on layer ∙ by layer place not; size = same_size s }
    where
      by : (layer : Core) (q : Option ℕ) → ((w : ℕ) → q ≡ Some w → ⊥)
          → on_word (world_over layer s) q (then_do (world_over layer s)) ≡ Some (record { world = world_over layer s; next = Fails Index })
      by layer None not = refl
      by layer (Some w) not = absurd (not w refl)

  pub found : (w : ℕ) → place ≡ Some w → (layer : Core) → row (world_over layer s) ≡ then_do (world_over layer s) w
  found w is layer = on layer ∙ ap (λ q. on_word (world_over layer s) q (then_do (world_over layer s))) is

-- what was read of a list is its element
pub read_at : {A : Type 0} (d : A) (l : List A) (i : ℕ) (x : A) → i < length l → x ≡ get_or l i x → x ≡ each d l i
read_at d l i x within is = sym (get_or_from_slice_get l i x d (slice_get_read l (length l) i x refl within is))

-- h is what a value shows, and g what a clause calls it; n is the seat i
module _ (h g : Stored) (same : h ≡ g) (i n : ℕ) (at : n ≡ i) (there : i < length g.seats) where
  abbrev here : i < length h.seats
  here = subst (λ (s : Stored). i < length s.seats) (sym same) there

  -- the seat that was read
  pub seat_read : (old : Seat) → old ≡ get_or h.seats n old → old ≡ each no_seat h.seats i
  seat_read old is = read_at no_seat h.seats i old here (subst (λ k. old ≡ get_or h.seats k old) at is)

  pub stored_is : (old : Seat) → old ≡ get_or h.seats n old → old ≡ each no_seat g.seats i
  stored_is old is = subst (λ (s : Stored). old ≡ each no_seat s.seats i) same (seat_read old is)

  module _ (r : Option ℕ) (w : ℕ) (within : w < length g.words) (x y : ℤ) (value : y ≡ x) where
    pub reads : (old : Seat) → old ≡ get_or h.seats n old → (was z : ℤ) → was ≡ get_or h.words w was → z ≡ was
        → (seat : Seat) → seat_of seat ≡ with_register (seat_of old) r z → seat.grant ≡ old.grant
        → Does (reads_at i r w x) g (record { words = set h.words w y; sleepers = h.sleepers; seats = set h.seats n seat }) OnFromNext
    reads old is was z found kept seat now grant =
        subst (λ (s : Stored). Does (reads_at i r w x) s
        (record { words = set h.words w y; sleepers = h.sleepers; seats = set h.seats n seat }) OnFromNext) same
        (subst (λ k. Does (reads_at i r w x) h
        (record { words = set h.words w y; sleepers = h.sleepers; seats = set h.seats k seat }) OnFromNext) (sym at)
        (subst (λ v. Does (reads_at i r w x) h
        (record { words = set h.words w v; sleepers = h.sleepers; seats = set h.seats i seat }) OnFromNext) (sym value)
        (read_does h i here r w in_h x seat
        (now ∙ (λ j. with_register (seat_of (seat_read old is j)) r ((kept ∙ read_at (pos 0) h.words w was in_h found) j)))
        (grant ∙ ap (λ (s : Seat). s.grant) (seat_read old is)))))
      where
        in_h : w < length h.words
        in_h = subst (λ (s : Stored). w < length s.words) (sym same) within

-- a word that was read
pub word_read : (h g : Stored) → h ≡ g → (w : ℕ) → w < length g.words → (was : ℤ)
    → was ≡ get_or h.words w was → was ≡ each (pos 0) g.words w
word_read h g same w within was is =
    read_at (pos 0) g.words w was within (subst (λ (s : Stored). was ≡ get_or s.words w was) same is)

-- the place of a row's word was found to be this
pub on_place : (s : Stored) (i : ℕ) (place : CodePlace) (q : Option ℕ) → q ≡ place_of i (seats_of s.seats i).registers place
    → (then_do : ProgramWorld → ℕ → Option Did) (layer : Core)
    → on_word (world_over layer s) (place_of i (seats_of s.seats i).registers place) (then_do (world_over layer s))
    ≡ on_word (world_over layer s) q (then_do (world_over layer s))
on_place s i place q is then_do layer = sym (ap (λ o. on_word (world_over layer s) o (then_do (world_over layer s))) is)

-- a row that reads a word and writes it
module _ (row : ProgramWorld → Option Did) (s : Stored) (place : Option ℕ) (then_do : ProgramWorld → ℕ → Option Did)
    (on : (layer : Core) → row (world_over layer s) ≡ on_word (world_over layer s) place (then_do (world_over layer s)))
    (w : ℕ) (is : place ≡ Some w) (i : ℕ) (r : Option ℕ) (x y : ℤ) (t : Stored) (next : Then) where
  pub reads_there : Does (reads_at i r w y) s t next
      → ((layer : Core) → then_do (world_over layer s) w ≡ Some (reading (world_over layer s) i r w x)) → x ≡ y → Does row s t next
  reads_there read does same = record {
    did = λ layer. found row s place then_do on w is layer ∙ does layer
        ∙ ap (λ v. Some (reading (world_over layer s) i r w v)) same ∙ read.did layer;
    size = read.size;
  }

-- h is what a value shows, and g what a clause calls it; the seat i, which n is, is stored anew
module _ (h g : Stored) (same : h ≡ g) (i n : ℕ) (at : n ≡ i) (there : i < length g.seats) (old : Seat) (is : old ≡ get_or h.seats n old)
    (seat : Seat) where
  abbrev now_stored : Stored → ℕ → Stored
  now_stored s k = record { words = s.words; sleepers = s.sleepers; seats = set s.seats k seat }

  old_is : old ≡ each no_seat g.seats i
  old_is = stored_is h g same i n at there old is

  now_is : now_stored h n ≡ now_stored g i
  now_is j = now_stored (same j) (at j)

  -- what the world is then
  stored_world : (layer : Core) (shown : ℕ → ProgramSeat) (grants : ℕ → ℕ) → seats_of (set g.seats i seat) ≡ shown
      → grants_of (set g.seats i seat) ≡ grants
      → world_over layer (now_stored g i) ≡ record (world_over layer g) { seats = shown; grants = grants }
  stored_world layer shown grants seats_are grants_are j = record (world_over layer g) { seats = seats_are j; grants = grants_are j }

  pub seat_changes : (row : ProgramWorld → Option Did) (next : Then) (f : ProgramSeat → ProgramSeat)
      → seat_of seat ≡ f (seat_of old) → seat.grant ≡ old.grant
      → ((layer : Core) → row (world_over layer g)
      ≡ Some (record { world = with_seat (world_over layer g) i (f ((world_over layer g).seats i)); next = next }))
      → Does row g (now_stored h n) next
  seat_changes row next f made grant runs = subst (λ t. Does row g t next) (sym now_is) (record {
    did = λ layer. runs layer ∙ ap (λ world. Some (record { world = world; next = next }))
        (sym (stored_world layer (put (seats_of g.seats) i (f (seats_of g.seats i))) (grants_of g.seats)
        (seats_show g.seats i there seat ∙ ap (put (seats_of g.seats) i) (made ∙ ap (λ s. f (seat_of s)) old_is))
        (grants_kept g.seats i there seat (grant ∙ ap (λ (s : Seat). s.grant) old_is))));
    size = set_size g g.words i seat refl;
  })

  pub grant_changes : (row : ProgramWorld → Option Did) (next : Then) → seat_of seat ≡ seat_of old
      → ((layer : Core) → row (world_over layer g)
      ≡ Some (record { world = record (world_over layer g) { grants = put (grants_of g.seats) i seat.grant }; next = next }))
      → Does row g (now_stored h n) next
  grant_changes row next kept runs = subst (λ t. Does row g t next) (sym now_is) (record {
    did = λ layer. runs layer ∙ ap (λ world. Some (record { world = world; next = next }))
        (sym (stored_world layer (seats_of g.seats) (put (grants_of g.seats) i seat.grant)
        (seats_kept g.seats i there seat (kept ∙ ap seat_of old_is)) (grants_show g.seats i there seat)));
    size = set_size g g.words i seat refl;
  })
