-- What a row of a wait group does to the number of waits in its word, and to what its seat counts.
use Rattle.std.proofs.Common.{◌≡◌, ◌≢◌, ◌⊎◌, ℕ, zero, suc, ◌+◌, ◌≤◌, ◌==◌, if◌then◌else◌, Bool, true, false}
use Rattle.std.proofs.Common.{pos, refl, sym, ap, subst, inl, inr, arith, ◌-◌, ◌||◌, int_eq}
use Rattle.std.specs.Int.{int_wrapping_add, w32}
use Rattle.step_table.specs.declared.call.GivingUp.{GivingUp}
use Rattle.step_table.specs.declared.group_word.GroupWord.{GroupWord}
use Rattle.step_table.specs.declared.misuse.Misuse.TheVariants.{Reused}
use Rattle.step_table.specs.declared.place.Place.{Place}
use Rattle.step_table.specs.declared.place.Place.TheVariants as on_counter
use Rattle.step_table.specs.declared.place.Place.TheVariants.{Releasing}
use Rattle.step_table.specs.declared.place.Acquire.{Acquire as AcquireCall}
use Rattle.step_table.specs.declared.standing.After.{After}
use Rattle.step_table.specs.declared.standing.After.TheVariants.{LooksAgain}
use Rattle.step_table.specs.declared.standing.Ending.{Ending}
use Rattle.step_table.specs.declared.standing.Ending.TheVariants.{NextCall, MayGiveUp, GaveUp, GivesBack}
use Rattle.step_table.specs.declared.standing.GroupNext.{GroupNext}
use Rattle.step_table.specs.declared.standing.GroupNext.TheVariants as group
use Rattle.step_table.specs.declared.standing.GroupRow.{GroupRow}
use Rattle.step_table.specs.declared.standing.GroupRow.TheVariants.{G1, G2, G3, V1, V2, V3, V4, V5}
use Rattle.step_table.specs.declared.standing.Standing.TheVariants.{AtCounter, AtGroup}
use Rattle.step_table.specs.Counting.{on}
use Rattle.step_table.specs.Group.{empty_word, same_word, one_more, group_row, one_less}
use Rattle.step_table.specs.Core.{CoreLayout, Core, semaphore}
use Rattle.step_table.specs.CoreSteps.{staying}
use Rattle.step_table.proofs.Sums.{on_here, on_else}
use Rattle.step_table.proofs.GroupBits.{same_is}
use Rattle.step_law_whole.specs.CoreWeight.{counts_on}
use Rattle.step_table.specs.declared.place.AcquireRow.TheVariants.{D4, A1, Parked}
use Rattle.step_table.specs.declared.place.ParkedRow.TheVariants.{D3}
use Rattle.step_law_whole.specs.CoreLaw.{IsQueuedOn, IsBesideGroup}
use Rattle.step_law_whole.specs.Misused.{has_left}
use Rattle.step_law_whole.proofs.GroupSeats.{gone}
use Rattle.step_law_whole.proofs.GroupLeads.{place_of, standing_of}

-- a seat that counted so much counts so much now, and a word of the group g that counted so many waits counts so many now: none,
-- or one more only for that seat
abbrev pub Fits : ℕ → ℕ → ℕ → ℕ → Type 0
Fits before after waits now = (now ≡ 0) ⊎ (now + before ≤ waits + after)

-- a wait counts at its first row
at_first : (h g : ℕ) (ending : Ending) (a : AcquireCall) → counts_on g (AtCounter (LooksAgain h ending)) (on_counter.Acquiring a A1) ≡ on h g 1
at_first h g NextCall a = refl
at_first h g (MayGiveUp how) a = refl
at_first h g (GaveUp how) a = refl
at_first h g (GivesBack skips) a = refl

module _ (m : CoreLayout) (g : ℕ) (w : GroupWord) (p : Place) where
  abbrev RowFits : GroupRow → GroupWord × GroupNext → Type 0
  RowFits row to = Fits (counts_on g (AtGroup g row) p) (counts_on g (standing_of g to.1) (place_of m g p to.1)) w.waits to.0.waits

  either : {A : Type 0} (Has : A → Type 0) (b : Bool) (x y : A) → Has x → Has y → Has (if b then x else y)
  either Has true x y p q = p
  either Has false x y p q = q

  pub row_fits : (row : GroupRow) → IsBesideGroup m g row p → RowFits row (group_row row w)
  row_fits (G1 d) beside = inr (omega arith)
  row_fits (G2 seen) beside = inr (omega arith)
  row_fits (G3 seen) beside = inl refl
  row_fits (V1 ending) beside = inr (omega arith)
  row_fits (V2 ending seen) beside = by (same_word seen w)
    where
      a : AcquireCall
      a = record { counter = semaphore m g; lifo = false }

      counted : Fits 0 (counts_on g (AtCounter (LooksAgain g ending)) (on_counter.Acquiring a A1)) w.waits (one_more w).waits
      counted =
          either (λ x. Fits 0 (counts_on g (AtCounter (LooksAgain g ending)) (on_counter.Acquiring a A1)) w.waits x.waits) (w.waits == 4294967295)
          (record { counter = int_wrapping_add w32 w.counter (pos 1); waits = 0 }) (record w { waits = w.waits + 1 }) (inl refl)
          (inr (let one = at_first g g ending a in let here = on_here g 1 in omega arith))

      by : (b : Bool) → RowFits (V2 ending seen) (if b then one_more w else w, if b then group.Acquires ending else group.Goes (V1 ending))
      by true = counted
      by false = inr (omega arith)
  row_fits (V3 ending) beside = by (same_word w empty_word) refl
    where
      by : (b : Bool) → same_word w empty_word ≡ b → RowFits (V3 ending) (w, if b then group.Ends else group.Fails Reused)
      by true e = inl (ap (λ (x : GroupWord). x.waits) (same_is w empty_word e))
      by false e = inr (let one = on_here g 1 in omega arith)
  row_fits (V4 how) queued = by (int_eq w.counter (pos 0) || (w.waits == 0))
    where
      sleeps : (p : Place) → IsQueuedOn m g p → counts_on g (AtCounter (LooksAgain g (GaveUp how))) (staying p) ≡ on g g 1
      sleeps (on_counter.Acquiring a (Parked u D3)) queued = refl
      sleeps _ queued = absurd queued

      by : (b : Bool) → RowFits (V4 how) (w, if b then group.SleepsOn how else group.Goes (V5 how w))
      by true = inr (let same = sleeps p queued in omega arith)
      by false = inr (omega arith)
  row_fits (V5 how seen) queued = by (same_word seen w)
    where
      fewer : (n k : ℕ) → Fits 1 k n (n - 1)
      fewer zero k = inl refl
      fewer (suc n) k = inr (omega arith)

      by : (b : Bool) → RowFits (V5 how seen) (if b then one_less w else w, if b then group.Withdraws how else group.Goes (V4 how))
      by true = subst (λ n. Fits n (counts_on g (AtCounter (LooksAgain g (GaveUp how))) p) w.waits (w.waits - 1)) (sym (on_here g 1)) (fewer w.waits _)
      by false = inr (omega arith)

  -- of another group nothing is counted
  pub elsewhere : (h : ℕ) (row : GroupRow) (after : ℕ) → h ≢ g → counts_on h (AtGroup g row) p ≤ after
  elsewhere h (V3 ending) after ne = let none = on_else g h 1 (λ e. ne (sym e)) in omega arith
  elsewhere h (V4 how) after ne = let none = on_else g h 1 (λ e. ne (sym e)) in omega arith
  elsewhere h (V5 how seen) after ne = let none = on_else g h 1 (λ e. ne (sym e)) in omega arith
  elsewhere h row after ne = omega arith

-- a wait on a group counts 1 at most, and 1 where it hasn't left
pub counts_most : (g h : ℕ) (ending : Ending) (p : Place) → counts_on g (AtCounter (LooksAgain h ending)) p ≤ on h g 1
counts_most g h ending p = by (has_left ending p)
  where
    by : (b : Bool) → (if b then 0 else on h g 1) ≤ on h g 1
    by true = omega arith
    by false = omega arith

pub not_left : (how : GivingUp) (p : Place) → gone p ≡ 0 → has_left (GaveUp how) p ≡ false
not_left how (on_counter.Acquiring a D4) stays = absurd (omega arith)
not_left how (on_counter.Acquiring a (Parked u D3)) stays = absurd (omega arith)
not_left how _ stays = refl

-- the call is on no group
abbrev pub IsOffGroups : After → Type 0
IsOffGroups (LooksAgain h ending) = ⊥
IsOffGroups _ = Unit {0}

-- how much the seat counts on the group g
abbrev pub count_of : ℕ → Core → ℕ → ℕ
count_of g s i = counts_on g (s.standing i) (s.semaphores.seats i).place
