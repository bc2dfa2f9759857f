-- What a whole acquire is to its caller.
use Rattle.std.proofs.Common.{◌≡◌, Bool, ℕ, zero, suc, ◌+◌, List, [], ◌∷◌, ◌++◌, map, refl, sym, ap, ◌∙◌, subst, inl, inr, arith}
use Rattle.std.specs.List.{All}
use Rattle.std.proofs.lemmas.List.Elements.{All-nil, All-cons, All-head, All-tail}
use Rattle.waiters.specs.declared.wait.WaitId.{WaitId}
use Rattle.step_table.specs.declared.entry.Entry.{Entry}
use Rattle.step_table.specs.declared.entry.Entry.TheVariants.{Take, Queue}
use Rattle.step_table.specs.declared.place.Acquire.{Acquire}
use Rattle.step_table.specs.declared.place.AcquireRow.TheVariants.{A1, A3}
use Rattle.step_table.specs.declared.place.Place.TheVariants.{Rest, Acquiring}
use Rattle.step_table.specs.World.{Layout, SeatState}
use Rattle.step_table.specs.Counting.{wait}
use Rattle.step_table.specs.Path.{runs, all_told}
use Rattle.step_law_semaphores.specs.SemaPath.{SemaSight, SemaStride, SemaPath, placed}
use Rattle.sema_table.specs.Setting.{layout}
use Rattle.sema_table.specs.Seats.{SeatModel}
use Rattle.sema_table.specs.Tries.{acquiring}
use Rattle.sema_table.specs.Waking.{acquire_of, RunsOrWaits, RunsAndSleeps}
use Rattle.sema_table.specs.Whole.{queued, TakesUnit, TakesAtOnce, FindsNone, IsAcquired}
use Rattle.sema_table.specs.Callers.{IsSeatAfter, FindsNoUnit, WaitsForUnit, AcquiresUnit}
use Rattle.sema_table.proofs.After.{after_call}
use Rattle.sema_table.proofs.CallerTries.{both_nil}
use Rattle.sema_table.proofs.CallerEnters.{Wants, Stepped, stepped}

-- no acquire comes to rest that has told nothing
never_rests : (m : Layout) (i : ℕ) (v w : SemaSight) (strides : List SemaStride) (a : Acquire) → All (RunsOrWaits i) strides
    → SemaPath m i v strides w → Wants a v.stands.place → all_told strides ≡ [] → w.stands.place ≡ Rest → ⊥
never_rests m i v w [] a each path wants told ends = subst (Wants a) (sym (ap (λ (x : SemaSight). x.stands.place) path) ∙ ends) wants
never_rests m i v w (p ∷ strides) a each path wants told ends =
    by (All-head (RunsOrWaits i) p strides each)
    (λ on. never_rests m i path.0 w strides a (All-tail (RunsOrWaits i) p strides each) path.2 on (both_nil p.told (all_told strides) told).1 ends)
  where
    at : p.stood.place ≡ v.stands.place
    at = ap (λ (z : SeatState). z.place) path.1.stood

    on_row : (row : p.deed ≡ runs) → Stepped m i v path.0 p path.1 row a v.stands.place → (Wants a path.0.stands.place → ⊥) → ⊥
    on_row row (inl next) later = later next.1
    on_row row (inr o) later = let none = (both_nil p.told (all_told strides) told).0 in let q : o.0 ∷ [] ≡ [] = sym o.1 ∙ none in cc

    by : RunsOrWaits i p → (Wants a path.0.stands.place → ⊥) → ⊥
    by (inl row) later = on_row row (stepped m i v path.0 p path.1 row a v.stands.place at wants) later
    by (inr x) later = subst (Wants a) (sym at ∙ x.parked) wants

-- so many waits of the seat i, from this turn on
abbrev waits_from : ℕ → ℕ → ℕ → List WaitId
waits_from i turn zero = []
waits_from i turn (suc n) = wait i turn ∷ waits_from i (turn + 1) n

queued_is : (i : ℕ) (a : Acquire) (turn n : ℕ) → queued i a turn n ≡ map (λ w. Queue a.counter w a.lifo) (waits_from i turn n)
queued_is i a turn zero = refl
queued_is i a turn (suc n) = ap (λ l. Queue a.counter (wait i turn) a.lifo ∷ l) (queued_is i a (turn + 1) n)

all_of : (i turn n : ℕ) → All (λ (w : WaitId). w.seat ≡ i) (waits_from i turn n)
all_of i turn zero = All-nil (λ (w : WaitId). w.seat ≡ i)
all_of i turn (suc n) = All-cons (λ (w : WaitId). w.seat ≡ i) (wait i turn) (waits_from i (turn + 1) n) refl (all_of i (turn + 1) n)

last_of : (i turn n last : ℕ) → last ≡ turn + n → waits_from i turn (suc n) ≡ waits_from i turn n ++ wait i last ∷ []
last_of i turn zero last e = ap (λ k. wait i k ∷ []) (omega arith)
last_of i turn (suc n) last e = ap (λ l. wait i turn ∷ l) (last_of i (turn + 1) n last (omega arith))

module _ (u t : SeatModel) (a : Acquire) (same : t ≡ record u { taken = u.taken + 1; sight = t.sight; strides = t.strides })
    (at : t.sight.stands.place ≡ Rest) where
  abbrev turn : ℕ
  turn = u.sight.stands.turn

  came : (told : List Entry) → RunsAndSleeps u (Acquiring a A3) t told → IsSeatAfter u 0 1 told t
  came told call = after_call u t (Acquiring a A3) Rest u.left (u.taken + 1) same told call at (λ e. cc) 0 1 (omega arith) refl

  waits : (n : ℕ) → TakesUnit u (Acquiring a A3) a n t → WaitsForUnit u a.counter a.lifo t
  waits n (inl own) = (
    waits_from u.number turn n,
    all_of u.number turn n,
    inl (subst (λ l. IsSeatAfter u 0 1 (l ++ Take a.counter u.number ∷ []) t) (queued_is u.number a turn n)
        (came (queued u.number a turn n ++ Take a.counter u.number ∷ []) own)),
  )
  waits zero (inr x) =
      absurd (never_rests (layout u.table.setting) u.number (placed (Acquiring a A3) u.sight) t.sight x.0.strides a x.0.each x.0.path refl x.0.told_is at)
  waits (suc n) (inr x) = (
    waits_from u.number turn (suc n),
    all_of u.number turn (suc n),
    inr (
      subst (λ l. IsSeatAfter u 0 1 l t) (queued_is u.number a turn (suc n)) (came (queued u.number a turn (suc n)) x.0),
      (waits_from u.number turn n, wait u.number x.1.0, last_of u.number turn n x.1.0 (let e = x.1.1 in omega arith), x.1.2),
    ),
  )

-- tries of which the last took a unit, or found none
pub takes_at_once : (s t : SeatModel) (c : ℕ) → TakesAtOnce s c t → IsSeatAfter s 0 1 (Take c s.number ∷ []) t
takes_at_once s t c x = after_call s t (acquiring c A1) Rest s.left (s.taken + 1) x.0 (Take c s.number ∷ []) x.2
    (ap (λ (z : SeatState). z.place) x.1) (λ e. cc) 0 1 (omega arith) refl

pub finds_none : (s u : SeatModel) (c : ℕ) → FindsNone s c u → FindsNoUnit s c u
finds_none s u c none = (
  after_call s u (acquiring c A1) (acquiring c A3) s.left s.taken none.0 [] none.2 (ap (λ (z : SeatState). z.place) none.1) (λ e. cc)
      0 0 (omega arith) (omega arith),
  none.3,
)

pub acquires : (s t : SeatModel) (c : ℕ) (lifo : Bool) → IsAcquired s c lifo t → AcquiresUnit s c lifo t
acquires s t c lifo (inl x) = inl (takes_at_once s t c x)
acquires s t c lifo (inr (u, none, takes)) = inr (
  u,
  finds_none s u c none,
  waits u t (acquire_of c lifo) takes.0 (ap (λ (z : SeatState). z.place) takes.1.1) takes.1.0 takes.1.2,
)
