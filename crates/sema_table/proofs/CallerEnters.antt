-- What an acquire from the lock on is to its caller, up to its wait.
use Rattle.std.proofs.Common.{◌≡◌, ◌⊎◌, ◌==◌, if◌then◌else◌, Bool, true, false, ℕ, zero, suc, ◌+◌, List, [], ◌∷◌, ◌++◌}
use Rattle.std.proofs.Common.{refl, sym, ap, ◌∙◌, subst, inl, inr}
use Rattle.std.proofs.Common.{arith}
use Rattle.std.specs.List.{All}
use Rattle.std.proofs.lemmas.List.Elements.{All-head, All-tail}
use Rattle.waiters.specs.declared.wait.WaitId.{WaitId}
use Rattle.step_table.specs.declared.effect.Effect.TheVariants.{Nothing, Tells}
use Rattle.step_table.specs.declared.entry.Entry.{Entry}
use Rattle.step_table.specs.declared.entry.Entry.TheVariants.{Take, Queue}
use Rattle.step_table.specs.declared.place.Acquire.{Acquire}
use Rattle.step_table.specs.declared.place.AcquireRow.TheVariants.{A3, A4, A5, A6, A7, A8, A10, A11, Parked}
use Rattle.step_table.specs.declared.place.ParkedRow.TheVariants.{P}
use Rattle.step_table.specs.declared.place.Place.{Place}
use Rattle.step_table.specs.declared.place.Place.TheVariants.{Rest, Acquiring}
use Rattle.step_table.specs.World.{Layout, SeatState}
use Rattle.step_table.specs.Event.{Next, zero_or}
use Rattle.step_table.specs.Counting.{wait}
use Rattle.step_table.specs.Journal.{plain_start, replay}
use Rattle.step_table.specs.Path.{runs, all_told}
use Rattle.step_law_semaphores.specs.SemaPath.{SemaSight, SemaStride, SemaRan, SemaPath, placed, plain_before, entries_of}
use Rattle.sema_table.specs.declared.answers.Entered.{Entered}
use Rattle.sema_table.specs.declared.answers.Entered.TheVariants.{Taken, Asleep}
use Rattle.sema_table.specs.Setting.{layout}
use Rattle.sema_table.specs.Seats.{SeatModel}
use Rattle.sema_table.specs.Strides.{IsRow}
use Rattle.sema_table.specs.Waking.{IsEntered, IsRetried}
use Rattle.sema_table.specs.Callers.{JoinsQueue, TriesAgain}
use Rattle.sema_table.proofs.After.{after_call}
use Rattle.sema_table.proofs.Tellers.{row_tells, row_leads}
use Rattle.sema_table.proofs.Sighting.{Sighted, at_stride, one_later, seat_then, until_then, since_then}
use Rattle.sema_table.proofs.Changing.{number_there}

-- the acquire a looks for a unit, before it has found none
abbrev Searches : Acquire → Place → Type 0
Searches a (Acquiring b A3) = b ≡ a
Searches a (Acquiring b A4) = b ≡ a
Searches a (Acquiring b A5) = b ≡ a
Searches a (Acquiring b (A6 left)) = b ≡ a
Searches a (Acquiring b A10) = b ≡ a
Searches a (Acquiring b (A11 left)) = b ≡ a
Searches a _ = ⊥

-- it has neither a unit nor a wait yet
abbrev pub Wants : Acquire → Place → Type 0
Wants a (Acquiring b A7) = b ≡ a
Wants a place = Searches a place

abbrev IsTake : Entry → Type 0
IsTake (Take c s) = Unit {0}
IsTake _ = ⊥

-- the seat goes to q with a unit, or back
abbrev taken_or : Bool → Place → Place → ℕ → ℕ → Next
taken_or won q back c k = if won then (q, Tells (Take c k)) else (back, Nothing)

-- a row of an acquire that has neither: it told nothing and still has neither, and there was no unit, or it looks on; or it told
-- something, and took a unit where it looked for one
module _ (m : Layout) (i : ℕ) (v w : SemaSight) (p : SemaStride) (ran : SemaRan m i v p w) (row : p.deed ≡ runs) (a : Acquire) where
  abbrev pub Stepped : Place → Type 0
  Stepped z =
      ((p.told ≡ []) × Wants a w.stands.place × (((plain_before m p).numbers a.counter ≡ 0) ⊎ Searches a w.stands.place))
      ⊎ ((e : Entry) × (p.told ≡ e ∷ []) × ((Searches a z → ⊥) ⊎ IsTake e))

  quietly : (z q : Place) → p.told ≡ [] → w.stands.place ≡ q → Wants a q → Searches a q → Stepped z
  quietly z q told leads wants on = inl (told, subst (Wants a) (sym leads) wants, inr (subst (Searches a) (sym leads) on))

  -- a look, at 0 or not
  looked : (z at_zero : Place) (above : ℕ → Place) (b : Acquire) → b ≡ a → p.read ≡ (plain_before m p).numbers b.counter → p.told ≡ []
      → w.stands.place ≡ zero_or at_zero above p.read → Wants a at_zero → ((left : ℕ) → Wants a (above left))
      → ((left : ℕ) → Searches a (above left)) → Stepped z
  looked z at_zero above b is number told leads none some on = by p.read refl
    where
      by : (n : ℕ) → p.read ≡ n → Stepped z
      by zero e = inl (
        told,
        subst (Wants a) (sym (leads ∙ ap (zero_or at_zero above) e)) none,
        inl (ap (λ (x : Acquire). (plain_before m p).numbers x.counter) (sym is) ∙ sym number ∙ e),
      )
      by (suc n) e = quietly z (above n) told (leads ∙ ap (zero_or at_zero above) e) (some n) (on n)

  -- a try to take a unit, by what it came to
  tried : (z back q : Place) (c k : ℕ) (won : Bool) → p.told ≡ entries_of (taken_or won q back c k).1 → w.stands.place ≡ (taken_or won q back c k).0
      → Wants a back → Searches a back → Stepped z
  tried z back q c k true told leads wants on = inr (Take c k, told, inr tt)
  tried z back q c k false told leads wants on = quietly z back told leads wants on

  pub stepped : (z : Place) → p.stood.place ≡ z → Wants a z → Stepped z
  stepped (Acquiring b A3) at is =
      let z = Acquiring b A3 in quietly z (Acquiring b A4) (row_tells m i v w p ran z row at) (row_leads m i v w p ran z row at) is is
  stepped (Acquiring b A4) at is =
      let z = Acquiring b A4 in quietly z (Acquiring b A5) (row_tells m i v w p ran z row at) (row_leads m i v w p ran z row at) is is
  stepped (Acquiring b A5) at is = let z = Acquiring b A5 in
      looked z (Acquiring b A7) (λ left. Acquiring b (A6 left)) b is (number_there m i b.counter v w p z ran row at (λ y. refl))
      (row_tells m i v w p ran z row at) (row_leads m i v w p ran z row at) is (λ left. is) (λ left. is)
  stepped (Acquiring b (A6 left)) at is = let z = Acquiring b (A6 left) in
      tried z (Acquiring b A5) (Acquiring b A8) b.counter i (p.read == left + 1) (row_tells m i v w p ran z row at) (row_leads m i v w p ran z row at) is is
  stepped (Acquiring b A7) at is = inr (Queue b.counter (wait i p.stood.turn) b.lifo, row_tells m i v w p ran (Acquiring b A7) row at, inl (λ x. x))
  stepped (Acquiring b A10) at is = let z = Acquiring b A10 in
      looked z (Acquiring b A3) (λ left. Acquiring b (A11 left)) b is (number_there m i b.counter v w p z ran row at (λ y. refl))
      (row_tells m i v w p ran z row at) (row_leads m i v w p ran z row at) is (λ left. is) (λ left. is)
  stepped (Acquiring b (A11 left)) at is = let z = Acquiring b (A11 left) in
      tried z (Acquiring b A10) Rest b.counter i (p.read == left + 1) (row_tells m i v w p ran z row at) (row_leads m i v w p ran z row at) is is
  stepped _ at is = absurd is

abbrev NoUnit : Layout → ℕ → List Entry → Type 0
NoUnit m c seen = (replay (plain_start m.starts) seen).numbers c ≡ 0

abbrev SeesNone : Layout → ℕ → Acquire → SemaSight → SemaSight → List Entry → Type 0
SeesNone m i a v w told = Sighted m i v w [] told (NoUnit m a.counter)

-- an acquire that queued its wait saw none before
finds_none : (m : Layout) (i : ℕ) (v w : SemaSight) (strides : List SemaStride) (a : Acquire) (c : ℕ) (x : WaitId) (lifo : Bool)
    → All IsRow strides → SemaPath m i v strides w → Searches a v.stands.place
    → all_told strides ≡ Queue c x lifo ∷ [] → SeesNone m i a v w (Queue c x lifo ∷ [])
finds_none m i v w [] a c x lifo each path on told = absurd cc
finds_none m i v w (p ∷ strides) a c x lifo each path on told =
    by (stepped m i v path.0 p path.1 (All-head IsRow p strides each) a v.stands.place
    (ap (λ (z : SeatState). z.place) path.1.stood) (wants v.stands.place on))
    (λ next e. finds_none m i path.0 w strides a c x lifo (All-tail IsRow p strides each) path.2 next e)
  where
    wants : (z : Place) → Searches a z → Wants a z
    wants (Acquiring b A7) y = absurd y
    wants _ y = y

    by : Stepped m i v path.0 p path.1 (All-head IsRow p strides each) a v.stands.place
        → (Searches a path.0.stands.place → all_told strides ≡ Queue c x lifo ∷ [] → SeesNone m i a path.0 w (Queue c x lifo ∷ []))
        → SeesNone m i a v w (Queue c x lifo ∷ [])
    by (inl (quiet, wanting, inl none)) later = subst (SeesNone m i a v w) told (at_stride m i v w [] strides p (NoUnit m a.counter) path none)
    by (inl (quiet, wanting, inr next)) later =
        subst (λ l. Sighted m i v w l (Queue c x lifo ∷ []) (NoUnit m a.counter)) (ap (λ l. l ++ []) quiet)
        (one_later m i v path.0 w p [] (Queue c x lifo ∷ []) (NoUnit m a.counter) path.1 (later next (ap (λ l. l ++ all_told strides) (sym quiet) ∙ told)))
    by (inr (e, is, inl queues)) later = absurd (queues on)
    by (inr (e, is, inr takes)) later =
        absurd (let same : e ∷ all_told strides ≡ Queue c x lifo ∷ [] = ap (λ l. l ++ all_told strides) (sym is) ∙ told in
        let first : e ≡ Queue c x lifo = cc in subst IsTake first takes)

enters_from : (s : SeatModel) (a : Acquire) (from : Place) → Searches a from → (from ≡ Rest → ⊥)
    → ((turn : ℕ) → from ≡ Acquiring a (Parked turn P) → ⊥) → (answer : Entered) → IsEntered s a from answer
    → JoinsQueue s a.counter a.lifo answer
enters_from s a from on busy awake (Taken t) x =
    after_call s t from Rest s.left (s.taken + 1) x.0 (Take a.counter s.number ∷ []) x.2 (ap (λ (z : SeatState). z.place) x.1) busy 0 1 (omega arith) refl
enters_from s a from on busy awake (Asleep t) x =
    let m = layout s.table.setting in let v = placed from s.sight in let turn = s.sight.stands.turn in let w = wait s.number turn in
    let told = Queue a.counter w a.lifo ∷ [] in
    let at = ap (λ (z : SeatState). z.place) x.1 in
    let whole = after_call s t from (Acquiring a (Parked turn P)) s.left s.taken x.0 told x.2 at (awake turn) 0 0 (omega arith) (omega arith) in
    let seen = finds_none m s.number v t.sight x.2.strides a a.counter w a.lifo x.2.each x.2.path on x.2.told_is in (
      seat_then s t from [] told (NoUnit m a.counter) seen,
      (until_then s t from [] told (NoUnit m a.counter) seen, seen.holds),
      (w, (sym whole.number, at), since_then s t from [] told (NoUnit m a.counter) seen 0 0 told whole, x.3),
    )

pub enters : (s : SeatModel) (a : Acquire) (answer : Entered) → IsEntered s a (Acquiring a A3) answer
    → JoinsQueue s a.counter a.lifo answer
enters s a = enters_from s a (Acquiring a A3) refl (λ e. cc) (λ turn e. cc)

pub retries : (s : SeatModel) (answer : Entered) → IsRetried s answer → TriesAgain s answer
retries s answer x = (x.0.counter, x.0.lifo, x.1, enters_from s x.0 (Acquiring x.0 A10) refl (λ e. cc) (λ turn e. cc) answer x.2)
