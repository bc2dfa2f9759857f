-- What a release is to its caller, from its look for waits on, and whole.
use Rattle.std.proofs.Common.{◌≡◌, ◌≢◌, ◌⊎◌, Bool, false, ℕ, zero, suc, ◌+◌, ◌<◌, Ok, List, [], ◌∷◌, ◌++◌, refl, sym, ap}
use Rattle.std.proofs.Common.{◌∙◌, subst, inl, inr, arith}
use Rattle.std.proofs.Common.{append-nil}
use Rattle.std.specs.List.{All}
use Rattle.std.proofs.lemmas.List.Elements.{All-head, All-tail}
use Rattle.waiters.specs.declared.wait.WaitId.{WaitId}
use Rattle.step_table.specs.declared.entry.Entry.{Entry}
use Rattle.step_table.specs.declared.entry.Entry.TheVariants.{Add, Leave, Take}
use Rattle.step_table.specs.declared.effect.Effect.{Effect}
use Rattle.step_table.specs.declared.effect.Effect.TheVariants.{Nothing, Tells}
use Rattle.step_table.specs.declared.place.Release.{Release}
use Rattle.step_table.specs.declared.place.ReleaseRow.TheVariants.{R3, R4, R5, R6}
use Rattle.step_table.specs.declared.place.Place.{Place}
use Rattle.step_table.specs.declared.place.Place.TheVariants.{Rest, Releasing}
use Rattle.step_table.specs.World.{Layout, SeatState}
use Rattle.step_table.specs.Event.{zero_or, by_first}
use Rattle.step_table.specs.Table.{event_at}
use Rattle.step_table.specs.Counting.{IsWithin, counter_at}
use Rattle.step_table.specs.Journal.{plain_start, replay}
use Rattle.step_table.specs.Path.{runs, all_told}
use Rattle.step_table.proofs.Paths.{goes_on_here}
use Rattle.step_law_semaphores.specs.SemaPath.{SemaSight, SemaStride, SemaRan, SemaPath, placed, plain_before, entries_of}
use Rattle.step_law_semaphores.proofs.SemaPaths.{the_sema_paths}
use Rattle.sema_table.specs.declared.answers.Posted.TheVariants.{Done, Owes}
use Rattle.sema_table.specs.declared.answers.Wake.{Wake}
use Rattle.sema_table.specs.declared.answers.Wake.TheVariants.{Nobody, One, Handed}
use Rattle.sema_table.specs.Setting.{layout}
use Rattle.sema_table.specs.Seats.{SeatModel}
use Rattle.sema_table.specs.Strides.{IsRow}
use Rattle.sema_table.specs.Calls.{RunsRows, ComesTo}
use Rattle.sema_table.specs.Waking.{Wakes, IsWakened}
use Rattle.sema_table.specs.Whole.{IsReleased}
use Rattle.sema_table.specs.Callers.{IsSeatAfter}
use Rattle.sema_table.specs.CallersReleasing.{SeesWaiting, HasWoken, WakesFirst, ReleasesUnit}
use Rattle.sema_table.proofs.After.{after_call, after_then}
use Rattle.sema_table.proofs.Tellers.{row_tells, row_leads, teller, told_defined, not_own}
use Rattle.sema_table.proofs.Finding.{within, nobody_there}
use Rattle.sema_table.proofs.Sighting.{Sighted, at_stride, one_later, seat_then, until_then, goes_on}
use Rattle.sema_table.proofs.CallerTries.{both_nil}
use Rattle.sema_table.proofs.CallerPosts.{posts}

-- the release r looks for a wait
abbrev Seeks : Release → Place → Type 0
Seeks r (Releasing q R3) = q ≡ r
Seeks r (Releasing q R4) = q ≡ r
Seeks r (Releasing q R5) = q ≡ r
Seeks r _ = ⊥

-- a row of a release that looks: nobody waited, or it told nothing and looks on, or it told something
module _ (m : Layout) (i : ℕ) (v w : SemaSight) (p : SemaStride) (ran : SemaRan m i v p w) (row : p.deed ≡ runs) (r : Release) where
  abbrev Sought : Type 0
  Sought = ((plain_before m p).lists r.counter ≡ [])
      ⊎ (((p.told ≡ []) × Seeks r w.stands.place) ⊎ ((e : Entry) × (l : List Entry) × (p.told ≡ e ∷ l)))

  sought : (z : Place) → p.stood.place ≡ z → Seeks r z → Sought
  sought (Releasing q R3) at is =
      inr (inl (row_tells m i v w p ran (Releasing q R3) row at, subst (Seeks r) (sym (row_leads m i v w p ran (Releasing q R3) row at)) is))
  sought (Releasing q R4) at is = by p.read ((plain_before m p).lists q.counter) refl refl
    where
      by : (n : ℕ) (l : List WaitId) → p.read ≡ n → (plain_before m p).lists q.counter ≡ l → Sought
      by zero l read listed = inl (ap (λ (x : Release). (plain_before m p).lists x.counter) (sym is)
          ∙ nobody_there m i v w p ran q.counter (subst (IsWithin m.counters) at (within m i v w p ran)) row
          (ap (λ (x : Place). (event_at i p.stood (plain_before m p).lists x).word) at) read)
      by (suc n) [] read listed = inl (ap (λ (x : Release). (plain_before m p).lists x.counter) (sym is) ∙ listed)
      by (suc n) (x ∷ l) read listed = inr (inl (
        row_tells m i v w p ran (Releasing q R4) row at,
        subst (Seeks r)
            (sym (row_leads m i v w p ran (Releasing q R4) row at
            ∙ (λ j. zero_or (Releasing q R6) (λ left. by_first (listed j) (Releasing q R6) (λ w. Releasing q R5)) (read j)))) is,
      ))
  sought (Releasing q R5) at is = by ((plain_before m p).lists q.counter) refl
    where
      by : (l : List WaitId) → (plain_before m p).lists q.counter ≡ l → Sought
      by [] listed = inl (ap (λ (x : Release). (plain_before m p).lists x.counter) (sym is) ∙ listed)
      by (x ∷ l) listed = inr (inr (
        Leave q.counter x i,
        [],
        row_tells m i v w p ran (Releasing q R5) row at ∙ ap
            (λ k. entries_of (by_first {A = Place × Effect} k (Releasing q R6, Nothing) (λ w. (Releasing q R6, Tells (Leave q.counter w i)))).1) listed,
      ))
  sought _ at is = absurd is

abbrev pub Empty : Layout → ℕ → List Entry → Type 0
Empty m c seen = (replay (plain_start m.starts) seen).lists c ≡ []

-- a release that told nothing saw nobody
finds_nobody : (m : Layout) (i : ℕ) (v w : SemaSight) (strides : List SemaStride) (r : Release) → All IsRow strides
    → SemaPath m i v strides w → Seeks r v.stands.place → all_told strides ≡ [] → w.stands.place ≡ Rest
    → (rest : List Entry) × Sighted m i v w [] rest (Empty m r.counter)
finds_nobody m i v w [] r each path seeks told ends = absurd (subst (Seeks r) (sym (ap (λ (x : SemaSight). x.stands.place) path) ∙ ends) seeks)
finds_nobody m i v w (p ∷ strides) r each path seeks told ends =
    by (sought m i v path.0 p path.1 (All-head IsRow p strides each) r v.stands.place (ap (λ (z : SeatState). z.place) path.1.stood) seeks)
    (λ on. finds_nobody m i path.0 w strides r (All-tail IsRow p strides each) path.2 on (both_nil p.told (all_told strides) told).1 ends)
  where
    by : Sought m i v path.0 p path.1 (All-head IsRow p strides each) r
        → (Seeks r path.0.stands.place → (rest : List Entry) × Sighted m i path.0 w [] rest (Empty m r.counter))
        → (rest : List Entry) × Sighted m i v w [] rest (Empty m r.counter)
    by (inl empty) later = (all_told (p ∷ strides), at_stride m i v w [] strides p (Empty m r.counter) path empty)
    by (inr (inl on)) later = let o = later on.1 in (
      o.0,
      subst (λ l. Sighted m i v w l o.0 (Empty m r.counter)) (ap (λ l. l ++ []) on.0) (one_later m i v path.0 w p [] o.0 (Empty m r.counter) path.1 o.1),
    )
    by (inr (inr o)) later = let none = (both_nil p.told (all_told strides) told).0 in absurd (let q : o.0 ∷ o.1 ≡ [] = sym o.2 ∙ none in cc)

-- who was queued first as a wait was let out, which is another's
pub sees_first : (s t : SeatModel) (from : Place) (told rest : List Entry) (c : ℕ) (w : WaitId)
    → RunsRows s from t (told ++ Leave c w s.number ∷ rest) → IsSeatAfter s 0 0 (told ++ Leave c w s.number ∷ rest) t
    → ((others : List WaitId) × SeesWaiting s 0 told c (w ∷ others) t) × (w.seat ≢ s.number)
sees_first s t from told rest c w call whole =
    let m = layout s.table.setting in let v = placed from s.sight in let e = Leave c w s.number in
    let x = teller m s.number v t.sight call.strides call.path told e rest call.told_is in
    let path : SemaPath m s.number v (x.before ++ x.stride ∷ x.after) t.sight = subst (λ l. SemaPath m s.number v l t.sight) x.is call.path in
    let goes = ((the_sema_paths.paths m).through s.number v t.sight x.before x.after x.stride path).1 in
    let first = told_defined (plain_start m.starts) x.stride e t.sight.seen whole.lawful goes x.told in
    let Holds : List Entry → Type 0 = λ seen. (replay (plain_start m.starts) seen).lists c ≡ w ∷ first.0 in
    let later = all_told (x.stride ∷ x.after) in
    let seen : Sighted m s.number v t.sight told later Holds =
    subst (λ l. Sighted m s.number v t.sight l later Holds) x.first_is (at_stride m s.number v t.sight x.before x.after x.stride Holds path first.1) in
    let parts = (the_sema_paths.paths m).parted s.number v t.sight x.before (x.stride ∷ x.after) path in (
      (first.0, (seat_then s t from told later Holds seen, until_then s t from told later Holds seen, seen.holds, goes_on s t from told later Holds seen)),
      not_own m s.number parts.0 parts.2.0 x.stride parts.2.1 c s.number w first.0 x.told first.1,
    )

wakes_by : (s t : SeatModel) (c : ℕ) (handoff : Bool) (wake : Wake) → t ≡ record s { sight = t.sight; strides = t.strides } → ComesTo s Rest t
    → Wakes s (record { counter = c; handoff = handoff }) t wake → HasWoken s 0 [] c handoff t wake
wakes_by s t c handoff Nobody same comes call =
    let r : Release = record { counter = c; handoff = handoff } in let m = layout s.table.setting in let from = Releasing r R3 in
    let whole = after_call s t from Rest s.left s.taken same [] call (ap (λ (z : SeatState). z.place) comes) (λ e. cc) 0 0 (omega arith) (omega arith) in
    let o = finds_nobody m s.number (placed from s.sight) t.sight call.strides r call.each call.path refl call.told_is
    (ap (λ (z : SeatState). z.place) comes) in
    ((seat_then s t from [] o.0 (Empty m c) o.1, until_then s t from [] o.0 (Empty m c) o.1, o.1.holds, goes_on s t from [] o.0 (Empty m c) o.1), whole)
wakes_by s t c handoff (One w) same comes x =
    let r : Release = record { counter = c; handoff = handoff } in let from = Releasing r R3 in
    let whole = after_call s t from Rest s.left s.taken same (Leave c w s.number ∷ []) x.call (ap (λ (z : SeatState). z.place) comes)
    (λ e. cc) 0 0 (omega arith) (omega arith) in
    let first = sees_first s t from [] [] c w x.call whole in (first.0, first.1, whole)
wakes_by s t c handoff (Handed w) same comes x =
    let r : Release = record { counter = c; handoff = handoff } in let from = Releasing r R3 in let told = Leave c w s.number ∷ Take c w.seat ∷ [] in
    let whole = after_call s t from Rest s.left s.taken same told x.1.call (ap (λ (z : SeatState). z.place) comes)
    (λ e. cc) 0 0 (omega arith) (omega arith) in
    let first = sees_first s t from [] (Take c w.seat ∷ []) c w x.1.call whole in (first.0, first.1, whole, x.0)

pub wakes : (s t : SeatModel) (handoff : Bool) (wake : Wake) → IsWakened s handoff t wake → WakesFirst s handoff t wake
wakes s t handoff wake x = (x.0, x.1, wakes_by s t x.0 handoff wake x.2 x.3 x.4)

-- after units were added
pub after_added : (s u t : SeatModel) (a : ℕ) (told more : List Entry) → IsSeatAfter s a 0 told u → IsSeatAfter u 0 0 more t
    → IsSeatAfter s a 0 (told ++ more) t
after_added s u t a told more x y =
    subst (λ n. IsSeatAfter s n 0 (told ++ more) t) (let none : a + 0 ≡ a = omega arith in none) (after_then s u t a 0 0 0 told more x y)

pub sees_after : (s u t : SeatModel) (a c : ℕ) (told more : List Entry) (waits : List WaitId) → IsSeatAfter s a 0 told u
    → SeesWaiting u 0 more c waits t → SeesWaiting s a (told ++ more) c waits t
sees_after s u t a c told more waits x y = (y.0, after_added s u y.0 a told more x y.1, y.2, y.3)

module _ (s u t : SeatModel) (a c : ℕ) (told : List Entry) (handoff : Bool) (x : IsSeatAfter s a 0 told u) where
  first_after : (w : WaitId) → (others : List WaitId) × SeesWaiting u 0 [] c (w ∷ others) t
      → (others : List WaitId) × SeesWaiting s a told c (w ∷ others) t
  first_after w y = (y.0, subst (λ l. SeesWaiting s a l c (w ∷ y.0) t) (append-nil told) (sees_after s u t a c told [] (w ∷ y.0) x y.1))

  pub woken_after : (wake : Wake) → HasWoken u 0 [] c handoff t wake → HasWoken s a told c handoff t wake
  woken_after Nobody y = (
    subst (λ l. SeesWaiting s a l c [] t) (append-nil told) (sees_after s u t a c told [] [] x y.0),
    subst (λ l. IsSeatAfter s a 0 l t) (append-nil told) (after_added s u t a told [] x y.1),
  )
  woken_after (One w) y = (
    first_after w y.0,
    (λ e. y.1 (e ∙ sym x.number)),
    subst (λ k. IsSeatAfter s a 0 (told ++ Leave c w k ∷ []) t) x.number (after_added s u t a told (Leave c w u.number ∷ []) x y.2),
  )
  woken_after (Handed w) y = (
    first_after w y.0,
    (λ e. y.1 (e ∙ sym x.number)),
    subst (λ k. IsSeatAfter s a 0 (told ++ Leave c w k ∷ Take c w.seat ∷ []) t) x.number
        (after_added s u t a told (Leave c w u.number ∷ Take c w.seat ∷ []) x y.2),
    y.3,
  )

pub releases : (s t : SeatModel) (c : ℕ) (handoff : Bool) (wake : Wake) → (0 < s.left) × IsReleased s c handoff t wake
    → ReleasesUnit s c handoff (Ok (t, wake))
releases s t c handoff wake (some, inl (posted, nobody)) =
    let x = posts s c (Done t) (some, posted) in
    subst (HasWoken s 1 (Add c s.number ∷ []) c handoff t) (sym nobody) ((t, x.0, x.1, goes_on_here t.sight.seen), x.0)
releases s t c handoff wake (some, inr (u, posted, wakened)) =
    let x = posts s c (Owes u) (some, posted) in let y = wakes u t handoff wake wakened in
    woken_after s u t 1 c (Add c s.number ∷ []) handoff x.0 wake (subst (λ d. HasWoken u 0 [] d handoff t wake) (same_counter (sym y.1 ∙ x.1)) y.2)
  where
    same_counter : {a b : ℕ} → ◌≡◌ {A = Place} (Releasing (record { counter = a; handoff = false }) R3)
        (Releasing (record { counter = b; handoff = false }) R3) → a ≡ b
    same_counter e = ap counter_at e
