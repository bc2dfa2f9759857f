-- A whole acquire.
use Rattle.std.proofs.Common.{◌≡◌, Bool, ℕ, zero, suc, ◌+◌, List, [], ◌∷◌, ◌++◌, sym, refl, ap, ◌∙◌, subst, inl, inr, ⊎_elim}
use Rattle.std.proofs.Common.{arith, append-nil}
use Rattle.std.proofs.lemmas.List.Elements.{All-nil}
use Rattle.step_table.specs.declared.entry.Entry.{Entry}
use Rattle.step_table.specs.declared.entry.Entry.TheVariants.{Take, Queue}
use Rattle.step_table.specs.declared.place.Acquire.{Acquire}
use Rattle.step_table.specs.declared.place.AcquireRow.TheVariants.{A1, A3, A10, Parked}
use Rattle.step_table.specs.declared.place.ParkedRow.TheVariants.{P}
use Rattle.step_table.specs.declared.place.Place.{Place}
use Rattle.step_table.specs.declared.place.Place.TheVariants.{Rest, Acquiring}
use Rattle.step_table.specs.World.{SeatState}
use Rattle.step_table.specs.Journal.{HasItsUnit}
use Rattle.step_table.specs.Counting.{wait}
use Rattle.step_law_semaphores.specs.SemaPath.{SemaStride}
use Rattle.sema_table.specs.declared.answers.Tried.TheVariants as tried
use Rattle.sema_table.specs.declared.answers.Entered.TheVariants.{Taken, Asleep}
use Rattle.sema_table.specs.declared.answers.Roused.TheVariants.{Woken, Handed}
use Rattle.sema_table.specs.Seats.{SeatModel}
use Rattle.sema_table.specs.Calls.{Calls, RunsRows, ComesTo}
use Rattle.sema_table.specs.Tries.{acquiring, IsTried}
use Rattle.sema_table.specs.Waking.{RunsOrWaits, RunsAndSleeps, CallsGranted, IsEntered, IsRetried}
use Rattle.sema_table.specs.Whole.{IsRoused, queued, TakesFrom, ParksLast, TakesAfter, TakesAtOnce, FindsNone, TriesOn, IsAcquired}
use Rattle.sema_table.proofs.Calling.{placed_at, call_of, sleepless, calls_then}

module _ (s t u : SeatModel) (c : ℕ) where
  pub same_on : TriesOn s c t → t ≡ record s { sight = t.sight; strides = t.strides }
  same_on (inl e) = e ∙ (λ i. record s { sight = (sym e i).sight; strides = (sym e i).strides })
  same_on (inr x) = x.0

  stood_on : (p : Place) → TriesOn s c t → record t.sight.stands { place = p } ≡ record s.sight.stands { place = p }
  stood_on p (inl e) = ap (λ (q : SeatModel). record q.sight.stands { place = p }) e
  stood_on p (inr x) = ap (λ (q : SeatState). record q { place = p }) x.1

  calls_on : (told : List Entry) → TriesOn s c t → RunsRows t (acquiring c A1) u told → RunsRows s (acquiring c A1) u told
  calls_on told (inl e) y = subst (λ (q : SeatModel). RunsRows q (acquiring c A1) u told) e y
  calls_on told (inr x) y = calls_then s t u (acquiring c A1) (acquiring c A1) [] told (ap (λ (q : SeatModel). q.table) x.0)
      (ap (λ (q : SeatModel). q.number) x.0) (ap (λ (q : SeatState). q.place) x.1) x.2 y

  number_on : TriesOn s c t → t.number ≡ s.number
  number_on x = ap (λ (q : SeatModel). q.number) (same_on x)

  pub tries_lost : TriesOn s c t → IsTried t c tried.Lost u → TriesOn s c u
  tries_lost x e = inr (
    e.0 ∙ ap (λ (q : SeatModel). record q { sight = u.sight; strides = u.strides }) (same_on x),
    e.1 ∙ stood_on (acquiring c A1) x,
    calls_on [] x e.2.3.call,
  )

  pub tries_taken : TriesOn s c t → IsTried t c tried.Taken u → TakesAtOnce s c u
  tries_taken x e = (
    e.0 ∙ ap (λ (q : SeatModel). record q { taken = q.taken + 1; sight = u.sight; strides = u.strides }) (same_on x),
    e.1 ∙ stood_on Rest x,
    subst (λ i. RunsRows s (acquiring c A1) u (Take c i ∷ [])) (number_on x) (calls_on (Take c t.number ∷ []) x e.2.1.call),
  )

  pub tries_none : TriesOn s c t → IsTried t c tried.Zero u → FindsNone s c u
  tries_none x e = (
    e.0 ∙ ap (λ (q : SeatModel). record q { sight = u.sight; strides = u.strides }) (same_on x),
    e.1 ∙ stood_on (acquiring c A3) x,
    calls_on [] x e.2.call,
    e.3,
  )

-- tries after tries that were lost
pub on_after : (s t u : SeatModel) (c : ℕ) → TriesOn s c t → TriesOn t c u → TriesOn s c u
on_after s t u c x (inl e) = subst (TriesOn s c) (sym e) x
on_after s t u c x (inr y) = inr (
  y.0 ∙ ap (λ (q : SeatModel). record q { sight = u.sight; strides = u.strides }) (same_on s t u c x),
  y.1 ∙ stood_on s t u c (acquiring c A1) x,
  calls_on s t u c [] x y.2,
)

-- an acquire after tries that were lost
module _ (s t u : SeatModel) (c : ℕ) (lifo : Bool) (x : TriesOn s c t) where
  pub taken_after : TakesAtOnce t c u → TakesAtOnce s c u
  taken_after e = (
    e.0 ∙ ap (λ (q : SeatModel). record q { taken = q.taken + 1; sight = u.sight; strides = u.strides }) (same_on s t u c x),
    e.1 ∙ stood_on s t u c Rest x,
    subst (λ i. RunsRows s (acquiring c A1) u (Take c i ∷ [])) (number_on s t u c x) (calls_on s t u c (Take c t.number ∷ []) x e.2),
  )

  pub none_after : (v : SeatModel) → FindsNone t c v → FindsNone s c v
  none_after v e = (
    e.0 ∙ ap (λ (q : SeatModel). record q { sight = v.sight; strides = v.strides }) (same_on s t v c x),
    e.1 ∙ stood_on s t v c (acquiring c A3) x,
    calls_on s t v c [] x e.2,
    e.3,
  )

  pub acquired_after : IsAcquired t c lifo u → IsAcquired s c lifo u
  acquired_after (inl e) = inl (taken_after e)
  acquired_after (inr e) = inr (e.0, none_after e.0 e.1, e.2)

-- one more wait at the end
queued_more : (i : ℕ) (a : Acquire) (turn n : ℕ) → queued i a turn n ++ Queue a.counter (wait i (turn + n)) a.lifo ∷ [] ≡ queued i a turn (suc n)
queued_more i a turn zero = ap (λ k. Queue a.counter (wait i k) a.lifo ∷ []) (omega arith)
queued_more i a turn (suc n) =
    ap (λ l. Queue a.counter (wait i turn) a.lifo ∷ l)
    (ap (λ k. queued i a (turn + 1) n ++ Queue a.counter (wait i k) a.lifo ∷ []) (omega arith) ∙ queued_more i a (turn + 1) n)

-- of which call a seat is parked, and which turn its wait has
abbrev acquire_in : Acquire → Place → Acquire
acquire_in d (Acquiring a row) = a
acquire_in d _ = d

abbrev turn_in : Place → ℕ
turn_in (Acquiring a (Parked turn P)) = turn
turn_in _ = 0

-- a seat that is parked stands at no other place
module _ (t : SeatModel) (a : Acquire) (turn : ℕ) (at : t.sight.stands.place ≡ Acquiring a (Parked turn P)) where
  same_wait : (b : Acquire) (k : ℕ) → t.sight.stands.place ≡ Acquiring b (Parked k P) → ◌≡◌ {A = Acquire × ℕ} (b, k) (a, turn)
  same_wait b k e = λ i. (acquire_in b ((sym e ∙ at) i), turn_in ((sym e ∙ at) i))

  woken_by : (w : SeatModel) → IsRoused t (Woken w) → ComesTo t (Acquiring a A10) w
      × ((looked : List SemaStride) × CallsGranted t (Acquiring a (Parked turn P)) w looked 1)
  woken_by w e =
      subst (λ (q : Acquire × ℕ). ComesTo t (Acquiring q.0 A10) w × ((looked : List SemaStride) × CallsGranted t (Acquiring q.0 (Parked q.1 P)) w looked 1))
      (same_wait e.1.0 e.1.1 e.1.2) (e.1.3, e.1.4)

  handed_by : (v : SeatModel) → IsRoused t (Handed v) → ((looked : List SemaStride) × CallsGranted t (Acquiring a (Parked turn P)) v looked 2)
      × HasItsUnit a.counter (wait t.number turn) v.sight.seen
  handed_by v e =
      subst (λ (q : Acquire × ℕ). ((looked : List SemaStride) × CallsGranted t (Acquiring q.0 (Parked q.1 P)) v looked 2)
      × HasItsUnit q.0.counter (wait t.number q.1) v.sight.seen) (same_wait e.2.0 e.2.1 e.2.2) (e.2.3, e.2.4)

woken_acquire : (w : SeatModel) (a b : Acquire) → w.sight.stands.place ≡ Acquiring a A10 → w.sight.stands.place ≡ Acquiring b A10 → b ≡ a
woken_acquire w a b at e = λ i. acquire_in b ((sym e ∙ at) i)

-- the parked seat was woken so many times, and each time queued again
pub record SleptOn (s : SeatModel) (a : Acquire) (turn : ℕ) (t : SeatModel) : Type 0 where
  pub same : t ≡ record s { sight = t.sight; strides = t.strides }
  pub times : ℕ
  pub stands : t.sight.stands ≡ record s.sight.stands { place = Acquiring a (Parked (turn + times) P); turn = s.sight.stands.turn + times }
  pub call : RunsAndSleeps s (Acquiring a (Parked turn P)) t (queued s.number a s.sight.stands.turn times)

abbrev pub SleepsOn : SeatModel → SeatModel → Type 0
SleepsOn s t = (a : Acquire) (turn : ℕ) → ParksLast s a turn → SleptOn s a turn t

pub sleeps_first : (s : SeatModel) → SleepsOn s s
sleeps_first s a turn parks = record {
  same = refl;
  times = 0;
  stands = (λ i. record s.sight.stands { place = (parks i).place })
      ∙ (λ i. record s.sight.stands { place = Acquiring a (Parked (none_more turn i) P); turn = none_more s.sight.stands.turn i });
  call =
      call_of s s (Acquiring a (Parked turn P)) [] [] (All-nil (RunsOrWaits s.number))
      (sym (placed_at (Acquiring a (Parked turn P)) s.sight (ap (λ (q : SeatState). q.place) parks))) (sym (append-nil s.strides)) refl;
}
  where
    none_more : (k : ℕ) → k ≡ k + 0
    none_more k = omega arith

-- from a moment at which it is parked
module _ (s t : SeatModel) (a : Acquire) (turn : ℕ) (parks : ParksLast s a turn) (x : SleptOn s a turn t) where
  abbrev from : Place
  from = Acquiring a (Parked turn P)

  abbrev T : ℕ
  T = s.sight.stands.turn

  next_turn : T ≡ turn + 1
  next_turn = ap (λ (q : SeatState). q.turn) parks

  tables : t.table ≡ s.table
  tables = ap (λ (q : SeatModel). q.table) x.same

  numbers : t.number ≡ s.number
  numbers = ap (λ (q : SeatModel). q.number) x.same

  at : t.sight.stands.place ≡ Acquiring a (Parked (turn + x.times) P)
  at = ap (λ (q : SeatState). q.place) x.stands

  -- rows that follow
  then_calls : (u : SeatModel) (more : List Entry) → RunsAndSleeps t (Acquiring a (Parked (turn + x.times) P)) u more
      → RunsAndSleeps s (Acquiring a (Parked turn P)) u (queued s.number a s.sight.stands.turn x.times ++ more)
  then_calls u more y =
      calls_then s t u (Acquiring a (Parked turn P)) (Acquiring a (Parked (turn + x.times) P)) (queued s.number a s.sight.stands.turn x.times) more tables numbers at x.call
      (subst (λ i. Calls (RunsOrWaits i) t (Acquiring a (Parked (turn + x.times) P)) u more) numbers y)

  pub handed_on : (v : SeatModel) → IsRoused t (Handed v) → TakesFrom s (Acquiring a (Parked turn P)) a v
  handed_on v e = let h = handed_by t a (turn + x.times) at v e in (
    e.0 ∙ ap (λ (q : SeatModel). record q { taken = q.taken + 1; sight = v.sight; strides = v.strides }) x.same,
    (
      x.times,
      e.1 ∙ ap (λ (q : SeatState). record q { place = Rest }) x.stands,
      inr (
        subst (λ l. RunsAndSleeps s (Acquiring a (Parked turn P)) v l) (append-nil (queued s.number a s.sight.stands.turn x.times)) (then_calls v [] h.0.1.call),
        (turn + x.times, (let k = next_turn in omega arith), subst (λ i. HasItsUnit a.counter (wait i (turn + x.times)) v.sight.seen) numbers h.1),
      ),
    ),
  )

  module _ (w : SeatModel) (e : IsRoused t (Woken w)) where
    woke : ComesTo t (Acquiring a A10) w × ((looked : List SemaStride) × CallsGranted t (Acquiring a (Parked (turn + x.times) P)) w looked 1)
    woke = woken_by t a (turn + x.times) at w e

    same_woken : w ≡ record s { sight = w.sight; strides = w.strides }
    same_woken = e.0 ∙ ap (λ (q : SeatModel). record q { sight = w.sight; strides = w.strides }) x.same

    at_woken : w.sight.stands.place ≡ Acquiring a A10
    at_woken = ap (λ (q : SeatState). q.place) woke.0

    -- the rows of a retry
    retry_calls : (u : SeatModel) (more : List Entry) → RunsRows w (Acquiring a A10) u more
        → RunsAndSleeps s (Acquiring a (Parked turn P)) u (queued s.number a s.sight.stands.turn x.times ++ more)
    retry_calls u more y = then_calls u more
        (calls_then t w u (Acquiring a (Parked (turn + x.times) P)) (Acquiring a A10) [] more (ap (λ (q : SeatModel). q.table) e.0)
        (ap (λ (q : SeatModel). q.number) e.0) at_woken woke.1.1.call
        (sleepless t.number w u (Acquiring a A10) more y))

    turn_woken : w.sight.stands.turn ≡ s.sight.stands.turn + x.times
    turn_woken = ap (λ (q : SeatState). q.turn) (woke.0 ∙ ap (λ (q : SeatState). record q { place = Acquiring a A10 }) x.stands)

    number_woken : w.number ≡ s.number
    number_woken = ap (λ (q : SeatModel). q.number) same_woken

    -- what the retry came to, of this call
    retried : {R : Acquire → Type 0} → ((b : Acquire) × (w.sight.stands.place ≡ Acquiring b A10) × R b) → R a
    retried {R} r = subst R (woken_acquire w a r.0 at_woken r.1) r.2

    pub taken_on : (u : SeatModel) → IsRetried w (Taken u) → TakesFrom s (Acquiring a (Parked turn P)) a u
    taken_on u r = let y : IsEntered w a (Acquiring a A10) (Taken u) = retried {R = λ b. IsEntered w b (Acquiring b A10) (Taken u)} r in (
      y.0 ∙ ap (λ (q : SeatModel). record q { taken = q.taken + 1; sight = u.sight; strides = u.strides }) same_woken,
      (
        x.times,
        y.1 ∙ ap (λ (q : SeatState). record q { place = Rest }) (woke.0 ∙ ap (λ (q : SeatState). record q { place = Acquiring a A10 }) x.stands),
        inl (subst (λ i. RunsAndSleeps s (Acquiring a (Parked turn P)) u (queued s.number a s.sight.stands.turn x.times ++ Take a.counter i ∷ [])) number_woken
            (retry_calls u (Take a.counter w.number ∷ []) y.2)),
      ),
    )

    pub asleep_on : (u : SeatModel) → IsRetried w (Asleep u) → SleptOn s a turn u
    asleep_on u r = let y : IsEntered w a (Acquiring a A10) (Asleep u) = retried {R = λ b. IsEntered w b (Acquiring b A10) (Asleep u)} r in record {
      same = y.0 ∙ ap (λ (q : SeatModel). record q { sight = u.sight; strides = u.strides }) same_woken;
      times = suc x.times;
      stands = y.1 ∙ ap (λ (q : SeatState). record { place = Acquiring a (Parked q.turn P); turn = q.turn + 1; hand = q.hand })
          (woke.0 ∙ ap (λ (q : SeatState). record q { place = Acquiring a A10 }) x.stands)
          ∙ (λ i. record s.sight.stands { place = Acquiring a (Parked (later i) P); turn = one_more i });
      call = subst (λ l. RunsAndSleeps s (Acquiring a (Parked turn P)) u l) (queued_more s.number a s.sight.stands.turn x.times)
          (subst (λ (q : ℕ × ℕ). RunsAndSleeps s (Acquiring a (Parked turn P)) u
          (queued s.number a s.sight.stands.turn x.times ++ Queue a.counter (wait q.0 q.1) a.lifo ∷ [])) (λ i. (number_woken i, turn_woken i))
          (retry_calls u (Queue a.counter (wait w.number w.sight.stands.turn) a.lifo ∷ []) y.2));
    }
      where
        later : s.sight.stands.turn + x.times ≡ turn + suc x.times
        later = let k = next_turn in omega arith

        one_more : s.sight.stands.turn + x.times + 1 ≡ s.sight.stands.turn + suc x.times
        one_more = omega arith

-- from the lock on, after tries that found none
pub entered_at_once : (u t : SeatModel) (a : Acquire) → IsEntered u a (Acquiring a A3) (Taken t) → TakesFrom u (Acquiring a A3) a t
entered_at_once u t a e = (
  e.0,
  (
    0,
    e.1 ∙ (λ i. record u.sight.stands { place = Rest; turn = none_more i }),
    inl (sleepless u.number u t (Acquiring a A3) (Take a.counter u.number ∷ []) e.2),
  ),
)
  where
    none_more : u.sight.stands.turn ≡ u.sight.stands.turn + 0
    none_more = omega arith

module _ (u w : SeatModel) (a : Acquire) (e : IsEntered u a (Acquiring a A3) (Asleep w)) where
  pub parks_last : ParksLast w a u.sight.stands.turn
  parks_last = λ i. record { place = (e.1 i).place; turn = (e.1 i).turn; hand = w.sight.stands.hand }

  pub entered_then : (t : SeatModel) → TakesAfter w t → TakesFrom u (Acquiring a A3) a t
  entered_then t after = let x = after a u.sight.stands.turn parks_last in (
    x.0 ∙ ap (λ (q : SeatModel). record q { taken = q.taken + 1; sight = t.sight; strides = t.strides }) e.0,
    (
      suc x.1.0,
      x.1.1 ∙ (λ i. record { place = Rest; turn = (turns x.1.0) i; hand = (e.1 i).hand }),
      ⊎_elim (λ own. inl (first_then x.1.0 (Take a.counter u.number ∷ [])
          (subst (λ i. RunsAndSleeps w (Acquiring a (Parked u.sight.stands.turn P)) t (queued w.number a w.sight.stands.turn x.1.0 ++ Take a.counter i ∷ []))
          numbers own)))
          (λ handed. inr (
            subst (λ l. RunsAndSleeps u (Acquiring a A3) t l) (append-nil (queued u.number a u.sight.stands.turn (suc x.1.0)))
                (first_then x.1.0 [] (subst (λ l. RunsAndSleeps w (Acquiring a (Parked u.sight.stands.turn P)) t l)
                (sym (append-nil (queued w.number a w.sight.stands.turn x.1.0))) handed.0)),
            (
              handed.1.0,
              handed.1.1 ∙ turns x.1.0,
              subst (λ i. HasItsUnit a.counter (wait i handed.1.0) t.sight.seen) numbers handed.1.2,
            ),
          ))
          x.1.2,
    ),
  )
    where
      numbers : w.number ≡ u.number
      numbers = ap (λ (q : SeatModel). q.number) e.0

      turns : (n : ℕ) → w.sight.stands.turn + n ≡ u.sight.stands.turn + suc n
      turns n = let k = ap (λ (q : SeatState). q.turn) e.1 in omega arith

      -- the first wait, and what followed
      first_then : (n : ℕ) (more : List Entry) → RunsAndSleeps w (Acquiring a (Parked u.sight.stands.turn P)) t (queued w.number a w.sight.stands.turn n ++ more)
          → RunsAndSleeps u (Acquiring a A3) t (queued u.number a u.sight.stands.turn (suc n) ++ more)
      first_then n more y = calls_then u w t (Acquiring a A3) (Acquiring a (Parked u.sight.stands.turn P))
          (Queue a.counter (wait u.number u.sight.stands.turn) a.lifo ∷ []) (queued u.number a (u.sight.stands.turn + 1) n ++ more)
          (ap (λ (q : SeatModel). q.table) e.0) numbers (ap (λ (q : SeatState). q.place) e.1)
          (sleepless u.number u w (Acquiring a A3) (Queue a.counter (wait u.number u.sight.stands.turn) a.lifo ∷ []) e.2)
          (subst (λ (q : ℕ × ℕ). Calls (RunsOrWaits q.0) w (Acquiring a (Parked u.sight.stands.turn P)) t (queued q.0 a q.1 n ++ more))
          (λ i. (numbers i, (e.1 i).turn)) y)
