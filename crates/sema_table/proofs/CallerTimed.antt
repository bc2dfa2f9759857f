-- What an acquire with a time-out is to its caller.
use Rattle.std.proofs.Common.{◌≡◌, ℕ, ◌+◌, Bool, false, Some, None, List, [], ◌∷◌, ◌++◌, map, refl, sym, ap, ◌∙◌, subst, inl, inr}
use Rattle.std.proofs.Common.{arith, append-nil}
use Rattle.std.specs.Prelude.{Result, Ok, Err, MatchResult}
use Rattle.std.proofs.lemmas.List.{map-append}
use Rattle.std.proofs.lemmas.List.Elements.{All-nil, All-cons, All-push}
use Rattle.waiters.specs.declared.wait.WaitId.{WaitId}
use Rattle.step_table.specs.declared.entry.Entry.{Entry}
use Rattle.step_table.specs.declared.entry.Entry.TheVariants.{Take, Queue, Withdraw}
use Rattle.step_table.specs.declared.place.AcquireRow.TheVariants.{A10, Parked}
use Rattle.step_table.specs.declared.place.ParkedRow.TheVariants.{P, D3}
use Rattle.step_table.specs.declared.place.Place.{Place}
use Rattle.step_table.specs.declared.place.Place.TheVariants.{Acquiring}
use Rattle.step_table.specs.World.{SeatState}
use Rattle.step_table.specs.Journal.{HasLeft, HasItsUnit}
use Rattle.sema_table.specs.declared.answers.Acquired.{Acquired}
use Rattle.sema_table.specs.declared.answers.Acquired.TheVariants.{Taken, TimedOut, LimitReached}
use Rattle.sema_table.specs.declared.answers.Entered.{Entered}
use Rattle.sema_table.specs.declared.answers.Entered.TheVariants as entered
use Rattle.sema_table.specs.declared.answers.GaveUp.TheVariants as gave_up
use Rattle.sema_table.specs.declared.answers.Polled.TheVariants as polled
use Rattle.sema_table.specs.declared.answers.Retried.TheVariants as retried
use Rattle.sema_table.specs.Seats.{SeatModel}
use Rattle.sema_table.specs.Callers.{IsSeatAfter, StandsOn, FindsNoUnit, WaitsForUnit, AcquiresUnit, IsWaitingOn, JoinsQueue}
use Rattle.sema_table.specs.Callers.{TriesAgain, TriesOnce, PollsGrant}
use Rattle.sema_table.specs.CallersLeaving.{GivesUp, IsLeavingOn, BeginsToGiveUp, SleepsAgain}
use Rattle.sema_table.specs.CallersTimed.{seat_in, QueuesUpTo, SleepsIn, IsToTry, WithdrewLast, WaitsInTime, AcquiresInTime}
use Rattle.sema_table.specs.CallersTimed.{HoldsLast, GivesUpHolding}
use Rattle.sema_table.proofs.After.{after_then}

plus_0 : (n : ℕ) → n + 0 ≡ n
plus_0 n = omega arith

none_plus : (n : ℕ) → 0 + n ≡ n
none_plus n = omega arith

-- nothing was done since
pub quietly : (s u t : SeatModel) (a g : ℕ) (told : List Entry) → IsSeatAfter s a g told u → IsSeatAfter u 0 0 [] t → IsSeatAfter s a g told t
quietly s u t a g told x y =
    subst (λ (q : ℕ × ℕ × List Entry). IsSeatAfter s q.0 q.1 q.2 t) (λ i. (plus_0 a i, plus_0 g i, append-nil told i))
    (after_then s u t a 0 g 0 told [] x y)

-- nothing was done before
since : (s u t : SeatModel) (a g : ℕ) (told : List Entry) → IsSeatAfter s 0 0 [] u → IsSeatAfter u a g told t → IsSeatAfter s a g told t
since s u t a g told x y =
    subst (λ (q : ℕ × ℕ). IsSeatAfter s q.0 q.1 told t) (λ i. (none_plus a i, none_plus g i)) (after_then s u t 0 a 0 g [] told x y)

none_since : (s u t : SeatModel) (c : ℕ) → IsSeatAfter s 0 0 [] u → FindsNoUnit u c t → FindsNoUnit s c t
none_since s u t c x y = (since s u t 0 0 [] x y.0, y.1)

-- of which call a seat sleeps, and the turn of its wait; and of which it has to try
abbrev sleep_at : Place → ℕ × Bool × ℕ
sleep_at (Acquiring a (Parked turn P)) = (a.counter, a.lifo, turn)
sleep_at _ = (0, false, 0)

abbrev leave_at : Place → ℕ × Bool × ℕ
leave_at (Acquiring a (Parked turn D3)) = (a.counter, a.lifo, turn)
leave_at _ = (0, false, 0)

abbrev try_at : Place → ℕ × Bool
try_at (Acquiring a A10) = (a.counter, a.lifo)
try_at _ = (0, false)

-- a seat waits on one counter alone, with one wait
one_wait : (t : SeatModel) (c d : ℕ) (lifo flag : Bool) (w x : WaitId) → IsWaitingOn t c lifo (Some w) → IsWaitingOn t d flag (Some x)
    → ◌≡◌ {A = ℕ × Bool × WaitId} (d, flag, x) (c, lifo, w)
one_wait t c d lifo flag w x on at =
    let q = ap sleep_at (sym at.1 ∙ on.1) in λ i. ((q i).0, (q i).1, record { seat = (at.0 ∙ sym on.0) i; turn = (q i).2 })

one_leave : (t : SeatModel) (c d : ℕ) (lifo flag : Bool) (w x : WaitId) → IsLeavingOn t c lifo w → IsLeavingOn t d flag x
    → ◌≡◌ {A = ℕ × Bool × WaitId} (d, flag, x) (c, lifo, w)
one_leave t c d lifo flag w x on at =
    let q = ap leave_at (sym at.1 ∙ on.1) in λ i. ((q i).0, (q i).1, record { seat = (at.0 ∙ sym on.0) i; turn = (q i).2 })

one_try : (t : SeatModel) (c d : ℕ) (lifo flag : Bool) → IsWaitingOn t c lifo None → IsWaitingOn t d flag None
    → ◌≡◌ {A = ℕ × Bool} (d, flag) (c, lifo)
one_try t c d lifo flag on at = ap try_at (sym at ∙ on)

module _ (s : SeatModel) (c : ℕ) (lifo : Bool) where
  abbrev queueing : List WaitId → List Entry
  queueing waits = map (λ x. Queue c x lifo) waits

  number_is : (w : WaitId) (a g : ℕ) (more : List Entry) (t : SeatModel) → QueuesUpTo s c lifo w a g more t → t.number ≡ s.number
  number_is w a g more t (before, all, after) = after.number

  -- what followed the waits
  then_told : (w : WaitId) (x t : SeatModel) (a g : ℕ) (more : List Entry) → QueuesUpTo s c lifo w 0 0 [] x → IsSeatAfter x a g more t
      → QueuesUpTo s c lifo w a g more t
  then_told w x t a g more (before, all, after) y = (
    before,
    all,
    subst (λ (q : ℕ × ℕ × List Entry). IsSeatAfter s q.0 q.1 (q.2 ++ more) t)
        (λ i. (none_plus a i, none_plus g i, append-nil (queueing (before ++ w ∷ [])) i))
        (after_then s x t 0 a 0 g (queueing (before ++ w ∷ []) ++ []) more after y),
  )

  -- one more wait
  then_queued : (w v : WaitId) (x t : SeatModel) → QueuesUpTo s c lifo w 0 0 [] x → v.seat ≡ s.number
      → IsSeatAfter x 0 0 (Queue c v lifo ∷ []) t → QueuesUpTo s c lifo v 0 0 [] t
  then_queued w v x t q own y = by (then_told w x t 0 0 (Queue c v lifo ∷ []) q y)
    where
      by : QueuesUpTo s c lifo w 0 0 (Queue c v lifo ∷ []) t → QueuesUpTo s c lifo v 0 0 [] t
      by (before, all, after) = (
        before ++ w ∷ [],
        All-push (λ (z : WaitId). z.seat ≡ s.number) (before ++ w ∷ []) v all own,
        subst (λ l. IsSeatAfter s 0 0 l t)
            (sym (map-append (λ (z : WaitId). Queue c z lifo) (before ++ w ∷ []) (v ∷ [])) ∙ sym (append-nil (queueing ((before ++ w ∷ []) ++ v ∷ []))))
            after,
      )

  first_queued : (w : WaitId) (t : SeatModel) → w.seat ≡ s.number → IsSeatAfter s 0 0 (Queue c w lifo ∷ []) t → QueuesUpTo s c lifo w 0 0 [] t
  first_queued w t own y = (
    [],
    All-cons (λ (z : WaitId). z.seat ≡ s.number) w [] own (All-nil (λ (z : WaitId). z.seat ≡ s.number)),
    y,
  )

  -- a unit was taken after the waits
  took : (w : WaitId) (t : SeatModel) → QueuesUpTo s c lifo w 0 1 (Take c s.number ∷ []) t → WaitsForUnit s c lifo t
  took w t (before, all, after) = (before ++ w ∷ [], all, inl after)

  came_by : (w : WaitId) (t : SeatModel) → QueuesUpTo s c lifo w 0 1 [] t → HasItsUnit c w t.sight.seen → WaitsForUnit s c lifo t
  came_by w t (before, all, after) unit = (
    before ++ w ∷ [],
    all,
    inr (subst (λ l. IsSeatAfter s 0 1 l t) (append-nil (queueing (before ++ w ∷ []))) after, (before, w, refl, unit)),
  )

  took_then : (w : WaitId) (x t : SeatModel) → QueuesUpTo s c lifo w 0 0 [] x → IsSeatAfter x 0 1 (Take c x.number ∷ []) t
      → WaitsForUnit s c lifo t
  took_then w x t q y =
      took w t (then_told w x t 0 1 (Take c s.number ∷ []) q
      (subst (λ i. IsSeatAfter x 0 1 (Take c i ∷ []) t) (number_is w 0 0 [] x q) y))

  -- a seat that sleeps
  module _ (x : SeatModel) (sleeps : SleepsIn s c lifo x) where
    pub still_sleeps : (y : SeatModel) → StandsOn x y → SleepsIn s c lifo y
    still_sleeps y (after, stands) = (
      sleeps.0,
      (sleeps.1.0 ∙ sym after.number, ap (λ (z : SeatState). z.place) stands ∙ sleeps.1.1),
      then_told sleeps.0 x y 0 0 [] sleeps.2 after,
    )

    pub woken : (y : SeatModel) → PollsGrant x (polled.Woken y) → IsToTry s c lifo y
    woken y (d, flag, v, at, after, try, gone) =
        let known = subst (λ (q : ℕ × Bool × WaitId). IsWaitingOn y q.0 q.1 None × HasLeft q.0 q.2 y.sight.seen)
        (one_wait x c d lifo flag sleeps.0 v sleeps.1 at) (try, gone) in
        (known.0, (sleeps.0, known.1, then_told sleeps.0 x y 0 0 [] sleeps.2 after))

    pub came : (y : SeatModel) → PollsGrant x (polled.Handed y) → WaitsForUnit s c lifo y
    came y (d, flag, v, at, after, unit) =
        let known = subst (λ (q : ℕ × Bool × WaitId). HasItsUnit q.0 q.2 y.sight.seen) (one_wait x c d lifo flag sleeps.0 v sleeps.1 at) unit in
        came_by sleeps.0 y (then_told sleeps.0 x y 0 1 [] sleeps.2 after) known

    pub handed : (y : SeatModel) → PollsGrant x (polled.Handed y) → WaitsInTime s c lifo (Taken y)
    handed y z = inl (came y z)

    pub holds : (y : SeatModel) → BeginsToGiveUp x y → HoldsLast s c lifo y
    holds y (d, flag, v, at, leaving, after) =
        let known = subst (λ (q : ℕ × Bool × WaitId). IsLeavingOn y q.0 q.1 q.2) (one_wait x c d lifo flag sleeps.0 v sleeps.1 at) leaving in
        (sleeps.0, known, then_told sleeps.0 x y 0 0 [] sleeps.2 after)

    pub left : (y : SeatModel) → GivesUp x (gave_up.Left y) → WithdrewLast s c lifo y
    left y (d, flag, v, at, after) =
        let known = subst (λ (q : ℕ × Bool × WaitId). IsSeatAfter x 1 0 (Withdraw q.0 q.2 ∷ []) y)
        (one_wait x c d lifo flag sleeps.0 v sleeps.1 at) after in
        (sleeps.0, then_told sleeps.0 x y 1 0 (Withdraw c sleeps.0 ∷ []) sleeps.2 known)

  -- a seat that was woken, and tries
  module _ (x : SeatModel) (tries : IsToTry s c lifo x) where
    abbrev w : WaitId
    w = tries.1.0

    pub taken : (y : SeatModel) → TriesOnce x (retried.Taken y) → WaitsInTime s c lifo (Taken y)
    taken y (d, flag, at, after) = inl (took_then w x y tries.1.2
        (subst (λ (q : ℕ × Bool). IsSeatAfter x 0 1 (Take q.0 x.number ∷ []) y) (one_try x c d lifo flag tries.0 at) after))

    found_none : (y : SeatModel) → TriesOnce x (retried.Zero y) → FindsNoUnit x c y
    found_none y (d, flag, at, found) = subst (λ (q : ℕ × Bool). FindsNoUnit x q.0 y) (one_try x c d lifo flag tries.0 at) found

    pub timed_out : (y : SeatModel) → TriesOnce x (retried.Zero y) → WaitsInTime s c lifo (TimedOut y)
    timed_out y z = (x, inr tries.1, found_none y z)

    -- and goes to the lock again
    pub enters : (y t : SeatModel) → TriesOnce x (retried.Zero y) → JoinsQueue y c lifo (entered.Taken t) → WaitsInTime s c lifo (Taken t)
    enters y t z after = inl (took_then w y t (then_told w x y 0 0 [] tries.1.2 (found_none y z).0) after)

    pub queues : (y t : SeatModel) → TriesOnce x (retried.Zero y) → JoinsQueue y c lifo (entered.Asleep t) → SleepsIn s c lifo t
    queues y t z (u, found, (v, at, after, last)) =
        let before = then_told w y u 0 0 [] (then_told w x y 0 0 [] tries.1.2 (found_none y z).0) found.0 in
        (v, at, then_queued w v u t before (at.0 ∙ after.number ∙ number_is w 0 0 [] u before) after)

    -- or tries and goes to the lock by one call
    joins : (y : Entered) → TriesAgain x y → JoinsQueue x c lifo y
    joins y (d, flag, at, joined) = subst (λ (q : ℕ × Bool). JoinsQueue x q.0 q.1 y) (one_try x c d lifo flag tries.0 at) joined

    pub retakes : (y : SeatModel) → TriesAgain x (entered.Taken y) → WaitsForUnit s c lifo y
    retakes y z = took_then w x y tries.1.2 (joins (entered.Taken y) z)

    pub requeues : (y : SeatModel) → TriesAgain x (entered.Asleep y) → SleepsIn s c lifo y
    requeues y z = by (joins (entered.Asleep y) z)
      where
        by : JoinsQueue x c lifo (entered.Asleep y) → SleepsIn s c lifo y
        by (u, found, (v, on, after, last)) =
            let before = then_told w x u 0 0 [] tries.1.2 found.0 in
            (v, on, then_queued w v u y before (on.0 ∙ after.number ∙ number_is w 0 0 [] u before) after)

  -- a seat that holds the lock, and sleeps on
  module _ (l : SeatModel) (held : HoldsLast s c lifo l) where
    pub sleeps_again : (t : SeatModel) → SleepsAgain l t → SleepsIn s c lifo t
    sleeps_again t (d, flag, v, at, on, after) =
        let known = subst (λ (q : ℕ × Bool × WaitId). IsWaitingOn t q.0 q.1 (Some q.2)) (one_leave l c d lifo flag held.0 v held.1 at) on in
        (held.0, known, then_told held.0 l t 0 0 [] held.2 after)

  -- a seat that has withdrawn its wait, and tries
  pub withdrew_took : (x t : SeatModel) → WithdrewLast s c lifo x → IsSeatAfter x 0 1 (Take c x.number ∷ []) t → WaitsInTime s c lifo (Taken t)
  withdrew_took x t (w, q) y =
      inr (x, (w, q), subst (λ i. IsSeatAfter x 0 1 (Take c i ∷ []) t) (number_is w 1 0 (Withdraw c w ∷ []) x q) y)

-- a seat that has found no unit, and goes to the lock
pub enters_first : (s y t : SeatModel) (c : ℕ) (lifo : Bool) → FindsNoUnit s c y → JoinsQueue y c lifo (entered.Taken t)
    → IsSeatAfter s 0 1 (Take c s.number ∷ []) t
enters_first s y t c lifo found after =
    since s y t 0 1 (Take c s.number ∷ []) found.0 (subst (λ i. IsSeatAfter y 0 1 (Take c i ∷ []) t) found.0.number after)

-- or queues a wait there
pub queues_first : (s y t : SeatModel) (c : ℕ) (lifo : Bool) → FindsNoUnit s c y → JoinsQueue y c lifo (entered.Asleep t)
    → (u : SeatModel) × FindsNoUnit s c u × SleepsIn u c lifo t
queues_first s y t c lifo found (u, later, (v, at, after, last)) = (
  u,
  none_since s y u c found.0 later,
  (v, at, first_queued u c lifo v t (at.0 ∙ after.number) after),
)

-- a seat that found no unit, and waited
pub then_waits : (s u : SeatModel) (c : ℕ) (lifo : Bool) (answer : Acquired) → FindsNoUnit s c u → WaitsInTime u c lifo answer
    → AcquiresInTime s c lifo answer
then_waits s u c lifo (Taken t) found waits = inr (u, found, waits)
then_waits s u c lifo (TimedOut t) found waits = inr (u, found, waits)
then_waits s u c lifo (LimitReached t) found waits = absurd waits

-- a seat that comes back with the lock, or with a unit
pub then_holds : (s u : SeatModel) (c : ℕ) (lifo : Bool) (answer : Result SeatModel SeatModel) → FindsNoUnit s c u
    → MatchResult answer (λ taken. WaitsForUnit u c lifo taken) (λ leaving. HoldsLast u c lifo leaving)
    → MatchResult answer (λ taken. AcquiresUnit s c lifo taken) (λ leaving. GivesUpHolding s c lifo leaving)
then_holds s u c lifo (Ok t) found waits = inr (u, found, waits)
then_holds s u c lifo (Err l) found holds = (u, found, holds)

-- an acquire without a time
pub untimed : (s t : SeatModel) (c : ℕ) (lifo : Bool) → AcquiresUnit s c lifo t → AcquiresInTime s c lifo (Taken t)
untimed s t c lifo (inl took) = inl took
untimed s t c lifo (inr (u, found, waits)) = inr (u, found, inl waits)

-- the seat that comes back is one of the same table
pub same_table : (s : SeatModel) (c : ℕ) (lifo : Bool) (answer : Acquired) → AcquiresInTime s c lifo answer → (seat_in answer).table ≡ s.table
same_table s c lifo (Taken t) (inl after) = after.table
same_table s c lifo (Taken t) (inr (u, found, inl (waits, all, inl after))) = after.table ∙ found.0.table
same_table s c lifo (Taken t) (inr (u, found, inl (waits, all, inr (after, last)))) = after.table ∙ found.0.table
same_table s c lifo (Taken t) (inr (u, found, inr (v, (w, (before, all, queued)), after))) = after.table ∙ queued.table ∙ found.0.table
same_table s c lifo (TimedOut t) (inl found) = found.0.table
same_table s c lifo (TimedOut t) (inr (u, found, (v, inl (w, (before, all, queued)), last))) = last.0.table ∙ queued.table ∙ found.0.table
same_table s c lifo (TimedOut t) (inr (u, found, (v, inr (w, gone, (before, all, queued)), last))) = last.0.table ∙ queued.table ∙ found.0.table
same_table s c lifo (LimitReached t) (same, none) = ap (λ (x : SeatModel). x.table) same
