-- The try of a seat that was woken, which ends before the lock, is to its caller.
use Rattle.std.proofs.Common.{◌≡◌, ◌⊎◌, ◌==◌, if◌then◌else◌, Bool, true, false, ℕ, zero, suc, ◌+◌, List, [], ◌∷◌, ◌++◌}
use Rattle.std.proofs.Common.{refl, sym, ap, ◌∙◌, subst, inl, inr, arith, append-nil}
use Rattle.std.specs.List.{All}
use Rattle.std.proofs.lemmas.List.Elements.{All-head, All-tail}
use Rattle.step_table.specs.declared.entry.Entry.{Entry}
use Rattle.step_table.specs.declared.entry.Entry.TheVariants.{Take, Queue}
use Rattle.step_table.specs.declared.effect.Effect.TheVariants.{Nothing, Tells}
use Rattle.step_table.specs.declared.place.Acquire.{Acquire}
use Rattle.step_table.specs.declared.place.AcquireRow.TheVariants.{A3, A4, A5, A6, A7, A8, A10, A11}
use Rattle.step_table.specs.declared.place.Place.{Place}
use Rattle.step_table.specs.declared.place.Place.TheVariants.{Rest, Acquiring}
use Rattle.step_table.specs.World.{Layout, SeatState}
use Rattle.step_table.specs.Event.{Next, zero_or}
use Rattle.step_table.specs.Counting.{wait}
use Rattle.step_table.specs.Journal.{plain_start, replay}
use Rattle.step_table.specs.Path.{runs, all_told}
use Rattle.step_table.proofs.Paths.{stride_told}
use Rattle.step_law_semaphores.specs.SemaPath.{SemaSight, SemaStride, SemaRan, SemaPath, semaphores, placed, plain_before, entries_of}
use Rattle.sema_table.specs.declared.seat.Numbers.{Numbers}
use Rattle.sema_table.specs.declared.answers.Entered.TheVariants as entered
use Rattle.sema_table.specs.declared.answers.Retried.{Retried}
use Rattle.sema_table.specs.declared.answers.Retried.TheVariants.{Taken, Zero}
use Rattle.sema_table.specs.Setting.{layout}
use Rattle.sema_table.specs.Places.{is_free}
use Rattle.sema_table.specs.Rule.{sight_by}
use Rattle.sema_table.specs.Seats.{Token, SeatModel, seat_of, IsSeat, IsWoken}
use Rattle.sema_table.specs.Strides.{IsRow}
use Rattle.sema_table.specs.Walks.{Walked, moved_to}
use Rattle.sema_table.specs.Calls.{plain_seen}
use Rattle.sema_table.specs.Waking.{TriesWoken}
use Rattle.sema_table.specs.Callers.{TriesOnce}
use Rattle.sema_table.proofs.After.{after_call}
use Rattle.sema_table.proofs.Calling.{calls}
use Rattle.sema_table.proofs.Retrying.{again_token}
use Rattle.sema_table.proofs.Tellers.{row_tells, row_leads}
use Rattle.sema_table.proofs.CallerTries.{both_nil}
use Rattle.sema_table.proofs.Changing.{number_there}
use Rattle.sema_table.proofs.CallerEnters.{retries}

-- under the lock, before anything was told
abbrev Under : Place → Type 0
Under (Acquiring b A4) = Unit {0}
Under (Acquiring b A5) = Unit {0}
Under (Acquiring b (A6 left)) = Unit {0}
Under (Acquiring b A7) = Unit {0}
Under _ = ⊥

-- at the lock, or under it
abbrev From : Place → Type 0
From (Acquiring b A3) = Unit {0}
From place = Under place

under_from : (z : Place) → Under z → From z
under_from (Acquiring b A4) is = tt
under_from (Acquiring b A5) is = tt
under_from (Acquiring b (A6 left)) is = tt
under_from (Acquiring b A7) is = tt
under_from _ is = absurd is

-- a seat that was woken, and has yet to try
abbrev Tries : Acquire → Place → Type 0
Tries a (Acquiring b A10) = b ≡ a
Tries a (Acquiring b (A11 left)) = b ≡ a
Tries a _ = ⊥

abbrev NoUnit : Layout → ℕ → List Entry → Type 0
NoUnit m c seen = (replay (plain_start m.starts) seen).numbers c ≡ 0

-- the seat goes to q with a unit, or back
abbrev taken_or : Bool → Place → Place → ℕ → ℕ → Next
taken_or won q back c k = if won then (q, Tells (Take c k)) else (back, Nothing)

module _ (m : Layout) (i : ℕ) where
  -- a row that told nothing stays under the lock
  module _ (v w : SemaSight) (p : SemaStride) (ran : SemaRan m i v p w) (row : p.deed ≡ runs) (quiet : p.told ≡ []) where
    by_look : (b : Acquire) (n : ℕ) → p.read ≡ n → w.stands.place ≡ zero_or (Acquiring b A7) (λ left. Acquiring b (A6 left)) p.read → Under w.stands.place
    by_look b zero e leads = subst Under (sym (leads ∙ ap (zero_or (Acquiring b A7) (λ left. Acquiring b (A6 left))) e)) tt
    by_look b (suc n) e leads = subst Under (sym (leads ∙ ap (zero_or (Acquiring b A7) (λ left. Acquiring b (A6 left))) e)) tt

    by_won : (b : Acquire) (won : Bool) → p.told ≡ entries_of (taken_or won (Acquiring b A8) (Acquiring b A5) b.counter i).1
        → w.stands.place ≡ (taken_or won (Acquiring b A8) (Acquiring b A5) b.counter i).0 → Under w.stands.place
    by_won b true told leads = let e : Take b.counter i ∷ [] ≡ [] = sym told ∙ quiet in absurd cc
    by_won b false told leads = subst Under (sym leads) tt

    stays_under : (z : Place) → p.stood.place ≡ z → From z → Under w.stands.place
    stays_under (Acquiring b A3) at is = subst Under (sym (row_leads m i v w p ran (Acquiring b A3) row at)) tt
    stays_under (Acquiring b A4) at is = subst Under (sym (row_leads m i v w p ran (Acquiring b A4) row at)) tt
    stays_under (Acquiring b A5) at is = by_look b p.read refl (row_leads m i v w p ran (Acquiring b A5) row at)
    stays_under (Acquiring b (A6 left)) at is = let z = Acquiring b (A6 left) in
        by_won b (p.read == left + 1) (row_tells m i v w p ran z row at) (row_leads m i v w p ran z row at)
    stays_under (Acquiring b A7) at is =
        let e : Queue b.counter (wait i p.stood.turn) b.lifo ∷ [] ≡ [] = sym (row_tells m i v w p ran (Acquiring b A7) row at) ∙ quiet in absurd cc
    stays_under _ at is = absurd is

  -- so who went to the lock and told nothing is not back at it
  not_back : (v w : SemaSight) (strides : List SemaStride) → All IsRow strides → SemaPath m i v strides w → Under v.stands.place
      → all_told strides ≡ [] → (b : Acquire) → w.stands.place ≡ Acquiring b A3 → ⊥
  not_back v w [] each path is told b at = subst Under (sym (ap (λ (x : SemaSight). x.stands.place) path) ∙ at) is
  not_back v w (p ∷ strides) each path is told b at = let none = both_nil p.told (all_told strides) told in
      not_back path.0 w strides (All-tail IsRow p strides each) path.2
      (stays_under v path.0 p path.1 (All-head IsRow p strides each) none.0 v.stands.place (ap (λ (z : SeatState). z.place) path.1.stood)
      (under_from v.stands.place is)) none.1 b at

  -- a row of the try
  module _ (v w : SemaSight) (p : SemaStride) (ran : SemaRan m i v p w) (row : p.deed ≡ runs) (quiet : p.told ≡ []) (a : Acquire) where
    abbrev Tried : Type 0
    Tried = ((w.stands.place ≡ Acquiring a A3) × ((plain_before m p).numbers a.counter ≡ 0)) ⊎ Tries a w.stands.place

    try_look : (b : Acquire) → b ≡ a → (n : ℕ) → p.read ≡ n → p.read ≡ (plain_before m p).numbers b.counter
        → w.stands.place ≡ zero_or (Acquiring b A3) (λ left. Acquiring b (A11 left)) p.read → Tried
    try_look b is zero e number leads = inl (
      leads ∙ ap (zero_or (Acquiring b A3) (λ left. Acquiring b (A11 left))) e ∙ ap (λ (x : Acquire). Acquiring x A3) is,
      ap (λ (x : Acquire). (plain_before m p).numbers x.counter) (sym is) ∙ sym number ∙ e,
    )
    try_look b is (suc n) e number leads =
        inr (subst (Tries a) (sym (leads ∙ ap (zero_or (Acquiring b A3) (λ left. Acquiring b (A11 left))) e)) is)

    try_won : (b : Acquire) → b ≡ a → (won : Bool) → p.told ≡ entries_of (taken_or won Rest (Acquiring b A10) b.counter i).1
        → w.stands.place ≡ (taken_or won Rest (Acquiring b A10) b.counter i).0 → Tried
    try_won b is true told leads = let e : Take b.counter i ∷ [] ≡ [] = sym told ∙ quiet in absurd cc
    try_won b is false told leads = inr (subst (Tries a) (sym leads) is)

    tries_on : (z : Place) → p.stood.place ≡ z → Tries a z → Tried
    tries_on (Acquiring b A10) at is = let z = Acquiring b A10 in
        try_look b is p.read refl (number_there m i b.counter v w p z ran row at (λ y. refl)) (row_leads m i v w p ran z row at)
    tries_on (Acquiring b (A11 left)) at is = let z = Acquiring b (A11 left) in
        try_won b is (p.read == left + 1) (row_tells m i v w p ran z row at) (row_leads m i v w p ran z row at)
    tries_on _ at is = absurd is

  -- a try that ended at the lock found no unit at its last row
  none_left : (v w : SemaSight) (strides : List SemaStride) (a : Acquire) → All IsRow strides → SemaPath m i v strides w → Tries a v.stands.place
      → all_told strides ≡ [] → w.stands.place ≡ Acquiring a A3 → NoUnit m a.counter w.seen
  none_left v w [] a each path is told at = absurd (subst (Tries a) (sym (ap (λ (x : SemaSight). x.stands.place) path) ∙ at) is)
  none_left v w (p ∷ strides) a each path is told at =
      by (tries_on v path.0 p path.1 row none.0 a v.stands.place (ap (λ (z : SeatState). z.place) path.1.stood) is)
      (λ next. none_left path.0 w strides a (All-tail IsRow p strides each) path.2 next none.1 at)
    where
      none : (p.told ≡ []) × (all_told strides ≡ [])
      none = both_nil p.told (all_told strides) told

      row : IsRow p
      row = All-head IsRow p strides each

      last : (l : List SemaStride) → All IsRow l → SemaPath m i path.0 l w → all_told l ≡ [] → path.0.stands.place ≡ Acquiring a A3
          → (plain_before m p).numbers a.counter ≡ 0 → NoUnit m a.counter w.seen
      last [] rows rest quiet here zero_is = subst (NoUnit m a.counter) (sym (
          ap (λ (x : SemaSight). x.seen) rest ∙ stride_told (semaphores m) i v path.0 p path.1 ∙ ap (λ l. p.seen ++ l) none.0
          ∙ append-nil p.seen)) zero_is
      last (q ∷ l) rows rest quiet here zero_is = let both = both_nil q.told (all_told l) quiet in
          absurd (not_back rest.0 w l (All-tail IsRow q l rows) rest.2
          (stays_under path.0 rest.0 q rest.1 (All-head IsRow q l rows) both.0 (Acquiring a A3)
          (ap (λ (z : SeatState). z.place) rest.1.stood ∙ here) tt) both.1 a at)

      by : Tried v path.0 p path.1 row none.0 a → (Tries a path.0.stands.place → NoUnit m a.counter w.seen) → NoUnit m a.counter w.seen
      by (inl (here, zero_is)) later = last strides (All-tail IsRow p strides each) path.2 none.1 here zero_is
      by (inr next) later = later next

-- there was none
module _ (s t : Token) (n : Numbers) (a : Acquire) (seat : IsWoken s n a)
    (x : Walked s (Acquiring a A10) t (moved_to s (Acquiring a A3)) [] 0) (bare : t.me.1 ≡ s.me.1) where
  pub zero_seat : IsSeat t n
  zero_seat = record {
    token_is = again_token s t n a seat x bare;
    free = ap (λ (q : SeatState). is_free q.place) x.stands_is;
    counted = x.counted refl;
  }

  pub tries_zero : TriesWoken (seat_of s n) (Zero (seat_of t n))
  tries_zero = let row = calls s t n n (Acquiring a A10) (moved_to s (Acquiring a A3)) [] 0 seat.token_is x in (
    (λ i. record {
      table = x.table_is i;
      number = n.seat;
      left = n.left;
      taken = n.taken;
      sight = sight_by t.me.0.own.knows;
      strides = t.me.0.own.gone;
    }),
    (
      a,
      seat.at,
      x.stands_is,
      row,
      ap (λ (z : SeatModel). (plain_seen z).numbers a.counter) (λ i. record (seat_of t n) { table = x.table_is i })
          ∙ none_left (layout (seat_of s n).table.setting) n.seat (placed (Acquiring a A10) (sight_by s.me.0.own.knows)) (sight_by t.me.0.own.knows)
          row.strides a row.each row.path refl row.told_is (ap (λ (q : SeatState). q.place) x.stands_is),
    ),
  )

pub tries_once : (s : SeatModel) (answer : Retried) → TriesWoken s answer → TriesOnce s answer
tries_once s (Taken t) x = retries s (entered.Taken t) x
tries_once s (Zero t) x = let y = x.1 in let a = y.0 in let at = ap (λ (z : SeatState). z.place) y.2 in (
  a.counter,
  a.lifo,
  y.1,
  (
    after_call s t (Acquiring a A10) (Acquiring a A3) s.left s.taken x.0 [] y.3 at (λ e. cc) 0 0 (omega arith) (omega arith),
    y.4,
  ),
)
