-- What a look at a grant, and a sleep, are to their caller.
use Rattle.std.proofs.Common.{◌≡◌, ℕ, ◌+◌, List, [], ◌∷◌, ◌++◌, refl, sym, ap, ◌∙◌, subst, arith, append-nil}
use Rattle.step_table.specs.declared.place.Acquire.{Acquire}
use Rattle.step_table.specs.declared.place.AcquireRow.TheVariants.{A10, Parked}
use Rattle.step_table.specs.declared.place.ParkedRow.TheVariants.{P}
use Rattle.step_table.specs.declared.place.Place.TheVariants.{Rest, Acquiring}
use Rattle.step_table.specs.declared.word.Word.TheVariants.{Grant}
use Rattle.step_table.specs.World.{SeatState}
use Rattle.step_table.specs.Journal.{plain_start, IsLawful, HasLeft, HasItsUnit}
use Rattle.step_table.specs.Counting.{wait}
use Rattle.step_law_semaphores.specs.SemaPath.{SemaStride, SemaPath, placed}
use Rattle.step_law_semaphores.proofs.SemaPaths.{the_sema_paths}
use Rattle.sema_table.specs.declared.answers.Polled.{Polled}
use Rattle.sema_table.specs.declared.answers.Polled.TheVariants.{Still, Woken, Handed}
use Rattle.sema_table.specs.declared.answers.Roused.{Roused}
use Rattle.sema_table.specs.declared.answers.Roused.TheVariants as roused
use Rattle.sema_table.specs.Setting.{layout}
use Rattle.sema_table.specs.Seats.{TableModel, SeatModel}
use Rattle.sema_table.specs.Calls.{IsAt, ComesTo}
use Rattle.sema_table.specs.Waking.{OnlyLooks, IsPolled, CallsGranted}
use Rattle.sema_table.specs.Whole.{IsRoused}
use Rattle.sema_table.specs.Callers.{StandsOn, PollsGrant, SleepsUntilRoused}
use Rattle.sema_table.proofs.After.{after_path, after_call, after_look}
use Rattle.sema_table.proofs.Rousing.{look_more}
use Rattle.sema_table.proofs.Tellers.{row_tells}
use Rattle.sema_table.proofs.Finding.{left_there}

module _ (s t : SeatModel) (a : Acquire) (turn : ℕ) (at : IsAt s (Acquiring a (Parked turn P))) (looked : List SemaStride) where
  woken_by : t ≡ record s { sight = t.sight; strides = t.strides } → ComesTo s (Acquiring a A10) t
      → CallsGranted s (Acquiring a (Parked turn P)) t looked 1 → PollsGrant s (Woken t)
  woken_by same comes x =
      let m = layout s.table.setting in let from = Acquiring a (Parked turn P) in let v = placed from s.sight in
      let path : SemaPath m s.number v (looked ++ x.last ∷ []) t.sight = subst (λ l. SemaPath m s.number v l t.sight) x.strides_are x.call.path in
      let parts = (the_sema_paths.paths m).parted s.number v t.sight looked (x.last ∷ []) path in
      let quiet = row_tells m s.number parts.0 parts.2.0 x.last parts.2.1 from x.did x.row in
      let seen : t.sight.seen ≡ x.last.seen = (the_sema_paths.paths m).ends s.number v t.sight looked x.last path
      ∙ ap (λ l. x.last.seen ++ l) quiet ∙ append-nil x.last.seen in (
        a.counter,
        a.lifo,
        wait s.number turn,
        (refl, at),
        after_call s t from (Acquiring a A10) s.left s.taken same [] x.call (ap (λ (z : SeatState). z.place) comes) (λ e. cc) 0 0 (omega arith) (omega arith),
        ap (λ (z : SeatState). z.place) comes,
        subst (HasLeft a.counter (wait s.number turn)) (sym seen) (left_there m s.number parts.0 parts.2.0 x.last parts.2.1 a turn x.did x.row x.found),
      )

  handed_by : t ≡ record s { taken = s.taken + 1; sight = t.sight; strides = t.strides } → ComesTo s Rest t
      → CallsGranted s (Acquiring a (Parked turn P)) t looked 2 → HasItsUnit a.counter (wait s.number turn) t.sight.seen
      → PollsGrant s (Handed t)
  handed_by same comes x unit = (
    a.counter,
    a.lifo,
    wait s.number turn,
    (refl, at),
    after_call s t (Acquiring a (Parked turn P)) Rest s.left (s.taken + 1) same [] x.call (ap (λ (z : SeatState). z.place) comes) (λ e. cc) 0 1 (omega arith) refl,
    unit,
  )

pub polls : (s : SeatModel) (polled : Polled) → IsPolled s polled → PollsGrant s polled
polls s (Still t) x = (after_look s t (Grant s.number) 0 x.3, x.3.stays)
polls s (Woken t) x = woken_by s t x.1.0 x.1.1 x.1.2 [] x.0 x.1.3 x.1.4
polls s (Handed t) x = handed_by s t x.2.0 x.2.1 x.2.2 [] x.0 x.1 x.2.3 x.2.4

pub sleeps : (s : SeatModel) (answer : Roused) → IsRoused s answer → SleepsUntilRoused s answer
sleeps s (roused.Woken t) x = woken_by s t x.1.0 x.1.1 x.1.2 x.1.4.0 x.0 x.1.3 x.1.4.1
sleeps s (roused.Handed t) x = handed_by s t x.2.0 x.2.1 x.2.2 x.2.3.0 x.0 x.1 x.2.3.1 x.2.4

-- looks that found nothing, and one more
pub looks_in_vain : (s t u : SeatModel) → OnlyLooks s t → IsPolled t (Still u) → StandsOn s u
looks_in_vain s t u x y =
    let z = look_more s t u x y in let last : StandsOn t u = polls t (Still u) y in
    let lawful = subst (λ (q : TableModel). IsLawful (plain_start (layout q.setting).starts) u.sight.seen)
    (ap (λ (q : SeatModel). q.table) x.same) last.0.lawful in (
      after_path s u s.sight.stands.place 0 0 [] z.call.strides z.call.path z.call.told_is
          (ap (λ (q : SeatModel). q.table) z.same) (ap (λ (q : SeatModel). q.number) z.same)
          (let e = ap (λ (q : SeatModel). q.left) z.same in omega arith) (let e = ap (λ (q : SeatModel). q.taken) z.same in omega arith) lawful,
      z.stays,
    )
