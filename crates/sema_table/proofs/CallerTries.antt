-- What looks and a try are to their caller.
use Rattle.std.proofs.Common.{◌≡◌, ◌≢◌, ℕ, ◌+◌, List, [], ◌∷◌, ◌++◌, refl, sym, ap, ◌∙◌, subst, arith, append-nil}
use Rattle.std.specs.List.{All}
use Rattle.std.proofs.lemmas.List.Elements.{All-head, All-tail}
use Rattle.step_table.specs.declared.entry.Entry.{Entry}
use Rattle.step_table.specs.declared.entry.Entry.TheVariants.{Take}
use Rattle.step_table.specs.declared.place.AcquireRow.TheVariants.{A1, A2, A3}
use Rattle.step_table.specs.declared.place.Place.{Place}
use Rattle.step_table.specs.declared.place.Place.TheVariants.{Rest}
use Rattle.step_table.specs.declared.word.Word.TheVariants.{Counter, Lock, Waiters}
use Rattle.step_table.specs.World.{Layout, SeatState}
use Rattle.step_table.specs.Journal.{plain_start, replay}
use Rattle.step_table.specs.Path.{all_told}
use Rattle.step_law_semaphores.specs.SemaPath.{SemaSight, SemaStride, SemaPath, placed}
use Rattle.step_law_semaphores.proofs.SemaPaths.{the_sema_paths}
use Rattle.sema_table.specs.declared.answers.Tried.{Tried}
use Rattle.sema_table.specs.declared.answers.Tried.TheVariants.{Taken, Zero, Lost}
use Rattle.sema_table.specs.Setting.{root, layout}
use Rattle.sema_table.specs.Seats.{SeatModel}
use Rattle.sema_table.specs.Strides.{IsRow}
use Rattle.sema_table.specs.Calls.{plain_seen, rows_of}
use Rattle.sema_table.specs.Tries.{FindsHeld, IsValue, IsWaiters, IsTried, acquiring}
use Rattle.sema_table.specs.Callers.{IsSeatAfter, StandsOn, ReadsNumber, CountsWaits, TriesToAcquire}
use Rattle.sema_table.proofs.Changing.{number_there}
use Rattle.sema_table.proofs.After.{after_strides, after_call, after_look}
use Rattle.sema_table.proofs.Sighting.{Sighted, at_stride, seat_then, until_then, since_then}

pub reads_number : (s t : SeatModel) (c n : ℕ) → IsValue s c n t → ReadsNumber s c n t
reads_number s t c n x = (after_look s t (Counter c) n x.looked, x.number)

pub stands_on : (s t : SeatModel) (c : ℕ) → FindsHeld s c t → StandsOn s t
stands_on s t c (n, held, looked) = (after_look s t (Lock (root s.table.setting c)) n looked, looked.stays)

pub counts_waits : (s t : SeatModel) (c n : ℕ) → IsWaiters s c n t → CountsWaits s c n t
counts_waits s t c n x = (after_look s t (Waiters (root s.table.setting c)) n x.looked, x.near)

pub both_nil : (a b : List Entry) → a ++ b ≡ [] → (a ≡ []) × (b ≡ [])
both_nil [] b e = (refl, e)
both_nil (x ∷ a) b e = absurd cc

-- a try that was lost: two strides
module _ (s t : SeatModel) (c left n : ℕ) (same : t ≡ record s { sight = t.sight; strides = t.strides }) (ne : n ≢ left + 1) where
  abbrev m : Layout
  m = layout s.table.setting

  abbrev v : SemaSight
  v = placed (acquiring c A1) s.sight

  lost_by : (strides : List SemaStride) → All IsRow strides → SemaPath m s.number v strides t.sight → all_told strides ≡ []
      → rows_of strides ≡ (acquiring c A1, left + 1) ∷ (acquiring c (A2 left), n) ∷ [] → TriesToAcquire s c Lost t
  lost_by [] each path told rows = absurd cc
  lost_by (p ∷ []) each path told rows = absurd cc
  lost_by (p ∷ q ∷ x ∷ l) each path told rows = absurd cc
  lost_by (p ∷ q ∷ []) each path told rows =
      let ran_p = All-head IsRow p (q ∷ []) each in let ran_q = All-head IsRow q [] (All-tail IsRow p (q ∷ []) each) in
      let row_p : ◌≡◌ {A = Place × ℕ} (p.stood.place, p.read) (acquiring c A1, left + 1) = cc in
      let row_q : ◌≡◌ {A = Place × ℕ} (q.stood.place, q.read) (acquiring c (A2 left), n) = cc in
      let at_p = ap (λ (x : Place × ℕ). x.0) row_p in let at_q = ap (λ (x : Place × ℕ). x.0) row_q in
      let read_p = ap (λ (x : Place × ℕ). x.1) row_p in let read_q = ap (λ (x : Place × ℕ). x.1) row_q in
      let number_p = number_there m s.number c v path.0 p (acquiring c A1) path.1 ran_p at_p (λ z. refl) in
      let number_q = number_there m s.number c path.0 path.2.0 q (acquiring c (A2 left)) path.2.1 ran_q at_q (λ z. refl) in
      let quiet = both_nil q.told [] (both_nil p.told (q.told ++ []) told).1 in
      let seen_t : t.sight.seen ≡ q.seen = (the_sema_paths.paths m).ends s.number v t.sight (p ∷ []) q path
      ∙ ap (λ l. q.seen ++ l) quiet.0 ∙ append-nil q.seen in
      let now : (plain_seen t).numbers c ≡ n = ap (λ (x : SeatModel). (plain_seen x).numbers c) same
      ∙ ap (λ l. (replay (plain_start m.starts) l).numbers c) seen_t ∙ sym number_q ∙ read_q in
      let whole : IsSeatAfter s 0 0 [] t = after_strides s t (acquiring c A1) 0 0 [] (p ∷ q ∷ []) path told (λ e. cc)
      (ap (λ (x : SeatModel). x.table) same) (ap (λ (x : SeatModel). x.number) same)
      (let e = ap (λ (x : SeatModel). x.left) same in omega arith) (let e = ap (λ (x : SeatModel). x.taken) same in omega arith) in
      let seen : Sighted m s.number v t.sight [] (all_told (p ∷ q ∷ [])) (λ l. (replay (plain_start m.starts) l).numbers c ≡ left + 1) =
      at_stride m s.number v t.sight [] (q ∷ []) p (λ l. (replay (plain_start m.starts) l).numbers c ≡ left + 1) path (sym number_p ∙ read_p) in
      let Q = λ (l : List Entry). (replay (plain_start m.starts) l).numbers c ≡ left + 1 in
      let u = seat_then s t (acquiring c A1) [] (all_told (p ∷ q ∷ [])) Q seen in
      let found = seen.holds in (
        u,
        until_then s t (acquiring c A1) [] (all_told (p ∷ q ∷ [])) Q seen,
        (omega arith),
        subst (λ l. IsSeatAfter u 0 0 l t) told (since_then s t (acquiring c A1) [] (all_told (p ∷ q ∷ [])) Q seen 0 0 [] whole),
        (λ e. ne (sym now ∙ e ∙ found)),
      )

pub tries : (s t : SeatModel) (c : ℕ) (answer : Tried) → IsTried s c answer t → TriesToAcquire s c answer t
tries s t c Zero x = (
  after_call s t (acquiring c A1) (acquiring c A3) s.left s.taken x.0 [] x.2.call (ap (λ (z : SeatState). z.place) x.1)
      (λ e. cc) 0 0 (omega arith) (omega arith),
  x.3,
)
tries s t c Taken x = after_call s t (acquiring c A1) Rest s.left (s.taken + 1) x.0 (Take c s.number ∷ []) x.2.1.call
    (ap (λ (z : SeatState). z.place) x.1) (λ e. cc) 0 1 (omega arith) refl
tries s t c Lost x = lost_by s t c x.2.0 x.2.1 x.0 x.2.2 x.2.3.call.strides x.2.3.call.each x.2.3.call.path x.2.3.call.told_is x.2.3.rows_are
