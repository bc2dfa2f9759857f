-- What adding units is to its caller, up to the look for waits.
use Rattle.std.proofs.Common.{◌≡◌, ℕ, ◌-◌, ◌<◌, ◌≤◌, Ok, List, [], ◌∷◌, ◌++◌, refl, ap, ◌∙◌, subst, arith, append-nil}
use Rattle.std.specs.List.{All}
use Rattle.std.proofs.lemmas.List.Elements.{All-head, All-tail}
use Rattle.waiters.specs.declared.wait.WaitId.{WaitId}
use Rattle.step_table.specs.declared.entry.Entry.TheVariants.{Add, AddMany}
use Rattle.step_table.specs.declared.place.ReleaseRow.TheVariants.{R1, R2, R3}
use Rattle.step_table.specs.declared.place.ManyRow.TheVariants.{M1, M2, M3}
use Rattle.step_table.specs.declared.place.Place.{Place}
use Rattle.step_table.specs.declared.place.Place.TheVariants.{Rest, ReleasingMany}
use Rattle.step_table.specs.declared.word.Word.TheVariants.{Waiters}
use Rattle.step_table.specs.World.{Layout, SeatState}
use Rattle.step_table.specs.Table.{event_at}
use Rattle.step_table.specs.Counting.{IsWithin}
use Rattle.step_table.specs.Journal.{plain_start, replay}
use Rattle.step_law_semaphores.specs.SemaPath.{SemaSight, SemaStride, SemaPath, placed, plain_before, entries_of}
use Rattle.step_law_semaphores.proofs.SemaPaths.{the_sema_paths}
use Rattle.sema_table.specs.declared.answers.Posted.{Posted}
use Rattle.sema_table.specs.declared.answers.Posted.TheVariants.{Done, Owes}
use Rattle.sema_table.specs.declared.many_seat.PostedMany.{PostedMany}
use Rattle.sema_table.specs.declared.many_seat.PostedMany.TheVariants as many
use Rattle.sema_table.specs.Setting.{layout}
use Rattle.sema_table.specs.Seats.{SeatModel}
use Rattle.sema_table.specs.Strides.{IsRow}
use Rattle.sema_table.specs.Calls.{plain_seen, rows_of}
use Rattle.sema_table.specs.Tries.{IsPosted, releasing}
use Rattle.sema_table.specs.Many.{IsPostedMany, release_of}
use Rattle.sema_table.specs.CallersReleasing.{PostsUnit, PostsUnits}
use Rattle.sema_table.proofs.After.{after_call}
use Rattle.sema_table.proofs.Tellers.{row_tells}
use Rattle.sema_table.proofs.Finding.{within, nobody_there}

-- two rows, of which the last looked at the waiter word of c and found 0
module _ (m : Layout) (i c : ℕ) (v w : SemaSight) (first last : Place) (n : ℕ)
    (word : (z : SeatState) (lists : ℕ → List WaitId) → (event_at i z lists last).word ≡ Waiters c)
    (quiet : (z : SeatState) (lists : ℕ → List WaitId) → entries_of ((event_at i z lists last).leads 0).1 ≡ [])
    (inside : IsWithin m.counters last → c < m.counters) where
  none_after : (strides : List SemaStride) → All IsRow strides → SemaPath m i v strides w
      → rows_of strides ≡ (first, n) ∷ (last, 0) ∷ [] → (replay (plain_start m.starts) w.seen).lists c ≡ []
  none_after [] each path rows = absurd cc
  none_after (p ∷ []) each path rows = absurd cc
  none_after (p ∷ q ∷ x ∷ l) each path rows = absurd cc
  none_after (p ∷ q ∷ []) each path rows =
      let ran = All-head IsRow q [] (All-tail IsRow p (q ∷ []) each) in
      let row : ◌≡◌ {A = Place × ℕ} (q.stood.place, q.read) (last, 0) = cc in
      let at = ap (λ (x : Place × ℕ). x.0) row in let read = ap (λ (x : Place × ℕ). x.1) row in
      let told = row_tells m i path.0 path.2.0 q path.2.1 last ran at ∙ ap (λ k. entries_of ((event_at i q.stood (plain_before m q).lists last).leads k).1)
      read ∙ quiet q.stood (plain_before m q).lists in
      let seen : w.seen ≡ q.seen = (the_sema_paths.paths m).ends i v w (p ∷ []) q path ∙ ap (λ l. q.seen ++ l) told ∙ append-nil q.seen in
      ap (λ l. (replay (plain_start m.starts) l).lists c) seen
      ∙ nobody_there m i path.0 path.2.0 q path.2.1 c (inside (subst (IsWithin m.counters) at (within m i path.0 path.2.0 q path.2.1))) ran
      (ap (λ (z : Place). (event_at i q.stood (plain_before m q).lists z).word) at ∙ word q.stood (plain_before m q).lists) read

pub posts : (s : SeatModel) (c : ℕ) (posted : Posted) → (0 < s.left) × IsPosted s c posted → PostsUnit s c (Ok posted)
posts s c (Done t) (some, x) = (
  after_call s t (releasing c R1) Rest (s.left - 1) s.taken x.0 (Add c s.number ∷ []) x.2.1.call (ap (λ (z : SeatState). z.place) x.1)
      (λ e. cc) 1 0 (omega arith) (omega arith),
  ap (λ (y : SeatModel). (plain_seen y).lists c) x.0
      ∙ none_after (layout s.table.setting) s.number c (placed (releasing c R1) s.sight) t.sight (releasing c R1) (releasing c R2) x.2.0
      (λ z lists. refl) (λ z lists. refl) (λ h. h)
      x.2.1.call.strides x.2.1.call.each x.2.1.call.path x.2.1.rows_are,
)
posts s c (Owes t) (some, x) = (
  after_call s t (releasing c R1) (releasing c R3) (s.left - 1) s.taken x.0 (Add c s.number ∷ []) x.2.2.call (ap (λ (z : SeatState). z.place) x.1)
      (λ e. cc) 1 0 (omega arith) (omega arith),
  ap (λ (z : SeatState). z.place) x.1,
)

pub posts_many : (s : SeatModel) (c units : ℕ) (posted : PostedMany)
    → (units ≤ s.left) × IsPostedMany s (release_of c units) posted → PostsUnits s c units (Ok posted)
posts_many s c units (many.Done t) (some, x) =
    let r = release_of c units in (
      after_call s t (ReleasingMany r M1) Rest (s.left - units) s.taken x.0 (AddMany c units s.number ∷ []) x.2.1.call (ap (λ (z : SeatState). z.place) x.1)
          (λ e. cc) units 0 (omega arith) (omega arith),
      ap (λ (y : SeatModel). (plain_seen y).lists c) x.0
          ∙ none_after (layout s.table.setting) s.number c (placed (ReleasingMany r M1) s.sight) t.sight (ReleasingMany r M1) (ReleasingMany r M2) x.2.0
          (λ z lists. refl) (λ z lists. refl) (λ h. h.0)
          x.2.1.call.strides x.2.1.call.each x.2.1.call.path x.2.1.rows_are,
    )
posts_many s c units (many.Owes t) (some, x) =
    let r = release_of c units in (
      after_call s t (ReleasingMany r M1) (ReleasingMany r M3) (s.left - units) s.taken x.0 (AddMany c units s.number ∷ []) x.2.2.call
          (ap (λ (z : SeatState). z.place) x.1) (λ e. cc) units 0 (omega arith) (omega arith),
      ap (λ (z : SeatState). z.place) x.1,
    )
