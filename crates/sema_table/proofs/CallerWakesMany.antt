-- What a release of many units is to its caller, from its look for waits on, and whole.
use Rattle.std.proofs.Common.{◌≡◌, ℕ, ◌≤◌, Ok, List, [], ◌∷◌, ◌++◌, length, map, refl, sym, ap, ◌∙◌, subst, inl, inr}
use Rattle.std.proofs.Common.{arith, append-nil}
use Rattle.std.specs.List.{All}
use Rattle.std.proofs.lemmas.List.{map-append}
use Rattle.waiters.specs.declared.wait.WaitId.{WaitId}
use Rattle.step_table.specs.declared.entry.Entry.{Entry}
use Rattle.step_table.specs.declared.entry.Entry.TheVariants.{AddMany, Leave}
use Rattle.step_table.specs.declared.place.ReleaseMany.{ReleaseMany}
use Rattle.step_table.specs.declared.place.ManyRow.TheVariants.{M3}
use Rattle.step_table.specs.declared.place.Place.{Place}
use Rattle.step_table.specs.declared.place.Place.TheVariants.{Rest, ReleasingMany}
use Rattle.step_table.specs.World.{Layout, SeatState}
use Rattle.step_table.specs.Counting.{counter_at}
use Rattle.step_table.proofs.Paths.{goes_on_here}
use Rattle.step_law_semaphores.specs.Invariant.{HandFits}
use Rattle.step_law_semaphores.specs.SemaPath.{SemaSight, SemaStride, SemaPath, placed}
use Rattle.sema_table.specs.declared.many_seat.PostedMany.TheVariants as many
use Rattle.sema_table.specs.Setting.{layout}
use Rattle.sema_table.specs.Seats.{SeatModel}
use Rattle.sema_table.specs.Strides.{IsRow}
use Rattle.sema_table.specs.Calls.{RunsRows}
use Rattle.sema_table.specs.Many.{release_of, leaves, IsWokenMany, IsWokenSeats, IsReleasedMany}
use Rattle.sema_table.specs.Callers.{IsSeatAfter}
use Rattle.sema_table.specs.CallersReleasing.{SeesWaiting, HasWokenSome, WakesSome, WakesThese, ReleasesUnits}
use Rattle.sema_table.proofs.After.{after_call}
use Rattle.sema_table.proofs.Finding.{fits}
use Rattle.sema_table.proofs.Sighting.{seat_then, until_then, goes_on}
use Rattle.sema_table.proofs.CallerPosts.{posts_many}
use Rattle.sema_table.proofs.CallerWakes.{Empty, sees_first, after_added, sees_after}
use Rattle.sema_table.proofs.CallerLooksMany.{woke_all}

pub wakes_some : (s t : SeatModel) (n : ℕ) → IsWokenMany s t n → WakesSome s t n
wakes_some s t n x =
    let r = x.0 in let m = layout s.table.setting in let i : ℕ = s.number in let from = ReleasingMany r M3 in let v = placed from s.sight in let y = x.4 in
    let at = ap (λ (z : SeatState). z.place) x.3 in
    let whole = after_call s t from Rest s.left s.taken x.2 (leaves i r y.waits) y.call at (λ e. cc) 0 0 (omega arith) (omega arith) in
    let all = woke_all m i v t.sight y.call.strides r y.waits y.call.each y.call.path refl at y.call.told_is in
    let most = all.0 in let count = y.count in let bare = hand_bare m i v t.sight y.call.strides r y.call.each y.call.path at in (
      r.counter,
      r.units,
      x.1,
      record {
        waits = y.waits;
        count = y.count;
        after = whole;
        first = λ before rest w is.
            let told : leaves i r y.waits ≡ leaves i r before ++ Leave r.counter w i ∷ leaves i r rest = ap (leaves i r) is
            ∙ map-append (λ w. Leave r.counter w i) before (w ∷ rest) in
            let o = sees_first s t from (leaves i r before) (leaves i r rest) r.counter w (subst (RunsRows s from t) told y.call)
            (subst (λ l. IsSeatAfter s 0 0 l t) told whole) in (o.1, o.0);
        most = omega (arith, most, count);
        all = λ h. let o = all.1 (omega (arith, bare, h, count)) in (
          seat_then s t from (leaves i r y.waits) o.0 (Empty m r.counter) o.1,
          until_then s t from (leaves i r y.waits) o.0 (Empty m r.counter) o.1,
          o.1.holds,
          goes_on s t from (leaves i r y.waits) o.0 (Empty m r.counter) o.1,
        );
      },
    )
  where
    -- no wait is in hand as it begins to look
    hand_bare : (m : Layout) (i : ℕ) (v w : SemaSight) (strides : List SemaStride) (r : ReleaseMany) → All IsRow strides
        → SemaPath m i (placed (ReleasingMany r M3) v) strides w → w.stands.place ≡ Rest → length v.stands.hand ≡ 0
    hand_bare m i v w [] r each path ends = let e : ReleasingMany r M3 ≡ Rest = sym (ap (λ (x : SemaSight). x.stands.place) path) ∙ ends in absurd cc
    hand_bare m i v w (p ∷ strides) r each path ends =
        let fit : HandFits p.stood.place (length p.stood.hand) = fits m i (placed (ReleasingMany r M3) v) path.0 p path.1 in
        ap (λ (z : SeatState). length z.hand) (sym path.1.stood) ∙ subst (λ (z : SeatState). HandFits z.place (length p.stood.hand)) path.1.stood fit

-- and the seats of the waits that left
pub wakes_these : (s t : SeatModel) (seats : List ℕ) → IsWokenSeats s t seats → WakesThese s t seats
unfolding wakes_some
wakes_these s t seats x = let w = wakes_some s t (length seats) (x.0, x.1, x.2, x.3, x.4.0) in (w.0, w.1, w.2, (w.3, x.4.1))

-- after units were added
woken_some_after : (s u t : SeatModel) (a c units n : ℕ) (told : List Entry) → IsSeatAfter s a 0 told u
    → HasWokenSome u 0 [] c units t n → HasWokenSome s a told c units t n
woken_some_after s u t a c units n told x y =
    let out : ℕ → List WaitId → List Entry = λ k waits. map (λ w. Leave c w k) waits in record {
      waits = y.waits;
      count = y.count;
      after = subst (λ k. IsSeatAfter s a 0 (told ++ out k y.waits) t) x.number (after_added s u t a told (out u.number y.waits) x y.after);
      first = λ before rest w is. let o = y.first before rest w is in (
        (λ e. o.0 (e ∙ sym x.number)),
        (
          o.1.0,
          subst (λ k. SeesWaiting s a (told ++ out k before) c (w ∷ o.1.0) t) x.number
              (sees_after s u t a c told (out u.number before) (w ∷ o.1.0) x o.1.1),
        ),
      );
      most = y.most;
      all = λ h. subst (λ k. SeesWaiting s a (told ++ out k y.waits) c [] t) x.number (sees_after s u t a c told (out u.number y.waits) [] x (y.all h));
    }

-- where nobody waited
woken_none : (s t : SeatModel) (a c units n : ℕ) (told : List Entry) → IsSeatAfter s a 0 told t → SeesWaiting s a told c [] t
    → n ≡ 0 → HasWokenSome s a told c units t n
woken_none s t a c units n told x sees none = record {
  waits = [];
  count = sym none;
  after = subst (λ l. IsSeatAfter s a 0 l t) (sym (append-nil told)) x;
  first = λ before rest w is. absurd (nowhere before rest w is);
  most = omega (arith, none);
  all = λ h. subst (λ l. SeesWaiting s a l c [] t) (sym (append-nil told)) sees;
}
  where
    nowhere : (before rest : List WaitId) (w : WaitId) → [] ≡ before ++ w ∷ rest → ⊥
    nowhere [] rest w e = cc
    nowhere (x ∷ before) rest w e = cc

abbrev units_at : Place → ℕ
units_at (ReleasingMany r row) = r.units
units_at _ = 0

pub releases_many : (s t : SeatModel) (c units n : ℕ) → (units ≤ s.left) × IsReleasedMany s (release_of c units) t n
    → ReleasesUnits s c units (Ok (t, n))
releases_many s t c units n (some, inl (posted, none)) =
    let x = posts_many s c units (many.Done t) (some, posted) in
    woken_none s t units c units n (AddMany c units s.number ∷ []) x.0 (t, x.0, x.1, goes_on_here t.sight.seen) none
releases_many s t c units n (some, inr (u, posted, woken)) =
    let x = posts_many s c units (many.Owes u) (some, posted) in let y = wakes_some u t n woken in let owed = sym y.2 ∙ x.1 in
    woken_some_after s u t units c units n (AddMany c units s.number ∷ []) x.0
    (subst (λ (q : ℕ × ℕ). HasWokenSome u 0 [] q.0 q.1 t n) (λ j. (counter_at (owed j), units_at (owed j))) y.3)
