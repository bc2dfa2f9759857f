-- What a call by which a sleeping seat gives up is to its caller.
use Rattle.std.proofs.Common.{◌≡◌, ◌⊎◌, ℕ, zero, suc, ◌-◌, ◌<◌, ◌≤◌, Bool, true, false, if◌then◌else◌, List, [], ◌∷◌, ◌++◌}
use Rattle.std.proofs.Common.{◌≢◌, ◌||◌, eqb, length, refl, sym, ap, ◌∙◌, subst, inl, inr, arith, append_assoc}
use Rattle.std.specs.Prelude.{Result, Ok, Err, MatchResult}
use Rattle.std.specs.List.{All}
use Rattle.std.proofs.lemmas.List.Elements.{All-head, All-tail}
use Rattle.std.proofs.lemmas.Bool.Decides.{eqb_tells}
use Rattle.waiters.specs.declared.wait.WaitId.{WaitId}
use Rattle.step_table.specs.declared.entry.Entry.{Entry}
use Rattle.step_table.specs.declared.entry.Entry.TheVariants.{Leave, Withdraw}
use Rattle.step_table.specs.declared.place.Acquire.{Acquire}
use Rattle.step_table.specs.declared.place.AcquireRow.TheVariants.{Parked}
use Rattle.step_table.specs.declared.place.ParkedRow.{ParkedRow}
use Rattle.step_table.specs.declared.place.ParkedRow.TheVariants.{P, D2, D3, D5}
use Rattle.step_table.specs.declared.place.ReleaseRow.TheVariants.{R6, R7, R8, R9, R10}
use Rattle.step_table.specs.declared.place.ManyRow.TheVariants.{M5, M6, M7}
use Rattle.step_table.specs.declared.place.Place.{Place}
use Rattle.step_table.specs.declared.place.Place.TheVariants.{Rest, Acquiring, Releasing, ReleasingMany}
use Rattle.step_table.specs.declared.word.Word.TheVariants.{Grant}
use Rattle.step_table.specs.World.{Layout, SemaWorld, SeatState, stands_in}
use Rattle.step_table.specs.Steps.{IsReached}
use Rattle.step_table.specs.Journal.{Plain, HasLeft, HasItsUnit, left}
use Rattle.step_table.specs.Counting.{on, wait, times, same, counter_at, IsWithin}
use Rattle.step_table.specs.Path.{GoesOn, all_told, sight}
use Rattle.step_table.proofs.Sums.{total_has, total_some, on_here, on_else, on_some}
use Rattle.step_law_semaphores.specs.Invariant.{IsInvariant, HandFits, Story, AllLeft, AllHaveUnits, hands, hands_at, awaits}
use Rattle.step_law_semaphores.specs.SemaPath.{SemaSight, SemaStride, SemaRan, SemaPath, semaphores, placed, plain_before}
use Rattle.step_law_semaphores.proofs.Placing.{same_here}
use Rattle.step_law_semaphores.proofs.Promises.{the_law}
use Rattle.step_law_semaphores.proofs.SemaPaths.{the_sema_paths}
use Rattle.sema_table.specs.declared.answers.GaveUp.{GaveUp}
use Rattle.sema_table.specs.declared.answers.GaveUp.TheVariants.{Left, Coming, Woken, Handed, LimitReached}
use Rattle.sema_table.specs.declared.answers.Polled.TheVariants as polled
use Rattle.sema_table.specs.Setting.{layout}
use Rattle.sema_table.specs.Seats.{SeatModel}
use Rattle.sema_table.specs.Strides.{IsRow}
use Rattle.sema_table.specs.Waking.{IsPolled}
use Rattle.sema_table.specs.Leaving.{Leaves, LeavesAtLock, HasStayed, BeginsToLeave, EndsLeaving, StaysAsleep, StillParked}
use Rattle.sema_table.specs.Callers.{IsSeatAfter, StandsOn}
use Rattle.sema_table.specs.CallersLeaving.{WasLetOut, GivesUp, BeginsToGiveUp, EndsGivingUp, SleepsAgain}
use Rattle.sema_table.proofs.After.{there, after_call, after_look, after_then}
use Rattle.sema_table.proofs.Tellers.{plain_there, stood_there, row_tells, row_leads}
use Rattle.sema_table.proofs.CallerTries.{both_nil, stands_on}
use Rattle.sema_table.proofs.CallerPolls.{polls}

-- a seat that has no wait in a list has not this one
none_stands : (k turn : ℕ) (l : List WaitId) → stands_in k l ≡ false → times (wait k turn) l ≡ 0
none_stands k turn [] e = refl
none_stands k turn (x ∷ l) e = by (eqb_tells x.seat k) (none_stands k turn l)
  where
    by : ((eqb x.seat k ≡ true) × (x.seat ≡ k)) ⊎ ((eqb x.seat k ≡ false) × (x.seat ≢ k))
        → (stands_in k l ≡ false → times (wait k turn) l ≡ 0) → times (wait k turn) (x ∷ l) ≡ 0
    by (inl here) rest = absurd (let b = subst (λ c. c || stands_in k l ≡ false) here.0 e in cc)
    by (inr far) rest =
        let none = on_else k x.seat (on turn x.turn 1) (λ q. far.1 (sym q)) in
        let more = rest (subst (λ c. c || stands_in k l ≡ false) far.0 e) in omega arith

same_wait : (w x : WaitId) → 0 < same w x → w ≡ x
same_wait w x h = let o = on_some w.seat x.seat (on w.turn x.turn 1) h in let p = on_some w.turn x.turn 1 o.1 in
    λ i. record { seat = o.0 i; turn = p.0 i }

-- what is told of each wait in a hand is told of one
module _ (Holds : WaitId → Type 0) (Each : List WaitId → Type 0) (parts : (x : WaitId) (hand : List WaitId) → Each (x ∷ hand) → Holds x × Each hand)
    (w : WaitId) where
  each_has : (hand : List WaitId) → 0 < times w hand → Each hand → Holds w
  each_has [] h each = absurd (omega arith)
  each_has (x ∷ hand) h each = by (same w x) refl (each_has hand)
    where
      by : (n : ℕ) → same w x ≡ n → (0 < times w hand → Each hand → Holds w) → Holds w
      by zero e rest = rest (omega arith) (parts x hand each).1
      by (suc n) e rest = subst Holds (sym (same_wait w x (omega arith))) (parts x hand each).0

-- a wait in a hand has left the counter of that release
module _ (c k : ℕ) (w : WaitId) (journal : List Entry) where
  has_left : (hand : List WaitId) → 0 < times w hand → AllLeft c hand journal → WasLetOut c w journal
  has_left hand some all = inl (each_has (λ x. HasLeft c x journal) (λ l. AllLeft c l journal) (λ x l e. e) w hand some all)

  has_unit : (hand : List WaitId) → 0 < times w hand → AllHaveUnits c hand journal → WasLetOut c w journal
  has_unit hand some all = inr (each_has (λ x. HasItsUnit c x journal) (λ l. AllHaveUnits c l journal) (λ x l e. e) w hand some all)

  none_in : (hand : List WaitId) → length hand ≡ 0 → 0 < times w hand → ⊥
  none_in [] e some = absurd (omega arith)
  none_in (x ∷ hand) e some = absurd (omega arith)

in_hand : (c k : ℕ) (w : WaitId) (journal : List Entry) (p : Place) (hand : List WaitId) (grant : ℕ) → counter_at p ≡ c → HandFits p (length hand)
    → 0 < times w hand → Story k p hand grant journal → WasLetOut c w journal
in_hand c k w journal (Releasing r R6) hand grant at fits some story = subst (λ d. WasLetOut d w journal) at (has_left r.counter k w journal hand some story)
in_hand c k w journal (Releasing r R7) hand grant at fits some story = subst (λ d. WasLetOut d w journal) at (has_left r.counter k w journal hand some story)
in_hand c k w journal (Releasing r (R8 left)) hand grant at fits some story =
    subst (λ d. WasLetOut d w journal) at (has_left r.counter k w journal hand some story)
in_hand c k w journal (Releasing r R9) hand grant at fits some story = subst (λ d. WasLetOut d w journal) at (has_unit r.counter k w journal hand some story)
in_hand c k w journal (Releasing r R10) hand grant at fits some story = subst (λ d. WasLetOut d w journal) at (has_left r.counter k w journal hand some story)
in_hand c k w journal (ReleasingMany r M5) hand grant at fits some story =
    subst (λ d. WasLetOut d w journal) at (has_left r.counter k w journal hand some story.1)
in_hand c k w journal (ReleasingMany r M6) hand grant at fits some story =
    subst (λ d. WasLetOut d w journal) at (has_left r.counter k w journal hand some story)
in_hand c k w journal (ReleasingMany r M7) hand grant at fits some story =
    subst (λ d. WasLetOut d w journal) at (has_left r.counter k w journal hand some story)
in_hand c k w journal _ hand grant at fits some story = absurd (none_in c k w journal hand fits some)

-- a wait with which its seat is parked, and which isn't in the list, was let out
module _ (m : Layout) (s : SemaWorld) (known : IsInvariant m s) (i : ℕ) (there : i < m.seats) (a : Acquire) (turn : ℕ) (row : ParkedRow)
    (at : (s.seats i).place ≡ Acquiring a (Parked turn row)) (out : times (wait i turn) (s.words.lists a.counter) ≡ 0) where
  abbrev w : WaitId
  w = wait i turn

  abbrev c : ℕ
  c = a.counter

  by_hand : (k : ℕ) → k < m.seats → 0 < hands c w (s.seats k) → WasLetOut c w s.journal
  by_hand k low some = by (s.seats k).hand refl some
    where
      by : (hand : List WaitId) → (s.seats k).hand ≡ hand → 0 < hands_at c w (counter_at (s.seats k).place) hand → WasLetOut c w s.journal
      by [] e h = absurd (omega arith)
      by (x ∷ l) e h = let o = on_some (counter_at (s.seats k).place) c (times w (x ∷ l)) h in
          in_hand c k w s.journal (s.seats k).place (s.seats k).hand (s.words.grants k) o.0 (known.seats k).fits
          (subst (λ (y : List WaitId). 0 < times w y) (sym e) o.1) (known.stories k low)

  let_out : WasLetOut c w s.journal
  let_out = by (s.words.grants i) refl
    where
      by : (grant : ℕ) → s.words.grants i ≡ grant → WasLetOut c w s.journal
      by zero e =
          let one : awaits c w i (s.seats i).place (s.words.grants i) ≡ 1 = (λ j. awaits c w i (at j) (e j)) ∙ ap (on c c) (same_here w) ∙ on_here c 1 in
          let here = total_has m.seats (λ k. awaits c w k (s.seats k).place (s.words.grants k)) i there in
          let placed = known.placed c w in
          let o = total_some m.seats (λ k. hands c w (s.seats k)) (omega arith) in by_hand o.0 o.1 o.2
      by (suc zero) e = inl (subst (λ (z : Place × ℕ). Story i z.0 (s.seats i).hand z.1 s.journal) (λ j. (at j, e j)) (known.stories i there))
      by (suc (suc grant)) e = inr (subst (λ (z : Place × ℕ). Story i z.0 (s.seats i).hand z.1 s.journal) (λ j. (at j, e j)) (known.stories i there))

-- one that was let out is counted as such, whatever is told later
left_more : (w : WaitId) (e : Entry) (es : List Entry) → left w es ≤ left w (e ∷ es)
left_more w (Leave c x s) es = omega arith
left_more w _ es = omega arith

left_has : (w : WaitId) (c s : ℕ) (before after : List Entry) → 0 < left w (before ++ Leave c w s ∷ after)
left_has w c s [] after = let one = same_here w in omega arith
left_has w c s (e ∷ before) after = let rest = left_has w c s before after in let more = left_more w e (before ++ Leave c w s ∷ after) in omega arith

left_later : (w : WaitId) (c s : ℕ) (journal now before after : List Entry) → journal ≡ before ++ Leave c w s ∷ after → GoesOn now journal → 0 < left w now
left_later w c s journal now before after is later =
    subst (λ l. 0 < left w l)
    (sym (later.is ∙ ap (λ l. l ++ later.more) is ∙ append_assoc before (Leave c w s ∷ after) later.more))
    (left_has w c s before (after ++ later.more))

let_out_counts : (c : ℕ) (w : WaitId) (journal now : List Entry) → WasLetOut c w journal → GoesOn now journal → 0 < left w now
let_out_counts c w journal now (inl x) later = left_later w c x.0 journal now x.1 x.2 x.3 later
let_out_counts c w journal now (inr x) later = left_later w c x.0 journal now x.1 (x.2 ++ _ ∷ x.3) x.4 later

-- the world at the end of rows
module _ (m : Layout) (i : ℕ) where
  ends_in : (v w : SemaSight) (p : SemaStride) (strides : List SemaStride) → All IsRow (p ∷ strides) → SemaPath m i v (p ∷ strides) w
      → (i < m.seats) × ((t : SemaWorld) × IsReached m t × (w ≡ sight (semaphores m) t i))
  ends_in v w p [] each path =
      let here = there m i v path.0 p path.1 (All-head IsRow p [] each) in let o = the_sema_paths.ends m i v path.0 p here path.1 in
      (here, (o.0, o.1, path.2 ∙ o.2))
  ends_in v w p (q ∷ strides) each path = ends_in path.0 w q strides (All-tail IsRow p (q ∷ strides) each) path.2

  module _ (a : Acquire) (turn : ℕ) where
    abbrev queued : Bool → Place
    queued b = if b then Acquiring a (Parked turn D3) else Acquiring a (Parked turn D5)

    -- rows that told nothing and led back to the sleep found that the wait wasn't queued
    missed : (v w : SemaSight) (p : SemaStride) (strides : List SemaStride) → All IsRow (p ∷ strides) → SemaPath m i v (p ∷ strides) w
        → v.stands.place ≡ Acquiring a (Parked turn D2) → all_told (p ∷ strides) ≡ [] → w.stands.place ≡ Acquiring a (Parked turn P)
        → stands_in i ((plain_before m p).lists a.counter) ≡ false
    missed v w p strides each path at told parked = by (stands_in i ((plain_before m p).lists a.counter)) refl
      where
        leads : path.0.stands.place ≡ queued (stands_in i ((plain_before m p).lists a.counter))
        leads = row_leads m i v path.0 p path.1 (Acquiring a (Parked turn D2)) (All-head IsRow p strides each)
            (ap (λ (z : SeatState). z.place) path.1.stood ∙ at)

        withdraws : (l : List SemaStride) → All IsRow l → SemaPath m i path.0 l w → all_told l ≡ [] → path.0.stands.place ≡ Acquiring a (Parked turn D3) → ⊥
        withdraws [] rows on quiet here =
            let two : Acquiring a (Parked turn P) ≡ Acquiring a (Parked turn D3) = sym parked ∙ ap (λ (x : SemaSight). x.stands.place) on ∙ here in cc
        withdraws (q ∷ l) rows on quiet here =
            let tells = row_tells m i path.0 on.0 q on.1 (Acquiring a (Parked turn D3)) (All-head IsRow q l rows)
            (ap (λ (z : SeatState). z.place) on.1.stood ∙ here) in
            let none = sym tells ∙ (both_nil q.told (all_told l) quiet).0 in cc

        by : (b : Bool) → stands_in i ((plain_before m p).lists a.counter) ≡ b → stands_in i ((plain_before m p).lists a.counter) ≡ false
        by true e = absurd (withdraws strides (All-tail IsRow p strides each) path.2 (both_nil p.told (all_told strides) told).1 (leads ∙ ap queued e))
        by false e = e

    -- so it was let out before, and is as the rows end
    finds_out : (v w : SemaSight) (strides : List SemaStride) → All IsRow strides → SemaPath m i v strides w
        → v.stands.place ≡ Acquiring a (Parked turn D2) → all_told strides ≡ [] → w.stands.place ≡ Acquiring a (Parked turn P)
        → WasLetOut a.counter (wait i turn) w.seen
    finds_out v w [] each path at told parked =
        absurd (let two : Acquiring a (Parked turn P) ≡ Acquiring a (Parked turn D2) = sym parked ∙ ap (λ (x : SemaSight). x.stands.place) path ∙ at in cc)
    finds_out v w (p ∷ strides) each path at told parked =
        let ran : SemaRan m i v p path.0 = path.1 in let x = wait i turn in let c = a.counter in
        let E = ends_in v w p strides each path in let t : SemaWorld = E.1.0 in
        let then_known = the_law.invariant m ran.world ran.meets.met in let known = the_law.invariant m t E.1.1 in
        let stood : (ran.world.seats i).place ≡ Acquiring a (Parked turn D2)
        = ap (λ (z : SeatState). z.place) (sym (stood_there m i v path.0 p ran) ∙ ran.stood) ∙ at in
        let out : times x (ran.world.words.lists c) ≡ 0 = subst (λ (y : Plain). times x (y.lists c) ≡ 0) (plain_there m i v path.0 p ran)
        (none_stands i turn ((plain_before m p).lists c) (missed v w p strides each path at told parked)) in
        let before = let_out m ran.world then_known i E.0 a turn D2 stood out in
        let goes = ((the_sema_paths.paths m).through i v w [] strides p path).1 in
        let later : GoesOn w.seen ran.world.journal = record {
          more = p.told ++ goes.more;
          is = goes.is ∙ append_assoc p.seen p.told goes.more ∙ ap (λ l. l ++ (p.told ++ goes.more)) ran.seen;
        } in
        let stands : (t.seats i).place ≡ Acquiring a (Parked turn P) = ap (λ (z : SemaSight). z.stands.place) (sym E.1.2) ∙ parked in
        let seen : w.seen ≡ t.journal = ap (λ (z : SemaSight). z.seen) E.1.2 in
        let counted = let_out_counts c x ran.world.journal t.journal before (subst (λ l. GoesOn l ran.world.journal) seen later) in
        let once = known.once x in
        let inside : c < m.counters = subst (IsWithin m.counters) stands (known.seats i).within in
        let listed = total_has m.counters (λ d. times x (t.words.lists d)) c inside in
        subst (WasLetOut c x) (sym seen) (let_out m t known i E.0 a turn P stands (let o = once.0 in let most = once.1 in omega arith))

-- what the rows from the lock on are to the caller
leaves_at_lock : (s u : SeatModel) (gave_up : GaveUp) → IsPolled s (polled.Still u) → LeavesAtLock u gave_up → GivesUp s gave_up
leaves_at_lock s u (Left t) x y =
    let a = y.3.0 in let turn = y.3.1 in let d2 = Acquiring a (Parked turn D2) in let looked = x.3 in
    let number : u.number ≡ s.number = ap (λ (z : SeatModel). z.number) looked.same in
    let told = Withdraw a.counter (wait u.number turn) ∷ [] in let some = y.0 in
    let call = after_call u t d2 Rest (u.left - 1) u.taken y.1 told y.3.3 (ap (λ (z : SeatState). z.place) y.2) (λ e. cc) 1 0 (omega arith) (omega arith) in (
      a.counter,
      a.lifo,
      wait s.number turn,
      (refl, ap (λ (z : SeatState). z.place) (sym looked.stays) ∙ y.3.2),
      subst (λ k. IsSeatAfter s 1 0 (Withdraw a.counter (wait k turn) ∷ []) t) number
          (after_then s u t 0 1 0 0 [] told (after_look s u (Grant s.number) 0 looked) call),
    )
leaves_at_lock s u (Coming t) x y =
    let a = y.2.0 in let turn = y.2.1 in let d2 = Acquiring a (Parked turn D2) in let looked = x.3 in let m = layout u.table.setting in
    let number : u.number ≡ s.number = ap (λ (z : SeatModel). z.number) looked.same in
    let parked : t.sight.stands.place ≡ Acquiring a (Parked turn P) = ap (λ (z : SeatState). z.place) y.1 ∙ y.2.2 in
    let call = after_call u t d2 (Acquiring a (Parked turn P)) u.left u.taken y.0 [] y.2.3 parked (λ e. cc) 0 0 (omega arith) (omega arith) in (
      a.counter,
      a.lifo,
      wait s.number turn,
      (refl, ap (λ (z : SeatState). z.place) (sym looked.stays) ∙ y.2.2),
      (after_then s u t 0 0 0 0 [] [] (after_look s u (Grant s.number) 0 looked) call, y.1 ∙ looked.stays),
      subst (λ k. WasLetOut a.counter (wait k turn) t.sight.seen) number
          (finds_out m u.number a turn (placed d2 u.sight) t.sight y.2.3.strides y.2.3.each y.2.3.path refl y.2.3.told_is parked),
    )
leaves_at_lock s u (Woken t) x y = absurd y
leaves_at_lock s u (Handed t) x y = absurd y
leaves_at_lock s u (LimitReached t) x y = absurd y

-- the rows before the lock, and those from it on
pub leaves_by : (s u : SeatModel) (gave_up : GaveUp) → IsPolled s (polled.Still u) → LeavesAtLock u gave_up → Leaves s gave_up
leaves_by s u (Left t) x y = (u, x, y)
leaves_by s u (Coming t) x y = (u, x, y)
leaves_by s u (Woken t) x y = absurd y
leaves_by s u (Handed t) x y = absurd y
leaves_by s u (LimitReached t) x y = absurd y

pub leaves : (s : SeatModel) (gave_up : GaveUp) → Leaves s gave_up → GivesUp s gave_up
leaves s (Left t) x = leaves_at_lock s x.0 (Left t) x.1 x.2
leaves s (Coming t) x = leaves_at_lock s x.0 (Coming t) x.1 x.2
leaves s (Woken t) x = polls s (polled.Woken t) x
leaves s (Handed t) x = polls s (polled.Handed t) x
leaves s (LimitReached t) x = (polls s (polled.Still t) x.0, x.1)

pub still_parked : (s t : SeatModel) → StillParked s t → StandsOn s t
still_parked s t x =
    let looked = polls s (polled.Still x.0) x.1 in let held = stands_on x.0 t x.2.0.counter x.2.3 in
    (after_then s x.0 t 0 0 0 0 [] [] looked.0 held.0, held.1 ∙ looked.1)

-- a seat that goes to the lock, and has it
pub begins : (s l : SeatModel) → BeginsToLeave s l → BeginsToGiveUp s l
begins s l (u, still, some, x) =
    let a = x.1.0 in let turn = x.1.1 in let looked = still.3 in
    let number : u.number ≡ s.number = ap (λ (z : SeatModel). z.number) looked.same in
    let at = ap (λ (z : SeatState). z.place) x.1.3 in
    let call = after_call u l (Acquiring a (Parked turn D2)) (Acquiring a (Parked turn D3)) u.left u.taken x.0 [] x.1.4 at (λ e. cc)
    0 0 (omega arith) (omega arith) in
    let after = after_then s u l 0 0 0 0 [] [] (after_look s u (Grant s.number) 0 looked) call in (
      a.counter,
      a.lifo,
      wait s.number turn,
      (refl, ap (λ (z : SeatState). z.place) (sym looked.stays) ∙ x.1.2),
      (sym after.number, at),
      after,
    )

pub begins_or_not : (s : SeatModel) (answer : Result SeatModel GaveUp)
    → MatchResult answer (λ leaving. BeginsToLeave s leaving) (λ gave_up. Leaves s gave_up × HasStayed gave_up)
    → MatchResult answer (λ leaving. BeginsToGiveUp s leaving) (λ gave_up. GivesUp s gave_up)
begins_or_not s (Ok l) x = begins s l x
begins_or_not s (Err gave_up) x = leaves s gave_up x.0

-- and takes its wait out, or sleeps on
pub ends : (l t : SeatModel) → EndsLeaving l t → EndsGivingUp l t
ends l t (some, same, rests, (a, turn, at, ran)) = (
  a.counter,
  a.lifo,
  wait l.number turn,
  (refl, at),
  after_call l t (Acquiring a (Parked turn D3)) Rest (l.left - 1) l.taken same (Withdraw a.counter (wait l.number turn) ∷ []) ran
      (ap (λ (z : SeatState). z.place) rests) (λ e. cc) 1 0 (omega arith) (omega arith),
)

pub stays : (l t : SeatModel) → StaysAsleep l t → SleepsAgain l t
stays l t (same, (a, turn, at, parked, ran)) =
    let on = ap (λ (z : SeatState). z.place) parked in
    let after = after_call l t (Acquiring a (Parked turn D5)) (Acquiring a (Parked turn P)) l.left l.taken same [] ran on (λ e. cc)
    0 0 (omega arith) (omega arith) in
    (a.counter, a.lifo, wait l.number turn, (refl, at), (sym after.number, on), after)
