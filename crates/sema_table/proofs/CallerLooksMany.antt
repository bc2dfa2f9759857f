-- What a release of many units tells while it looks for waits.
use Rattle.std.proofs.Common.{◌≡◌, ◌⊎◌, ◌&&◌, nat_lt, if◌then◌else◌, Bool, true, false, ℕ, zero, suc, ◌+◌, ◌<◌, ◌≤◌, List}
use Rattle.std.proofs.Common.{[], ◌∷◌, ◌++◌, drop, length, refl, sym, ap, ◌∙◌, subst, inl, inr, arith, length-append, lt-ltb, le-ltb}
use Rattle.std.specs.List.{All}
use Rattle.std.proofs.lemmas.Bool.{cases_lt}
use Rattle.std.proofs.lemmas.List.Elements.{All-head, All-tail}
use Rattle.waiters.specs.declared.wait.WaitId.{WaitId}
use Rattle.step_table.specs.declared.effect.Effect.{Effect}
use Rattle.step_table.specs.declared.effect.Effect.TheVariants.{Nothing, Tells}
use Rattle.step_table.specs.declared.entry.Entry.{Entry}
use Rattle.step_table.specs.declared.entry.Entry.TheVariants.{Leave}
use Rattle.step_table.specs.declared.place.ReleaseMany.{ReleaseMany}
use Rattle.step_table.specs.declared.place.ManyRow.TheVariants.{M3, M4, M5, M6, M7}
use Rattle.step_table.specs.declared.place.Place.{Place}
use Rattle.step_table.specs.declared.place.Place.TheVariants.{Rest, ReleasingMany}
use Rattle.step_table.specs.World.{Layout, SeatState, hand_after}
use Rattle.step_table.specs.Event.{Next, zero_or, by_first}
use Rattle.step_table.specs.ReleaseMany.{after_leave}
use Rattle.step_table.specs.Table.{event_at}
use Rattle.step_table.specs.Counting.{IsWithin}
use Rattle.step_table.specs.Journal.{Plain, plain_start, replay}
use Rattle.step_table.specs.Path.{runs, all_told}
use Rattle.step_table.proofs.Sums.{put_here}
use Rattle.step_table.proofs.Paths.{stride_told}
use Rattle.step_law_semaphores.specs.Invariant.{HandFits}
use Rattle.step_law_semaphores.specs.SemaPath.{SemaSight, SemaStride, SemaRan, SemaPath, semaphores, plain_before, entries_of}
use Rattle.step_law_semaphores.proofs.Telling.{replay_last}
use Rattle.sema_table.specs.Strides.{IsRow}
use Rattle.sema_table.specs.Many.{leaves}
use Rattle.sema_table.proofs.Tellers.{row_tells, row_leads, row_hand, row_can}
use Rattle.sema_table.proofs.Finding.{within, fits, nobody_there}
use Rattle.sema_table.proofs.Sighting.{Sighted, at_stride, after_stride, one_later}
use Rattle.sema_table.proofs.CallerWakes.{Empty}

-- a release that has given the lock back, or is about to, or rests
abbrev Settled : Place → Type 0
Settled (ReleasingMany q M6) = Unit {0}
Settled (ReleasingMany q M7) = Unit {0}
Settled Rest = Unit {0}
Settled _ = ⊥

settled_row : (m : Layout) (i : ℕ) (v w : SemaSight) (p : SemaStride) (ran : SemaRan m i v p w) → p.deed ≡ runs → (z : Place)
    → p.stood.place ≡ z → Settled z → (p.told ≡ []) × Settled w.stands.place
settled_row m i v w p ran row (ReleasingMany q M6) at is = (
  row_tells m i v w p ran (ReleasingMany q M6) row at,
  subst Settled (sym (row_leads m i v w p ran (ReleasingMany q M6) row at)) (by p.stood.hand),
)
  where
    by : (hand : List WaitId) → Settled (by_first hand Rest (λ w. ReleasingMany q M7))
    by [] = tt
    by (x ∷ hand) = tt
settled_row m i v w p ran row (ReleasingMany q M7) at is = (
  row_tells m i v w p ran (ReleasingMany q M7) row at,
  subst Settled (sym (row_leads m i v w p ran (ReleasingMany q M7) row at)) (by (nat_lt 1 (length p.stood.hand))),
)
  where
    by : (b : Bool) → Settled (if b then ReleasingMany q M7 else Rest)
    by true = tt
    by false = tt
settled_row m i v w p ran row Rest at is = let never : false ≡ true = row_can m i v w p ran Rest row at in absurd cc
settled_row m i v w p ran row _ at is = absurd is

-- it tells nothing any more
settled : (m : Layout) (i : ℕ) (v w : SemaSight) (strides : List SemaStride) → All IsRow strides → SemaPath m i v strides w
    → Settled v.stands.place → all_told strides ≡ []
settled m i v w [] each path is = refl
settled m i v w (p ∷ strides) each path is =
    let next = settled_row m i v path.0 p path.1 (All-head IsRow p strides each) v.stands.place (ap (λ (z : SeatState). z.place) path.1.stood) is in
    let rest = settled m i path.0 w strides (All-tail IsRow p strides each) path.2 next.1 in λ j. next.0 j ++ rest j

-- the release r looks for waits
abbrev pub Picks : ReleaseMany → Place → Type 0
Picks r (ReleasingMany q M3) = q ≡ r
Picks r (ReleasingMany q M4) = q ≡ r
Picks r (ReleasingMany q M5) = q ≡ r
Picks r _ = ⊥

-- a row of a release that looks for waits: nobody waited; or it told nothing and looks on; or it let a wait out and looks on; or it
-- let a wait out, the last for its units, or the last that was queued
module _ (m : Layout) (i : ℕ) (v w : SemaSight) (p : SemaStride) (ran : SemaRan m i v p w) (row : p.deed ≡ runs) (r : ReleaseMany) where
  abbrev k : ℕ
  k = length p.stood.hand

  data Picked : Type 0 where
    nobody : (plain_before m p).lists r.counter ≡ [] → k ≤ r.units → p.told ≡ [] → Settled w.stands.place → Picked
    on : p.told ≡ [] → Picks r w.stands.place → length w.stands.hand ≡ k → Picked
    one : (x : WaitId) → p.told ≡ Leave r.counter x i ∷ [] → Picks r w.stands.place → length w.stands.hand ≡ k + 1 → Picked
    last : (x : WaitId) → p.told ≡ Leave r.counter x i ∷ [] → Settled w.stands.place → k + 1 ≤ r.units
        → (k + 1 < r.units → (plain_before m p).lists r.counter ≡ x ∷ []) → Picked

  one_left : (l : List WaitId) → length l ≤ 0 → l ≡ []
  one_left [] e = refl
  one_left (x ∷ l) e = absurd (omega arith)

  picked : (z : Place) → p.stood.place ≡ z → Picks r z → Picked
  picked (ReleasingMany q M3) at is = on (row_tells m i v w p ran (ReleasingMany q M3) row at)
      (subst (Picks r) (sym (row_leads m i v w p ran (ReleasingMany q M3) row at)) is) (ap length (row_hand m i v w p ran (ReleasingMany q M3) row at))
  picked (ReleasingMany q M4) at is = by p.read ((plain_before m p).lists q.counter) refl refl
    where
      bare : k ≡ 0
      bare = subst (λ (z : Place). HandFits z k) at (fits m i v w p ran)

      leads : w.stands.place ≡ zero_or (ReleasingMany q M6)
          (λ left. by_first ((plain_before m p).lists q.counter) (ReleasingMany q M6) (λ w. ReleasingMany q M5)) p.read
      leads = row_leads m i v w p ran (ReleasingMany q M4) row at

      told : p.told ≡ []
      told = row_tells m i v w p ran (ReleasingMany q M4) row at

      its : (plain_before m p).lists q.counter ≡ [] → (plain_before m p).lists r.counter ≡ []
      its e = ap (λ (x : ReleaseMany). (plain_before m p).lists x.counter) (sym is) ∙ e

      by : (n : ℕ) (l : List WaitId) → p.read ≡ n → (plain_before m p).lists q.counter ≡ l → Picked
      by zero l read listed = nobody
          (its (nobody_there m i v w p ran q.counter (subst (IsWithin m.counters) at (within m i v w p ran)).0 row
          (ap (λ (x : Place). (event_at i p.stood (plain_before m p).lists x).word) at) read))
          (omega (arith, bare)) told (subst Settled
          (sym (leads ∙ ap (zero_or (ReleasingMany q M6)
          (λ left. by_first ((plain_before m p).lists q.counter) (ReleasingMany q M6) (λ w. ReleasingMany q M5))) read)) tt)
      by (suc n) [] read listed = nobody (its listed) (omega (arith, bare)) told
          (subst Settled
          (sym (leads ∙ (λ j. zero_or (ReleasingMany q M6) (λ left. by_first (listed j) (ReleasingMany q M6) (λ w. ReleasingMany q M5)) (read j)))) tt)
      by (suc n) (x ∷ l) read listed = on told
          (subst (Picks r)
          (sym (leads ∙ (λ j. zero_or (ReleasingMany q M6) (λ left. by_first (listed j) (ReleasingMany q M6) (λ w. ReleasingMany q M5)) (read j)))) is)
          (ap length (row_hand m i v w p ran (ReleasingMany q M4) row at))
  picked (ReleasingMany q M5) at is = by ((plain_before m p).lists q.counter) refl
    where
      fewer : k < r.units
      fewer = subst (λ (x : ReleaseMany). k < x.units) is (subst (λ (z : Place). HandFits z k) at (fits m i v w p ran))

      its : (l : List WaitId) → (plain_before m p).lists q.counter ≡ l → (plain_before m p).lists r.counter ≡ l
      its l e = ap (λ (x : ReleaseMany). (plain_before m p).lists x.counter) (sym is) ∙ e

      next_by : List WaitId → Next
      next_by l = by_first {A = Place × Effect} l (ReleasingMany q M6, Nothing) (λ w. (after_leave q k (length l), Tells (Leave q.counter w i)))

      by : (l : List WaitId) → (plain_before m p).lists q.counter ≡ l → Picked
      by [] listed =
          nobody (its [] listed) (omega (arith, fewer)) (row_tells m i v w p ran (ReleasingMany q M5) row at ∙ ap (λ l. entries_of (next_by l).1) listed)
          (subst Settled (sym (row_leads m i v w p ran (ReleasingMany q M5) row at ∙ ap (λ l. (next_by l).0) listed)) tt)
      by (x ∷ l) listed = test (cases_lt (k + 1) r.units) (cases_lt 1 (length (x ∷ l)))
        where
          told : p.told ≡ Leave r.counter x i ∷ []
          told = row_tells m i v w p ran (ReleasingMany q M5) row at ∙ ap (λ l. entries_of (next_by l).1) listed
              ∙ ap (λ (y : ReleaseMany). Leave y.counter x i ∷ []) is

          leads : w.stands.place ≡ after_leave q k (length (x ∷ l))
          leads = row_leads m i v w p ran (ReleasingMany q M5) row at ∙ ap (λ l. (next_by l).0) listed

          longer : length w.stands.hand ≡ k + 1
          longer = ap length (row_hand m i v w p ran (ReleasingMany q M5) row at ∙ ap (λ l. hand_after (next_by l).1 p.stood.hand) listed)
              ∙ length-append p.stood.hand (x ∷ [])

          test : (k + 1 < r.units) ⊎ (r.units ≤ k + 1) → (1 < length (x ∷ l)) ⊎ (length (x ∷ l) ≤ 1) → Picked
          test (inl less) (inl some) = one x told
              (subst (Picks r)
              (sym (leads ∙ (λ j. if lt-ltb (k + 1) q.units (subst (λ (y : ReleaseMany). k + 1 < y.units) (sym is) less) j && lt-ltb 1 (length (x ∷ l))
              some j then ReleasingMany q M5 else ReleasingMany q M6))) is)
              longer
          test (inl less) (inr none) = last x told
              (subst Settled
              (sym (leads ∙ (λ j. if lt-ltb (k + 1) q.units (subst (λ (y : ReleaseMany). k + 1 < y.units) (sym is) less) j && le-ltb 1 (length (x ∷ l))
              none j then ReleasingMany q M5 else ReleasingMany q M6))) tt)
              (omega (arith, fewer)) (λ h. its (x ∷ l) listed ∙ ap (λ l. x ∷ l) (one_left l (omega arith)))
          test (inr full) some = last x told
              (subst Settled
              (sym (leads ∙ (λ j. if le-ltb (k + 1) q.units (subst (λ (y : ReleaseMany). y.units ≤ k + 1) (sym is) full) j && nat_lt 1 (length (x ∷ l))
              then ReleasingMany q M5 else ReleasingMany q M6))) tt)
              (omega (arith, fewer)) (λ h. absurd (omega arith))
  picked _ at is = absurd is

-- once the last wait that was queued has left, nobody waits
module _ (m : Layout) (c i : ℕ) (x : WaitId) where
  left_last : (seen : List Entry) → (replay (plain_start m.starts) seen).lists c ≡ x ∷ [] → Empty m c (seen ++ Leave c x i ∷ [])
  left_last seen e =
      let was = replay (plain_start m.starts) seen in
      ap (λ (y : Plain). y.lists c) (replay_last (plain_start m.starts) (Leave c x i) seen) ∙ put_here was.lists c (drop 1 (was.lists c)) ∙ ap (drop 1) e

-- what a release told that looked for waits, with so many in hand: no more than its units; and where it told fewer it saw nobody
abbrev pub WokeAll : Layout → ℕ → SemaSight → SemaSight → ReleaseMany → List WaitId → Type 0
WokeAll m i v w r waits =
    (length v.stands.hand + length waits ≤ r.units)
    × (length v.stands.hand + length waits < r.units → (rest : List Entry) × Sighted m i v w (leaves i r waits) rest (Empty m r.counter))

no_waits : (i : ℕ) (r : ReleaseMany) (waits : List WaitId) → leaves i r waits ≡ [] → waits ≡ []
no_waits i r [] e = refl
no_waits i r (x ∷ waits) e = absurd cc

pub woke_all : (m : Layout) (i : ℕ) (v w : SemaSight) (strides : List SemaStride) (r : ReleaseMany) (waits : List WaitId)
    → All IsRow strides → SemaPath m i v strides w → Picks r v.stands.place
    → w.stands.place ≡ Rest → all_told strides ≡ leaves i r waits → WokeAll m i v w r waits
woke_all m i v w [] r waits each path picks ends told = absurd (subst (Picks r) (sym (ap (λ (x : SemaSight). x.stands.place) path) ∙ ends) picks)
woke_all m i v w (p ∷ strides) r waits each path picks ends told =
    by waits told (λ ws on e. woke_all m i path.0 w strides r ws (All-tail IsRow p strides each) path.2 on ends e)
    (picked m i v path.0 p path.1 row r v.stands.place (ap (λ (z : SeatState). z.place) path.1.stood) picks)
  where
    row : p.deed ≡ runs
    row = All-head IsRow p strides each

    hand : length p.stood.hand ≡ length v.stands.hand
    hand = ap (λ (z : SeatState). length z.hand) path.1.stood

    Q : List Entry → Type 0
    Q = λ seen. Empty m r.counter seen

    by : (ws : List WaitId) → p.told ++ all_told strides ≡ leaves i r ws
        → ((ws : List WaitId) → Picks r path.0.stands.place → all_told strides ≡ leaves i r ws → WokeAll m i path.0 w r ws)
        → Picked m i v path.0 p path.1 row r → WokeAll m i v w r ws
    by ws told later (nobody empty few quiet done) =
        let none = no_waits i r ws (sym told ∙ (λ j. quiet j ++ settled m i path.0 w strides (All-tail IsRow p strides each) path.2 done j)) in
        subst (WokeAll m i v w r) (sym none) (
          (omega (arith, few, hand)),
          (λ h. (all_told (p ∷ strides), at_stride m i v w [] strides p (Empty m r.counter) path empty)),
        )
    by ws told later (on quiet picks same) =
        let x = later ws picks (ap (λ l. l ++ all_told strides) (sym quiet) ∙ told) in let most = x.0 in (
          omega (arith, hand, same, most),
          (λ h. let o = x.1 (omega (arith, hand, same, h)) in (
            o.0,
            subst (λ l. Sighted m i v w l o.0 (Empty m r.counter)) (ap (λ l. l ++ leaves i r ws) quiet)
                (one_later m i v path.0 w p (leaves i r ws) o.0 (Empty m r.counter) path.1 o.1),
          )),
        )
    by [] told later (one x let_out picks longer) =
        absurd (let e : Leave r.counter x i ∷ all_told strides ≡ [] = ap (λ l. l ++ all_told strides) (sym let_out) ∙ told in cc)
    by (y ∷ ws) told later (one x let_out picks longer) =
        let e : Leave r.counter x i ∷ all_told strides ≡ Leave r.counter y i ∷ leaves i r ws = ap (λ l. l ++ all_told strides) (sym let_out) ∙ told in
        let others : all_told strides ≡ leaves i r ws = cc in let first : Leave r.counter x i ≡ Leave r.counter y i = cc in
        let z = later ws picks others in let most = z.0 in (
          omega (arith, hand, longer, most),
          (λ h. let o = z.1 (omega (arith, hand, longer, h)) in (
            o.0,
            subst (λ l. Sighted m i v w l o.0 (Empty m r.counter)) (λ j. (let_out ∙ ap (λ (z : Entry). z ∷ []) first) j ++ leaves i r ws)
                (one_later m i v path.0 w p (leaves i r ws) o.0 (Empty m r.counter) path.1 o.1),
          )),
        )
    by [] told later (last x let_out done few single) =
        absurd (let e : Leave r.counter x i ∷ all_told strides ≡ [] = ap (λ l. l ++ all_told strides) (sym let_out) ∙ told in cc)
    by (y ∷ ws) told later (last x let_out done few single) =
        let e : Leave r.counter x i ∷ all_told strides ≡ Leave r.counter y i ∷ leaves i r ws = ap (λ l. l ++ all_told strides) (sym let_out) ∙ told in
        let others : all_told strides ≡ leaves i r ws = cc in let first : Leave r.counter x i ≡ Leave r.counter y i = cc in
        let none = no_waits i r ws (sym others ∙ settled m i path.0 w strides (All-tail IsRow p strides each) path.2 done) in
        subst (λ l. WokeAll m i v w r (y ∷ l)) (sym none) (
          omega (arith, hand, few),
          (λ h. (
            all_told strides,
            subst (λ l. Sighted m i v w l (all_told strides) (Empty m r.counter)) (let_out ∙ ap (λ (z : Entry). z ∷ []) first)
                (after_stride m i v path.0 w strides p (Empty m r.counter) path.1 path.2
                (subst (Empty m r.counter) (sym (stride_told (semaphores m) i v path.0 p path.1 ∙ ap (λ l. p.seen ++ l) let_out))
                (left_last m r.counter i x p.seen (single (omega (arith, hand, h)))))),
          )),
        )
