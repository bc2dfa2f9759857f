-- Each row of a wait group lowers the weight of the whole.
use Rattle.std.proofs.Common.{◌≡◌, ℕ, ◌+◌, ◌-◌, ◌*◌, ◌<◌, ◌≤◌, ◌==◌, ◌&&◌, ◌||◌, not, if◌then◌else◌, Bool, true}
use Rattle.std.proofs.Common.{false, cond, ℤ, pos, int_lt, int_eq}
use Rattle.std.proofs.Common.{refl, sym, ap, subst, arith, ◌∙◌}
use Rattle.std.proofs.Math.Nat.{mul-le-mul_right}
use Rattle.step_table.specs.declared.group_word.GroupWord.{GroupWord}
use Rattle.step_table.specs.declared.place.Place.{Place}
use Rattle.step_table.specs.declared.place.Place.TheVariants.{Acquiring}
use Rattle.step_table.specs.declared.place.AcquireRow.TheVariants.{A1, Parked}
use Rattle.step_table.specs.declared.standing.After.TheVariants.{LooksAgain}
use Rattle.step_table.specs.declared.standing.Ending.{Ending}
use Rattle.step_table.specs.declared.standing.Ending.TheVariants.{MayGiveUp, GaveUp, NextCall, GivesBack}
use Rattle.step_table.specs.declared.standing.GroupNext.{GroupNext}
use Rattle.step_table.specs.declared.standing.GroupNext.TheVariants as group
use Rattle.step_table.specs.declared.standing.GroupRow.{GroupRow}
use Rattle.step_table.specs.declared.standing.GroupRow.TheVariants.{G1, G2, G3, V1, V2, V3, V4, V5}
use Rattle.step_table.specs.declared.standing.Standing.{Standing}
use Rattle.step_table.specs.declared.standing.Standing.TheVariants.{Rest, AtCounter, AtGroup, Failed}
use Rattle.step_table.specs.World.{put, SemaWorld}
use Rattle.step_table.specs.Counting.{total}
use Rattle.step_table.specs.Group.{empty_word, same_word, plus, one_more, after_add, group_row, one_less}
use Rattle.step_table.specs.Core.{CoreLayout, semaphore, Core}
use Rattle.step_table.specs.CoreSteps.{after_group}
use Rattle.step_table.specs.CoreSteps.{staying}
use Rattle.step_table.proofs.Sums.{put_same, on_most, total_same}
use Rattle.step_table.proofs.SumsOfSums.{total_add}
use Rattle.step_table.proofs.GroupBits.{same_itself}
use Rattle.step_law_whole.specs.CoreLaw.{IsQueuedOn}
use Rattle.step_law_whole.specs.CoreWeight.{releases_weight, group_weight, standing_weight, stale_word, core_weight, counts_on, wait_weight, looking_weight, beside_weight}
use Rattle.step_law_whole.proofs.WaitsFitting.{counts_most}
use Rattle.step_law_whole.proofs.SeatSums.{all_but}
use Rattle.step_law_whole.proofs.CoreWeights.{stands_at, stands_weight, on_counters, at_counter_weight, releases_weigh, beside}
use Rattle.step_table.specs.declared.place.ParkedRow.TheVariants.{D3, D5}
use Rattle.step_law_whole.specs.SemaWeight.{parked_weight}
use Rattle.step_law_whole.proofs.GroupBeside.{IsBesideNext}
use Rattle.step_table.specs.declared.call.GivingUp.{GivingUp}
use Rattle.step_table.specs.declared.place.Acquire.{Acquire}

-- what a seat that a row of a group leads there weighs more than it weighed on counters, while the groups' words are these
abbrev pub lands : ℕ → ℕ → (ℕ → GroupWord) → GroupNext → ℕ
lands n g groups group.Ends = 0
lands n g groups (group.Goes row) = group_weight n row + stale_word groups (AtGroup g row)
lands n g groups (group.Fails misuse) = 0
lands n g groups (group.Acquires ending) = 2 * n + 6 + wait_weight ending
lands n g groups (group.SleepsOn how) = 2 * n
lands n g groups (group.Withdraws how) = 1
lands n g groups (group.Releases count) = releases_weight n count

-- a stale exchange weighs 2 more, and a seat counts once
stale_most : (b : Bool) → cond b 0 2 ≤ 2
stale_most true = omega arith
stale_most false = omega arith

stale_word_most : (groups : ℕ → GroupWord) (standing : Standing) → stale_word groups standing ≤ 2
stale_word_most groups (AtGroup g (V2 ending seen)) = stale_most (same_word seen (groups g))
stale_word_most groups (AtGroup g (V5 how seen)) = stale_most (same_word seen (groups g))
stale_word_most groups _ = omega arith

pub counts_one : (g : ℕ) (standing : Standing) (place : Place) → counts_on g standing place ≤ 1
counts_one g (AtCounter (LooksAgain h ending)) place = let a = counts_most g h ending place in let b = on_most h g 1 in omega arith
counts_one g (AtGroup h (V3 ending)) place = on_most h g 1
counts_one g (AtGroup h (V4 how)) place = on_most h g 1
counts_one g (AtGroup h (V5 how seen)) place = on_most h g 1
counts_one g (Failed misuse) place = omega arith
counts_one g _ place = omega arith

-- the releases of as many waits as there are other seats weigh no less than those of so many
fewer : (n w : ℕ) → w < n → releases_weight n w ≤ releases_weight n (n - 1)
fewer n w few = let most : w ≤ n - 1 = omega arith in mul-le-mul_right (2 * n + 11) most

-- a row of a group: it changes the word, and pays for all others; or it leaves the word
pub data GroupFalls (n g : ℕ) (groups : ℕ → GroupWord) (row : GroupRow) (w : GroupWord) (next : GroupNext) : Type 0 where
  pays : lands n g (put groups g w) next + 2 * n < group_weight n row + 2 → GroupFalls n g groups row w next
  alone : w ≡ groups g → lands n g groups next < group_weight n row + stale_word groups (AtGroup g row) → GroupFalls n g groups row w next

module _ (n g : ℕ) (groups : ℕ → GroupWord) (some : 0 < n) where
  abbrev Runs : GroupRow → GroupWord × GroupNext → Type 0
  Runs row to = GroupFalls n g groups row to.0 to.1

  -- what is shown in both cases of a test
  either : (Has : GroupNext → Type 0) (b : Bool) (x y : GroupNext) → Has x → Has y → Has (if b then x else y)
  either Has true x y p q = p
  either Has false x y p q = q

  added : (d : ℤ) (w : GroupWord) → w.waits < n → GroupFalls n g groups (G1 d) w (after_add d w)
  added d w most =
      either (GroupFalls n g groups (G1 d) w) (int_lt w.counter (pos 0)) _ _ (pays (omega arith))
      (either (GroupFalls n g groups (G1 d) w) (not (w.waits == 0) && int_lt (pos 0) d && int_eq w.counter d) _ _ (pays (omega arith))
      (either (GroupFalls n g groups (G1 d) w) (int_lt (pos 0) w.counter || (w.waits == 0)) _ _ (pays (omega arith))
      (pays (let releases = fewer n w.waits most in omega arith))))

  -- the word counts no wait of this seat
  pub group_falls : (row : GroupRow) (place : Place) → (groups g).waits + 1 ≤ n + counts_on g (AtGroup g row) place → Runs row (group_row row (groups g))
  group_falls (G1 d) place few = added d (plus (groups g) d) (omega arith)
  group_falls (G2 seen) place few =
      either (GroupFalls n g groups (G2 seen) (groups g)) (same_word seen (groups g)) _ _ (alone refl (omega arith)) (alone refl (omega arith))
  group_falls (G3 seen) place few = pays (omega arith)
  group_falls (V1 ending) place few =
      either (GroupFalls n g groups (V1 ending) (groups g)) (int_eq (groups g).counter (pos 0)) _ _ (alone refl (omega arith))
      (alone refl (let fresh : stale_word groups (AtGroup g (V2 ending (groups g))) ≡ 0
      = ap (λ b. cond {A = ℕ} b 0 2) (same_itself (groups g) (groups g) refl) in omega arith))
  group_falls (V4 how) place few =
      either (GroupFalls n g groups (V4 how) (groups g)) (int_eq (groups g).counter (pos 0) || ((groups g).waits == 0)) _ _ (alone refl (omega arith))
      (alone refl (let fresh : stale_word groups (AtGroup g (V5 how (groups g))) ≡ 0
      = ap (λ b. cond {A = ℕ} b 0 2) (same_itself (groups g) (groups g) refl) in omega arith))
  group_falls (V5 how seen) place few = by (same_word seen (groups g)) refl
    where
      by : (b : Bool) → same_word seen (groups g) ≡ b
          → GroupFalls n g groups (V5 how seen) (if b then one_less (groups g) else groups g) (if b then group.Withdraws how else group.Goes (V4 how))
      by true e = pays (omega arith)
      by false e = alone refl (let lost : stale_word groups (AtGroup g (V5 how seen)) ≡ 2 = ap (λ b. cond {A = ℕ} b 0 2) e in omega arith)
  group_falls (V2 ending seen) place few = by (same_word seen (groups g)) refl
    where
      by : (b : Bool) → same_word seen (groups g) ≡ b
          → GroupFalls n g groups (V2 ending seen) (if b then one_more (groups g) else groups g)
          (if b then group.Acquires ending else group.Goes (V1 ending))
      by true e = pays (omega arith)
      by false e = alone refl (let lost : stale_word groups (AtGroup g (V2 ending seen)) ≡ 2 = ap (λ b. cond {A = ℕ} b 0 2) e in omega arith)
  group_falls (V3 ending) place few =
      either (GroupFalls n g groups (V3 ending) (groups g)) (same_word (groups g) empty_word) _ _ (alone refl (omega arith)) (alone refl (omega arith))

module _ (m : CoreLayout) (i : ℕ) (in_range : i < m.seats) where
  -- who sleeps on weighs so much more on counters
  stays_weigh : (t : SemaWorld) (g : ℕ) (p : Place) → IsQueuedOn m g p → t.words.grants i ≡ 0
      → on_counters m i in_range t (staying p) + 1 ≡ on_counters m i in_range t p + 2 * m.seats
  stays_weigh t g (Acquiring a (Parked u D3)) queued none =
      subst (λ grant. parked_weight m.seats D5 grant + 0 + 1 ≡ parked_weight m.seats D3 grant + 0 + 2 * m.seats) (sym none) (omega arith)
  stays_weigh t g _ queued none = absurd queued

  never_looks : (g : ℕ) (how : GivingUp) (p : Place) → IsQueuedOn m g p
      → (looking_weight (AtCounter (LooksAgain g (GaveUp how))) p ≡ 0) × (looking_weight (AtCounter (LooksAgain g (GaveUp how))) (staying p) ≡ 0)
  never_looks g how (Acquiring a (Parked u D3)) queued = (refl, refl)
  never_looks g how _ queued = absurd queued

  -- where a row of a group has led
  led : (s : Core) (g : ℕ) (next : GroupNext) → IsBesideNext m g next (s.semaphores.seats i).place → s.semaphores.words.grants i ≡ 0
      → core_weight m (after_group m s i g next) + beside m i in_range s ≡ core_weight m s + lands m.seats g s.groups next
  led s g group.Ends off none = let all = stands_weight m i in_range s Rest in omega arith
  led s g (group.Goes row) off none = let all = stands_weight m i in_range s (AtGroup g row) in omega arith
  led s g (group.Fails misuse) off none = let all = stands_weight m i in_range s (Failed misuse) in omega arith
  led s g (group.Acquires ending) rests none =
      let all = at_counter_weight m i in_range s (Acquiring (record { counter = semaphore m g; lifo = false }) A1) (LooksAgain g ending) in
      let nothing = ap (on_counters m i in_range s.semaphores) rests.0 in
      let looks = at_first_looks g ending (record { counter = semaphore m g; lifo = false }) in omega arith
    where
      at_first_looks : (g : ℕ) (ending : Ending) (a : Acquire) → looking_weight (AtCounter (LooksAgain g ending)) (Acquiring a A1) ≡ 0
      at_first_looks g NextCall a = refl
      at_first_looks g (MayGiveUp how) a = refl
      at_first_looks g (GaveUp how) a = refl
      at_first_looks g (GivesBack skips) a = refl
  led s g (group.Releases count) rests none = releases_weigh m i in_range s g count rests
  led s g (group.SleepsOn how) queued none =
      let p = (s.semaphores.seats i).place in
      let all = at_counter_weight m i in_range s (staying p) (LooksAgain g (GaveUp how)) in
      let more = stays_weigh s.semaphores g p queued none in
      let looks = (never_looks g how p queued).1 in omega arith
  led s g (group.Withdraws how) queued none =
      let all = stands_weight m i in_range s (AtCounter (LooksAgain g (GaveUp how))) in
      let looks = (never_looks g how (s.semaphores.seats i).place queued).0 in omega arith

  module _ (s : Core) where
    -- what all seats weigh beside what they weigh on counters and lists, and what is stale of it
    abbrev plain : ℕ
    plain = total m.seats (λ k. standing_weight m.seats (s.standing k) + looking_weight (s.standing k) (s.semaphores.seats k).place)

    with_words : (groups : ℕ → GroupWord)
        → total m.seats (λ k. beside_weight m.seats groups (s.standing k) (s.semaphores.seats k).place)
        ≡ plain + total m.seats (λ k. stale_word groups (s.standing k))
    with_words groups =
        total_same m.seats (λ k. beside_weight m.seats groups (s.standing k) (s.semaphores.seats k).place)
        (λ k. standing_weight m.seats (s.standing k) + looking_weight (s.standing k) (s.semaphores.seats k).place + stale_word groups (s.standing k))
        (λ k h. omega arith)
        ∙ total_add m.seats (λ k. standing_weight m.seats (s.standing k) + looking_weight (s.standing k) (s.semaphores.seats k).place)
        (λ k. stale_word groups (s.standing k))

    pub group_turned : (g : ℕ) (row : GroupRow) → s.standing i ≡ AtGroup g row → (w : GroupWord) (next : GroupNext)
        → IsBesideNext m g next (s.semaphores.seats i).place → s.semaphores.words.grants i ≡ 0 → GroupFalls m.seats g s.groups row w next
        → core_weight m (after_group m (record s { groups = put s.groups g w }) i g next) < core_weight m s
    group_turned g row at w next rests none (pays less) =
        let all = led (record s { groups = put s.groups g w }) g next rests none in
        let here = ap (λ st. stands_at m i in_range (put s.groups g w) st (s.semaphores.seats i).place) at in
        let before = with_words s.groups in
        let after = with_words (put s.groups g w) in
        let few = all_but m.seats 2 (λ k. stale_word (put s.groups g w) (s.standing k)) i in_range
        (λ k h. stale_word_most (put s.groups g w) (s.standing k)) in
        let own = ap (stale_word (put s.groups g w)) at in omega arith
    group_turned g row at w next rests none (alone same less) =
        subst Less (ap (put s.groups g) (sym same)) (subst Less (sym (put_same s.groups g)) still)
      where
        Less : (ℕ → GroupWord) → Type 0
        Less groups = core_weight m (after_group m (record s { groups = groups }) i g next) < core_weight m s

        still : Less s.groups
        still =
            let all = led s g next rests none in
            let here = ap (λ st. stands_at m i in_range s.groups st (s.semaphores.seats i).place) at in omega arith
