-- Each row of the semaphores lowers the weight, and a choice raises it by its cost at most.
use Rattle.std.proofs.Common.{◌≡◌, ℕ, zero, suc, ◌+◌, ◌-◌, ◌*◌, ◌<◌, ◌≤◌, ◌≢◌, Bool, true, false, length, refl, sym, ap}
use Rattle.std.proofs.Common.{ap₂, ◌∙◌, ◌⊎◌, inl, inr, subst, arith, ◌==◌, cond}
use Rattle.step_table.specs.declared.place.AcquireRow.TheVariants.{A2, A6, A11, Parked}
use Rattle.step_table.specs.declared.place.ReleaseRow.TheVariants.{R8}
use Rattle.step_table.specs.declared.place.ParkedRow.{ParkedRow}
use Rattle.step_table.specs.declared.place.ParkedRow.TheVariants.{P, D2, D3, D5}
use Rattle.step_table.specs.declared.place.Place.{Place}
use Rattle.step_table.specs.declared.place.Place.TheVariants.{Acquiring, Releasing, ReleasingMany}
use Rattle.step_table.specs.declared.place.ManyRow.TheVariants.{M5}
use Rattle.step_table.specs.World.{Layout, Words, SeatState, SemaWorld, put}
use Rattle.step_table.specs.Counting.{total, times}
use Rattle.step_table.specs.Steps.{Turn, Choice, acquire, enter, release, release_many, give_up, give_up_lock, decide, leave, sleep_on, stay}
use Rattle.step_table.proofs.Sums.{put_here, total_has, owned, posted}
use Rattle.step_table.proofs.SumsOfSums.{total_add}
use Rattle.step_table.specs.Counting.{IsWithin}
use Rattle.step_law_semaphores.specs.Invariant.{asleep, Finds, IsInvariant}
use Rattle.step_law_semaphores.proofs.Placing.{Waiter, same_here}
use Rattle.step_law_semaphores.proofs.Parking.{in_a_hand}
use Rattle.step_law_whole.specs.SemaWeight.{place_weight, release_cost, handing, stale, weight, cost, Chosen, chosen}
use Rattle.step_law_whole.specs.SemaWeight.{asleep_weight, parked_weight}
use Rattle.step_law_whole.proofs.SeatSums.{all_but}
use Rattle.step_law_whole.proofs.SemaRows.{HasRoom, weighs, Falls, pays, alone, wakes, falls}

-- the weight of a world is that of its places and grants, and that of its stale exchanges
abbrev standing_weight : Layout → (ℕ → SeatState) → (ℕ → ℕ) → ℕ
standing_weight m seats grants = total m.seats (λ k. weighs m.seats (seats k) (grants k))

abbrev stale_weight : Layout → (ℕ → SeatState) → (ℕ → ℕ) → ℕ
stale_weight m seats numbers = total m.seats (λ k. stale numbers (seats k).place)

both : (m : Layout) (s : SemaWorld)
    → weight m s ≡ standing_weight m s.seats s.words.grants + stale_weight m s.seats s.words.numbers
both m s = total_add m.seats (λ k. weighs m.seats (s.seats k) (s.words.grants k)) (λ k. stale s.words.numbers (s.seats k).place)

-- a stale exchange weighs 2 more, and no more
stale_by_most : (b : Bool) → cond b 0 2 ≤ 2
stale_by_most true = omega arith
stale_by_most false = omega arith

stale_most : (numbers : ℕ → ℕ) (p : Place) → stale numbers p ≤ 2
stale_most numbers (Acquiring a (A2 left)) = stale_by_most (numbers a.counter == left + 1)
stale_most numbers (Acquiring a (A6 left)) = stale_by_most (numbers a.counter == left + 1)
stale_most numbers (Acquiring a (A11 left)) = stale_by_most (numbers a.counter == left + 1)
stale_most numbers (Releasing r (R8 left)) = stale_by_most (numbers r.counter == left + 1)
stale_most numbers _ = omega arith

-- a seat that gives up weighs more by its grant as a sleeper does, or keeps nothing of what a sleeper keeps
woken_rises : (n : ℕ) (row : ParkedRow) (x : ℕ)
    → (parked_weight n row x + 2 * n ≡ parked_weight n row 0 + asleep_weight n x) ⊎ (parked_weight n row x ≡ parked_weight n row 0)
woken_rises n P x = inl (omega arith)
woken_rises n D2 x = inl (omega arith)
woken_rises n D3 zero = inr refl
woken_rises n D3 (suc zero) = inl (omega arith)
woken_rises n D3 (suc (suc x)) = by n
  where
    by : (n : ℕ) → (parked_weight n D3 (suc (suc x)) + 2 * n ≡ parked_weight n D3 0 + asleep_weight n (suc (suc x))) ⊎ (parked_weight n D3 (suc (suc x)) ≡ parked_weight n D3 0)
    by zero = inl (omega arith)
    by (suc n) = inr (omega arith)
woken_rises n D5 x = inl (omega arith)

-- a row of seat i, from s to the words h and the seat q
module _ (m : Layout) (s : SemaWorld) (i : ℕ) (in_range : i < m.seats) (inv : IsInvariant m s) (q : SeatState) (h : Words) where
  abbrev after : SemaWorld
  after = record { words = h; seats = put s.seats i q; journal = s.journal }

  lower : Falls m.seats i s.words (s.seats i) q h → weight m after < weight m s
  lower (pays grants fresh less) =
      let before = both m s in
      let then = both m after in
      let standing = owned (λ k seat grant. weighs m.seats seat grant) m.seats s.seats s.words.grants h.grants i q in_range (λ k ne j. grants j k) in
      let few = all_but m.seats 2 (λ k. stale h.numbers (put s.seats i q k).place) i in_range (λ k lt. stale_most h.numbers (put s.seats i q k).place) in
      let here = ap (λ (z : SeatState). stale h.numbers z.place) (put_here s.seats i q) in omega arith
  lower (alone numbers grants less) =
      let before = both m s in
      let then = both m after in
      let standing = owned (λ k seat grant. weighs m.seats seat grant) m.seats s.seats s.words.grants h.grants i q in_range grants in
      let stales = owned (λ k seat grant. stale s.words.numbers seat.place) m.seats s.seats s.words.grants h.grants i q in_range grants in
      let same = ap (stale_weight m (put s.seats i q)) numbers in omega arith
  lower (wakes w l x has awake numbers grants fresh less pays_own) =
      let before = both m s in
      let then = both m after in
      let one = ap (times w) has in
      let itself = same_here w in
      let v : Waiter m _ w s = in_a_hand m s inv.placed i w in_range (omega arith) in
      let other : w.seat ≢ i = λ e. awake v.0 w.turn v.2 (ap (λ k. (s.seats k).place) (sym e) ∙ v.3) in
      let standing = posted (λ k seat grant. weighs m.seats seat grant) m.seats s.seats s.words.grants i w.seat x q in_range v.5 other in
      let slept : weighs m.seats (s.seats w.seat) (s.words.grants w.seat) ≡ parked_weight m.seats v.2 0
      = ap₂ (λ p grant. place_weight m.seats p (length (s.seats w.seat).hand) grant) v.3 v.4 in
      let woken : weighs m.seats (s.seats w.seat) x ≡ parked_weight m.seats v.2 x
      = ap (λ p. place_weight m.seats p (length (s.seats w.seat).hand) x) v.3 in
      let granted = ap (standing_weight m (put s.seats i q)) grants in
      let stales = owned (λ k seat grant. stale s.words.numbers seat.place) m.seats s.seats s.words.grants s.words.grants i q in_range (λ k ne. refl) in
      let same = ap (stale_weight m (put s.seats i q)) numbers in
      let rises = woken_rises m.seats v.2 x in omega arith

-- a sleeper counts once
asleep_one : (p : Place) (grant : ℕ) → asleep p grant ≤ 1
asleep_one (Acquiring a (Parked turn row)) zero = omega arith
asleep_one (Acquiring a (Parked turn row)) (suc grant) = omega arith
asleep_one _ grant = omega arith

-- while a release takes waits out, one more stands in the list
has_room : (m : Layout) (s : SemaWorld) (i : ℕ) → i < m.seats → IsInvariant m s → HasRoom m.seats (s.seats i).place (length (s.seats i).hand)
has_room m s i in_range inv = by (s.seats i).place refl (inv.seats i).within (inv.finds i in_range)
  where
    by : (p : Place) → (s.seats i).place ≡ p → IsWithin m.counters p → Finds i s.words.lists p → HasRoom m.seats p (length (s.seats i).hand)
    by (ReleasingMany r M5) at within finds =
        let one = total_has m.counters (λ c. length (s.words.lists c)) r.counter within.0 in
        let hand = total_has m.seats (λ k. length (s.seats k).hand) i in_range in
        let few = all_but m.seats 1 (λ k. asleep (s.seats k).place (s.words.grants k)) i in_range
        (λ k h. asleep_one (s.seats k).place (s.words.grants k)) in
        let awake = ap (λ p. asleep p (s.words.grants i)) at in
        let counted = inv.sleepers in omega arith
    by _ at within finds = tt

pub lowered : (m : Layout) (s t : SemaWorld) (i : ℕ) → i < m.seats → IsInvariant m s → Turn m.root s i t → weight m t < weight m s
lowered m s t i in_range inv turn =
    subst (λ t. weight m t < weight m s) (sym turn.is)
    (lower m s i in_range inv _ _
    (falls m m.seats i (omega arith) s.words (s.seats i).place (s.seats i).turn (s.seats i).hand (inv.seats i).fits
    (has_room m s i in_range inv) (inv.seats i).granted turn.can))

-- a choice
pub handing_cost : (n : ℕ) (b : Bool) → 0 < n → 2 * n + 11 + handing n b ≡ release_cost n b
handing_cost n true some = omega arith
handing_cost n false some = omega arith

handing_most : (n : ℕ) (b : Bool) → handing n b ≤ 2 * n - 1
handing_most n true = omega arith
handing_most n false = omega arith

costs : {counters : ℕ} (n in_hand grant : ℕ) → 0 < n → (numbers : ℕ → ℕ) {p q : Place} → Choice counters p q
    → place_weight n q in_hand grant + stale numbers q ≤ place_weight n p in_hand grant + stale numbers p + cost n p q
costs n in_hand grant some numbers (acquire a within) = omega arith
costs n in_hand grant some numbers (enter a within) = omega arith
costs n in_hand grant some numbers (release r within) = let same = handing_cost n r.handoff some in omega arith
costs n in_hand grant some numbers (release_many r within least few) = omega arith
costs n in_hand grant some numbers (give_up a) = omega arith
costs n in_hand grant some numbers (give_up_lock a) = omega arith
costs n in_hand grant some numbers (leave a turn) = omega arith
costs n in_hand grant some numbers (sleep_on a turn) = omega arith
costs n in_hand grant some numbers (stay a turn) = omega arith
costs n in_hand grant some numbers (decide r handoff) = let most = handing_most n handoff in omega arith

pub raised : (m : Layout) (s t : SemaWorld) (i cost : ℕ) → i < m.seats → Chosen m s i cost t → weight m t ≤ weight m s + cost
raised m s t i cost in_range = by
  where
    by : {cost : ℕ} {t : SemaWorld} → Chosen m s i cost t → weight m t ≤ weight m s + cost
    by (chosen {place = place} choice) =
        let all = owned (λ k seat grant. weighs m.seats seat grant + stale s.words.numbers seat.place) m.seats s.seats s.words.grants s.words.grants
        i (record (s.seats i) { place = place }) in_range (λ k ne. refl) in
        let one = costs m.seats (length (s.seats i).hand) (s.words.grants i) (omega arith) s.words.numbers choice in omega arith
