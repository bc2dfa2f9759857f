-- The waits in the list and in hands are as many as the seats that are parked without a grant: each is that of such a seat, and
-- each such seat has one.
use Rattle.std.proofs.Common.{◌≡◌, ◌⊎◌, ℕ, zero, suc, ◌+◌, ◌<◌, ◌≤◌, List, [], ◌∷◌, length, sym, refl, ap, ap₂, ◌∙◌}
use Rattle.std.proofs.Common.{inl, inr, arith}
use native.Mathlib.Decide.{ℕ_discrete}
use Rattle.waiters.specs.declared.wait.Wait.{Wait}
use Rattle.step_table.specs.declared.list_place.ListPlace.{ListPlace}
use Rattle.step_table.specs.declared.list_place.ListPlace.TheVariants.{Waiting}
use Rattle.step_table.specs.declared.list_place.Ticket.{Ticket}
use Rattle.step_table.specs.declared.list_place.WaitRow.TheVariants.{Parked}
use Rattle.step_table.specs.declared.list_place.ListParkedRow.{ListParkedRow}
use Rattle.step_table.specs.Counting.{on, total}
use Rattle.step_table.specs.ListWorld.{ListWorld}
use Rattle.step_table.specs.ListTable.{wait_for}
use Rattle.step_law_lists.specs.ListLawful.{times, standing}
use Rattle.step_law_lists.specs.ListInvariant.{awaits, WaitsPlaced}
use Rattle.step_law_lists.specs.ListWellFormed.{asleep_on_list, ListSleepersCounted}
use Rattle.step_table.proofs.Sums.{on_here, on_else, total_has, total_rest, total_same, nothing, single}
use Rattle.step_table.proofs.SumsOfSums.{at_most_ones, swapped, total_add}
use Rattle.step_law_lists.proofs.ListPlacing.{one, one_here, one_some, waiter_of, awaits_else}
use Rattle.step_law_lists.specs.ListPlaces.{HasRoom}

-- how many waits of the seat k are in a list
abbrev of_seat : ℕ → List Wait → ℕ
of_seat k [] = 0
of_seat k (x ∷ l) = on k x.id.seat 1 + of_seat k l

-- a list is as long as it has waits of each seat
by_seats : (n : ℕ) (l : List Wait) → ((w : Wait) → 0 < times w l → w.id.seat < n) → length l ≡ total n (λ k. of_seat k l)
by_seats n [] within = sym (nothing n (λ k. 0) (λ k. refl))
by_seats n (x ∷ l) within =
    let rest : length l ≡ total n (λ k. of_seat k l) = by_seats n l (λ w some. within w (omega arith)) in
    let here = within x (let is = one_here x in omega arith) in
    let first = single n (λ k. on k x.id.seat 1) x.id.seat here (λ k ne. on_else k x.id.seat 1 ne) in
    let is = on_here x.id.seat 1 in
    let sum = total_add n (λ k. on k x.id.seat 1) (λ k. of_seat k l) in omega arith

-- where all waits of a seat are this one, it has as many as this stands there
all_this : (w : Wait) (l : List Wait) → ((x : Wait) → 0 < times x l → x.id.seat ≡ w.id.seat → w ≡ x) → of_seat w.id.seat l ≡ times w l
all_this w [] same = refl
all_this w (x ∷ l) same = by (ℕ_discrete w.id.seat x.id.seat) (all_this w l (λ y some at. same y (omega arith) at))
  where
    by : Dec (w.id.seat ≡ x.id.seat) → of_seat w.id.seat l ≡ times w l → of_seat w.id.seat (x ∷ l) ≡ times w (x ∷ l)
    by (yes at) rest =
        let here = one_here x in
        let is : one w x ≡ 1 = ap (λ y. one y x) (same x (omega arith) (sym at)) ∙ here in
        let on_it : on w.id.seat x.id.seat 1 ≡ 1 = ap (λ k. on k x.id.seat 1) at ∙ on_here x.id.seat 1 in omega arith
    by (no apart) rest = differ (ℕ_discrete (one w x) 0)
      where
        differ : Dec (one w x ≡ 0) → of_seat w.id.seat (x ∷ l) ≡ times w (x ∷ l)
        differ (yes none) = let off = on_else w.id.seat x.id.seat 1 apart in omega arith
        differ (no some) = absurd (apart (ap (λ y. y.id.seat) (one_some w x (omega arith))))

-- a seat has no wait in a list, or has this one there
has_one : (k : ℕ) (l : List Wait) → (of_seat k l ≡ 0) ⊎ ((w : Wait) × (0 < times w l) × (w.id.seat ≡ k))
has_one k [] = inl refl
has_one k (x ∷ l) = by (ℕ_discrete k x.id.seat) (has_one k l)
  where
    by : Dec (k ≡ x.id.seat) → (of_seat k l ≡ 0) ⊎ ((w : Wait) × (0 < times w l) × (w.id.seat ≡ k))
        → (of_seat k (x ∷ l) ≡ 0) ⊎ ((w : Wait) × (0 < times w (x ∷ l)) × (w.id.seat ≡ k))
    by (yes at) _ = inr (x, (let here = one_here x in omega arith), sym at)
    by (no apart) (inl none) = inl (let off = on_else k x.id.seat 1 apart in omega arith)
    by (no apart) (inr some) = inr (some.0, (let more = some.1 in omega arith), some.2)

parked_once : (t u : Ticket) (row other : ListParkedRow) → Waiting t (Parked row) ≡ Waiting u (Parked other) → t ≡ u
parked_once t u row other e = cc

asleep_most : (place : ListPlace) (grant : ℕ) → asleep_on_list place grant ≤ 1
asleep_most (Waiting t (Parked row)) zero = omega arith
asleep_most (Waiting t (Parked row)) (suc grant) = omega arith
asleep_most _ grant = omega arith

module _ (seats : ℕ) (s : ListWorld) (placed : WaitsPlaced seats s) where
  -- a list whose waits stand in the list of waits or in hands
  abbrev Stand : List Wait → Type 0
  Stand l = (w : Wait) → 0 < times w l → 0 < standing seats s w

  in_list : Stand s.words.queue
  in_list w some = omega arith

  in_hand : (i : ℕ) → i < seats → Stand (s.seats i).hand
  in_hand i there w some = let held = total_has seats (λ k. times w (s.seats k).hand) i there in omega arith

  of_there : (l : List Wait) → Stand l → length l ≡ total seats (λ k. of_seat k l)
  of_there l stand = by_seats seats l (λ w some. (waiter_of seats s w placed (stand w some)).2)

  -- how many waits the seat k has in all
  abbrev waits_of : ℕ → ℕ
  waits_of k = of_seat k s.words.queue + total seats (λ i. of_seat k (s.seats i).hand)

  -- they are as many as f counts in the list and in hands, where f counts the seat's waits
  waits_like : (k : ℕ) (f : List Wait → ℕ) → ((l : List Wait) → Stand l → of_seat k l ≡ f l)
      → waits_of k ≡ f s.words.queue + total seats (λ i. f (s.seats i).hand)
  waits_like k f same =
      let listed = same s.words.queue in_list in
      let held = total_same seats (λ i. of_seat k (s.seats i).hand) (λ i. f (s.seats i).hand) (λ i there. same (s.seats i).hand (in_hand i there)) in
      omega arith

  -- a seat that isn't parked without a grant has none, and one that is has one
  awake_none : (k : ℕ) → asleep_on_list (s.seats k).place (s.words.grants k) ≡ 0 → waits_of k ≡ 0
  awake_none k awake =
      let zeros = nothing seats (λ i. 0) (λ i. refl) in let is = waits_like k (λ l. 0) (λ l stand. by l stand (has_one k l)) in omega arith
    where
      by : (l : List Wait) → Stand l → (of_seat k l ≡ 0) ⊎ ((w : Wait) × (0 < times w l) × (w.id.seat ≡ k)) → of_seat k l ≡ 0
      by l stand (inl none) = none
      by l stand (inr some) =
          let v = waiter_of seats s some.0 placed (stand some.0 some.1) in
          let asleep = ap₂ asleep_on_list v.0.1 v.1 in
          let here = ap (λ k. asleep_on_list (s.seats k).place (s.words.grants k)) some.2 in absurd (omega arith)

  asleep_one : (k : ℕ) (t : Ticket) (row : ListParkedRow) → k < seats → (s.seats k).place ≡ Waiting t (Parked row) → s.words.grants k ≡ 0 → waits_of k ≡ 1
  asleep_one k t row there parked unset =
      let w = wait_for k t in
      let is = waits_like k (times w) (λ l stand. all_this w l (same l stand)) in
      let sum = single seats (λ j. awaits w j (s.seats j).place (s.words.grants j)) k there
      (λ j ne. awaits_else w j (s.seats j).place (s.words.grants j) ne) in
      let here = ap₂ (awaits w k) parked unset in
      let one = one_here w in
      let all = placed w in omega arith
    where
      same : (l : List Wait) → Stand l → (x : Wait) → 0 < times x l → x.id.seat ≡ k → wait_for k t ≡ x
      same l stand x some at =
          let v = waiter_of seats s x placed (stand x some) in
          let e = parked_once _ _ row v.0.0 (sym parked ∙ ap (λ j. (s.seats j).place) (sym at) ∙ v.0.1) in
          λ j. record { id = record { seat = sym at j; turn = (e j).number }; ticket = (e j).word }

  one_each : (k : ℕ) → k < seats → waits_of k ≡ asleep_on_list (s.seats k).place (s.words.grants k)
  one_each k there = by (s.seats k).place (s.words.grants k) refl refl
    where
      none : (place : ListPlace) (grant : ℕ) → (s.seats k).place ≡ place → s.words.grants k ≡ grant → asleep_on_list place grant ≡ 0
          → waits_of k ≡ 0
      none place grant at is awake = awake_none k (ap₂ asleep_on_list at is ∙ awake)

      by : (place : ListPlace) (grant : ℕ) → (s.seats k).place ≡ place → s.words.grants k ≡ grant → waits_of k ≡ asleep_on_list place grant
      by (Waiting t (Parked row)) zero at is = asleep_one k t row there at is
      by (Waiting t (Parked row)) (suc grant) at is = none (Waiting t (Parked row)) (suc grant) at is refl
      by place grant at is = none place grant at is refl

  pub counted : ListSleepersCounted seats s
  counted =
      let listed = of_there s.words.queue in_list in
      let held = total_same seats (λ i. length (s.seats i).hand) (λ i. total seats (λ k. of_seat k (s.seats i).hand))
      (λ i there. of_there (s.seats i).hand (in_hand i there)) in
      let turned = swapped seats seats (λ i k. of_seat k (s.seats i).hand) in
      let sum = total_add seats (λ k. of_seat k s.words.queue) (λ k. total seats (λ i. of_seat k (s.seats i).hand)) in
      let each = total_same seats waits_of (λ k. asleep_on_list (s.seats k).place (s.words.grants k)) one_each in omega arith

  pub room : HasRoom seats s
  room k there awake =
      let rest = total_rest seats (λ j. asleep_on_list (s.seats j).place (s.words.grants j)) (λ j. 1) k there
      (λ j. asleep_most (s.seats j).place (s.words.grants j)) in
      let most = at_most_ones seats (λ j. 1) (λ j h. omega arith) in
      let sleepers = counted in omega arith
