-- The wait of a seat, which is taken out of its list wherever it stands there.
use Rattle.std.proofs.Common.{◌≡◌, ℕ, ◌+◌, ◌<◌, ◌≢◌, ◌⊎◌, ◌||◌, Bool, true, false, cond, eqb, IsTrue, List, [], ◌∷◌, length, Option, Some}
use Rattle.std.proofs.Common.{refl, sym, ap, subst, ◌∙◌, ◌&&◌, if◌then◌else◌, eq-eqb, inl, inr, arith}
use Rattle.std.proofs.lemmas.Bool.Decides.{eqb_tells}
use Rattle.waiters.specs.declared.wait.WaitId.{WaitId}
use Rattle.step_table.specs.World.{wait_of, stands_in, without}
use Rattle.step_table.specs.Counting.{on, same, times}
use Rattle.step_table.specs.Journal.{without_wait}
use Rattle.step_table.proofs.Sums.{on_here}

same_itself : (w : WaitId) → same w w ≡ 1
same_itself w = ap (on w.seat w.seat) (on_here w.turn 1) ∙ on_here w.seat 1

-- a seat that has a wait in the list has a first one there
pub stands_has : (k : ℕ) (l : List WaitId) → IsTrue (stands_in k l) → (w : WaitId) × (wait_of k l ≡ Some w) × (w.seat ≡ k)
stands_has k [] stands = absurd cc
stands_has k (x ∷ l) stands = by (eqb_tells x.seat k) (stands_has k l)
  where
    Found : Option WaitId → Type 0
    Found o = (w : WaitId) × (o ≡ Some w) × (w.seat ≡ k)

    by : ((eqb x.seat k ≡ true) × (x.seat ≡ k)) ⊎ ((eqb x.seat k ≡ false) × (x.seat ≢ k))
        → (IsTrue (stands_in k l) → Found (wait_of k l)) → Found (cond (eqb x.seat k) (Some x) (wait_of k l))
    by (inl here) rest = subst (λ b. Found (cond b (Some x) (wait_of k l))) (sym here.0) (x, refl, here.1)
    by (inr far) rest =
        subst (λ b. Found (cond b (Some x) (wait_of k l))) (sym far.0) (rest (subst (λ b. b || stands_in k l ≡ true) far.0 stands))

-- it is counted there
pub wait_times : (w : WaitId) (l : List WaitId) → wait_of w.seat l ≡ Some w → 0 < times w l
wait_times w [] is = absurd cc
wait_times w (x ∷ l) is = by (eqb x.seat w.seat) is (wait_times w l)
  where
    by : (b : Bool) → cond b (Some x) (wait_of w.seat l) ≡ Some w → (wait_of w.seat l ≡ Some w → 0 < times w l) → 0 < same w x + times w l
    by true is rest = let one : x ≡ w = cc in let itself = ap (same w) one ∙ same_itself w in omega arith
    by false is rest = let more = rest is in omega arith

-- it is counted once less where it was taken out, and no other wait is
pub times_without : (w x : WaitId) (l : List WaitId) → wait_of x.seat l ≡ Some x → times w (without x.seat l) + same w x ≡ times w l
times_without w x [] is = absurd cc
times_without w x (y ∷ l) is = by (eqb y.seat x.seat) is (times_without w x l)
  where
    by : (b : Bool) → cond b (Some y) (wait_of x.seat l) ≡ Some x
        → (wait_of x.seat l ≡ Some x → times w (without x.seat l) + same w x ≡ times w l)
        → times w (cond b l (y ∷ without x.seat l)) + same w x ≡ same w y + times w l
    by true is rest = let one : y ≡ x = cc in let here = ap (same w) one in omega arith
    by false is rest = let fewer = rest is in omega arith

pub length_without : (x : WaitId) (l : List WaitId) → wait_of x.seat l ≡ Some x → length (without x.seat l) + 1 ≡ length l
length_without x [] is = absurd cc
length_without x (y ∷ l) is = by (eqb y.seat x.seat) is (length_without x l)
  where
    by : (b : Bool) → cond b (Some y) (wait_of x.seat l) ≡ Some x
        → (wait_of x.seat l ≡ Some x → length (without x.seat l) + 1 ≡ length l)
        → length (cond b l (y ∷ without x.seat l)) + 1 ≡ length (y ∷ l)
    by true is rest = omega arith
    by false is rest = let fewer = rest is in omega arith

-- where the wait of its seat in the list is this one, it goes by its name as by its seat
pub without_same : (w : WaitId) (l : List WaitId) → wait_of w.seat l ≡ Some w → without_wait w l ≡ without w.seat l
without_same w [] is = refl
without_same w (x ∷ l) is = by (eqb x.seat w.seat) is (without_same w l)
  where
    by : (b : Bool) → cond b (Some x) (wait_of w.seat l) ≡ Some w → (wait_of w.seat l ≡ Some w → without_wait w l ≡ without w.seat l)
        → (if b && eqb x.turn w.turn then l else x ∷ without_wait w l) ≡ (if b then l else x ∷ without w.seat l)
    by true is rest =
        let one : x ≡ w = cc in
        ap (λ (b : Bool). if b then l else x ∷ without_wait w l) (eq-eqb x.turn w.turn (ap (λ (y : WaitId). y.turn) one))
    by false is rest = ap (λ k. x ∷ k) (rest is)
