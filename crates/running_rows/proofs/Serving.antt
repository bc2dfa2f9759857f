-- Each step of a thread keeps the rule of a futex.
use Rattle.std.proofs.Common.{◌≡◌, ◌≢◌, ℕ, zero, suc, ◌+◌, ◌<◌, ◌≤◌, List, [], ◌∷◌, ◌++◌, set, slice_index, sym, refl, ap, ◌∙◌, subst, arith, ⊎_elim}
use mathlib.Core.Option.{some, some-injective, some-ne-none}
use lib.ListN.{get_elem?}
use Rattle.atomic_table.proofs.Lists.{at_set, at_snoc, set_else}
use Rattle.step_table.specs.Counting.{among}
use Rattle.running_rows.specs.declared.parking.Stage.{Stage}
use Rattle.running_rows.specs.declared.parking.Stage.TheVariants.{Counted, Asleep, Wants, Owes, Overflowed}
use Rattle.running_rows.specs.declared.parking.Mark.{Mark}
use Rattle.running_rows.specs.declared.parking.Parking.{Parking}
use Rattle.running_rows.specs.Futex.{Futex, lets_go, counted_in, asleep_in, owing_in, overflowed_in, over, counted, asleep, owing, overflowed, calls, passed, amount, paid, sum, AreWithin, IsLeft, IsServed, IsServedYet, fresh_parking, joined}

sum_set : (f : Parking → ℕ) (l : List Parking) (i : ℕ) (v w : Parking) → get_elem? l i ≡ some v → sum f (set l i w) + f v ≡ sum f l + f w
sum_set f [] i v w e = absurd (some-ne-none v (sym e))
sum_set f (x ∷ xs) zero v w e = let is : f x ≡ f v = ap f (some-injective x v e) in omega arith
sum_set f (x ∷ xs) (suc i) v w e = let r = sum_set f xs i v w e in omega arith

pub sum_at : (f : Parking → ℕ) (l : List Parking) (i : ℕ) (v : Parking) → get_elem? l i ≡ some v → f v ≤ sum f l
sum_at f [] i v e = absurd (some-ne-none v (sym e))
sum_at f (x ∷ xs) zero v e = let is : f x ≡ f v = ap f (some-injective x v e) in omega arith
sum_at f (x ∷ xs) (suc i) v e = let r = sum_at f xs i v e in omega arith

sum_le : (f g : Parking → ℕ) → ((v : Parking) → f v ≤ g v) → (l : List Parking) → sum f l ≤ sum g l
sum_le f g h [] = omega arith
sum_le f g h (x ∷ xs) = let a = h x in let r = sum_le f g h xs in omega arith

sum_snoc : (f : Parking → ℕ) (l : List Parking) (v : Parking) → sum f (l ++ v ∷ []) ≡ sum f l + f v
sum_snoc f [] v = omega arith
sum_snoc f (x ∷ xs) v = let r = sum_snoc f xs v in omega arith

-- who sleeps is counted
asleep_counted : (i : ℕ) (ps : List Stage) → over (asleep_in i) ps ≤ over (counted_in i) ps
asleep_counted i [] = omega arith
asleep_counted i (Counted j ∷ ps) = let r = asleep_counted i ps in omega arith
asleep_counted i (Asleep j ∷ ps) = let r = asleep_counted i ps in omega arith
asleep_counted i (Wants j ∷ ps) = let r = asleep_counted i ps in omega arith
asleep_counted i (Owes j ∷ ps) = let r = asleep_counted i ps in omega arith
asleep_counted i (Overflowed j ∷ ps) = let r = asleep_counted i ps in omega arith

pub none_counted : (x : Futex) (threads : List Parking) → sum (counted x) threads ≡ 0 → sum (asleep x) threads ≡ 0
none_counted x threads none =
    let le = sum_le (asleep x) (counted x) (λ v. asleep_counted x.sleepers v.stages) threads in omega arith

pub within_more : (i n m : ℕ) (ms : List Mark) → n ≤ m → AreWithin i n ms → AreWithin i m ms
within_more i n m [] le before = tt
within_more i n m (x ∷ ms) le before = ((λ e. let h = before.0 e in omega arith), within_more i n m ms le before.1)

pub within_both : (i n : ℕ) (ms ns : List Mark) → AreWithin i n ms → AreWithin i n ns → AreWithin i n (ms ++ ns)
within_both i n [] ns first second = second
within_both i n (x ∷ ms) ns first second = (first.0, within_both i n ms ns first.1 second)

-- nothing has changed at the futex
pub record IsSameAt (x : Futex) (v w : Parking) : Type 0 where
  pub counted : counted x w ≡ counted x v
  pub asleep : asleep x w ≡ asleep x v
  pub owing : owing x w ≡ owing x v
  pub overflowed : overflowed x w ≡ overflowed x v
  pub calls : calls x w ≡ calls x v
  pub passed : passed x w ≡ passed x v
  pub paid : paid x w ≡ paid x v
  pub stored : (n : ℕ) → AreWithin x.word n v.stored → AreWithin x.word n w.stored

pub same_at : (x : Futex) (v : Parking) → IsSameAt x v v
same_at x v = record { counted = refl; asleep = refl; owing = refl; overflowed = refl; calls = refl; passed = refl; paid = refl; stored = λ n h. h }

-- the thread i, which was v, is w now
module _ (x : Futex) (words next : List ℕ) (threads : List Parking) (i : ℕ) (v w : Parking) (at : get_elem? threads i ≡ some v) where
  abbrev pub now : List Parking
  now = set threads i w

  pub after : (f : Parking → ℕ) → sum f now + f v ≡ sum f threads + f w
  after f = sum_set f threads i v w at

  pub as_before : (f : Parking → ℕ) → f w ≡ f v → sum f now ≡ sum f threads
  as_before f e = let r = after f in omega arith

  -- who is left now was left before, where no more sleep there and all else that counts is the same
  pub left_was : slice_index next x.word ≡ slice_index words x.word → asleep x w ≤ asleep x v → owing x w ≡ owing x v → passed x w ≡ passed x v
      → paid x w ≡ paid x v → IsLeft x next now → IsLeft x words threads
  left_was word fewer owed pass pay left =
      let a = after (asleep x) in let p = as_before (passed x) pass in let q = as_before (paid x) pay in let s = left.asleep in let t = left.taken in record {
        asleep = omega arith;
        goes = subst (lets_go x.is_lock) word left.goes;
        unowed = sym (as_before (owing x) owed) ∙ left.unowed;
        taken = omega arith;
      }

  pub pays_still : IsServed x words threads → passed x w ≡ passed x v → paid x w ≡ paid x v → sum (paid x) now ≤ sum (passed x) now
  pays_still r pass pay = let p = as_before (passed x) pass in let q = as_before (paid x) pay in let t = r.taken in omega arith

  each_now : (P : Parking → Type 0) → P w → ((j : ℕ) (u : Parking) → get_elem? threads j ≡ some u → P u) → (j : ℕ) (u : Parking)
      → get_elem? now j ≡ some u → P u
  each_now P own others j u e = ⊎_elim (λ t. subst P t.1 own) (λ t. others j u t.1) (at_set threads i j w u e)

  module _ (r : IsServed x words threads) (counts : slice_index next x.sleepers ≡ sum (counted x) now) (pays : sum (paid x) now ≤ sum (passed x) now)
    where
      stays : (n : ℕ) → suc (sum (calls x) threads) ≤ n → (j : ℕ) (u : Parking) → get_elem? threads j ≡ some u → AreWithin x.word n u.stored
      stays n le j u e = within_more x.word (suc (sum (calls x) threads)) n u.stored le (r.stored j u e)

      -- nobody is left there
      pub none_left : sum (calls x) now ≡ sum (calls x) threads → AreWithin x.word (suc (sum (calls x) threads)) w.stored → (IsLeft x next now → ⊥)
          → IsServed x next now
      none_left same own never = record {
        counted = counts;
        taken = pays;
        stored = each_now (λ u. AreWithin x.word (suc (sum (calls x) now)) u.stored)
            (within_more x.word (suc (sum (calls x) threads)) (suc (sum (calls x) now)) w.stored (omega arith) own)
            (stays (suc (sum (calls x) now)) (omega arith));
        called = λ left. absurd (never left);
      }

      -- the kernel is called
      pub called_now : sum (calls x) now ≡ suc (sum (calls x) threads) → w.stored ≡ v.stored → IsServed x next now
      called_now more same = record {
        counted = counts;
        taken = pays;
        stored = each_now (λ u. AreWithin x.word (suc (sum (calls x) now)) u.stored)
            (subst (AreWithin x.word (suc (sum (calls x) now))) (sym same) (stays (suc (sum (calls x) now)) (omega arith) i v at))
            (stays (suc (sum (calls x) now)) (omega arith));
        called = λ left. each_now (λ u. AreWithin x.word (sum (calls x) now) u.stored)
            (subst (AreWithin x.word (sum (calls x) now)) (sym same) (stays (sum (calls x) now) (omega arith) i v at))
            (stays (sum (calls x) now) (omega arith));
      }

      -- who is left was left before
      pub left_before : sum (calls x) now ≡ sum (calls x) threads → ((n : ℕ) → AreWithin x.word n v.stored → AreWithin x.word n w.stored)
          → (IsLeft x next now → IsLeft x words threads) → IsServed x next now
      left_before same own left = record {
        counted = counts;
        taken = pays;
        stored = each_now (λ u. AreWithin x.word (suc (sum (calls x) now)) u.stored)
            (own (suc (sum (calls x) now)) (stays (suc (sum (calls x) now)) (omega arith) i v at))
            (stays (suc (sum (calls x) now)) (omega arith));
        called = λ h. each_now (λ u. AreWithin x.word (sum (calls x) now) u.stored)
            (own (sum (calls x) now) (since h i v at)) (since h);
      }
        where
          since : IsLeft x next now → (j : ℕ) (u : Parking) → get_elem? threads j ≡ some u → AreWithin x.word (sum (calls x) now) u.stored
          since h j u e = within_more x.word (sum (calls x) threads) (sum (calls x) now) u.stored (omega arith) (r.called (left h) j u e)

  -- a step elsewhere leaves the futex as it is
  pub elsewhere : IsSameAt x v w → slice_index next x.word ≡ slice_index words x.word → slice_index next x.sleepers ≡ slice_index words x.sleepers
      → IsServedYet x words threads → IsServedYet x next now
  elsewhere same word sleepers served none =
      let r = served (sym (as_before (overflowed x) same.overflowed) ∙ none) in
      left_before r (sleepers ∙ r.counted ∙ sym (as_before (counted x) same.counted)) (pays_still r same.passed same.paid)
      (as_before (calls x) same.calls) same.stored (left_was word (let a = same.asleep in omega arith) same.owing same.passed same.paid)

-- words have changed, and no thread has
module _ (x : Futex) (words next : List ℕ) (threads : List Parking) (sleepers : slice_index next x.sleepers ≡ slice_index words x.sleepers)
    (yet : IsServedYet x words threads) where
  pub word_same : slice_index next x.word ≡ slice_index words x.word → IsServedYet x next threads
  word_same word none = let r = yet none in record {
    counted = sleepers ∙ r.counted;
    taken = r.taken;
    stored = r.stored;
    called = λ left. r.called (record { asleep = left.asleep; goes = subst (lets_go x.is_lock) word left.goes; unowed = left.unowed; taken = left.taken });
  }

  pub word_held : (lets_go x.is_lock (slice_index next x.word) → ⊥) → IsServedYet x next threads
  word_held held none = let r = yet none in record {
    counted = sleepers ∙ r.counted;
    taken = r.taken;
    stored = r.stored;
    called = λ left. absurd (held left.goes);
  }

-- a thread more, that has done nothing
pub one_more : (x : Futex) (words : List ℕ) (threads : List Parking) → IsServedYet x words threads → IsServedYet x words (threads ++ fresh_parking ∷ [])
one_more x words threads yet none = record {
  counted = r.counted ∙ sym (same (counted x) refl);
  taken = let p = same (passed x) refl in let q = same (paid x) refl in let t = r.taken in omega arith;
  stored = λ j u e. ⊎_elim
      (λ was. within_more x.word (suc (sum (calls x) threads)) (suc (sum (calls x) more)) u.stored (let c = same (calls x) refl in omega arith) (r.stored j u was))
      (λ new. subst (λ (v : Parking). AreWithin x.word (suc (sum (calls x) more)) v.stored) new tt) (at_snoc threads fresh_parking u j e);
  called = λ left j u e. ⊎_elim
      (λ was. within_more x.word (sum (calls x) threads) (sum (calls x) more) u.stored (let c = same (calls x) refl in omega arith) (r.called (before left) j u was))
      (λ new. subst (λ (v : Parking). AreWithin x.word (sum (calls x) more) v.stored) new tt) (at_snoc threads fresh_parking u j e);
}
  where
    more : List Parking
    more = threads ++ fresh_parking ∷ []

    same : (f : Parking → ℕ) → f fresh_parking ≡ 0 → sum f more ≡ sum f threads
    same f nothing = let s = sum_snoc f threads fresh_parking in omega arith

    r : IsServed x words threads
    r = yet (sym (same (overflowed x) refl) ∙ none)

    before : IsLeft x words more → IsLeft x words threads
    before left = record {
      asleep = subst (λ (n : ℕ). 0 < n) (same (asleep x) refl) left.asleep;
      goes = left.goes;
      unowed = sym (same (owing x) refl) ∙ left.unowed;
      taken = let p = same (passed x) refl in let q = same (paid x) refl in let t = left.taken in omega arith;
    }

over_both : (f : Stage → ℕ) (ps qs : List Stage) → over f (ps ++ qs) ≡ over f ps + over f qs
over_both f [] qs = omega arith
over_both f (p ∷ ps) qs = let r = over_both f ps qs in omega arith

among_both : (n : ℕ) (a b : List ℕ) → among n (a ++ b) ≡ among n a + among n b
among_both n [] b = omega arith
among_both n (x ∷ a) b = let r = among_both n a b in omega arith

amount_both : (n : ℕ) (a b : List Mark) → amount n (a ++ b) ≡ amount n a + amount n b
amount_both n [] b = omega arith
amount_both n (x ∷ a) b = let r = amount_both n a b in omega arith

-- what two threads have done one did
module _ (x : Futex) (words : List ℕ) (threads : List Parking) (i j : ℕ) (v w : Parking) (first : get_elem? threads i ≡ some v)
    (apart : j ≢ i) (second : get_elem? (set threads i (joined v w)) j ≡ some w) (yet : IsServedYet x words threads) where
  abbrev pub in_one : List Parking
  in_one = set (set threads i (joined v w)) j fresh_parking

  was_second : get_elem? threads j ≡ some w
  was_second = sym (set_else threads i j (joined v w) apart) ∙ second

  -- what adds up over the two adds up over the one
  adds : (f : Parking → ℕ) → f (joined v w) ≡ f v + f w → f fresh_parking ≡ 0 → sum f in_one ≡ sum f threads
  adds f both nothing = let a = sum_set f threads i v (joined v w) first in
      let c = sum_set f (set threads i (joined v w)) j w fresh_parking second in omega arith

  each_in_one : (n : ℕ) → ((l : ℕ) (u : Parking) → get_elem? threads l ≡ some u → AreWithin x.word n u.stored) → (l : ℕ) (u : Parking)
      → get_elem? in_one l ≡ some u → AreWithin x.word n u.stored
  each_in_one n all l u e = ⊎_elim
      (λ t. subst (λ (y : Parking). AreWithin x.word n y.stored) t.1 tt)
      (λ t. ⊎_elim
      (λ q. subst (λ (y : Parking). AreWithin x.word n y.stored) q.1 (within_both x.word n v.stored w.stored (all i v first) (all j w was_second)))
      (λ q. all l u q.1) (at_set threads i l (joined v w) u t.1))
      (at_set (set threads i (joined v w)) j l fresh_parking u e)

  pub joined_served : IsServedYet x words in_one
  joined_served none = record {
    counted = r.counted ∙ sym (adds (counted x) (over_both (counted_in x.sleepers) v.stages w.stages) refl);
    taken = let t = r.taken in let p = same_passed in let q = same_paid in omega arith;
    stored = each_in_one (suc (sum (calls x) in_one)) (λ l u e. within_more x.word (suc (sum (calls x) threads)) (suc (sum (calls x) in_one)) u.stored
        (let c = same_calls in omega arith) (r.stored l u e));
    called = λ left. each_in_one (sum (calls x) in_one) (λ l u e. within_more x.word (sum (calls x) threads) (sum (calls x) in_one) u.stored
        (let c = same_calls in omega arith) (r.called (before left) l u e));
  }
    where
      r : IsServed x words threads
      r = yet (sym (adds (overflowed x) (over_both (overflowed_in x.sleepers) v.stages w.stages) refl) ∙ none)

      same_calls : sum (calls x) in_one ≡ sum (calls x) threads
      same_calls = adds (calls x) (among_both x.word v.calls w.calls) refl

      same_passed : sum (passed x) in_one ≡ sum (passed x) threads
      same_passed = adds (passed x) (among_both x.word v.passed w.passed) refl

      same_paid : sum (paid x) in_one ≡ sum (paid x) threads
      same_paid = adds (paid x) (amount_both x.word v.paid w.paid) refl

      before : IsLeft x words in_one → IsLeft x words threads
      before left = record {
        asleep = subst (λ (n : ℕ). 0 < n) (adds (asleep x) (over_both (asleep_in x.sleepers) v.stages w.stages) refl) left.asleep;
        goes = left.goes;
        unowed = sym (adds (owing x) (over_both (owing_in x.word) v.stages w.stages) refl) ∙ left.unowed;
        taken = let t = left.taken in let p = same_passed in let q = same_paid in omega arith;
      }
