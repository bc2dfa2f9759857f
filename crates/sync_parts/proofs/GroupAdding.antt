-- The rows of an add, and its releases.
use Rattle.std.proofs.Common.{◌≡◌, ℕ, zero, suc, ◌+◌, ◌-◌, ◌≤◌, ◌==◌, ◌&&◌, ◌||◌, not, if◌then◌else◌, Bool, true, false}
use Rattle.std.proofs.Common.{List, [], ◌∷◌, ◌++◌, ℤ, pos, sym, refl}
use Rattle.std.proofs.Common.{ap, ◌∙◌, subst, append_assoc, inl, inr, arith, eqb-true}
use Rattle.std.specs.Prelude.{◌⊎◌, ◌<◌, Result, Ok, Err, int_lt}
use Rattle.std.specs.Ordering.{int_eq}
use Rattle.std.proofs.lemmas.Bool.Decides.{same_from_decides, Decides-int_eq}
use Rattle.std.proofs.lemmas.Int.{ints}
use Rattle.step_table.proofs.GroupBits.{same_is, same_itself}
use Rattle.step_table.specs.declared.group_word.GroupWord.{GroupWord}
use Rattle.step_table.specs.declared.misuse.Misuse.{Misuse}
use Rattle.step_table.specs.declared.misuse.Misuse.TheVariants.{Negative, AddWithWait, Reused}
use Rattle.step_table.specs.declared.standing.GroupRow.{GroupRow}
use Rattle.step_table.specs.declared.standing.GroupRow.TheVariants.{G1, G2, G3}
use Rattle.step_table.specs.declared.standing.GroupNext.{GroupNext}
use Rattle.step_table.specs.declared.standing.GroupNext.TheVariants.{Ends, Goes, Fails, Releases}
use Rattle.step_table.specs.Group.{group_row, plus, after_add, same_word}
use Rattle.sema_table.specs.declared.answers.Wake.{Wake}
use Rattle.sema_table.specs.Seats.{SeatModel}
use Rattle.sema_table.specs.Whole.{IsReleased}
use Rattle.sync_parts.specs.declared.group_view.GroupStep.{GroupStep}
use Rattle.sync_parts.specs.GroupPlays.{Me, Token, Steps, step, load_row}
use Rattle.sync_parts.specs.GroupSeats.{group_seat_of}
use Rattle.sync_parts.specs.GroupCallers.{waits_at_zero, TellsOfAdd, AddsToGroup}
use Rattle.sync_parts.specs.GroupCalls.{Walks, HasReleased, IsAdded}
use Rattle.sync_parts.proofs.GroupCalling.{adds_by}
use Rattle.sync_parts.proofs.GroupWaiting.{walks_more, walks_first}

-- a release keeps the seat's table and number, and takes one off what is left
released_table : (s t : SeatModel) (wake : Wake) → IsReleased s 0 false t wake → t.table ≡ s.table
released_table s t wake (inl x) = ap (λ (q : SeatModel). q.table) x.0.0
released_table s t wake (inr x) = ap (λ (q : SeatModel). q.table) x.2.2 ∙ ap (λ (q : SeatModel). q.table) x.1.0

released_left : (s t : SeatModel) (wake : Wake) → IsReleased s 0 false t wake → t.left ≡ s.left - 1
released_left s t wake (inl x) = ap (λ (q : SeatModel). q.left) x.0.0
released_left s t wake (inr x) = ap (λ (q : SeatModel). q.left) x.2.2 ∙ ap (λ (q : SeatModel). q.left) x.1.0

released_number : (s t : SeatModel) (wake : Wake) → IsReleased s 0 false t wake → t.number ≡ s.number
released_number s t wake (inl x) = ap (λ (q : SeatModel). q.number) x.0.0
released_number s t wake (inr x) = ap (λ (q : SeatModel). q.number) x.2.2 ∙ ap (λ (q : SeatModel). q.number) x.1.0

pub same_number : (n : ℕ) (s t : SeatModel) → HasReleased n s t → t.number ≡ s.number
same_number zero s t x = ap (λ (q : SeatModel). q.number) x
same_number (suc n) s t x = released_number x.0 t x.2.0 x.2.1 ∙ same_number n s x.0 x.1

pub same_table : (n : ℕ) (s t : SeatModel) → HasReleased n s t → t.table ≡ s.table
same_table zero s t x = ap (λ (q : SeatModel). q.table) x
same_table (suc n) s t x = released_table x.0 t x.2.0 x.2.1 ∙ same_table n s x.0 x.1

pub less_left : (n : ℕ) (s t : SeatModel) → n ≤ s.left → HasReleased n s t → t.left + n ≡ s.left
less_left zero s t few x = let e = ap (λ (q : SeatModel). q.left) x in omega arith
less_left (suc n) s t few x = let e = released_left x.0 t x.2.0 x.2.1 in let h = less_left n s x.0 (omega arith) x.1 in omega arith

-- what an add leads to, by its tests
abbrev leads_by : GroupWord → Bool → Bool → Bool → Bool → GroupNext
leads_by w neg beside positive nobody =
    if neg then Fails Negative else if beside then Fails AddWithWait else if positive || nobody then Ends else Goes (G2 w)

ends_by : (w : GroupWord) (neg beside positive nobody at_0 : Bool) (waits : ℕ) → (nobody ≡ true → waits ≡ 0)
    → (positive ≡ true → at_0 ≡ false)
    → leads_by w neg beside positive nobody ≡ Ends → ◌≡◌ {A = ℕ} (if at_0 then waits else 0) 0
ends_by w true beside positive nobody at_0 waits none_is not_zero e = absurd (cc)
ends_by w false true positive nobody at_0 waits none_is not_zero e = absurd (cc)
ends_by w false false true nobody at_0 waits none_is not_zero e = ap (λ (z : Bool). if z then waits else 0) (not_zero refl)
ends_by w false false false true true waits none_is not_zero e = none_is refl
ends_by w false false false true false waits none_is not_zero e = refl
ends_by w false false false false at_0 waits none_is not_zero e = absurd (cc)

goes_by : (w : GroupWord) (neg beside positive nobody : Bool) → leads_by w neg beside positive nobody ≡ Goes (G2 w)
    → (neg ≡ false) × (positive ≡ false) × (nobody ≡ false)
goes_by w true beside positive nobody e = absurd (cc)
goes_by w false true positive nobody e = absurd (cc)
goes_by w false false true nobody e = absurd (cc)
goes_by w false false false true e = absurd (cc)
goes_by w false false false false e = (refl, refl, refl)

not_below : (w : GroupWord) (neg beside positive nobody : Bool) → leads_by w neg beside positive nobody ≡ Ends → neg ≡ false
not_below w true beside positive nobody e = absurd (cc)
not_below w false beside positive nobody e = refl

fails_by : (w : GroupWord) (neg beside positive nobody : Bool) (misuse : Misuse)
    → leads_by w neg beside positive nobody ≡ Fails misuse
    → ((misuse ≡ Negative) × (neg ≡ true)) ⊎ ((misuse ≡ AddWithWait) × (beside ≡ true))
fails_by w true beside positive nobody misuse e = let is : misuse ≡ Negative = cc in inl (is, refl)
fails_by w false true positive nobody misuse e = let is : misuse ≡ AddWithWait = cc in inr (is, refl)
fails_by w false false true nobody misuse e = absurd (cc)
fails_by w false false false true misuse e = absurd (cc)
fails_by w false false false false misuse e = absurd (cc)

-- a counter above 0 isn't 0, and one neither below nor above is
above_zero : (c : ℤ) → int_lt (pos 0) c ≡ true → int_eq c (pos 0) ≡ false
above_zero c e = by (int_eq c (pos 0)) refl
  where
    by : (b : Bool) → int_eq c (pos 0) ≡ b → b ≡ false
    by true q = let is : c ≡ pos 0 = (Decides-int_eq c (pos 0)).0 q in absurd (omega (arith, ints))
    by false q = refl

at_zero : (c : ℤ) → int_lt c (pos 0) ≡ false → int_lt (pos 0) c ≡ false → int_eq c (pos 0) ≡ true
at_zero c e h = (Decides-int_eq c (pos 0)).1 (neither c (pos 0) e h)
  where
    neither : (x y : ℤ) → int_lt x y ≡ false → int_lt y x ≡ false → x ≡ y
    neither x y p q = omega (arith, ints)

-- whichever of two words comes first
flipped : (a b : GroupWord) → same_word a b ≡ same_word b a
flipped a b = same_from_decides (same_word a b) (same_word b a) ((same_is a b), (same_itself a b))
    ((λ e. sym (same_is b a e)), (λ e. same_itself b a (sym e)))

not_true : (b : Bool) → not b ≡ true → b ≡ false
not_true true e = absurd (cc)
not_true false e = refl

not_false : (b : Bool) → not b ≡ false → b ≡ true
not_false true e = refl
not_false false e = absurd (cc)

-- what an add answers, by what it led to
both_true : (a b : Bool) → (a && b) ≡ true → (a ≡ true) × (b ≡ true)
both_true true b e = (refl, e)
both_true false b e = absurd (cc)

some_wait : (n : ℕ) → (n == 0) ≡ false → 0 < n
some_wait zero e = absurd (cc)
some_wait (suc n) e = omega arith

module _ (d : ℤ) (left : GroupWord) where
  abbrev neg : Bool
  neg = int_lt left.counter (pos 0)

  abbrev beside : Bool
  beside = not (left.waits == 0) && int_lt (pos 0) d && int_eq left.counter d

  tells_by : (misuse : Misuse) → ((misuse ≡ Negative) × (neg ≡ true)) ⊎ ((misuse ≡ AddWithWait) × (beside ≡ true))
      → TellsOfAdd d left (Err misuse)
  tells_by Negative (inl (is, below)) = below
  tells_by Negative (inr (is, _)) = absurd (cc)
  tells_by AddWithWait (inl (is, _)) = absurd (cc)
  tells_by AddWithWait (inr (_, all)) =
      let one = both_true (not (left.waits == 0) && int_lt (pos 0) d) (int_eq left.counter d) all in
      let two = both_true (not (left.waits == 0)) (int_lt (pos 0) d) one.0 in
      (some_wait left.waits (not_true (left.waits == 0) two.0), inl (two.1, (Decides-int_eq left.counter d).0 one.1))
  tells_by Reused (inl (is, _)) = absurd (cc)
  tells_by Reused (inr (is, _)) = absurd (cc)

  tells_fails : (misuse : Misuse) → after_add d left ≡ Fails misuse → TellsOfAdd d left (Err misuse)
  tells_fails misuse leads = tells_by misuse (fails_by left neg beside (int_lt (pos 0) left.counter) (left.waits == 0) misuse leads)

  tells_ends : after_add d left ≡ Ends → neg ≡ false
  tells_ends leads = not_below left neg beside (int_lt (pos 0) left.counter) (left.waits == 0) leads

  tells_goes : after_add d left ≡ Goes (G2 left) → neg ≡ false
  tells_goes leads = (goes_by left neg beside (int_lt (pos 0) left.counter) (left.waits == 0) leads).0

  tells_beside : after_add d left ≡ Goes (G2 left) → TellsOfAdd d left (Err AddWithWait)
  tells_beside leads =
      let n = goes_by left neg beside (int_lt (pos 0) left.counter) (left.waits == 0) leads in
      (some_wait left.waits n.2, inr ((Decides-int_eq left.counter (pos 0)).0 (at_zero left.counter n.0 n.1)))

pub is_other : (a b : GroupWord) → not (same_word b a) ≡ true → same_word a b ≡ false
is_other a b e = flipped a b ∙ not_true (same_word b a) e

pub is_same : (a b : GroupWord) → not (same_word b a) ≡ false → same_word a b ≡ true
is_same a b e = flipped a b ∙ not_false (same_word b a) e

-- an add whose first row found this word
module _ (s t : Token) (a : SeatModel) (d : ℤ) (found left : GroupWord) (left_is : left ≡ plus found d) (y : Steps s (G1 d) found t) where
  abbrev first : List GroupStep
  first = step (G1 d) found ∷ []

  first_path : (next : GroupNext) → after_add d left ≡ next → Walks a.number (G1 d) first next
  first_path next leads = subst (λ (k : GroupNext). Walks a.number (G1 d) first k) (ap (after_add d) (sym left_is) ∙ leads)
      (walks_first a.number (G1 d) found y.word)

  pub next_first : (next : GroupNext) → after_add d left ≡ next → t.me.0.own.knows.next ≡ next
  next_first next leads = ap (λ (m : Me). m.0.own.knows.next) y.me_is ∙ ap (after_add d) (sym left_is) ∙ leads

  -- its rows, and what they are to its caller
  abbrev Added : Token → SeatModel → Result ℕ Misuse → Type 0
  Added u b answer = IsAdded (group_seat_of s a) d (group_seat_of u b) answer × AddsToGroup (group_seat_of s a) d (group_seat_of u b) answer

  with_caller : (u : Token) (b : SeatModel) (answer : Result ℕ Misuse) (is : IsAdded (group_seat_of s a) d (group_seat_of u b) answer)
      → is.found ≡ found → TellsOfAdd d left answer → Added u b answer
  with_caller u b answer is same tells = (
    is,
    adds_by (group_seat_of s a) (group_seat_of u b) d answer is
        (subst (λ (w : GroupWord). TellsOfAdd d w answer) (left_is ∙ ap (λ (w : GroupWord). plus w d) (sym same)) tells),
  )

  rows_fail : (misuse : Misuse) → after_add d left ≡ Fails misuse → IsAdded (group_seat_of s a) d (group_seat_of t a) (Err misuse)
  rows_fail misuse leads = record {
    found = found;
    after = [];
    next = Fails misuse;
    ran = record { group = λ i. record { word = y.table_is i; sema = a.table }; steps_are = ap (λ (m : Me). m.0.own.gone) y.me_is };
    path = first_path (Fails misuse) leads;
    answers = (refl, refl);
    made = tt;
  }

  pub added_fails : (misuse : Misuse) → after_add d left ≡ Fails misuse → Added t a (Err misuse)
  unfolding rows_fail
  added_fails misuse leads = with_caller t a (Err misuse) (rows_fail misuse leads) refl (tells_fails d left misuse leads)

  -- where the counter isn't 0, or nobody waits, there is nobody to wake
  none_wait : after_add d left ≡ Ends → waits_at_zero left ≡ 0
  none_wait leads =
      ends_by left (int_lt left.counter (pos 0)) (not (left.waits == 0) && int_lt (pos 0) d && int_eq left.counter d)
      (int_lt (pos 0) left.counter) (left.waits == 0)
      (int_eq left.counter (pos 0)) left.waits (eqb-true left.waits 0) (above_zero left.counter) leads

  rows_end : after_add d left ≡ Ends → IsAdded (group_seat_of s a) d (group_seat_of t a) (Ok 0)
  rows_end leads = record {
    found = found;
    after = [];
    next = Ends;
    ran = record { group = λ i. record { word = y.table_is i; sema = a.table }; steps_are = ap (λ (m : Me). m.0.own.gone) y.me_is };
    path = first_path Ends leads;
    answers = (refl, refl);
    made = (sym (none_wait leads) ∙ ap waits_at_zero left_is, omega arith);
  }

  pub added_ends : after_add d left ≡ Ends → Added t a (Ok 0)
  unfolding rows_end
  added_ends leads = with_caller t a (Ok 0) (rows_end leads) refl (tells_ends d left leads, sym (none_wait leads))

  -- it looked again
  module _ (leads : after_add d left ≡ Goes (G2 left)) (u : Token) (seen : GroupWord) (z : Steps t (load_row t.me.0.own.knows.next) seen u) where
    again : Steps t (G2 left) seen u
    again = subst (λ (row : GroupRow). Steps t row seen u) (ap load_row (next_first (Goes (G2 left)) leads)) z

    both_path : (next : GroupNext) → (group_row (G2 left) seen).1 ≡ next → Walks a.number (G1 d) (first ++ step (G2 left) seen ∷ []) next
    both_path next on = subst (λ (k : GroupNext). Walks a.number (G1 d) (first ++ step (G2 left) seen ∷ []) k) on
        (walks_more a.number (G1 d) first (G2 left) seen again.word (first_path (Goes (G2 left)) leads))

    both_steps : u.me.0.own.gone ≡ s.me.0.own.gone ++ (first ++ step (G2 left) seen ∷ [])
    both_steps = ap (λ (m : Me). m.0.own.gone) again.me_is ∙ ap (λ (m : Me). m.0.own.gone ++ step (G2 left) seen ∷ []) y.me_is
        ∙ append_assoc s.me.0.own.gone first (step (G2 left) seen ∷ [])

    rows_beside : same_word left seen ≡ false → IsAdded (group_seat_of s a) d (group_seat_of u a) (Err AddWithWait)
    rows_beside other = let on = ap (λ (c : Bool). if c then Goes (G3 left) else Fails AddWithWait) other in record {
      found = found;
      after = step (G2 left) seen ∷ [];
      next = Fails AddWithWait;
      ran = record { group = λ i. record { word = (again.table_is ∙ y.table_is) i; sema = a.table }; steps_are = both_steps };
      path = both_path (Fails AddWithWait) on;
      answers = (refl, refl);
      made = tt;
    }

    pub added_beside : same_word left seen ≡ false → Added u a (Err AddWithWait)
    unfolding rows_beside
    added_beside other = with_caller u a (Err AddWithWait) (rows_beside other) refl (tells_beside d left leads)

    module _ (same : same_word left seen ≡ true) where
      on_same : (group_row (G2 left) seen).1 ≡ Goes (G3 left)
      on_same = ap (λ (c : Bool). if c then Goes (G3 left) else Fails AddWithWait) same

      module _ (v : Token) (was : GroupWord) (e : Steps u (G3 left) was v) where
        pub emptied : v.me.0.own.knows.next ≡ Releases left.waits
        emptied = ap (λ (m : Me). m.0.own.knows.next) e.me_is

        all_wait : left.waits ≡ waits_at_zero left
        all_wait = let n = goes_by left (int_lt left.counter (pos 0))
            (not (left.waits == 0) && int_lt (pos 0) d && int_eq left.counter d) (int_lt (pos 0) left.counter) (left.waits == 0) leads in
            ap (λ (b : Bool). if b then left.waits else 0) (sym (at_zero left.counter n.0 n.1))

        rows_all : (b : SeatModel) → left.waits ≤ a.left → HasReleased left.waits a b
            → IsAdded (group_seat_of s a) d (group_seat_of v b) (Ok left.waits)
        rows_all b few released = record {
          found = found;
          after = step (G2 left) seen ∷ step (G3 left) was ∷ [];
          next = Releases left.waits;
          ran = record {
            group = λ i. record { word = (e.table_is ∙ again.table_is ∙ y.table_is) i; sema = same_table left.waits a b released i };
            steps_are = ap (λ (m : Me). m.0.own.gone) e.me_is ∙ ap (λ (l : List GroupStep). l ++ step (G3 left) was ∷ []) both_steps
                ∙ append_assoc s.me.0.own.gone (first ++ step (G2 left) seen ∷ []) (step (G3 left) was ∷ []);
          };
          path = walks_more a.number (G1 d) (first ++ step (G2 left) seen ∷ []) (G3 left) was e.word (both_path (Goes (G3 left)) on_same);
          answers = (refl, released);
          made = (all_wait ∙ ap waits_at_zero left_is, less_left left.waits a b few released);
        }

        pub added_all : (b : SeatModel) → left.waits ≤ a.left → HasReleased left.waits a b → Added v b (Ok left.waits)
        unfolding rows_all
        added_all b few released = with_caller v b (Ok left.waits) (rows_all b few released) refl
            (tells_goes d left leads, all_wait)
