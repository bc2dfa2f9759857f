-- The rows of a wait.
use Rattle.std.proofs.Common.{◌≡◌, ◌≢◌, ℕ, if◌then◌else◌, Bool, true, false, List, [], ◌∷◌, ◌++◌, map, ℤ, pos, sym, refl, ap}
use Rattle.std.proofs.Common.{◌∙◌, subst, append-nil}
use Rattle.std.proofs.Common.{append_assoc, inl, inr}
use Rattle.std.proofs.lemmas.List.{map-append}
use Rattle.std.specs.Prelude.{FitsSigned}
use Rattle.std.specs.Int.{w32, cast_signed, cast_unsigned}
use Rattle.std.specs.Ordering.{int_eq}
use Rattle.std.proofs.lemmas.Int.{to_z-of_z}
use Rattle.std.proofs.lemmas.Bool.Decides.{Decides-int_eq}
use Rattle.step_table.specs.declared.group_word.GroupWord.{GroupWord}
use Rattle.step_table.specs.declared.standing.GroupRow.{GroupRow}
use Rattle.step_table.specs.declared.standing.GroupRow.TheVariants.{V1, V2, V3}
use Rattle.step_table.specs.declared.standing.GroupNext.{GroupNext}
use Rattle.step_table.specs.declared.standing.GroupNext.TheVariants.{Ends, Goes, Fails, Acquires, Releases, SleepsOn, Withdraws}
use Rattle.step_table.specs.declared.standing.Ending.TheVariants.{NextCall}
use Rattle.step_table.specs.Group.{empty_word, group_row, same_word}
use Rattle.step_table.specs.declared.misuse.Misuse.TheVariants.{Reused}
use Rattle.step_table.proofs.GroupBits.{same_is, same_itself}
use Rattle.sema_table.specs.Seats.{SeatModel}
use Rattle.sema_table.specs.Whole.{IsAcquired}
use Rattle.step_table.specs.GroupBits.{IsGroupWord}
use Rattle.step_table.specs.GroupPath.{GroupPath, GroupRan, GroupStride, going, ran_row}
use Rattle.step_table.proofs.GroupPaths.{the_group_paths}
use Rattle.sync_parts.specs.declared.group_view.GroupStep.{GroupStep}
use Rattle.sync_parts.specs.GroupRule.{Follows, stride_of}
use Rattle.sync_parts.specs.GroupPlays.{Me, Token, Steps, step, load_row}
use Rattle.sync_parts.specs.GroupSeats.{is_free, group_seat_of}
use Rattle.sync_parts.specs.GroupCalls.{Walks, IsUncounted, IsCounted}
use Rattle.sync_parts.specs.GroupWalks.{Walked, GetsCounted, FindsZero}

-- one row more
pub walks_more : (number : ℕ) (first : GroupRow) (steps : List GroupStep) (row : GroupRow) (word : GroupWord) → IsGroupWord word
    → Walks number first steps (Goes row) → Walks number first (steps ++ step row word ∷ []) (group_row row word).1
walks_more number first steps row word is path =
    subst (λ (l : List GroupStride). GroupPath number (going (Goes first)) l (going (group_row row word).1))
    (sym (map-append stride_of steps (step row word ∷ [])))
    (the_group_paths.paths.more number (going (Goes first)) (going (Goes row)) (going (group_row row word).1) (map stride_of steps)
    (ran_row row word)
    path (the_group_paths.rows number row word is))

-- a first row
pub walks_first : (number : ℕ) (row : GroupRow) (word : GroupWord) → IsGroupWord word
    → Walks number row (step row word ∷ []) (group_row row word).1
walks_first number row word is = walks_more number row [] row word is refl

-- no call is under way: a wait begins by its first look
pub free_look : (next : GroupNext) → is_free next ≡ true → (load_row next ≡ V1 NextCall) × Follows next (load_row next)
free_look Ends e = (refl, tt)
free_look (Goes row) e = absurd (cc)
free_look (Fails misuse) e = (refl, tt)
free_look (Acquires ending) e = absurd (cc)
free_look (Releases n) e = (refl, tt)
free_look (SleepsOn how) e = absurd (cc)
free_look (Withdraws how) e = (refl, tt)

-- these rows ran from the first on, and the seat goes to another
pub record HasCome (s : Token) (first : GroupRow) (steps : List GroupStep) (row : GroupRow) (t : Token) : Type 0 where
  pub table_is : t.table_id ≡ s.table_id
  pub number_is : t.me.0.own.number ≡ s.me.0.own.number
  pub seats_is : t.me.0.own.knows.seats ≡ s.me.0.own.knows.seats
  pub steps_are : t.me.0.own.gone ≡ s.me.0.own.gone ++ steps
  pub path : (number : ℕ) → Walks number first steps (Goes row)

pub begins_at : (s : Token) (row : GroupRow) → HasCome s row [] row s
begins_at s row = record {
  table_is = refl;
  number_is = refl;
  seats_is = refl;
  steps_are = sym (append-nil s.me.0.own.gone);
  path = λ number. refl;
}

pub come_by : {s t : Token} {first row : GroupRow} {steps : List GroupStep} → Walked s first steps (Goes row) t → HasCome s first steps row t
come_by x = record { table_is = x.table_is; number_is = x.number_is; seats_is = x.seats_is; steps_are = x.steps_are; path = x.path }

-- and runs it
pub runs_on : (s t u : Token) (first row : GroupRow) (steps : List GroupStep) → HasCome s first steps row t → (found : GroupWord)
    → Steps t row found u → (next : GroupNext) → (group_row row found).1 ≡ next → Walked s first (steps ++ step row found ∷ []) next u
runs_on s t u first row steps x found y next leads = record {
  table_is = y.table_is ∙ x.table_is;
  number_is = ap (λ (m : Me). m.0.own.number) y.me_is ∙ x.number_is;
  seats_is = ap (λ (m : Me). m.0.own.knows.seats) y.me_is ∙ x.seats_is;
  steps_are = ap (λ (m : Me). m.0.own.gone) y.me_is ∙ ap (λ (l : List GroupStep). l ++ step row found ∷ []) x.steps_are
      ∙ append_assoc s.me.0.own.gone steps (step row found ∷ []);
  next_is = ap (λ (m : Me). m.0.own.knows.next) y.me_is ∙ leads;
  path = λ number. subst (λ (k : GroupNext). Walks number first (steps ++ step row found ∷ []) k) leads
      (walks_more number first steps row found y.word (x.path number));
}

-- a wait is to look, after exchanges that were lost
pub record LooksOn (s : Token) (first : GroupRow) (t : Token) : Type 0 where
  pub before : List GroupStep
  pub come : HasCome s first before (V1 NextCall) t
  pub look : load_row t.me.0.own.knows.next ≡ V1 NextCall

-- a wait has found this word, and is to be counted in it
abbrev pub IsToCount : Token → GroupRow → GroupWord → Token → Type 0
IsToCount s first word t = (steps : List GroupStep) × Walked s first steps (Goes (V2 NextCall word)) t

-- what the first look leads to, and what lost exchanges do
leads_zero : (word : GroupWord) → word.counter ≡ pos 0 → (group_row (V1 NextCall) word).1 ≡ Ends
leads_zero word zero = ap (λ (b : Bool). if b then Ends else Goes (V2 NextCall word)) ((Decides-int_eq word.counter (pos 0)).1 zero)

leads_on : (word : GroupWord) → word.counter ≢ pos 0 → (group_row (V1 NextCall) word).1 ≡ Goes (V2 NextCall word)
leads_on word some = by (int_eq word.counter (pos 0)) refl
  where
    by : (b : Bool) → int_eq word.counter (pos 0) ≡ b → (if b then Ends else Goes (V2 NextCall word)) ≡ Goes (V2 NextCall word)
    by true e = absurd (some ((Decides-int_eq word.counter (pos 0)).0 e))
    by false e = refl

-- a further look
module _ (s : Token) (first : GroupRow) (t u : Token) (x : LooksOn s first t) (word : GroupWord) (y : Steps t (load_row t.me.0.own.knows.next) word u) where
  looked : Steps t (V1 NextCall) word u
  looked = subst (λ (row : GroupRow). Steps t row word u) x.look y

  looks : (next : GroupNext) → (group_row (V1 NextCall) word).1 ≡ next → Walked s first (x.before ++ step (V1 NextCall) word ∷ []) next u
  looks = runs_on s t u first (V1 NextCall) x.before x.come word looked

  pub finds_zero : word.counter ≡ pos 0 → FindsZero s first u
  finds_zero zero = (x.before, word, zero, looks Ends (leads_zero word zero))

  pub counts : word.counter ≢ pos 0 → IsToCount s first word u
  counts some = (x.before ++ step (V1 NextCall) word ∷ [], looks (Goes (V2 NextCall word)) (leads_on word some))

-- an exchange
module _ (s : Token) (first : GroupRow) (word : GroupWord) (t u : Token) (x : IsToCount s first word t) (found : GroupWord)
    (y : Steps t (V2 NextCall word) found u) where
  tried : (next : GroupNext) → (group_row (V2 NextCall word) found).1 ≡ next → Walked s first (x.0 ++ step (V2 NextCall word) found ∷ []) next u
  tried = runs_on s t u first (V2 NextCall word) x.0 (come_by x.1) found y

  pub gets_counted : same_word word found ≡ true → GetsCounted s first u
  gets_counted won = (x.0 ++ step (V2 NextCall word) found ∷ [], tried (Acquires NextCall) (ap (λ (b : Bool). if b then Acquires NextCall else Goes (V1 NextCall)) won))

  pub lost : same_word word found ≡ false → Walked s first (x.0 ++ step (V2 NextCall word) found ∷ []) (Goes (V1 NextCall)) u
  lost e = tried (Goes (V1 NextCall)) (ap (λ (b : Bool). if b then Acquires NextCall else Goes (V1 NextCall)) e)

  pub looks_again : same_word word found ≡ false → LooksOn s first u
  looks_again e = record {
    before = x.0 ++ step (V2 NextCall word) found ∷ [];
    come = come_by (lost e);
    look = ap load_row (lost e).next_is;
  }

-- the first look, by which a wait is to be counted, and what followed
module _ (s t : Token) (word : GroupWord) (some : word.counter ≢ pos 0) (y : Steps s (V1 NextCall) word t) where
  begun : (steps : List GroupStep) (next : GroupNext) (u : Token) → Walked t (V2 NextCall word) steps next u
      → Walked s (V1 NextCall) (step (V1 NextCall) word ∷ steps) next u
  begun steps next u x = record {
    table_is = x.table_is ∙ y.table_is;
    number_is = x.number_is ∙ ap (λ (m : Me). m.0.own.number) y.me_is;
    seats_is = x.seats_is ∙ ap (λ (m : Me). m.0.own.knows.seats) y.me_is;
    steps_are = x.steps_are ∙ ap (λ (m : Me). m.0.own.gone ++ steps) y.me_is ∙ append_assoc s.me.0.own.gone (step (V1 NextCall) word ∷ []) steps;
    next_is = x.next_is;
    path = λ number. (
      going (Goes (V2 NextCall word)),
      subst (λ (k : GroupNext). GroupRan number (going (Goes (V1 NextCall))) (ran_row (V1 NextCall) word) (going k)) (leads_on word some)
          (the_group_paths.rows number (V1 NextCall) word y.word),
      x.path number,
    );
  }

  pub then_counted : (u : Token) → GetsCounted t (V2 NextCall word) u → GetsCounted s (V1 NextCall) u
  then_counted u x = (step (V1 NextCall) word ∷ x.0, begun x.0 (Acquires NextCall) u x.1)

  pub then_zero : (u : Token) → FindsZero t (V2 NextCall word) u → FindsZero s (V1 NextCall) u
  then_zero u x = (step (V1 NextCall) word ∷ x.0, x.1, x.2, begun (x.0 ++ step (V1 NextCall) x.1 ∷ []) Ends u x.3)

-- a wait that found 0 at once
pub zero_at_once : (s : Token) → is_free s.me.0.own.knows.next ≡ true → (word : GroupWord) → word.counter ≡ pos 0 → (t : Token)
    → Steps s (load_row s.me.0.own.knows.next) word t → FindsZero s (V1 NextCall) t
zero_at_once s free word zero t y = finds_zero s (V1 NextCall) s t
    record { before = []; come = begins_at s (V1 NextCall); look = (free_look s.me.0.own.knows.next free).0 } word y zero

pub first_look : (s : Token) → is_free s.me.0.own.knows.next ≡ true → (word : GroupWord) → (t : Token)
    → Steps s (load_row s.me.0.own.knows.next) word t → Steps s (V1 NextCall) word t
first_look s free word t y = subst (λ (row : GroupRow). Steps s row word t) (free_look s.me.0.own.knows.next free).0 y

-- a wait that found 0 was never counted
pub uncounted : (s t : Token) (a : SeatModel) → FindsZero s (V1 NextCall) t → IsUncounted (group_seat_of s a) (group_seat_of t a)
uncounted s t a x = record {
  before = x.0;
  word = x.1;
  zero = x.2;
  ran = record { group = λ i. record { word = x.3.table_is i; sema = a.table }; steps_are = x.3.steps_are };
  path = x.3.path a.number;
  alone = refl;
}

-- a counter whose bits are 0 is 0
pub zero_is : (z : ℤ) → FitsSigned w32 z → cast_unsigned w32 z ≡ 0 → z ≡ pos 0
zero_is z fits e = sym (to_z-of_z w32 z fits) ∙ ap (cast_signed w32) e

-- an acquire keeps the seat's table and number
same_table : (a b : SeatModel) → IsAcquired a 0 false b → b.table ≡ a.table
same_table a b (inl x) = ap (λ (q : SeatModel). q.table) x.0
same_table a b (inr x) = ap (λ (q : SeatModel). q.table) x.2.0 ∙ ap (λ (q : SeatModel). q.table) x.1.0

pub acquired_number : (a b : SeatModel) → IsAcquired a 0 false b → b.number ≡ a.number
acquired_number a b (inl x) = ap (λ (q : SeatModel). q.number) x.0
acquired_number a b (inr x) = ap (λ (q : SeatModel). q.number) x.2.0 ∙ ap (λ (q : SeatModel). q.number) x.1.0

-- a wait that was counted, acquired, and looked again
module _ (s u v : Token) (a b : SeatModel) (counted : GetsCounted s (V1 NextCall) u) (acquired : IsAcquired a 0 false b) (word : GroupWord)
    (y : Steps u (load_row u.me.0.own.knows.next) word v) where
  again : Steps u (V3 NextCall) word v
  again = subst (λ (row : GroupRow). Steps u row word v) (ap load_row counted.1.next_is) y

  is_counted : (next : GroupNext) → (group_row (V3 NextCall) word).1 ≡ next → IsCounted (group_seat_of s a) word next (group_seat_of v b)
  is_counted next leads = let w = counted.1 in record {
    before = counted.0;
    ran = record {
      group = λ i. record { word = (again.table_is ∙ w.table_is) i; sema = same_table a b acquired i };
      steps_are = ap (λ (m : Me). m.0.own.gone) again.me_is ∙ ap (λ (l : List GroupStep). l ++ step (V3 NextCall) word ∷ []) w.steps_are
          ∙ append_assoc s.me.0.own.gone counted.0 (step (V3 NextCall) word ∷ []);
    };
    path = w.path a.number;
    acquired = acquired;
    looked = subst (λ (k : GroupNext). Walks a.number (V3 NextCall) (step (V3 NextCall) word ∷ []) k) leads (walks_first a.number (V3 NextCall) word again.word);
  }

  pub waited : same_word word empty_word ≡ true → IsCounted (group_seat_of s a) empty_word Ends (group_seat_of v b)
  waited e = subst (λ (w : GroupWord). IsCounted (group_seat_of s a) w Ends (group_seat_of v b)) (same_is word empty_word e)
      (is_counted Ends (ap (λ (c : Bool). if c then Ends else Fails Reused) e))

  pub reused : same_word word empty_word ≡ false
      → (word ≢ empty_word) × IsCounted (group_seat_of s a) word (Fails Reused) (group_seat_of v b)
  reused e = (
    (λ q. let yes = same_itself word empty_word q in absurd (cc)),
    is_counted (Fails Reused)
        (ap (λ (c : Bool). if c then Ends else Fails Reused) e),
  )

-- a wait that was counted is over after its last look
pub free_after : (s : Token) (row : GroupRow) (u v : Token) (word : GroupWord) → GetsCounted s row u → Steps u (load_row u.me.0.own.knows.next) word v
    → is_free v.me.0.own.knows.next ≡ true
free_after s row u v word counted y = ap (λ (m : Me). is_free m.0.own.knows.next) y.me_is
    ∙ ap (λ (next : GroupNext). is_free (group_row (load_row next) word).1) counted.1.next_is ∙ by (same_word word empty_word)
  where
    by : (b : Bool) → is_free (if b then Ends else Fails Reused) ≡ true
    by true = refl
    by false = refl
