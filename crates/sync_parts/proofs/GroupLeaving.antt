-- The rows of a wait with a time-out, once it was counted.
use Rattle.std.proofs.Common.{◌≡◌, ◌≢◌, ◌⊎◌, ℕ, ◌<◌, ◌==◌, ◌||◌, if◌then◌else◌, Bool, true, false, List, [], ◌∷◌, ◌++◌, pos}
use Rattle.std.proofs.Common.{sym, refl, ap, ◌∙◌, subst, inl, inr, append_assoc, append-nil, eq-eqb, ne_eqb}
use Rattle.std.specs.Prelude.{Result, Ok, Err}
use Rattle.std.specs.Ordering.{int_eq}
use Rattle.std.proofs.lemmas.Bool.Decides.{Decides-int_eq}
use Rattle.step_table.specs.declared.entry.Entry.{Entry}
use Rattle.step_table.specs.declared.group_word.GroupWord.{GroupWord}
use Rattle.step_table.specs.declared.misuse.Misuse.{Misuse}
use Rattle.step_table.specs.declared.misuse.Misuse.TheVariants.{Reused}
use Rattle.step_table.specs.declared.standing.GroupRow.{GroupRow}
use Rattle.step_table.specs.declared.standing.GroupRow.TheVariants.{V1, V2, V3, V4, V5}
use Rattle.step_table.specs.declared.standing.GroupNext.{GroupNext}
use Rattle.step_table.specs.declared.standing.GroupNext.TheVariants.{Ends, Goes, Fails, Acquires, SleepsOn, Withdraws}
use Rattle.step_table.specs.declared.standing.Ending.TheVariants.{NextCall}
use Rattle.step_table.specs.Group.{empty_word, group_row, same_word}
use Rattle.step_table.proofs.GroupBits.{same_is, same_itself}
use Rattle.sema_table.specs.Seats.{SeatModel}
use Rattle.sema_table.specs.Callers.{IsSeatAfter, AcquiresUnit}
use Rattle.sema_table.specs.CallersLeaving.{EndsGivingUp}
use Rattle.sema_table.specs.CallersTimed.{GivesUpHolding}
use Rattle.sema_table.proofs.After.{after_then}
use Rattle.sync_parts.specs.declared.group_view.GroupStep.{GroupStep}
use Rattle.sync_parts.specs.GroupRule.{Follows}
use Rattle.sync_parts.specs.GroupPlays.{Me, Token, Steps, step, load_row, given_up}
use Rattle.sync_parts.specs.GroupSeats.{GroupSeatModel, is_free, group_seat_of}
use Rattle.sync_parts.specs.GroupCallers.{IsGroupSeatAfter, WaitsForZeroInTime}
use Rattle.sync_parts.specs.GroupCalls.{Walks, IsCountedInTime, IsWaitedInTime}
use Rattle.sync_parts.specs.GroupWalks.{Walked, GetsCounted, GetsUncounted, StaysCounted, IsToLookLast, IsToTakeBack}
use Rattle.sync_parts.proofs.GroupCalling.{waits_by}
use Rattle.sync_parts.proofs.GroupWaiting.{HasCome, come_by, runs_on, walks_first, first_look, then_counted}

-- whether V4 ends it: the counter is 0, or nobody waits
abbrev over_in : GroupWord → Bool
over_in word = int_eq word.counter (pos 0) || (word.waits == 0)

pub at_zero : (word : GroupWord) → word.counter ≡ pos 0 → over_in word ≡ true
at_zero word e = ap (λ (b : Bool). b || (word.waits == 0)) ((Decides-int_eq word.counter (pos 0)).1 e)

pub at_none : (word : GroupWord) → word.waits ≡ 0 → over_in word ≡ true
at_none word e = ap (λ (b : Bool). int_eq word.counter (pos 0) || b) (eq-eqb word.waits 0 e) ∙ by (int_eq word.counter (pos 0))
  where
    by : (b : Bool) → (b || true) ≡ true
    by true = refl
    by false = refl

pub at_some : (word : GroupWord) → word.counter ≢ pos 0 → word.waits ≢ 0 → over_in word ≡ false
at_some word some waits = by (int_eq word.counter (pos 0)) refl ∙ ne_eqb word.waits 0 waits
  where
    by : (b : Bool) → int_eq word.counter (pos 0) ≡ b → (b || (word.waits == 0)) ≡ (word.waits == 0)
    by true e = absurd (some ((Decides-int_eq word.counter (pos 0)).0 e))
    by false e = refl

-- V4, after exchanges that were lost
module _ (s t u : Token) (steps : List GroupStep) (x : HasCome s (V4 given_up) steps (V4 given_up) t) (word : GroupWord)
    (y : Steps t (V4 given_up) word u) where
  abbrev looks : List GroupStep
  looks = steps ++ step (V4 given_up) word ∷ []

  looked : (b : Bool) → over_in word ≡ b → Walked s (V4 given_up) looks (if b then SleepsOn given_up else Goes (V5 given_up word)) u
  looked b e = runs_on s t u (V4 given_up) (V4 given_up) steps x word y (if b then SleepsOn given_up else Goes (V5 given_up word))
      (ap (λ (o : Bool). if o then SleepsOn given_up else Goes (V5 given_up word)) e)

  pub stays_counted : over_in word ≡ true → StaysCounted s u
  stays_counted e = (looks, looked true e)

  -- and V5
  module _ (on : over_in word ≡ false) (v : Token) (found : GroupWord) (z : Steps u (V5 given_up word) found v) where
    ran : (b : Bool) → same_word word found ≡ b
        → Walked s (V4 given_up) (looks ++ step (V5 given_up word) found ∷ []) (if b then Withdraws given_up else Goes (V4 given_up)) v
    ran b e = runs_on s u v (V4 given_up) (V5 given_up word) looks (come_by (looked false on)) found z
        (if b then Withdraws given_up else Goes (V4 given_up))
        (ap (λ (o : Bool). if o then Withdraws given_up else Goes (V4 given_up)) e)

    pub gets_uncounted : (word.counter ≢ pos 0) × (0 < word.waits) → same_word word found ≡ true → GetsUncounted s v
    gets_uncounted some won = (
      looks,
      word,
      some,
      subst (λ (w : GroupWord). Walked s (V4 given_up) (looks ++ step (V5 given_up word) w ∷ []) (Withdraws given_up) v)
          (sym (same_is word found won)) (ran true won),
    )

    pub goes_round : same_word word found ≡ false
        → HasCome s (V4 given_up) (looks ++ step (V5 given_up word) found ∷ []) (V4 given_up) v × Follows v.me.0.own.knows.next (V4 given_up)
    goes_round lost = (
      come_by (ran false lost),
      subst (λ (k : GroupNext). Follows k (V4 given_up)) (sym (ran false lost).next_is) refl,
    )

-- a seat that has acquired a unit, or has withdrawn its wait
pub acquired_after : (a b : SeatModel) → AcquiresUnit a 0 false b → (told : List Entry) × IsSeatAfter a 0 1 told b
acquired_after a b (inl after) = (_, after)
acquired_after a b (inr (u, found, (waits, all, inl after))) = (_, after_then a u b 0 0 0 1 [] _ found.0 after)
acquired_after a b (inr (u, found, (waits, all, inr (after, last)))) = (_, after_then a u b 0 0 0 1 [] _ found.0 after)

pub held_after : (a l : SeatModel) → GivesUpHolding a 0 false l → (told : List Entry) × IsSeatAfter a 0 0 told l
held_after a l (u, found, (w, on, (before, all, queued))) = (_, after_then a u l 0 0 0 0 [] _ found.0 queued)

abbrev TakesOut : SeatModel → SeatModel → Type 0
TakesOut a b = (l : SeatModel) × GivesUpHolding a 0 false l × EndsGivingUp l b

withdrew_after : (a b : SeatModel) → TakesOut a b → (told : List Entry) × IsSeatAfter a 1 0 told b
withdrew_after a b (l, held, (c, lifo, w, on, ended)) = let before = held_after a l held in (_, after_then a l b 0 1 0 0 before.0 _ before.1 ended)

-- the last look of a wait is free to be made, and ends it
free_last : (word : GroupWord) → is_free (group_row (V3 NextCall) word).1 ≡ true
free_last word = by (same_word word empty_word)
  where
    by : (same : Bool) → is_free (if same then Ends else Fails Reused) ≡ true
    by true = refl
    by false = refl

abbrev LooksLast : GroupNext → Type 0
LooksLast next = (load_row next ≡ V3 NextCall) × Follows next (load_row next)

module _ (s : Token) (a : SeatModel) (t : Token) (b : SeatModel) (x : IsToLookLast s a t b) where
  pub looks_last : LooksLast t.me.0.own.knows.next
  looks_last = by x.stayed
    where
      by : ((x.looks ≡ []) × (t.me.0.own.knows.next ≡ Acquires NextCall))
          ⊎ (((number : ℕ) → Walks number (V4 given_up) x.looks (SleepsOn given_up)) × (t.me.0.own.knows.next ≡ SleepsOn given_up))
          → LooksLast t.me.0.own.knows.next
      by (inl (none, e)) = subst LooksLast (sym e) (refl, refl)
      by (inr (stayed, e)) = subst LooksLast (sym e) (refl, refl)

  module _ (u : Token) (word : GroupWord) (y : Steps t (load_row t.me.0.own.knows.next) word u) where
    again : Steps t (V3 NextCall) word u
    again = subst (λ (row : GroupRow). Steps t row word u) looks_last.0 y

    pub free_then : is_free u.me.0.own.knows.next ≡ true
    free_then = ap (λ (m : Me). is_free m.0.own.knows.next) again.me_is ∙ free_last word

    pub number_then : u.me.0.own.number ≡ b.number
    number_then = ap (λ (m : Me). m.0.own.number) again.me_is ∙ x.number_is ∙ x.numbers ∙ sym (acquired_after a b x.acquired).1.number

    counted_by : (next : GroupNext) → (group_row (V3 NextCall) word).1 ≡ next → IsCountedInTime (group_seat_of s a) word next (group_seat_of u b)
    counted_by next leads = record {
      before = x.before;
      looks = x.looks;
      ran = record {
        group = λ i. record { word = (again.table_is ∙ x.table_is) i; sema = (acquired_after a b x.acquired).1.table i };
        steps_are = ap (λ (m : Me). m.0.own.gone) again.me_is ∙ ap (λ (l : List GroupStep). l ++ step (V3 NextCall) word ∷ []) x.steps_are
            ∙ append_assoc s.me.0.own.gone (x.before ++ x.looks) (step (V3 NextCall) word ∷ []);
      };
      path = x.path a.number;
      stayed = by x.stayed;
      acquired = x.acquired;
      looked = subst (λ (k : GroupNext). Walks a.number (V3 NextCall) (step (V3 NextCall) word ∷ []) k) leads
          (walks_first a.number (V3 NextCall) word again.word);
    }
      where
        by : ((x.looks ≡ []) × (t.me.0.own.knows.next ≡ Acquires NextCall))
            ⊎ (((number : ℕ) → Walks number (V4 given_up) x.looks (SleepsOn given_up)) × (t.me.0.own.knows.next ≡ SleepsOn given_up))
            → (x.looks ≡ []) ⊎ Walks a.number (V4 given_up) x.looks (SleepsOn given_up)
        by (inl (none, e)) = inl none
        by (inr (stayed, e)) = inr (stayed a.number)

    pub in_time : same_word word empty_word ≡ true → IsWaitedInTime (group_seat_of s a) (group_seat_of u b) (Ok true)
    in_time e = inr (subst (λ (w : GroupWord). IsCountedInTime (group_seat_of s a) w Ends (group_seat_of u b)) (same_is word empty_word e)
        (counted_by Ends (ap (λ (c : Bool). if c then Ends else Fails Reused) e)))

    pub reused_then : same_word word empty_word ≡ false → IsWaitedInTime (group_seat_of s a) (group_seat_of u b) (Err Reused)
    reused_then e = (
      refl,
      (
        word,
        (λ q. let yes = same_itself word empty_word q in absurd (cc)),
        counted_by (Fails Reused) (ap (λ (c : Bool). if c then Ends else Fails Reused) e),
      ),
    )

-- a wait that was counted from its first look on, and acquired or gave up
module _ (s : Token) (a : SeatModel) (t u : Token) (free : is_free s.me.0.own.knows.next ≡ true) (word : GroupWord)
    (y : Steps s (load_row s.me.0.own.knows.next) word t) (some : word.counter ≢ pos 0) (rest : GetsCounted t (V2 NextCall word) u)
    (numbers : s.me.0.own.number ≡ a.number) where
  whole : GetsCounted s (V1 NextCall) u
  whole = then_counted s t word some (first_look s free word t y) u rest

  pub never_gave_up : (b : SeatModel) (c : ℕ) → c ≡ 0 → AcquiresUnit a c false b → IsToLookLast s a u b
  never_gave_up b c zero acquired = let w = whole.1 in record {
    before = whole.0;
    looks = [];
    table_is = w.table_is;
    number_is = w.number_is;
    seats_is = w.seats_is;
    steps_are = w.steps_are ∙ ap (λ (l : List GroupStep). s.me.0.own.gone ++ l) (sym (append-nil whole.0));
    path = w.path;
    stayed = inl (refl, w.next_is);
    acquired = subst (λ (k : ℕ). AcquiresUnit a k false b) zero acquired;
    numbers = numbers;
  }

  pub gives_up : (l : SeatModel) (c : ℕ) → c ≡ 0 → GivesUpHolding a c false l → IsToTakeBack s a u l
  gives_up l c zero holds = record {
    counted = whole;
    holds = subst (λ (k : ℕ). GivesUpHolding a k false l) zero holds;
    numbers = numbers;
  }

-- a wait that was counted, and gave up
pub still_counted : (s : Token) (a : SeatModel) (t : Token) (l : SeatModel) → IsToTakeBack s a t l → t.me.0.own.knows.next ≡ Acquires NextCall
still_counted s a t l x = x.counted.1.next_is

module _ (s : Token) (a : SeatModel) (t : Token) (l : SeatModel) (x : IsToTakeBack s a t l) (u : Token) (b : SeatModel) where
  abbrev counted : List GroupStep
  counted = x.counted.0

  both_ran : (steps : List GroupStep) (next : GroupNext) → Walked t (V4 given_up) steps next u
      → u.me.0.own.gone ≡ s.me.0.own.gone ++ (counted ++ steps)
  both_ran steps next w = w.steps_are ∙ ap (λ (g : List GroupStep). g ++ steps) x.counted.1.steps_are
      ∙ append_assoc s.me.0.own.gone counted steps

  -- it stays counted
  pub stays_on : StaysCounted t u → AcquiresUnit a 0 false b → IsToLookLast s a u b
  stays_on stays acquired = let w = stays.1 in record {
    before = counted;
    looks = stays.0;
    table_is = w.table_is ∙ x.counted.1.table_is;
    number_is = w.number_is ∙ x.counted.1.number_is;
    seats_is = w.seats_is ∙ x.counted.1.seats_is;
    steps_are = both_ran stays.0 (SleepsOn given_up) w;
    path = x.counted.1.path;
    stayed = inr (w.path, w.next_is);
    acquired = acquired;
    numbers = x.numbers;
  }

  -- or is counted no more, and takes its wait out
  module _ (gone : GetsUncounted t u) (ended : EndsGivingUp l b) where
    withdrew : TakesOut a b
    withdrew = (l, x.holds, ended)

    pub free_uncounted : is_free u.me.0.own.knows.next ≡ true
    free_uncounted = ap is_free gone.3.next_is

    pub number_uncounted : u.me.0.own.number ≡ b.number
    number_uncounted = gone.3.number_is ∙ x.counted.1.number_is ∙ x.numbers ∙ sym (withdrew_after a b withdrew).1.number

    pub took_back : IsWaitedInTime (group_seat_of s a) (group_seat_of u b) (Ok false)
    took_back = record {
      before = counted;
      looks = gone.0;
      word = gone.1;
      some = gone.2;
      ran = record {
        group = λ i. record { word = (gone.3.table_is ∙ x.counted.1.table_is) i; sema = (withdrew_after a b withdrew).1.table i };
        steps_are = both_ran (gone.0 ++ step (V5 given_up gone.1) gone.1 ∷ []) (Withdraws given_up) gone.3;
      };
      path = x.counted.1.path a.number;
      left = gone.3.path a.number;
      withdrew = withdrew;
    }

-- a wait with a time-out, by its rows
after_counted : (s t : GroupSeatModel) (word : GroupWord) (next : GroupNext) → IsCountedInTime s word next t → IsGroupSeatAfter s 0 1 t
after_counted s t word next is = let after = (acquired_after s.sema t.sema is.acquired).1 in
    record { group = is.ran.group; number = after.number; left = after.left; taken = after.taken }

pub in_time_by : (s t : GroupSeatModel) (answer : Result Bool Misuse) → IsWaitedInTime s t answer → WaitsForZeroInTime s t answer
in_time_by s t (Ok true) (inl is) = waits_by s t (Ok tt) (inl is)
in_time_by s t (Ok true) (inr is) = record {
  before = is.before ++ is.looks;
  last = step (V3 NextCall) empty_word;
  looked = is.ran.steps_are;
  woken = 1;
  tells = (refl, inr (refl, refl));
  after = after_counted s t empty_word Ends is;
}
in_time_by s t (Ok false) is = let after = (withdrew_after s.sema t.sema is.withdrew).1 in record {
  before = is.before ++ is.looks;
  word = is.word;
  looked = is.ran.steps_are ∙ ap (λ (l : List GroupStep). s.steps ++ l)
      (sym (append_assoc is.before is.looks (step (V5 given_up is.word) is.word ∷ [])));
  some = is.some;
  after = record { group = is.ran.group; number = after.number; left = after.left; taken = after.taken };
}
in_time_by s t (Err misuse) (reused, (word, other, is)) = record {
  before = is.before ++ is.looks;
  last = step (V3 NextCall) word;
  looked = is.ran.steps_are;
  woken = 1;
  tells = (reused, refl, other);
  after = after_counted s t word _ is;
}
