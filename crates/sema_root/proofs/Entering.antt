-- An entry comes into a rising list, or goes: the list still rises, and each other counter keeps its entry.
use Rattle.std.proofs.Common.{◌≡◌, ◌≢◌, ℕ, ◌+◌, List, ◌∷◌, ◌++◌, Some, None, length}
use Rattle.std.proofs.Common.{sym, ap, ◌∙◌, subst, arith, length-append, append_assoc}
use Rattle.sema_root.specs.Entries.{entry_of, AllBelow, AllAbove, AreRising, Adds, Removes}
use Rattle.sema_root.proofs.Rising.{All-append, entry_of-below, entry_of-above, entry_of-here, entry_of-skip, entry_of-append}
use Rattle.sema_root.proofs.Rising.{Rising-append_left, Rising-append_right, Rising-below, Rising-above}
use Rattle.sema_root.proofs.Rising.{Rising-here, Rising-join, Rising-without}

module _ {A : Type 0} where
  -- one entry more makes a list longer by one
  length-entry : (c : ℕ) (value : A) (xs ys : List (ℕ × A)) → length (xs ++ (c, value) ∷ ys) ≡ length (xs ++ ys) + 1
  length-entry c value xs ys = omega (arith, length-append xs ys, length-append xs ((c, value) ∷ ys))

  module _ {old new : List (ℕ × A)} {c : ℕ} {value : A} (adds : Adds old new c value) where
    -- a list to which an entry is added still rises
    pub Adds-rising : AreRising old → AreRising new
    Adds-rising rising =
        let both = subst AreRising adds.were rising in
        let first = Rising-append_left adds.before adds.behind both in
        let second = Rising-append_right adds.before adds.behind both in
        subst AreRising (sym adds.are) (Rising-join c value adds.before adds.behind first adds.below adds.above second)

    -- the list lacked the counter
    pub Adds-was : entry_of c old ≡ None
    Adds-was = ap (entry_of c) adds.were
        ∙ entry_of-append c adds.before adds.behind (entry_of-below c adds.before adds.below)
        ∙ entry_of-above c adds.behind adds.above

    -- it now has the value for it
    pub Adds-is : entry_of c new ≡ Some value
    Adds-is = ap (entry_of c) adds.are
        ∙ entry_of-append c adds.before ((c, value) ∷ adds.behind) (entry_of-below c adds.before adds.below)
        ∙ entry_of-here c value adds.behind

    -- each other counter has what it had
    pub Adds-else : (d : ℕ) → d ≢ c → entry_of d new ≡ entry_of d old
    Adds-else d other = ap (entry_of d) adds.are
        ∙ entry_of-skip d c value adds.before adds.behind other ∙ ap (entry_of d) (sym adds.were)

    -- and there is one entry more
    pub Adds-length : length new ≡ length old + 1
    Adds-length = rw (adds.are, adds.were) (length-entry c value adds.before adds.behind)

    -- with a list behind both that is all above the counter
    pub Adds-append_right : (more : List (ℕ × A)) → AllAbove c more → Adds (old ++ more) (new ++ more) c value
    Adds-append_right more above = record {
      before = adds.before;
      behind = adds.behind ++ more;
      were = ap (λ l. l ++ more) adds.were ∙ append_assoc adds.before adds.behind more;
      are = ap (λ l. l ++ more) adds.are ∙ append_assoc adds.before ((c, value) ∷ adds.behind) more;
      below = adds.below;
      above = All-append _ adds.behind more adds.above above;
    }

    -- and with a list before both that is all below it
    pub Adds-append_left : (more : List (ℕ × A)) → AllBelow c more → Adds (more ++ old) (more ++ new) c value
    Adds-append_left more below = record {
      before = more ++ adds.before;
      behind = adds.behind;
      were = ap (λ l. more ++ l) adds.were ∙ sym (append_assoc more adds.before adds.behind);
      are = ap (λ l. more ++ l) adds.are ∙ sym (append_assoc more adds.before ((c, value) ∷ adds.behind));
      below = All-append _ more adds.before below adds.below;
      above = adds.above;
    }

  module _ {old new : List (ℕ × A)} {c : ℕ} (removes : Removes old new c) (rising : AreRising old) where
    whole : AreRising (removes.before ++ (c, removes.value) ∷ removes.behind)
    whole = subst AreRising removes.were rising

    -- a rising list from which an entry is removed still rises
    pub Removes-rising : AreRising new
    Removes-rising = subst AreRising (sym removes.are) (Rising-without c removes.value removes.before removes.behind whole)

    -- the list had the value for the counter
    pub Removes-was : entry_of c old ≡ Some removes.value
    Removes-was = ap (entry_of c) removes.were ∙ Rising-here c removes.value removes.before removes.behind whole

    -- it now lacks it
    pub Removes-is : entry_of c new ≡ None
    Removes-is =
        let below = Rising-below c removes.value removes.before removes.behind whole in
        let above = Rising-above c removes.value removes.before removes.behind whole in
        ap (entry_of c) removes.are
        ∙ entry_of-append c removes.before removes.behind (entry_of-below c removes.before below)
        ∙ entry_of-above c removes.behind above

    -- each other counter has what it had
    pub Removes-else : (d : ℕ) → d ≢ c → entry_of d new ≡ entry_of d old
    Removes-else d other = ap (entry_of d) removes.are
        ∙ sym (entry_of-skip d c removes.value removes.before removes.behind other) ∙ ap (entry_of d) (sym removes.were)

    -- and there is one entry less
    pub Removes-length : length old ≡ length new + 1
    Removes-length = rw (removes.are, removes.were) (length-entry c removes.value removes.before removes.behind)

  module _ {old new : List (ℕ × A)} {c : ℕ} (removes : Removes old new c) where
    -- with a list behind both
    pub Removes-append_right : (more : List (ℕ × A)) → Removes (old ++ more) (new ++ more) c
    Removes-append_right more = record {
      before = removes.before;
      value = removes.value;
      behind = removes.behind ++ more;
      were = ap (λ l. l ++ more) removes.were ∙ append_assoc removes.before ((c, removes.value) ∷ removes.behind) more;
      are = ap (λ l. l ++ more) removes.are ∙ append_assoc removes.before removes.behind more;
    }

    -- and with a list before both
    pub Removes-append_left : (more : List (ℕ × A)) → Removes (more ++ old) (more ++ new) c
    Removes-append_left more = record {
      before = more ++ removes.before;
      value = removes.value;
      behind = removes.behind;
      were = ap (λ l. more ++ l) removes.were ∙ sym (append_assoc more removes.before ((c, removes.value) ∷ removes.behind));
      are = ap (λ l. more ++ l) removes.are ∙ sym (append_assoc more removes.before removes.behind);
    }
