-- Behind a lawful journal a wait stands in one list at most, and one that stands in a list hasn't left it.
use Rattle.std.proofs.Common.{◌≡◌, ◌≢◌, ℕ, ◌+◌, ◌<◌, ◌≤◌, ◌⊎◌, Bool, true, false, if◌then◌else◌, List, [], ◌∷◌, ◌++◌, drop, refl, sym, ap}
use Rattle.std.proofs.Common.{subst, ◌∙◌, append_assoc, inl, inr, arith}
use Rattle.std.proofs.lemmas.List.{append-nil}
use Rattle.std.proofs.lemmas.Bool.{cases_eq, cases_lt}
use Rattle.waiters.specs.declared.wait.WaitId.{WaitId}
use Rattle.step_table.specs.declared.entry.Entry.{Entry}
use Rattle.step_table.specs.declared.entry.Entry.TheVariants.{Add, AddMany, Take, Queue, Leave, Withdraw, Ticket, Grant, Forgo}
use Rattle.step_table.specs.Counting.{on, same, times}
use Rattle.step_table.specs.Journal.{Plain, plain_start, effect_of, replay, IsLawful, queued, left, withdrawn, is_same, without_wait}
use Rattle.step_table.specs.World.{put, insert_wait}
use Rattle.step_table.proofs.Sums.{on_here, on_else, on_zero, list_up, list_down, times_insert}
use Rattle.journal.proofs.Entries.{replay_append, queued_append, left_append, withdrawn_append, same_some, stands_front, stands_last}
use Rattle.journal.proofs.Accounts.{same_is, is_same_own}
use Rattle.journal.proofs.Rules.{Stands}

module _ (w : WaitId) where
  -- the wait is in no list but one, and as often there as it was queued and hasn't left
  pub record Placed (lists : ℕ → List WaitId) (waits gone : ℕ) : Type 0 where
    pub at : ℕ
    pub elsewhere : (c : ℕ) → c ≢ at → times w (lists c) ≡ 0
    pub here : times w (lists at) + gone ≡ waits

  -- in no list at all
  nowhere : (lists : ℕ → List WaitId) (waits gone : ℕ) → Placed lists waits gone → waits ≡ 0 → (c : ℕ)
      → (times w (lists c) ≡ 0) × (gone ≡ 0)
  nowhere lists waits gone p none c = by (cases_eq c p.at)
    where
      by : (c ≡ p.at) ⊎ (c ≡ p.at → ⊥) → (times w (lists c) ≡ 0) × (gone ≡ 0)
      by (inl e) = (ap (λ (k : ℕ). times w (lists k)) e ∙ omega (arith, p.here), omega (arith, p.here))
      by (inr ne) = (p.elsewhere c ne, omega (arith, p.here))

  queue_placed : (lists : ℕ → List WaitId) (waits gone c : ℕ) (x : WaitId) (lifo : Bool) → Placed lists waits gone → waits + same w x ≤ 1
      → Placed (put lists c (insert_wait lifo x (lists c))) (waits + same w x) gone
  queue_placed lists waits gone c x lifo p most = by (cases_lt 0 (same w x))
    where
      changed : (d : ℕ) → times w (put lists c (insert_wait lifo x (lists c)) d) ≡ times w (lists d) + on c d (same w x)
      changed d = list_up (times w) lists c (insert_wait lifo x (lists c)) d (same w x) (times_insert w lifo x (lists c))

      by : (0 < same w x) ⊎ (same w x ≤ 0) → Placed (put lists c (insert_wait lifo x (lists c))) (waits + same w x) gone
      by (inl some) = record {
        at = c;
        elsewhere = λ d ne. omega (arith, changed d, on_else c d (same w x) (λ q. ne (sym q)), (nowhere lists waits gone p (omega arith) d).0);
        here = omega (arith, changed c, on_here c (same w x), (nowhere lists waits gone p (omega arith) c).0, (nowhere lists waits gone p (omega arith) c).1);
      }
      by (inr none) = let zero_is : same w x ≡ 0 = omega arith in record {
        at = p.at;
        elsewhere = λ d ne. let k = ap (on c d) zero_is in omega (arith, changed d, on_zero c d, p.elsewhere d ne);
        here = let k = ap (on c p.at) zero_is in omega (arith, changed p.at, on_zero c p.at, p.here);
      }

  -- the wait x, once less in the list of c
  less_placed : (lists : ℕ → List WaitId) (waits gone c : ℕ) (x : WaitId) (l : List WaitId) → times w l + same w x ≡ times w (lists c)
      → Placed lists waits gone → Placed (put lists c l) waits (gone + same w x)
  less_placed lists waits gone c x l less p = by (cases_lt 0 (same w x)) (cases_eq c p.at)
    where
      changed : (d : ℕ) → times w (put lists c l d) + on c d (same w x) ≡ times w (lists d)
      changed d = list_down (times w) lists c l d (same w x) (omega (arith, less))

      by : (0 < same w x) ⊎ (same w x ≤ 0) → (c ≡ p.at) ⊎ (c ≡ p.at → ⊥) → Placed (put lists c l) waits (gone + same w x)
      by some (inl e) = record {
        at = p.at;
        elsewhere = λ d ne. omega (arith, changed d, p.elsewhere d ne);
        here = let k = ap (λ (m : ℕ). on m p.at (same w x)) e in omega (arith, changed p.at, on_here p.at (same w x), p.here);
      }
      by (inl some) (inr ne) = absurd (omega (arith, less, p.elsewhere c ne))
      by (inr none) (inr ne) = let zero_is : same w x ≡ 0 = omega arith in record {
        at = p.at;
        elsewhere = λ d other. omega (arith, changed d, p.elsewhere d other);
        here = let k = ap (on c p.at) zero_is in omega (arith, changed p.at, on_zero c p.at, p.here);
      }

  leave_placed : (lists : ℕ → List WaitId) (waits gone c : ℕ) (x : WaitId) (l : List WaitId) → Placed lists waits gone → lists c ≡ x ∷ l
      → Placed (put lists c (drop 1 (lists c))) waits (gone + same w x)
  leave_placed lists waits gone c x l p first =
      let counted : times w (lists c) ≡ same w x + times w l = ap (times w) first in
      let rest : times w (drop 1 (lists c)) ≡ times w l = ap (λ (q : List WaitId). times w (drop 1 q)) first in
      less_placed lists waits gone c x (drop 1 (lists c)) (omega arith) p

  -- a wait that is taken out by its name is counted once less
  times_named : (x : WaitId) (l : List WaitId) → 0 < times x l → times w (without_wait x l) + same w x ≡ times w l
  times_named x [] some = absurd (omega arith)
  times_named x (y ∷ l) some = by (is_same y x) (same_is y x) (is_same_own y x) (times_named x l)
    where
      apart : (b : Bool) → b ≡ false → (y ≡ x → b ≡ true) → (0 < same x y) ⊎ (same x y ≤ 0) → same x y ≡ 0
      apart b off own (inl one) = let is = own (sym (same_some x y one)) in absurd cc
      apart b off own (inr none) = omega arith

      by : (b : Bool) → (b ≡ true → y ≡ x) → (y ≡ x → b ≡ true) → (0 < times x l → times w (without_wait x l) + same w x ≡ times w l)
          → times w (if b then l else y ∷ without_wait x l) + same w x ≡ same w y + times w l
      by true is own rest = let here = ap (same w) (is refl) in omega arith
      by false is own rest =
          let other : same x y ≡ 0 = apart false refl own (cases_lt 0 (same x y)) in
          let fewer : times w (without_wait x l) + same w x ≡ times w l = rest (omega (arith, some)) in omega arith

  -- one entry more, which stands behind those before it
  entry_placed : (e : Entry) (start : Plain) (before : List Entry) (waits gone : ℕ) → Placed (replay start before).lists waits gone
      → Stands start e before → waits + queued w (e ∷ []) ≤ 1
      → Placed (effect_of e (replay start before)).lists (waits + queued w (e ∷ [])) (gone + (left w (e ∷ []) + withdrawn w (e ∷ [])))
  entry_placed (Queue c x lifo) start before waits gone p s most =
      let q = queue_placed (replay start before).lists waits gone c x lifo p (omega arith) in
      record { at = q.at; elsewhere = q.elsewhere; here = omega (arith, q.here) }
  entry_placed (Leave c x t) start before waits gone p s most =
      let q = leave_placed (replay start before).lists waits gone c x s.0.0 p s.0.1 in
      record { at = q.at; elsewhere = q.elsewhere; here = omega (arith, q.here) }
  entry_placed (Withdraw c x) start before waits gone p s most =
      let lists = (replay start before).lists in
      let q = less_placed lists waits gone c x (without_wait x (lists c)) (times_named x (lists c) s.0) p in
      record { at = q.at; elsewhere = q.elsewhere; here = omega (arith, q.here) }
  entry_placed (Forgo l n t) start before waits gone p s most = record { at = p.at; elsewhere = p.elsewhere; here = omega (arith, p.here) }
  entry_placed (Add c t) start before waits gone p s most = record { at = p.at; elsewhere = p.elsewhere; here = omega (arith, p.here) }
  entry_placed (AddMany c n t) start before waits gone p s most = record { at = p.at; elsewhere = p.elsewhere; here = omega (arith, p.here) }
  entry_placed (Take c t) start before waits gone p s most = record { at = p.at; elsewhere = p.elsewhere; here = omega (arith, p.here) }
  entry_placed (Ticket l t) start before waits gone p s most = record { at = p.at; elsewhere = p.elsewhere; here = omega (arith, p.here) }
  entry_placed (Grant l u t) start before waits gone p s most = record { at = p.at; elsewhere = p.elsewhere; here = omega (arith, p.here) }

  abbrev PlacedBehind : Plain → List Entry → Type 0
  PlacedBehind start before = Placed (replay start before).lists (queued w before) (left w before + withdrawn w before)

  last_placed : (start : Plain) (before : List Entry) (e : Entry) → PlacedBehind start before → IsLawful start (before ++ e ∷ [])
      → PlacedBehind start (before ++ e ∷ [])
  last_placed start before e p h =
      let q = entry_placed e start before (queued w before) (left w before + withdrawn w before) p (stands_last (Stands start) before e h.0)
      (omega (arith, (h.1 w).0, queued_append w before (e ∷ []))) in
      let lists : (replay start (before ++ e ∷ [])).lists ≡ (effect_of e (replay start before)).lists = ap (λ (x : Plain). x.lists)
      (replay_append start before (e ∷ [])) in
      let here = ap (λ (f : ℕ → List WaitId). times w (f q.at)) lists in
      record {
        at = q.at;
        elsewhere = λ d ne. ap (λ (f : ℕ → List WaitId). times w (f d)) lists ∙ q.elsewhere d ne;
        here = omega (arith, q.here, queued_append w before (e ∷ []), left_append w before (e ∷ []), withdrawn_append w before (e ∷ []));
      }

  lawful_front : (start : Plain) (xs ys : List Entry) → IsLawful start (xs ++ ys) → IsLawful start xs
  lawful_front start xs ys h =
      (stands_front (Stands start) xs ys h.0, λ v. (omega (arith, (h.1 v).0, queued_append v xs ys), omega (arith, (h.1 v).1, left_append v xs ys, withdrawn_append v xs ys)))

  placed_from : (start : Plain) (before more : List Entry) → PlacedBehind start before
      → IsLawful start (before ++ more) → PlacedBehind start (before ++ more)
  placed_from start before [] p h = subst (PlacedBehind start) (sym (append-nil before)) p
  placed_from start before (e ∷ more) p h =
      let path = append_assoc before (e ∷ []) more in
      let whole : IsLawful start ((before ++ e ∷ []) ++ more) = subst (IsLawful start) (sym path) h in
      subst (PlacedBehind start) path (placed_from start (before ++ e ∷ []) more
      (last_placed start before e p (lawful_front start (before ++ e ∷ []) more whole)) whole)

  pub not_left : (starts : ℕ → ℕ) (journal : List Entry) (c : ℕ) → IsLawful (plain_start starts) journal
      → 0 < times w ((replay (plain_start starts) journal).lists c) → left w journal + withdrawn w journal ≡ 0
  not_left starts journal c h some =
      by (cases_eq c p.at)
    where
      p : PlacedBehind (plain_start starts) journal
      p = placed_from (plain_start starts) [] journal (record { at = 0; elsewhere = λ d ne. refl; here = omega arith }) h

      by : (c ≡ p.at) ⊎ (c ≡ p.at → ⊥) → left w journal + withdrawn w journal ≡ 0
      by (inl e) = let k = ap (λ (m : ℕ). times w ((replay (plain_start starts) journal).lists m)) e in omega (arith, some, p.here, (h.1 w).0)
      by (inr ne) = absurd (omega (arith, some, p.elsewhere c ne))
