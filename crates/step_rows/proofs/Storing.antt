-- A stored list that is written at one place shows the function with that one value changed.
use Rattle.std.proofs.Common.{[], ◌∷◌, zero, suc, Some, slice_get, ap, ◌≡◌, ◌≢◌, Bool, ℕ, ◌<◌, List, length, get_or, set, sym, refl}
use Rattle.std.proofs.Common.{subst, ◌∙◌}
use Rattle.std.proofs.Common.{get_or-set_same, get_or-set_other, length-set, replicate, arith}
use Rattle.std.proofs.lemmas.List.{get_or-replicate, get_or_past, length-replicate}
use native.Mathlib.Decide.{ℕ_discrete, dec_lt}
use mathlib.Core.Path.{fun_ext}
use Rattle.waiters.specs.declared.wait.WaitId.{WaitId}
use Rattle.step_table.specs.declared.entry.Entry.{Entry}
use Rattle.step_table.specs.declared.entry.Entry.TheVariants.{Queue, Leave, Withdraw}
use Rattle.step_table.specs.declared.effect.Effect.TheVariants.{Tells}
use Rattle.step_table.specs.declared.word.Word.{Word}
use Rattle.step_table.specs.declared.word.Word.TheVariants.{Counter, Lock, Waiters, Grant}
use Rattle.step_table.specs.World.{Words, put, written}
use Rattle.step_rows.specs.Stored.{Stored, Becomes, WordsBecome, ListsBecome, HandBecomes, Makes, each, stored_words, hands_of, root_of}
use Rattle.step_table.proofs.Sums.{put_here, put_else, put_same}

-- a list of copies
pub copies : {A : Type 0} (x : A) (n k : ℕ) → get_or (replicate n x) k x ≡ x
copies x n k = by (dec_lt k n)
  where
    by : Dec (k < n) → get_or (replicate n x) k x ≡ x
    by (yes h) = get_or-replicate n k x x h
    by (no past) = get_or_past (replicate n x) k x (let all = length-replicate n x in omega arith)

pub each_set : {A : Type 0} (d : A) (l : List A) (i : ℕ) (x : A) → i < length l → each d (set l i x) ≡ put (each d l) i x
each_set d l i x h = fun_ext (λ k. by k (ℕ_discrete k i))
  where
    by : (k : ℕ) → Dec (k ≡ i) → get_or (set l i x) k d ≡ put (λ k. get_or l k d) i x k
    by k (yes e) = rw e (get_or-set_same l i x d h ∙ sym (put_here (λ k. get_or l k d) i x))
    by k (no ne) = get_or-set_other l i k x d ne ∙ sym (put_else (λ k. get_or l k d) i x k ne)

-- h is what a value shows, and g what a clause calls it
module _ (h g : Stored) (same : h ≡ g) where
  abbrev Wrote : Word → ℕ → Stored → Type 0
  Wrote w x k = WordsBecome g (written (root_of g) (stored_words g) w x) k

  abbrev Kept : Word → ℕ → Stored → Stored → Type 0
  Kept w x k f = WordsBecome f (written (root_of f) (stored_words f) w x) k

  pub number_stored : (w : Word) (c i x : ℕ) → Counter c ≡ w → c ≡ i → i < length h.numbers → Wrote w x (record h { numbers = set h.numbers i x })
  number_stored w c i x is at within =
      subst (Kept w x (record h { numbers = set h.numbers i x })) same
      (subst (λ v. Kept v x (record h { numbers = set h.numbers i x }) h) (ap Counter (sym at) ∙ is)
      (record {
        own = refl;
        roots = refl;
        numbers = length-set h.numbers i x;
        locks = refl;
        waiters = refl;
        grants = refl;
        lists = refl;
        seats = refl;
        hands = refl;
        words = λ j. record (stored_words h) { numbers = each_set 0 h.numbers i x within j };
      }))

  pub lock_stored : (w : Word) (c i x : ℕ) → Lock c ≡ w → root_of h c ≡ i → i < length h.locks → Wrote w x (record h { locks = set h.locks i x })
  lock_stored w c i x is at within =
      subst (Kept w x (record h { locks = set h.locks i x })) same
      (subst (λ v. Kept v x (record h { locks = set h.locks i x }) h) is
      (record {
        own = refl;
        roots = refl;
        numbers = refl;
        locks = length-set h.locks i x;
        waiters = refl;
        grants = refl;
        lists = refl;
        seats = refl;
        hands = refl;
        words = subst (λ r. stored_words (record h { locks = set h.locks i x }) ≡ record (stored_words h) { locks = put (each 0 h.locks) r x }) (sym at)
            (λ j. record (stored_words h) { locks = each_set 0 h.locks i x within j });
      }))

  pub waiters_stored : (w : Word) (c i x : ℕ) → Waiters c ≡ w → root_of h c ≡ i → i < length h.waiters
      → Wrote w x (record h { waiters = set h.waiters i x })
  waiters_stored w c i x is at within =
      subst (Kept w x (record h { waiters = set h.waiters i x })) same
      (subst (λ v. Kept v x (record h { waiters = set h.waiters i x }) h) is
      (record {
        own = refl;
        roots = refl;
        numbers = refl;
        locks = refl;
        waiters = length-set h.waiters i x;
        grants = refl;
        lists = refl;
        seats = refl;
        hands = refl;
        words = subst (λ r. stored_words (record h { waiters = set h.waiters i x }) ≡ record (stored_words h) { waiters = put (each 0 h.waiters) r x }) (sym at)
            (λ j. record (stored_words h) { waiters = each_set 0 h.waiters i x within j });
      }))

  pub grant_stored : (w : Word) (s x : ℕ) (grants : List ℕ) (hands : List (List WaitId)) → Grant s ≡ w → s < length h.grants
      → grants ≡ set h.grants s x → hands ≡ h.hands → Wrote w x (record h { grants = grants; hands = hands })
  grant_stored w s x grants hands is within new kept =
      subst (Kept w x (record h { grants = grants; hands = hands })) same
      (subst (λ v. Kept v x (record h { grants = grants; hands = hands }) h) is
      (record {
        own = refl;
        roots = refl;
        numbers = refl;
        locks = refl;
        waiters = refl;
        grants = ap length new ∙ length-set h.grants s x;
        lists = refl;
        seats = ap length kept;
        words = λ j. record (stored_words h) { grants = (ap (each 0) new ∙ each_set 0 h.grants s x within) j };
        hands = ap (each []) kept;
      }))

  -- the list of the counter c has changed
  pub list_stored : (c : ℕ) (lists : List (List WaitId)) → c < length h.lists → (change : List WaitId → List WaitId)
      → lists ≡ set h.lists c (change (each [] h.lists c))
      → ListsBecome g (put (each [] g.lists) c (change (each [] g.lists c))) (record h { lists = lists })
  list_stored c lists within change new =
      subst (λ (f : Stored). ListsBecome f (put (each [] f.lists) c (change (each [] f.lists c))) (record h { lists = lists })) same
      (record {
        own = refl;
        roots = refl;
        numbers = refl;
        locks = refl;
        waiters = refl;
        grants = refl;
        lists = ap length new ∙ length-set h.lists c (change (each [] h.lists c));
        seats = refl;
        hands = refl;
        words = λ j. record (stored_words h) { lists = (ap (each []) new ∙ each_set [] h.lists c (change (each [] h.lists c)) within) j };
      })

  -- the hand of the seat s has changed
  pub hand_stored : (s : ℕ) (hands : List (List WaitId)) (grants : List ℕ) → s < length h.hands → (change : List WaitId → List WaitId)
      → hands ≡ set h.hands s (change (each [] h.hands s)) → grants ≡ h.grants
      → HandBecomes g s (change (each [] g.hands s)) (record h { hands = hands; grants = grants })
  hand_stored s hands grants within change new kept =
      subst (λ (f : Stored). HandBecomes f s (change (each [] f.hands s)) (record h { hands = hands; grants = grants })) same
      (record {
        own = refl;
        roots = refl;
        numbers = refl;
        locks = refl;
        waiters = refl;
        grants = ap length kept;
        lists = refl;
        seats = ap length new ∙ length-set h.hands s (change (each [] h.hands s));
        words = λ j. record (stored_words h) { grants = each 0 (kept j) };
        hands = ap (each []) new ∙ each_set [] h.hands s (change (each [] h.hands s)) within;
      })

-- an effect that moves no wait
pub moves_nothing : (h : Stored) (s : ℕ) → Becomes h (stored_words h) (put (hands_of h) s (hands_of h s)) h
moves_nothing h s = record {
  own = refl;
  roots = refl;
  numbers = refl;
  locks = refl;
  waiters = refl;
  grants = refl;
  lists = refl;
  seats = refl;
  words = refl;
  hands = sym (put_same (hands_of h) s);
}

-- the hand has changed and then the lists, or the lists alone
pub then_lists : (h k n : Stored) (hands : ℕ → List WaitId) (lists : (ℕ → List WaitId) → ℕ → List WaitId)
    → Becomes h (stored_words h) hands k → ListsBecome k (lists (stored_words k).lists) n
    → Becomes h (record (stored_words h) { lists = lists (stored_words h).lists }) hands n
then_lists h k n hands lists first second = record {
  own = second.own ∙ first.own;
  roots = second.roots ∙ first.roots;
  numbers = second.numbers ∙ first.numbers;
  locks = second.locks ∙ first.locks;
  waiters = second.waiters ∙ first.waiters;
  grants = second.grants ∙ first.grants;
  lists = second.lists ∙ first.lists;
  seats = second.seats ∙ first.seats;
  words = second.words ∙ (λ j. let g : Words = first.words j in record g { lists = lists g.lists });
  hands = second.hands ∙ first.hands;
}

pub lists_alone : (h n : Stored) (s : ℕ) (lists : ℕ → List WaitId) → ListsBecome h lists n
    → Becomes h (record (stored_words h) { lists = lists }) (put (hands_of h) s (hands_of h s)) n
lists_alone h n s lists is = record {
  own = is.own;
  roots = is.roots;
  numbers = is.numbers;
  locks = is.locks;
  waiters = is.waiters;
  grants = is.grants;
  lists = is.lists;
  seats = is.seats;
  words = is.words;
  hands = is.hands ∙ sym (put_same (hands_of h) s);
}

-- an entry that neither queues a wait nor takes one out
pub tells_alone : (h : Stored) (s : ℕ) (e : Entry) → ((c : ℕ) (w : WaitId) (lifo : Bool) → e ≢ Queue c w lifo)
    → ((c : ℕ) (w : WaitId) (k : ℕ) → e ≢ Leave c w k) → ((c : ℕ) (w : WaitId) → e ≢ Withdraw c w)
    → Makes (Tells e) s h h
tells_alone h s (Queue c w lifo) queues leaves withdraws = absurd (queues c w lifo refl)
tells_alone h s (Leave c w k) queues leaves withdraws = absurd (leaves c w k refl)
tells_alone h s (Withdraw c w) queues leaves withdraws = absurd (withdraws c w refl)
tells_alone h s _ queues leaves withdraws = moves_nothing h s

-- the element of a place that a list has
pub get_here : {A : Type 0} (d : A) (l : List A) (i : ℕ) (x : A) → slice_get l i ≡ Some x → (i < length l) × (each d l i ≡ x)
get_here d [] i x e = absurd (cc)
get_here d (y ∷ l) zero x e = (omega arith, (let f : Some y ≡ Some x = e in cc))
get_here d (y ∷ l) (suc i) x e = let h = get_here d l i x e in (let a = h.0 in omega arith, h.1)
