-- Where words lie, and what a write changes.
use Rattle.std.proofs.Common.{◌≡◌, ◌≢◌, ℕ, ◌+◌, ◌*◌, ◌<◌, false, Bool, true, List, length, drop, sym, refl, ap, ◌∙◌, arith}
use Rattle.std.proofs.Common.{lt-ltb, le-ltb}
use native.Mathlib.Decide.{ℕ_discrete}
use Rattle.std.proofs.Math.Nat.{mod-lt, mod-mod}
use Rattle.waiters.specs.declared.wait.WaitId.{WaitId}
use Rattle.step_table.specs.declared.effect.Effect.{Effect}
use Rattle.step_table.specs.declared.effect.Effect.TheVariants.{Tells}
use Rattle.step_table.specs.declared.entry.Entry.TheVariants.{Queue, Leave, Withdraw}
use Rattle.step_table.specs.declared.word.Word.{Word}
use Rattle.step_table.specs.declared.word.Word.TheVariants.{Counter, Lock, Waiters, Grant}
use Rattle.step_table.specs.World.{Words, put, insert_wait, without, found, written, lists_after}
use Rattle.step_table.specs.Counting.{on}
use Rattle.step_table.proofs.Sums.{put_here, put_else, on_else, total_same}
use Rattle.sema_root.specs.Treap.{Treap}
use Rattle.sema_table.specs.declared.view.Setting.{Setting}
use Rattle.sema_table.specs.Setting.{root, address, word_at, words_shown, words_in, IsThere}
use Rattle.sema_table.specs.Rule.{IsRecord}

pub low_root : (z : Setting) (c : ℕ) → 0 < z.roots → root z c < z.roots
low_root z c some = mod-lt c some

-- a root is its own root
pub root_root : (z : Setting) (c : ℕ) → root z (root z c) ≡ root z c
root_root z c = mod-mod c z.roots

-- the words that lie where a counter and a waiter word lie
pub counter_lies : (z : Setting) (c i : ℕ) → c < length z.starts → address z (Counter c) ≡ i → word_at z i ≡ Counter c
counter_lies z c i h e = rw (lt-ltb i (8 * length z.starts) (omega arith)) (ap Counter (omega arith))

pub waiters_lie : (z : Setting) (c i : ℕ) → 0 < z.roots → address z (Waiters c) ≡ i → word_at z i ≡ Waiters (root z c)
waiters_lie z c i some e =
    let low = low_root z c some in let all : ℕ = 8 * length z.starts in
    rw (le-ltb i all (omega arith), le-ltb i (all + z.roots) (omega arith), lt-ltb i (all + z.roots + z.roots) (omega arith)) (ap Waiters (omega arith))

pub lock_lies : (z : Setting) (c i : ℕ) → 0 < z.roots → address z (Lock c) ≡ i → word_at z i ≡ Lock (root z c)
lock_lies z c i some e =
    let low = low_root z c some in let all : ℕ = 8 * length z.starts in
    rw (le-ltb i all (omega arith), lt-ltb i (all + z.roots) (omega arith)) (ap Lock (omega arith))

pub grant_lies : (z : Setting) (k i : ℕ) → address z (Grant k) ≡ i → word_at z i ≡ Grant k
grant_lies z k i e =
    let all : ℕ = 8 * length z.starts in
    rw (le-ltb i all (omega arith), le-ltb i (all + z.roots) (omega arith), le-ltb i (all + z.roots + z.roots) (omega arith)) (ap Grant (omega arith))

abbrev pub is_lock : Word → Bool
is_lock (Lock c) = true
is_lock _ = false

pub lists_unwritten : (at : ℕ → ℕ) (g : Words) (w : Word) (x : ℕ) → (written at g w x).lists ≡ g.lists
lists_unwritten at g (Counter c) x = refl
lists_unwritten at g (Lock c) x = refl
lists_unwritten at g (Waiters c) x = refl
lists_unwritten at g (Grant s) x = refl

pub locks_unwritten : (at : ℕ → ℕ) (g : Words) (w : Word) (x r : ℕ) → is_lock w ≡ false → (written at g w x).locks r ≡ g.locks r
locks_unwritten at g (Counter c) x r e = refl
locks_unwritten at g (Waiters c) x r e = refl
locks_unwritten at g (Grant s) x r e = refl
locks_unwritten at g (Lock c) x r e = absurd (cc)

-- lists that agree at c do so after one of them was changed
put_agree : (to : List WaitId → List WaitId) (d : ℕ) (l k : ℕ → List WaitId) (c : ℕ) → l c ≡ k c → put l d (to (l d)) c ≡ put k d (to (k d)) c
put_agree to d l k c same = by (ℕ_discrete c d)
  where
    by : Dec (c ≡ d) → put l d (to (l d)) c ≡ put k d (to (k d)) c
    by (yes e) = ap (put l d (to (l d))) e ∙ put_here l d (to (l d)) ∙ ap to (ap l (sym e) ∙ same ∙ ap k e)
        ∙ sym (put_here k d (to (k d))) ∙ ap (put k d (to (k d))) (sym e)
    by (no ne) = put_else l d (to (l d)) c ne ∙ same ∙ sym (put_else k d (to (k d)) c ne)

-- and so they do after an effect
pub listed_agree : (e : Effect) (l k : ℕ → List WaitId) (c : ℕ) → l c ≡ k c → lists_after e l c ≡ lists_after e k c
listed_agree (Tells (Queue d w lifo)) l k c same = put_agree (insert_wait lifo w) d l k c same
listed_agree (Tells (Leave d w s)) l k c same = put_agree (drop 1) d l k c same
listed_agree (Tells (Withdraw d w)) l k c same = put_agree (without w.seat) d l k c same
listed_agree _ l k c same = same

-- a record depends on its root's lists alone
pub same_record : (z : Setting) (r : ℕ) (treap : Treap) (l k : ℕ → List WaitId) → ((c : ℕ) → root z c ≡ r → k c ≡ l c)
    → IsRecord z r treap l → IsRecord z r treap k
same_record z r treap l k same is = record {
  waits = λ c e. is.waits c e ∙ sym (same c e);
  count = is.count ∙ total_same (length z.starts) (λ c. on (root z c) r (length (l c))) (λ c. on (root z c) r (length (k c)))
      (λ c h. by c (ℕ_discrete (root z c) r));
  seats = is.seats;
  drawn = is.drawn;
}
  where
    by : (c : ℕ) → Dec (root z c ≡ r) → on (root z c) r (length (l c)) ≡ on (root z c) r (length (k c))
    by c (yes e) = ap (λ (x : List WaitId). on (root z c) r (length x)) (sym (same c e))
    by c (no ne) = on_else (root z c) r (length (l c)) ne ∙ sym (on_else (root z c) r (length (k c)) ne)

module _ (z : Setting) (some : 0 < z.roots) where
  -- a word after a write: the new number, or what it was
  pub written_word : (g : Words) (w u : Word) (x : ℕ) (l : ℕ → List WaitId) → IsThere z w → IsThere z u
      → (address z u ≡ address z w → found (root z) (record (written (root z) g w x) { lists = l }) u ≡ x)
      × (address z u ≢ address z w → found (root z) (record (written (root z) g w x) { lists = l }) u ≡ found (root z) g u)
  written_word g (Counter c) (Counter d) x l a b =
      ((λ e. ap (put g.numbers c x) (omega arith) ∙ put_here g.numbers c x), (λ ne. put_else g.numbers c x d (λ q. ne (omega arith))))
  written_word g (Lock c) (Lock d) x l a b = (
    (λ e. ap (put g.locks (root z c) x) (omega arith) ∙ put_here g.locks (root z c) x),
    (λ ne. put_else g.locks (root z c) x (root z d) (λ q. ne (omega arith))),
  )
  written_word g (Waiters c) (Waiters d) x l a
      b = (
        (λ e. ap (put g.waiters (root z c) x) (omega arith) ∙ put_here g.waiters (root z c) x),
        (λ ne. put_else g.waiters (root z c) x (root z d) (λ q. ne (omega arith))),
      )
  written_word g (Grant c) (Grant d) x l a b =
      ((λ e. ap (put g.grants c x) (omega arith) ∙ put_here g.grants c x), (λ ne. put_else g.grants c x d (λ q. ne (omega arith))))
  written_word g (Counter c) (Lock d) x l a b = ((λ e. absurd (omega arith)), (λ ne. refl))
  written_word g (Counter c) (Waiters d) x l a b = ((λ e. absurd (omega arith)), (λ ne. refl))
  written_word g (Counter c) (Grant d) x l a b = ((λ e. absurd (omega arith)), (λ ne. refl))
  written_word g (Lock c) (Counter d) x l a b = ((λ e. absurd (omega arith)), (λ ne. refl))
  written_word g (Lock c) (Waiters d) x l a b = ((λ e. let q = low_root z c some in absurd (omega arith)), (λ ne. refl))
  written_word g (Lock c) (Grant d) x l a b = ((λ e. let q = low_root z c some in absurd (omega arith)), (λ ne. refl))
  written_word g (Waiters c) (Counter d) x l a b = ((λ e. absurd (omega arith)), (λ ne. refl))
  written_word g (Waiters c) (Lock d) x l a b = ((λ e. let q = low_root z d some in absurd (omega arith)), (λ ne. refl))
  written_word g (Waiters c) (Grant d) x l a b = ((λ e. let q = low_root z c some in absurd (omega arith)), (λ ne. refl))
  written_word g (Grant c) (Counter d) x l a b = ((λ e. absurd (omega arith)), (λ ne. refl))
  written_word g (Grant c) (Lock d) x l a b = ((λ e. let q = low_root z d some in absurd (omega arith)), (λ ne. refl))
  written_word g (Grant c) (Waiters d) x l a b = ((λ e. let q = low_root z d some in absurd (omega arith)), (λ ne. refl))

  pub shown : (w : Word) → IsThere z w → address z w < words_shown z
  shown (Counter c) h = omega arith
  shown (Lock c) h = let q = low_root z c some in omega arith
  shown (Waiters c) h = let q = low_root z c some in omega arith
  shown (Grant s) h = omega arith

  pub inside : (w : Word) → IsThere z w → address z w < words_in z
  inside w h = let low = shown w h in omega arith
