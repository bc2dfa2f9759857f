-- Where the words at which threads sleep lie, and which words are none of them.
use Rattle.std.proofs.Common.{◌≡◌, ◌≢◌, ◌⊎◌, inl, inr, ℕ, ◌+◌, ◌<◌, ◌≤◌, refl, sym, ap, ◌∙◌, arith}
use native.Mathlib.Decide.{ℕ_discrete}
use mathlib.Core.Logic.{dite}
use Rattle.running_rows.specs.Futex.{Futex, ShareNoWord, lock_at, grant_at}
use Rattle.running_rows.specs.Owing.{IsPlain, IsLock, IsGrant}
use Rattle.running_rows.specs.Rule.{AreFutexes}
use Rattle.notify_list.specs.declared.view.Setting.{Setting}
use Rattle.notify_list.specs.Setting.{words_in, asleep_address, sleepers_address}
use Rattle.notify_list.specs.Futexes.{IsFutex}
use Rattle.notify_list.specs.Rows.{list_rows}
use Rattle.notify_list.proofs.Words.{wakes_aside}

-- the words of a futex: those of the lock, or those of a seat
record At (z : Setting) (x : Futex) (word sleepers : ℕ) : Type 0 where
  word_is : x.word ≡ word
  sleepers_is : x.sleepers ≡ sleepers

lock_is : (z : Setting) (x : Futex) → x ≡ lock_at 2 (sleepers_address z) → At z x 2 (sleepers_address z)
lock_is z x e = record { word_is = ap (λ (y : Futex). y.word) e; sleepers_is = ap (λ (y : Futex). y.sleepers) e }

grant_is : (z : Setting) (x : Futex) (s : ℕ) → x ≡ grant_at (3 + s) (asleep_address z s) → At z x (3 + s) (asleep_address z s)
grant_is z x s e = record { word_is = ap (λ (y : Futex). y.word) e; sleepers_is = ap (λ (y : Futex). y.sleepers) e }

-- the wait word and the notify word are none of them
pub plain_low : (z : Setting) (i : ℕ) → i < 2 → IsPlain list_rows z i
plain_low z i low x (inl e) = let a = lock_is z x e in let w = a.word_is in let c = a.sleepers_is in ((λ q. omega arith), (λ q. omega arith))
plain_low z i low x (inr (s, there, e)) = let a = grant_is z x s e in let w = a.word_is in let c = a.sleepers_is in ((λ q. omega arith), (λ q. omega arith))

-- nor are those that lie between the counts of sleepers
pub plain_high : (z : Setting) (i : ℕ) → asleep_address z z.seats ≤ i → i < sleepers_address z → IsPlain list_rows z i
plain_high z i from to x (inl e) = let a = lock_is z x e in let w = a.word_is in let c = a.sleepers_is in ((λ q. omega arith), (λ q. omega arith))
plain_high z i from to x (inr (s, there, e)) = let a = grant_is z x s e in let w = a.word_is in let c = a.sleepers_is in ((λ q. omega arith), (λ q. omega arith))

-- the lock, and a seat's grant
pub at_lock : (z : Setting) → IsLock list_rows z 2
at_lock z = (sleepers_address z, inl refl)

pub at_grant : (z : Setting) (s : ℕ) {i : ℕ} → s < z.seats → i ≡ 3 + s → IsGrant list_rows z i
at_grant z s there is = (asleep_address z s, inr (s, there, ap (λ (k : ℕ). grant_at k (asleep_address z s)) is))

-- where the words of a futex lie
pub far_away : (z : Setting) (x : Futex) → IsFutex z x
    → (x.word ≢ x.sleepers) × (x.word < words_in z) × (asleep_address z 0 ≤ x.sleepers) × (x.sleepers < words_in z)
far_away z x (inl e) = let a = lock_is z x e in let w = a.word_is in let c = a.sleepers_is in ((λ q. omega arith), omega arith, omega arith, omega arith)
far_away z x (inr (s, there, e)) = let a = grant_is z x s e in let w = a.word_is in let c = a.sleepers_is in ((λ q. omega arith), omega arith, omega arith, omega arith)

apart : (z : Setting) (x y : Futex) → IsFutex z x → IsFutex z y → (x ≡ y) ⊎ ShareNoWord x y
apart z x y (inl e) (inl f) = inl (e ∙ sym f)
apart z x y (inl e) (inr (s, there, f)) = let a = lock_is z x e in let w = a.word_is in let c = a.sleepers_is in
    let b = grant_is z y s f in let v = b.word_is in let d = b.sleepers_is in
    inr (record { words = λ q. omega arith; sleepers = λ q. omega arith; word = λ q. omega arith; other = λ q. omega arith })
apart z x y (inr (s, there, e)) (inl f) = let a = grant_is z x s e in let w = a.word_is in let c = a.sleepers_is in
    let b = lock_is z y f in let v = b.word_is in let d = b.sleepers_is in
    inr (record { words = λ q. omega arith; sleepers = λ q. omega arith; word = λ q. omega arith; other = λ q. omega arith })
apart z x y (inr (s, there, e)) (inr (t, here, f)) = let a = grant_is z x s e in let w = a.word_is in let c = a.sleepers_is in
    let b = grant_is z y t f in let v = b.word_is in let d = b.sleepers_is in
    dite (ℕ_discrete s t)
    (λ same. inl (e ∙ ap (λ (k : ℕ). grant_at (3 + k) (asleep_address z k)) same ∙ sym f))
    (λ ne. inr (record {
      words = λ q. omega (arith, ne);
      sleepers = λ q. omega (arith, ne);
      word = λ q. omega arith;
      other = λ q. omega arith;
    }))

pub are_futexes : (z : Setting) → AreFutexes list_rows z
are_futexes z = record {
  two = λ x is. (far_away z x is).0;
  apart = apart z;
  there = λ x world words homes is at. let far = far_away z x is in let wide = at.wide in (omega arith, omega arith);
  unseen = λ x world words homes n is at. let far = far_away z x is in wakes_aside z x.sleepers (omega arith) world words homes n at;
}
