-- Where threads sleep lie no two words at one address, and none that the other rows write.
use Rattle.std.proofs.Common.{◌≡◌, ◌≢◌, ◌⊎◌, inl, inr, ℕ, ◌+◌, ◌*◌, ◌<◌, ◌≤◌, List, length, sym, ap, ◌∙◌, subst, arith}
use mathlib.Core.Logic.{dite}
use native.Mathlib.Decide.{ℕ_discrete}
use Rattle.running_rows.specs.Futex.{Futex, ShareNoWord, lock_at, grant_at}
use Rattle.running_rows.specs.Rule.{AreFutexes}
use Rattle.running_rows.specs.Owing.{IsPlain}
use Rattle.step_table.specs.declared.word.Word.TheVariants.{Lock, Waiters, Grant}
use Rattle.step_table.specs.World.{SemaWorld}
use Rattle.sema_table.specs.declared.view.Setting.{Setting}
use Rattle.sema_table.specs.Setting.{root, address, words_shown, asleep_address, misses_address, sleepers_address}
use Rattle.sema_table.specs.Futexes.{root_futex, seat_futex, IsTableFutex}
use Rattle.sema_table.specs.Rule.{Homes, ShowsWorld}
use Rattle.sema_table.specs.Rows.{semaphore_rows}
use Rattle.sema_table.proofs.Words.{low_root}
use Rattle.sema_table.proofs.Seeing.{is_aside}

module _ (z : Setting) where
  two : (x : Futex) → IsTableFutex z x → x.word ≢ x.sleepers
  two x (inl a) e = let w = ap (λ (y : Futex). y.word) a.2 in let s = ap (λ (y : Futex). y.sleepers) a.2 in let low = a.1 in absurd (omega arith)
  two x (inr a) e = let w = ap (λ (y : Futex). y.word) a.2 in let s = ap (λ (y : Futex). y.sleepers) a.2 in let low = a.1 in absurd (omega arith)

  -- two roots, two seats, and a root and a seat
  two_roots : (r q : ℕ) → r < z.roots → q < z.roots → r ≢ q → ShareNoWord (root_futex z r) (root_futex z q)
  two_roots r q low less ne = record {
    words = λ e. ne (omega arith);
    sleepers = λ e. ne (omega arith);
    word = λ e. absurd (omega arith);
    other = λ e. absurd (omega arith);
  }

  two_seats : (s q : ℕ) → s < z.seats → q < z.seats → s ≢ q → ShareNoWord (seat_futex z s) (seat_futex z q)
  two_seats s q low less ne = record {
    words = λ e. ne (omega arith);
    sleepers = λ e. ne (omega arith);
    word = λ e. absurd (omega arith);
    other = λ e. absurd (omega arith);
  }

  root_and_seat : (r s : ℕ) → r < z.roots → s < z.seats → ShareNoWord (root_futex z r) (seat_futex z s)
  root_and_seat r s low less = record {
    words = λ e. absurd (omega arith);
    sleepers = λ e. absurd (omega arith);
    word = λ e. absurd (omega arith);
    other = λ e. absurd (omega arith);
  }

  shared_so : (x y u v : Futex) → x ≡ u → y ≡ v → ShareNoWord u v → ShareNoWord x y
  shared_so x y u v xu yv = subst (λ (q : Futex × Futex). ShareNoWord q.0 q.1) (λ i. (sym xu i, sym yv i))

  turned : (x y : Futex) → ShareNoWord y x → ShareNoWord x y
  turned x y s = record {
    words = λ e. s.words (sym e);
    sleepers = λ e. s.sleepers (sym e);
    word = λ e. s.other (sym e);
    other = λ e. s.word (sym e);
  }

  apart : (x y : Futex) → IsTableFutex z x → IsTableFutex z y → (x ≡ y) ⊎ ShareNoWord x y
  apart x y (inl a) (inl b) = dite (ℕ_discrete a.0 b.0) (λ e. inl (a.2 ∙ ap (root_futex z) e ∙ sym b.2))
      (λ ne. inr (shared_so x y (root_futex z a.0) (root_futex z b.0) a.2 b.2 (two_roots a.0 b.0 a.1 b.1 ne)))
  apart x y (inl a) (inr b) = inr (shared_so x y (root_futex z a.0) (seat_futex z b.0) a.2 b.2 (root_and_seat a.0 b.0 a.1 b.1))
  apart x y (inr a) (inl b) = inr (turned x y (shared_so y x (root_futex z b.0) (seat_futex z a.0) b.2 a.2 (root_and_seat b.0 a.0 b.1 a.1)))
  apart x y (inr a) (inr b) = dite (ℕ_discrete a.0 b.0) (λ e. inl (a.2 ∙ ap (seat_futex z) e ∙ sym b.2))
      (λ ne. inr (shared_so x y (seat_futex z a.0) (seat_futex z b.0) a.2 b.2 (two_seats a.0 b.0 a.1 b.1 ne)))

  there : (x : Futex) (world : SemaWorld) (words : List ℕ) (homes : Homes) → IsTableFutex z x → ShowsWorld z world words homes
      → (x.word < length words) × (x.sleepers < length words)
  there x world words homes (inl a) shows = let w = ap (λ (y : Futex). y.word) a.2 in let s = ap (λ (y : Futex). y.sleepers) a.2 in
      let low = a.1 in let long = shows.wide in (omega arith, omega arith)
  there x world words homes (inr a) shows = let w = ap (λ (y : Futex). y.word) a.2 in let s = ap (λ (y : Futex). y.sleepers) a.2 in
      let low = a.1 in let long = shows.wide in (omega arith, omega arith)

  far : (x : Futex) → IsTableFutex z x → words_shown z ≤ x.sleepers
  far x (inl a) = let s = ap (λ (y : Futex). y.sleepers) a.2 in omega arith
  far x (inr a) = let s = ap (λ (y : Futex). y.sleepers) a.2 in omega arith

  pub are_futexes : AreFutexes semaphore_rows z
  are_futexes = record {
    two = two;
    apart = apart;
    there = there;
    unseen = λ x world words homes n is shows. is_aside z x.sleepers (far x is) world words homes n shows;
  }

  -- the lock of a counter's root, and the grant of a seat
  pub lock_futex : (c i j : ℕ) → 0 < z.roots → i ≡ address z (Lock c) → j ≡ sleepers_address z c → IsTableFutex z (lock_at i j)
  lock_futex c i j some at beside = inl (root z c, low_root z c some, (λ k. lock_at (at k) (beside k)))

  pub grant_futex : (s i j : ℕ) → s < z.seats → i ≡ address z (Grant s) → j ≡ asleep_address z s → IsTableFutex z (grant_at i j)
  grant_futex s i j low at beside = inr (s, low, (λ k. grant_at (at k) (beside k)))

  -- a word is none of theirs that lies at none of their addresses
  plain_at : (i : ℕ)
      → ((r : ℕ) → r < z.roots → (8 * length z.starts + r ≢ i) × (words_shown z + (z.seats + z.seats + r) ≢ i))
      → ((s : ℕ) → s < z.seats → (address z (Grant s) ≢ i) × (asleep_address z s ≢ i))
      → IsPlain semaphore_rows z i
  plain_at i locks grants x (inl a) = let o = locks a.0 a.1 in
      ((λ e. o.0 (sym (ap (λ (y : Futex). y.word) a.2) ∙ e)), (λ e. o.1 (sym (ap (λ (y : Futex). y.sleepers) a.2) ∙ e)))
  plain_at i locks grants x (inr a) = let o = grants a.0 a.1 in
      ((λ e. o.0 (sym (ap (λ (y : Futex). y.word) a.2) ∙ e)), (λ e. o.1 (sym (ap (λ (y : Futex). y.sleepers) a.2) ∙ e)))

  pub counter_plain : (c i : ℕ) → c < length z.starts → i ≡ 8 * c → IsPlain semaphore_rows z i
  counter_plain c i low at = plain_at i (λ r h. ((λ e. absurd (omega arith)), (λ e. absurd (omega arith))))
      (λ s h. ((λ e. absurd (omega arith)), (λ e. absurd (omega arith))))

  pub waiters_plain : (c i : ℕ) → 0 < z.roots → i ≡ address z (Waiters c) → IsPlain semaphore_rows z i
  waiters_plain c i some at = let low = low_root z c some in
      plain_at i (λ r h. ((λ e. absurd (omega arith)), (λ e. absurd (omega arith)))) (λ s h. ((λ e. absurd (omega arith)), (λ e. absurd (omega arith))))

  pub misses_plain : (k i : ℕ) → k < z.seats → i ≡ misses_address z k → IsPlain semaphore_rows z i
  misses_plain k i low at = plain_at i (λ r h. ((λ e. absurd (omega arith)), (λ e. absurd (omega arith))))
      (λ s h. ((λ e. absurd (omega arith)), (λ e. absurd (omega arith))))
