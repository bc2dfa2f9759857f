-- A seat of a table, and where the table's words lie for it.
use Rattle.std.proofs.Common.{◌≡◌, ℕ, Bool, ◌*◌, ◌<◌, length, refl, sym, ap, ◌∙◌, subst, arith}
use Rattle.step_table.specs.declared.word.Word.{Word}
use Rattle.step_table.specs.declared.word.Word.TheVariants.{Lock, Waiters, Grant}
use Rattle.sema_table.specs.declared.seat.Numbers.{Numbers}
use Rattle.sema_table.specs.declared.sema_table.SemaTable.TheInside.{Inside}
use Rattle.sema_table.specs.Setting.{address, words_shown, asleep_address, misses_address, sleepers_address, IsThere}
use Rattle.sema_table.specs.Futexes.{IsTableFutex}
use Rattle.sema_table.specs.Seats.{TableModel, SeatModel, Token, table_of, seat_of}
use Rattle.sema_table.specs.Shared.{IsTable, table_by}
use Rattle.running_rows.specs.Rule.{IsSomeones}
use Rattle.sema_table.specs.Rows.{semaphore_rows}
use Rattle.sema_table.specs.Rule.{setting_of}
use Rattle.running_rows.specs.Owing.{IsAside, IsPlain, IsLock, IsGrant}
use Rattle.running_rows.specs.Futex.{lock_at, grant_at}
use Rattle.sema_table.proofs.Words.{inside}
use Rattle.sema_table.proofs.Seeing.{is_aside}
use Rattle.sema_table.proofs.Futexes.{lock_futex, grant_futex, counter_plain, waiters_plain, misses_plain}

abbrev pub IsMade : Inside → Type 0
IsMade x = IsTable (table_by x).id (table_by x).setting x.counters x.roots x.seats x.limit

module _ (x : Inside) (s : Token) (n : Numbers) {t : TableModel} {seat : SeatModel} (is : table_by x ≡ t)
    (seen : seat_of s n ≡ seat) (of : seat.table ≡ t) where
  -- the seat's table is this one
  pub own : table_of s ≡ table_by x
  own = ap (λ (y : SeatModel). y.table) seen ∙ of ∙ sym is

  -- a counter of the table is one of the seat's
  pub counter_in : {c : ℕ} → c < length t.setting.starts → c < length s.me.0.own.knows.setting.starts
  counter_in {c = c} = subst (λ (y : TableModel). c < length y.setting.starts) (sym (own ∙ is))

module _ (x : Inside) (s : Token) (made : IsMade x) (own : table_of s ≡ table_by x) where
  -- a word that is there lies in the table
  pub word_in : (w : Word) → IsThere s.me.0.own.knows.setting w → address s.me.0.own.knows.setting w < x.words.table.shared.table_id.words
  word_in w there = subst (λ (y : TableModel). IsThere y.setting w → address y.setting w < x.words.table.shared.table_id.words) (sym own)
      (λ h. let i = inside (table_by x).setting (let r = made.rooted in let a = made.some in omega arith) w h in let e = made.words in omega arith) there

  -- and the table has a root
  pub some_root : 0 < s.me.0.own.knows.setting.roots
  some_root = subst (λ (y : TableModel). 0 < y.setting.roots) (sym own) (let r = made.rooted in let a = made.some in omega arith)

  -- nobody sleeps at a counter
  pub counter_apart : {i : ℕ} (c : ℕ) → c < length s.me.0.own.knows.setting.starts → i ≡ 8 * c
      → IsPlain semaphore_rows (setting_of x.words.table.shared.key) i
  counter_apart c low at = counter_plain (setting_of x.words.table.shared.key) c _
      (subst (λ (y : TableModel). c < length y.setting.starts) own low) at

-- a table has a word
pub has_word : (x : Inside) → IsMade x → 0 < x.words.table.shared.table_id.words
has_word x made = let a = made.any in let c = made.counted in let w = made.words in omega arith

-- and its seats are somebody's
pub someones : (x : Inside) → IsMade x → (s : Token) → table_of s ≡ table_by x → IsSomeones semaphore_rows s.me.0
someones x made s own = subst (λ (y : TableModel). 0 < y.setting.seats) (sym own) (let a = made.few.0 in let c = made.seated in omega arith)

-- what holds of a table whose threads sleep, or don't, holds of its words
pub serves : (x : Inside) {t : TableModel} (is : table_by x ≡ t) (Serves : Bool → Type 0) → Serves t.setting.has_threads
    → Serves (table_by x).setting.has_threads
serves x is Serves = subst (λ (y : TableModel). Serves y.setting.has_threads) (sym is)

module _ (x : Inside) {t : TableModel} (made : IsMade x) (is : table_by x ≡ t) where
  some : 0 < x.words.table.shared.key.settings.roots
  some = let r = made.rooted in let a = made.some in omega arith

  seat_in : (s : ℕ) → s < t.setting.seats → s < x.words.table.shared.key.settings.seats
  seat_in s = subst (λ (y : TableModel). s < y.setting.seats) (sym is)

  -- the words of the table at which threads sleep: the lock of a counter's root, and the grant of a seat
  pub lock_sleeps : {i j : ℕ} (c : ℕ) → i ≡ address t.setting (Lock c) → j ≡ sleepers_address t.setting c → j < t.id.words
      → (j < x.words.table.shared.table_id.words) × IsTableFutex (setting_of x.words.table.shared.key) (lock_at i j)
  lock_sleeps c at beside low = (
    (let w = ap (λ (y : TableModel). y.id.words) is in omega arith),
    lock_futex (setting_of x.words.table.shared.key) c _ _ some (at ∙ ap (λ (y : TableModel). address y.setting (Lock c)) (sym is))
        (beside ∙ ap (λ (y : TableModel). sleepers_address y.setting c) (sym is)),
  )

  pub grant_sleeps : {i j : ℕ} (s : ℕ) → s < t.setting.seats → i ≡ address t.setting (Grant s) → j ≡ asleep_address t.setting s → j < t.id.words
      → (j < x.words.table.shared.table_id.words) × IsTableFutex (setting_of x.words.table.shared.key) (grant_at i j)
  grant_sleeps s there at beside low = (
    (let w = ap (λ (y : TableModel). y.id.words) is in omega arith),
    grant_futex (setting_of x.words.table.shared.key) s _ _ (seat_in s there) (at ∙ ap (λ (y : TableModel). address y.setting (Grant s)) (sym is))
        (beside ∙ ap (λ (y : TableModel). asleep_address y.setting s) (sym is)),
  )

  pub is_lock : {i : ℕ} (c : ℕ) → i ≡ address t.setting (Lock c) → IsLock semaphore_rows (setting_of x.words.table.shared.key) i
  is_lock c at = (
    _,
    lock_futex (setting_of x.words.table.shared.key) c _ _ some (at ∙ ap (λ (y : TableModel). address y.setting (Lock c)) (sym is)) refl,
  )

  pub is_grant : {i : ℕ} (s : ℕ) → s < t.setting.seats → i ≡ address t.setting (Grant s)
      → IsGrant semaphore_rows (setting_of x.words.table.shared.key) i
  is_grant s there at = (
    _,
    grant_futex (setting_of x.words.table.shared.key) s _ _ (seat_in s there)
        (at ∙ ap (λ (y : TableModel). address y.setting (Grant s)) (sym is)) refl,
  )

  -- and words at which none does
  pub waiters_apart : {i : ℕ} (c : ℕ) → i ≡ address t.setting (Waiters c) → IsPlain semaphore_rows (setting_of x.words.table.shared.key) i
  waiters_apart c at = waiters_plain (setting_of x.words.table.shared.key) c _ some
      (at ∙ ap (λ (y : TableModel). address y.setting (Waiters c)) (sym is))

  -- and one of which the world knows nothing
  pub misses_aside : {i : ℕ} (s : ℕ) → s < t.setting.seats → i ≡ misses_address t.setting s → i < t.id.words
      → (i < x.words.table.shared.table_id.words)
      × (IsAside semaphore_rows (setting_of x.words.table.shared.key) i × IsPlain semaphore_rows (setting_of x.words.table.shared.key) i)
  misses_aside s there at low = (
    (let w = ap (λ (y : TableModel). y.id.words) is in omega arith),
    (
      is_aside _ _ (let z = ap (λ (y : TableModel). words_shown y.setting) is in omega arith),
      misses_plain (setting_of x.words.table.shared.key) s _ (seat_in s there)
          (at ∙ ap (λ (y : TableModel). misses_address y.setting s) (sym is)),
    ),
  )
