-- At which words of a table threads sleep in the kernel.
use Rattle.std.specs.Prelude.{◌≡◌, ◌⊎◌, ℕ, ◌+◌, ◌*◌, ◌<◌, length}
use Rattle.running_rows.specs.Futex.{Futex, lock_at, grant_at}
use Rattle.step_table.specs.declared.word.Word.TheVariants.{Grant}
use Rattle.sema_table.specs.declared.view.Setting.{Setting}
use Rattle.sema_table.specs.Setting.{address, words_shown, asleep_address}

-- the lock of the root r, with the word that counts who sleeps there
abbrev pub root_futex : Setting → ℕ → Futex
root_futex z r = lock_at (8 * length z.starts + r) (words_shown z + (z.seats + z.seats + r))

-- the grant of the seat s, with the word that is above 0 while its thread sleeps
abbrev pub seat_futex : Setting → ℕ → Futex
seat_futex z s = grant_at (address z (Grant s)) (asleep_address z s)

-- threads sleep at the lock of each root, and at the grant of each seat
abbrev pub IsTableFutex : Setting → Futex → Type 0
IsTableFutex z x =
    ((r : ℕ) × (r < z.roots) × (x ≡ root_futex z r))
    ⊎ ((s : ℕ) × (s < z.seats) × (x ≡ seat_futex z s))
