-- At which words of a list threads sleep in the kernel.
use Rattle.std.specs.Prelude.{◌≡◌, ◌⊎◌, ℕ, ◌<◌}
use Rattle.step_table.specs.declared.list_place.ListWord.TheVariants.{Lock, Grant}
use Rattle.running_rows.specs.Futex.{Futex, lock_at, grant_at}
use Rattle.notify_list.specs.declared.view.Setting.{Setting}
use Rattle.notify_list.specs.Setting.{address, asleep_address, sleepers_address}

-- any threads at the lock, and the thread of each seat at its grant
abbrev pub IsFutex : Setting → Futex → Type 0
IsFutex z x =
    (x ≡ lock_at (address Lock) (sleepers_address z))
    ⊎ ((s : ℕ) × (s < z.seats) × (x ≡ grant_at (address (Grant s)) (asleep_address z s)))
