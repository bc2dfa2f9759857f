-- Where the words of a list lie.
use Rattle.std.specs.Prelude.{ℕ, ◌+◌, ◌<◌}
use Rattle.step_table.specs.declared.list_place.ListWord.{ListWord}
use Rattle.step_table.specs.declared.list_place.ListWord.TheVariants.{Wait, Notify, Lock, Grant}
use Rattle.notify_list.specs.declared.view.Setting.{Setting}

-- first the wait word, the notify word and the lock word, then the grant word of each seat
abbrev pub address : ListWord → ℕ
address Wait = 0
address Notify = 1
address Lock = 2
address (Grant s) = 3 + s

-- where the words end that the world has
abbrev pub words_shown : Setting → ℕ
words_shown z = 3 + z.seats

-- behind them lie words of which the world knows nothing, four of each seat. One counts who sleeps at the seat's
-- grant
abbrev pub asleep_address : Setting → ℕ → ℕ
asleep_address z s = words_shown z + s

-- one tells how many waits of late the seat looked for a grant in vain
abbrev pub misses_address : Setting → ℕ → ℕ
misses_address z s = words_shown z + (z.seats + s)

-- and two name the seats that it wakes once it has its grant
abbrev pub heir_address : Setting → ℕ → ℕ
heir_address z s = words_shown z + (z.seats + z.seats + s)

abbrev pub other_heir_address : Setting → ℕ → ℕ
other_heir_address z s = words_shown z + (z.seats + z.seats + z.seats + s)

-- the last counts the threads that sleep at the lock
abbrev pub sleepers_address : Setting → ℕ
sleepers_address z = words_shown z + (z.seats + z.seats + z.seats + z.seats)

-- how many words there are
abbrev pub words_in : Setting → ℕ
words_in z = words_shown z + z.seats + z.seats + z.seats + z.seats + 1

-- the word is there
abbrev pub IsThere : Setting → ListWord → Type 0
IsThere z (Grant s) = s < z.seats
IsThere z _ = Unit {0}
