-- How a table is laid out: which root a counter has, and where each word lies.
use Rattle.std.specs.Prelude.{ℕ, ◌+◌, ◌-◌, ◌*◌, ◌/◌, ◌%◌, ◌<◌, nat_lt, if◌then◌else◌, List, [], ◌∷◌, length}
use Rattle.std.specs.Prelude.{slice_index_or}
use Rattle.step_table.specs.declared.word.Word.{Word}
use Rattle.step_table.specs.declared.word.Word.TheVariants.{Counter, Lock, Waiters, Grant}
use Rattle.step_table.specs.World.{Layout}
use Rattle.sema_table.specs.declared.view.Setting.{Setting}

abbrev pub root : Setting → ℕ → ℕ
root z c = c % z.roots

-- the layout of the worlds of such a table
abbrev pub layout : Setting → Layout
layout z = record {
  counters = length z.starts;
  seats = z.seats;
  root = root z;
  starts = λ c. slice_index_or z.starts c 0;
}

-- where a word lies: first the counters, each in a cache line of its own, which is eight words long, then the
-- lock of each root, then the waiter word of each, then the grants
abbrev pub address : Setting → Word → ℕ
address z (Counter c) = 8 * c
address z (Lock c) = 8 * length z.starts + root z c
address z (Waiters c) = 8 * length z.starts + z.roots + root z c
address z (Grant s) = 8 * length z.starts + z.roots + z.roots + s

-- the word that lies at an address: a lock and a waiter word by the root's own number, which is its own root
abbrev pub word_at : Setting → ℕ → Word
word_at z i =
    let counters = 8 * length z.starts in
    if nat_lt i counters then Counter (i / 8)
    else if nat_lt i (counters + z.roots) then Lock (i - counters)
    else if nat_lt i (counters + z.roots + z.roots) then Waiters (i - (counters + z.roots))
    else Grant (i - (counters + z.roots + z.roots))

-- where the words end that the world has
abbrev pub words_shown : Setting → ℕ
words_shown z = 8 * length z.starts + z.roots + z.roots + z.seats

-- behind them lie words of which the world knows nothing. One of each seat is above 0 while the seat's thread
-- sleeps
abbrev pub asleep_address : Setting → ℕ → ℕ
asleep_address z s = words_shown z + s

-- and one tells how many waits of late the seat looked for a grant in vain
abbrev pub misses_address : Setting → ℕ → ℕ
misses_address z s = words_shown z + (z.seats + s)

-- one of each root counts the threads that sleep at its lock
abbrev pub sleepers_address : Setting → ℕ → ℕ
sleepers_address z c = words_shown z + (z.seats + z.seats + root z c)

-- how many words there are
abbrev pub words_in : Setting → ℕ
words_in z = words_shown z + z.seats + z.seats + z.roots

-- numbers that lie a cache line apart
abbrev pub apart : List ℕ → List ℕ
apart [] = []
apart (n ∷ ns) = n ∷ 0 ∷ 0 ∷ 0 ∷ 0 ∷ 0 ∷ 0 ∷ 0 ∷ apart ns

-- the word is there
abbrev pub IsThere : Setting → Word → Type 0
IsThere z (Counter c) = c < length z.starts
IsThere z (Grant s) = s < z.seats
IsThere z _ = Unit {0}
