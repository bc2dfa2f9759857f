-- What the journal of a notify list tells of its grants: each is of the least ticket that is neither granted nor
-- gone alone, or of all such that were handed out when L5 read the wait word. And of its leaves: each is of the
-- ticket of a seat that slept.
use Rattle.std.specs.Prelude.{◌≡◌, ℕ, ◌+◌, ◌<◌, ◌⊎◌, List, ◌∷◌, ◌++◌}
use Rattle.waiters.specs.declared.wait.Wait.{Wait}
use Rattle.step_table.specs.declared.list_place.AllRow.TheVariants.{L5, L6}
use Rattle.step_table.specs.declared.list_place.ListEffect.TheVariants.{Grants, Forgoes}
use Rattle.step_table.specs.declared.list_place.ListParkedRow.TheVariants.{E3}
use Rattle.step_table.specs.declared.list_place.ListPlace.TheVariants.{Waiting, NotifyingOne, NotifyingAll}
use Rattle.step_table.specs.declared.list_place.OneRow.TheVariants.{O7}
use Rattle.step_table.specs.declared.list_place.Reach.{Reach}
use Rattle.step_table.specs.declared.list_place.Ticket.{Ticket}
use Rattle.step_table.specs.declared.list_place.WaitRow.TheVariants.{Parked}
use Rattle.step_table.specs.Wrapping.{word_of}
use Rattle.step_table.specs.ListTable.{wait_for}
use Rattle.step_table.specs.ListWorld.{ListEntry, Granted, Forgone, ListWorld}
use Rattle.step_table.specs.ListSteps.{Leads, IsListReached, effect_of}
use Rattle.step_law_lists.specs.ListLawful.{told, times}

-- the seat k, which stands at L6 in s, stood at L5 in an earlier world, in which so many tickets were handed
-- out as it read. None was granted since, and none has gone
pub record HasRead (first seats : ℕ) (s : ListWorld) (k h : ℕ) (r : Reach) : Type 0 where
  pub earlier : ListWorld
  pub reached : IsListReached first seats earlier
  pub since : Leads seats earlier s
  pub stood : (earlier.seats k).place ≡ NotifyingAll h (L5 r.notified)
  pub handed : r.handed ≡ (told earlier.journal).handed
  pub passed : (told s.journal).passed ≡ (told earlier.journal).passed
  pub gone : (told s.journal).gone ≡ (told earlier.journal).gone

-- the row of seat k grants tickets, up to this many: by O7 the least that is neither granted nor gone alone, or by
-- L6 all such that were handed out when its L5 read the wait word
abbrev pub RowGrants : ℕ → ℕ → ListWorld → ℕ → ℕ → Type 0
RowGrants first seats s k upto =
    ((h t : ℕ) × ((s.seats k).place ≡ NotifyingOne h (O7 t))
    × (upto ≡ (told s.journal).passed + 1) × (t ≡ word_of first (told s.journal).passed))
    ⊎ ((h : ℕ) × (r : Reach) × ((s.seats k).place ≡ NotifyingAll h (L6 r)) × (upto ≡ r.handed)
    × HasRead first seats s k h r)

-- each row that grants does so
abbrev pub RowsGrantLeast : ℕ → ℕ → ListWorld → Type 0
RowsGrantLeast first seats s =
    (k upto : ℕ) → k < seats → effect_of s k ≡ Grants upto → RowGrants first seats s k upto

-- seat k granted so by a row of its own, which it ran when the journal was this
pub record IsGrantAfter (first seats : ℕ) (before : List ListEntry) (upto k : ℕ) : Type 0 where
  pub there : k < seats
  pub world : ListWorld
  pub reached : IsListReached first seats world
  pub journal : world.journal ≡ before
  pub row : RowGrants first seats world k upto

-- each grant of the journal is such a one
abbrev pub EachGrantsLeast : ℕ → ℕ → List ListEntry → Type 0
EachGrantsLeast first seats journal =
    (before after : List ListEntry) (upto k : ℕ) → journal ≡ before ++ Granted upto k ∷ after
    → IsGrantAfter first seats before upto k

-- by the row of seat k the ticket of number n goes: its own, with which it is parked, and whose wait is in the list
abbrev pub RowGoes : ℕ → ListWorld → ℕ → ℕ → Type 0
RowGoes first s k n =
    (t : Ticket) × (v : ℕ) × ((s.seats k).place ≡ Waiting t (Parked (E3 v))) × (n ≡ t.number)
    × (t.word ≡ word_of first t.number) × (0 < times (wait_for k t) s.words.queue)

-- each row by which a ticket goes is such a one
abbrev pub RowsGo : ℕ → ℕ → ListWorld → Type 0
RowsGo first seats s =
    (k : ℕ) (w : Wait) → k < seats → effect_of s k ≡ Forgoes w → RowGoes first s k w.id.turn

-- seat k left so by a row of its own, which it ran when the journal was this
pub record IsLeaveAfter (first seats : ℕ) (before : List ListEntry) (n k : ℕ) : Type 0 where
  pub there : k < seats
  pub world : ListWorld
  pub reached : IsListReached first seats world
  pub journal : world.journal ≡ before
  pub row : RowGoes first world k n

-- each leave of the journal is such a one
abbrev pub EachGoes : ℕ → ℕ → List ListEntry → Type 0
EachGoes first seats journal =
    (before after : List ListEntry) (n k : ℕ) → journal ≡ before ++ Forgone n k ∷ after
    → IsLeaveAfter first seats before n k
