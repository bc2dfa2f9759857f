-- What the rule says of a table between any two steps of its threads.
use Rattle.std.specs.Prelude.{◌≡◌, ℕ, ◌<◌, ◌≤◌, List, [], length, slice_index}
use Rattle.std.specs.List.{All}
use mathlib.Core.Option.{some}
use lib.ListN.{get_elem?}
use Rattle.running_rows.specs.Table.{State}
use Rattle.step_table.specs.declared.word.Word.TheVariants.{Counter, Lock, Waiters, Grant}
use Rattle.step_table.specs.World.{SemaWorld}
use Rattle.step_table.specs.Steps.{IsReached}
use Rattle.step_law_semaphores.specs.Lawful.{IsLawfulWorld}
use Rattle.step_law_semaphores.specs.Bounds.{IsSmall}
use Rattle.step_law_semaphores.specs.Entries.{IsNamed}
use Rattle.step_law_semaphores.specs.SemaPath.{SemaStride}
use Rattle.running_rows.specs.History.{SeatStride, Writes}
use Rattle.running_rows.specs.Rule.{In, IsSomeones, IsSeated, HasSeats}
use Rattle.sema_table.specs.declared.view.Record.{Record}
use Rattle.sema_table.specs.declared.view.Setting.{Setting}
use Rattle.sema_table.specs.declared.settings.TableKey.{TableKey}
use Rattle.sema_table.specs.Setting.{root, layout, address, words_in}
use Rattle.sema_table.specs.Rule.{setting_of, Knows, AtHome}
use Rattle.sema_table.specs.Rows.{SemaView, semaphore_rows, fresh}

-- each word and the records at home are those of this world. The strides of all seats told its journal, one
-- after the other, and each is of a seat that was made. Each view that isn't spent is that of a seat there,
-- and of the seats that sit with it, each seat in one view: it went its strides, stands so, has seen a
-- beginning of the journal with all entries that it alone can tell, knows the lists of a root whose lock it
-- holds, and has come by the units that were taken for it, but for those served to it since. Each seat that
-- was made sits somewhere; those that aren't yet have seen nothing and run nothing
pub record Shows (z : Setting) (s : State Record SemaView) (world : SemaWorld) : Type 0 where
  pub numbers : (c : ℕ) → c < length z.starts
      → slice_index s.words (address z (Counter c)) ≡ world.words.numbers c
  pub locks : (c : ℕ) → slice_index s.words (address z (Lock c)) ≡ world.words.locks (root z c)
  pub waiters : (c : ℕ) → slice_index s.words (address z (Waiters c)) ≡ world.words.waiters (root z c)
  pub grants : (k : ℕ) → k < z.seats → slice_index s.words (address z (Grant k)) ≡ world.words.grants k
  pub homes : (r : ℕ) → r < z.roots → world.words.locks r ≡ 0 → AtHome z world.words s.homes r
  pub history : List (SeatStride SemaStride)
  pub writes : Writes semaphore_rows [] history world.journal
  pub made : ℕ
  pub by_seats : (m : SeatStride SemaStride) → In m history → m.seat < made
  pub spot : ℕ → ℕ
  pub views : (j : ℕ) (v : SemaView) → get_elem? s.views j ≡ some v → IsSomeones semaphore_rows v
      → HasSeats semaphore_rows z world history spot made j v
  pub seated : (k : ℕ) → k < made → IsSeated semaphore_rows s.views (spot k) k
  pub unmade : (k : ℕ) → made ≤ k → k < z.seats → Knows z k (fresh z) world
  pub wide : length s.words ≡ words_in z
  pub deep : length s.homes ≡ z.roots

-- a world that the steps of the table's seats lead to is lawful, and the table shows it. Its journal names
-- seats and counters that are there, and the units that a seat has added and the waits that it has withdrawn are
-- together at most its share
pub record IsLawfulTable (z : Setting) (s : State Record SemaView) : Type 0 where
  pub world : SemaWorld
  pub reached : IsReached (layout z) world
  pub small : IsSmall (layout z) z.limit world
  pub lawful : IsLawfulWorld (layout z) world
  pub named : All (IsNamed (layout z)) world.journal
  pub shows : Shows z s world

-- a table of which such a rule holds is lawful
abbrev pub MakesLawful : (TableKey → State Record SemaView → Type 0) → Type 0
MakesLawful holds =
    (key : TableKey) (s : State Record SemaView) → holds key s → IsLawfulTable (setting_of key) s
