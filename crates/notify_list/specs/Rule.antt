-- What the words and the record of a running notify list show, and what a seat knows: a reached world of the
-- step table.
use Rattle.std.specs.Prelude.{◌≡◌, ℕ, ◌+◌, ◌<◌, ◌≤◌, ◌^◌, nat_lt, List, [], length, vec_capacity, slice_index, None}
use mathlib.Core.Option.{Option, some}
use lib.ListN.{get_elem?}
use Rattle.waiters.specs.declared.wait.Wait.{Wait}
use Rattle.waiters.specs.Lists.{IsOpen, waits_at}
use Rattle.step_table.specs.declared.list_place.ListEffect.{ListEffect}
use Rattle.step_table.specs.declared.list_place.ListParkedRow.{ListParkedRow}
use Rattle.step_table.specs.declared.list_place.ListPlace.TheVariants.{Rest, Waiting}
use Rattle.step_table.specs.declared.list_place.Ticket.{Ticket}
use Rattle.step_table.specs.declared.list_place.WaitRow.TheVariants.{Parked}
use Rattle.step_table.specs.declared.list_place.ListWord.{ListWord}
use Rattle.step_table.specs.ListErased.{erased_waits}
use Rattle.step_table.specs.ListWorld.{ListWords, ListSeat, ListEntry, ListWorld, found, numbers_after, queue_after}
use Rattle.step_table.specs.ListEvent.{ListNext}
use Rattle.step_table.specs.ListSteps.{IsListReached}
use Rattle.step_table.specs.ListTable.{wait_for}
use Rattle.step_table.specs.Path.{Watched, Meets, sight}
use Rattle.step_law_lists.specs.ListLawful.{holds, times, times_forgone, IsInReach}
use Rattle.step_law_lists.specs.ListPath.{notify_list}
use Rattle.notify_list.specs.declared.view.Known.{Known}
use Rattle.notify_list.specs.declared.view.Setting.{Setting}
use Rattle.notify_list.specs.declared.view.Record.{Record}
use Rattle.notify_list.specs.LiveTickets.{AreLive}
use Rattle.notify_list.specs.Setting.{address, words_in, IsThere}
use Rattle.notify_list.specs.Places.{GoesEarly}

-- a list made so, as the law of its paths has it
abbrev pub watched : Setting → Watched ListWorld ListWord ℕ ListNext ListSeat ListEntry
watched z = notify_list z.first z.seats

-- the worlds to which the steps of its seats lead. A ticket that has gone was one of the first 2^60, and not
-- passed. So a seat goes only with such a ticket, and if it never looked at a late one; while the wait of such a
-- seat is queued few tickets are passed, and nobody has looked at a late one
pub record IsMet (z : Setting) (s : ListWorld) : Type 0 where
  pub reached : IsListReached z.first z.seats s
  pub reach : IsInReach s.journal
  pub early : (n : ℕ) → 2 ^ 60 ≤ n → times_forgone n s.journal ≡ 0
  pub going : (k : ℕ) → k < z.seats → GoesEarly (s.seats k).place (s.seats k).late
  pub parked : (k : ℕ) (t : Ticket) (row : ListParkedRow) → k < z.seats → (s.seats k).place ≡ Waiting t (Parked row)
      → t.number < 2 ^ 60 → (s.seats k).late ≡ 0 → 0 < times (wait_for k t) s.words.queue
      → s.words.numbers.passed ≤ 2 ^ 62

-- what lies under the lock: the list of waits, the number of the first ticket that is neither granted nor gone,
-- and the gone ones after it
pub record Guarded : Type 0 where
  pub queue : List Wait
  pub passed : ℕ
  pub gone : List ℕ

abbrev pub guarded_in : ListWords → Guarded
guarded_in g = record { queue = g.queue; passed = g.numbers.passed; gone = g.numbers.gone }

abbrev pub guarded_by : Known → Guarded
guarded_by v = record { queue = v.queue; passed = v.passed; gone = v.gone }

-- as a list is made
abbrev pub nothing_guarded : Guarded
nothing_guarded = record { queue = []; passed = 0; gone = [] }

-- that after a row
abbrev pub guarded_after : ListEffect → ListWords → Guarded
guarded_after e g =
    record { queue = queue_after e g.queue; passed = (numbers_after e g.numbers).passed; gone = (numbers_after e g.numbers).gone }

-- the seat i of a list made so may meet this world. While it holds the lock it knows what lies under it
pub record Knows (z : Setting) (i : ℕ) (v : Known) (s : ListWorld) : Type 0 where
  pub meets : Meets (watched z) s i v.sight
  pub held : holds v.sight.stands.place ≡ 1 → guarded_by v ≡ guarded_in s.words

-- this is what the seat i knows in a world that is met
pub record Lands (i : ℕ) (v : Known) : Type 0 where
  pub world : ListWorld
  pub met : IsMet v.setting world
  pub sees : v.sight ≡ sight (watched v.setting) world i
  pub guarded : guarded_by v ≡ guarded_in world.words

-- the record has these waits, whose tickets' numbers aren't stored, and room for those of all other seats; it
-- tells which tickets are gone, with room for a live one a seat; and it may tell that few are passed
pub record IsRecord (z : Setting) (y : Record) (g : Guarded) : Type 0 where
  pub opened : IsOpen y.lists y.key
  pub waits : waits_at y.lists y.key ≡ erased_waits g.queue
  pub room : y.lists.room + length g.queue ≡ z.seats
  pub live : AreLive z.first y.live g.passed g.gone
  pub fits : z.seats ≤ vec_capacity y.live.words
  pub early : y.early ≡ nat_lt g.passed (2 ^ 60)

abbrev pub Homes : Type 0
Homes = List (Option Record)

-- the record is at home
abbrev pub AtHome : Setting → ListWords → Homes → Type 0
AtHome z g homes = (y : Record) × (get_elem? homes 0 ≡ some (some y)) × IsRecord z y (guarded_in g)

-- the world is met, each word is what it has there, and the record is at home while the lock is free
pub record Shows (z : Setting) (s : ListWorld) (numbers : List ℕ) (homes : Homes) : Type 0 where
  pub met : IsMet z s
  pub words : (w : ListWord) → IsThere z w → slice_index numbers (address w) ≡ found s.words w
  pub home : s.words.lock ≡ 0 → AtHome z s.words homes
  pub wide : length numbers ≡ words_in z
  pub deep : length homes ≡ 1
  pub few : z.seats ≤ 65536

-- what a seat knows that has run nothing
abbrev pub fresh : Setting → Known
fresh z =
    record {
      setting = z;
      sight = record { stands = record { place = Rest; ticket = None; hand = []; late = 0 }; seen = [] };
      queue = [];
      passed = 0;
      gone = [];
    }
