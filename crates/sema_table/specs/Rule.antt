-- What words and records at home show of a world of semaphores, and what a seat knows of it.
use Rattle.std.specs.Prelude.{◌≡◌, ℕ, zero, suc, ◌+◌, ◌%◌, ◌^◌, ◌<◌, ◌≤◌, true, false, List, length, map, slice_index}
use mathlib.Core.Option.{Option, some}
use lib.ListN.{get_elem?}
use Rattle.waiters.specs.declared.wait.WaitId.{WaitId}
use Rattle.step_table.specs.declared.entry.Entry.{Entry}
use Rattle.step_table.specs.declared.word.Word.{Word}
use Rattle.step_table.specs.World.{Words, SemaWorld, SeatState, found}
use Rattle.step_table.specs.Steps.{IsReached}
use Rattle.step_table.specs.Path.{Meets}
use Rattle.step_table.specs.Counting.{total, on}
use Rattle.step_table.specs.Journal.{plain_start, replay, takes}
use Rattle.step_law_semaphores.specs.Lawful.{holds}
use Rattle.step_law_semaphores.specs.Bounds.{IsSmall}
use Rattle.step_law_semaphores.specs.Served.{served}
use Rattle.step_law_semaphores.specs.SemaPath.{SemaSight, semaphores}
use Rattle.sema_root.specs.Queues.{waits_on}
use Rattle.sema_root.specs.Queues as queues
use Rattle.sema_root.specs.Treap.{Treap, Tickets, queues_of, drawn_from, tickets_from}
use Rattle.sema_table.specs.declared.settings.Settings.{Settings}
use Rattle.sema_table.specs.declared.settings.TableKey.{TableKey}
use Rattle.sema_table.specs.declared.view.Known.{Known}
use Rattle.sema_table.specs.declared.view.Setting.{Setting}
use Rattle.sema_table.specs.declared.view.Record.{Record}
use Rattle.sema_table.specs.declared.view.Record.TheVariants.{Root}
use Rattle.sema_table.specs.Setting.{root, layout, address, words_in, IsThere}

-- what the words of a table with these settings are made with: threads sleep there, or none does
abbrev pub for_threads : Settings → TableKey
for_threads k = record { settings = k; has_threads = true }

abbrev pub for_tasks : Settings → TableKey
for_tasks k = record { settings = k; has_threads = false }

abbrev pub setting_of : TableKey → Setting
setting_of k = record {
  starts = k.settings.starts.items;
  roots = k.settings.roots;
  seats = k.settings.seats;
  limit = k.settings.release_limit;
  seed = k.settings.seed;
  has_threads = k.has_threads;
}

-- how a seat stands, and what it has seen
abbrev pub stands_by : Known → SeatState
stands_by v = record { place = v.place; turn = v.turn; hand = v.hand }

abbrev pub sight_by : Known → SemaSight
sight_by v = record { stands = stands_by v; seen = v.seen }

-- the same with another sight
abbrev pub seeing : SemaSight → Known → Known
seeing w v = record v { place = w.stands.place; turn = w.stands.turn; hand = w.stands.hand; seen = w.seen }

-- the lists as a journal tells them
abbrev pub lists_by : Setting → List Entry → ℕ → List WaitId
lists_by z journal = (replay (plain_start (layout z).starts) journal).lists

-- the seat k of a table made so may meet this world. While it holds a root's lock, the lists of the root are
-- those that it has seen, since nobody else changes them. The units taken for it are those that it has come
-- by, and those served to it since
pub record Knows (z : Setting) (k : ℕ) (v : Known) (s : SemaWorld) : Type 0 where
  pub meets : Meets (semaphores (layout z)) s k (sight_by v)
  pub held : (c : ℕ) → holds (root z) (root z c) v.place ≡ 1 → lists_by z v.seen c ≡ s.words.lists c
  pub takes : takes k s.journal ≡ v.taken + served (layout z) s k

-- these tickets, after so many were drawn
abbrev pub drawn_after : ℕ → Tickets → Tickets
drawn_after zero tickets = tickets
drawn_after (suc n) tickets = drawn_from (drawn_after n tickets).generator

-- from what the root r draws: the seed plus its number
abbrev pub root_seed : Setting → ℕ → ℕ
root_seed z r = (z.seed + r) % 2 ^ 64

-- the record of the root r has these lists, room for a wait of each seat, and its tickets from its own seed
pub record IsRecord (z : Setting) (r : ℕ) (treap : Treap) (lists : ℕ → List WaitId) : Type 0 where
  pub waits : (c : ℕ) → root z c ≡ r → map (λ wait. wait.id) (waits_on (queues_of treap.tree) c) ≡ lists c
  pub count : queues.total (queues_of treap.tree)
      ≡ total (length z.starts) (λ c. on (root z c) r (length (lists c)))
  pub seats : treap.seats ≡ z.seats
  pub drawn : (n : ℕ) × (treap.tickets ≡ drawn_after n (tickets_from (root_seed z r)))

abbrev pub Homes : Type 0
Homes = List (Option Record)

-- the record of the root r is at home
abbrev pub AtHome : Setting → Words → Homes → ℕ → Type 0
AtHome z g homes r =
    (treap : Treap) × (get_elem? homes r ≡ some (some (Root treap))) × IsRecord z r treap g.lists

-- each word is what the reached world has there, and the record of each root whose lock is free is at home
pub record ShowsWorld (z : Setting) (world : SemaWorld) (ws : List ℕ) (hs : Homes) : Type 0 where
  pub reached : IsReached (layout z) world
  pub small : IsSmall (layout z) z.limit world
  pub words : (w : Word) → IsThere z w → slice_index ws (address z w) ≡ found (root z) world.words w
  pub homes : (r : ℕ) → r < z.roots → world.words.locks r ≡ 0 → AtHome z world.words hs r
  pub wide : length ws ≡ words_in z
  pub deep : length hs ≡ z.roots
  pub rooted : 0 < z.roots
  pub counted : length z.starts ≤ 65536
