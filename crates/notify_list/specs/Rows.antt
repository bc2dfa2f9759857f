-- The rows of a running notify list.
use Rattle.std.specs.Prelude.{◌≡◌, ℕ, zero, suc, ◌<◌, false, refl}
use Rattle.step_table.specs.declared.list_place.AllRow.TheVariants.{L8}
use Rattle.step_table.specs.declared.list_place.ListPlace.TheVariants.{NotifyingAll}
use Rattle.step_table.specs.declared.list_place.ListWord.{ListWord}
use Rattle.step_table.specs.declared.list_place.ListWord.TheVariants.{Wait, Notify, Lock, Grant}
use Rattle.step_table.specs.EventOf.{store}
use Rattle.step_table.specs.ListEvent.{ListNext}
use Rattle.step_table.specs.ListTable.{list_table}
use Rattle.step_table.specs.ListWorld.{ListWords, ListSeat, ListEntry, ListWorld}
use Rattle.step_table.specs.ListSteps.{turned}
use Rattle.step_table.specs.Path.{Deed, runs, looks}
use Rattle.step_law_lists.specs.ListLawful.{holds}
use Rattle.step_law_lists.specs.ListPath.{ListStride}
use Rattle.running_rows.specs.Family.{Family}
use Rattle.notify_list.specs.declared.view.Known.{Known}
use Rattle.notify_list.specs.declared.view.Setting.{Setting}
use Rattle.notify_list.specs.declared.view.Record.{Record}
use Rattle.notify_list.specs.Setting.{address}
use Rattle.notify_list.specs.Futexes.{IsFutex}
use Rattle.notify_list.specs.Rule.{watched, Guarded, guarded_in, guarded_by, IsMet, Knows, Lands, IsRecord, Shows, fresh}

-- the word at this address
abbrev pub word_at : ℕ → ListWord
word_at zero = Wait
word_at (suc zero) = Notify
word_at (suc (suc zero)) = Lock
word_at (suc (suc (suc s))) = Grant s

-- what lies under the lock after the deed of the seat i in this world
abbrev pub guarded_left : ListWorld → ℕ → Deed ListWord → Guarded
guarded_left s i runs = guarded_in (turned s i).words
guarded_left s i (looks w) = guarded_in s.words

-- what the seat i knew of what lies under the lock, which it held, was so still in this world, which is met, and
-- it knows what became of it
pub record Beside (s : ListWorld) (i : ℕ) (v : Known) (p : ListStride) (w : Known) : Type 0 where
  pub held : holds v.sight.stands.place ≡ 1 → guarded_by v ≡ guarded_in s.words
  pub left : guarded_by w ≡ guarded_left s i p.deed
  pub met : IsMet v.setting s
  pub lands : Lands i w
  pub there : i < v.setting.seats

-- the row ran of a seat that stood so, and it is a store of x in the word that lies there
pub record HasStored (p : ListStride) (place x : ℕ) : Type 0 where
  pub ran : p.deed ≡ runs
  pub seat : ℕ
  pub words : ListWords
  pub word : ListWord
  pub next : ListNext
  pub row : list_table seat p.stood words ≡ store word x next
  pub lies : address word ≡ place

-- a list of no seats
abbrev pub no_list : Setting
no_list = record { first = 0; seats = 0; has_threads = false }

-- who grants one by one, after it took out all waits, may leave wake-ups to those that it wakes
abbrev pub MayPass : Known → Type 0
MayPass v = (h : ℕ) × (v.sight.stands.place ≡ NotifyingAll h L8)

abbrev pub list_rows : Family Record Known ListStride Setting
list_rows = record {
  Key = Setting;
  World = ListWorld;
  Word = ListWord;
  Value = ℕ;
  Next = ListNext;
  Stands = ListSeat;
  Entry = ListEntry;
  key = λ z. z;
  seats = λ z. z.seats;
  of = λ v. v.setting;
  watched = watched;
  sight = λ v. v.sight;
  stride = λ p. p;
  value = λ n. n;
  word_at = λ z i. word_at i;
  fresh = fresh;
  nobody = fresh no_list;
  Shows = Shows;
  Knows = λ z u. Knows z u.number u.knows;
  IsHeld = λ v slot y. (slot ≡ 0) × IsRecord v.setting y (guarded_by v);
  Also = Beside;
  HasStored = λ z. HasStored;
  HasGiven = λ p slots. Unit {0};
  IsFutex = IsFutex;
  has_threads = λ z. z.has_threads;
  MayPass = MayPass;
  fresh_is = λ z. refl;
  nobody_is = refl;
}
