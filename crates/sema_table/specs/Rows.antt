-- The rows of a table: those of the step table, in one reached world.
use Rattle.std.specs.Prelude.{◌≡◌, ℕ, ◌+◌, ◌^◌, ◌<◌, ◌≤◌, true, false, [], refl}
use Rattle.running_rows.specs.Table as atomic
use Rattle.step_table.specs.declared.entry.Entry.{Entry}
use Rattle.step_table.specs.declared.place.Place.{Place}
use Rattle.step_table.specs.declared.place.Place.TheVariants.{Rest}
use Rattle.step_table.specs.declared.word.Word.{Word}
use Rattle.step_table.specs.World.{SemaWorld, SeatState}
use Rattle.step_table.specs.Event.{Next}
use Rattle.step_table.specs.Counting.{counter_at}
use Rattle.step_table.specs.Journal.{takes}
use Rattle.step_table.specs.Path.{Deed, runs, looks}
use Rattle.step_law_semaphores.specs.Lawful.{holds}
use Rattle.step_law_semaphores.specs.Served.{gains}
use Rattle.step_law_semaphores.specs.SemaPath.{SemaStride, semaphores, plain_before, row_event}
use Rattle.sema_root.specs.Treap.{Treap}
use Rattle.running_rows.specs.declared.view.View.{View}
use Rattle.running_rows.specs.declared.view.Seated.{Seated}
use Rattle.running_rows.specs.Family.{Family}
use Rattle.sema_table.specs.declared.settings.TableKey.{TableKey}
use Rattle.sema_table.specs.declared.view.Known.{Known}
use Rattle.sema_table.specs.declared.view.Setting.{Setting}
use Rattle.sema_table.specs.declared.view.Record.{Record}
use Rattle.sema_table.specs.declared.view.Record.TheVariants.{Root}
use Rattle.sema_table.specs.Setting.{root, layout, address, word_at}
use Rattle.sema_table.specs.Futexes.{IsTableFutex}
use Rattle.sema_table.specs.Places.{is_free}
use Rattle.sema_table.specs.Changes.{changes, most_changes}
use Rattle.sema_table.specs.Rule.{setting_of, sight_by, lists_by, Knows, IsRecord, ShowsWorld}

-- how many units a seat comes by that goes from the one place to the other by this deed
abbrev pub gains_by : Deed Word → Place → Place → ℕ
gains_by runs from to = gains from to
gains_by (looks w) from to = 0

-- the slot is that of the root of the call's counter, and the root in it has the lists that the seat has seen
abbrev pub IsHeld : Known → ℕ → Record → Type 0
IsHeld v slot y =
    let r = root v.setting (counter_at v.place) in
    (treap : Treap) × (slot ≡ r) × (y ≡ Root treap) × IsRecord v.setting r treap (lists_by v.setting v.seen)

-- what else a stride tells. What the seat k had seen of a root whose lock it holds was so still. Where it may
-- begin a call, it has come by all units that it has seen taken for it. A counter has changed only so often
pub record Beside (k : ℕ) (v : Known) (p : SemaStride) (w : Known) : Type 0 where
  pub came : w.taken ≡ v.taken + gains_by p.deed v.place w.place
  pub most : w.taken ≤ 2 ^ 62 + 2 ^ 48
  pub counted : is_free w.place ≡ true → takes k w.seen ≡ w.taken
  pub held : (c : ℕ) → holds (root v.setting) (root v.setting c) v.place ≡ 1
      → (plain_before (layout v.setting) p).lists c ≡ lists_by v.setting v.seen c
  pub few : w.turn ≤ 2 ^ 62 + 2 ^ 16
  pub settles : (c : ℕ) → changes c w.seen ≤ most_changes
  pub there : k < v.setting.seats

-- the stride is a row that stored this number at this address
abbrev pub HasStored : Setting → SemaStride → ℕ → ℕ → Type 0
HasStored z p i x =
    (p.deed ≡ runs)
    × ((k : ℕ) × (address z (row_event (layout z) k p).word ≡ i)
    × ((row_event (layout z) k p).becomes p.read ≡ x))

-- a seat that has run nothing
abbrev pub fresh : Setting → Known
fresh z = record { setting = z; place = Rest; turn = 0; hand = []; seen = []; taken = 0 }

abbrev pub nowhere : Setting
nowhere = record { starts = []; roots = 0; seats = 0; limit = 0; seed = 0; has_threads = false }

abbrev pub semaphore_rows : Family Record Known SemaStride TableKey
semaphore_rows = record {
  Key = Setting;
  World = SemaWorld;
  Word = Word;
  Value = ℕ;
  Next = Next;
  Stands = SeatState;
  Entry = Entry;
  key = setting_of;
  seats = λ z. z.seats;
  of = λ v. v.setting;
  watched = λ z. semaphores (layout z);
  sight = sight_by;
  stride = λ p. p;
  value = λ n. n;
  word_at = word_at;
  fresh = fresh;
  nobody = fresh nowhere;
  Shows = ShowsWorld;
  Knows = λ z u s. Knows z u.number u.knows s;
  IsHeld = IsHeld;
  Also = λ s. Beside;
  HasStored = HasStored;
  HasGiven = λ p slots. Unit {0};
  IsFutex = IsTableFutex;
  has_threads = λ z. z.has_threads;
  MayPass = λ v. ⊥;
  fresh_is = λ z. refl;
  nobody_is = refl;
}

-- one seat, the view of a token, and the token's view with the slots that it holds
abbrev pub SemaSeat : Type 0
SemaSeat = Seated Known SemaStride

abbrev pub SemaView : Type 0
SemaView = View Known SemaStride

abbrev pub Me : Type 0
Me = atomic.Me Record SemaView
