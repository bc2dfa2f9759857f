-- The row that takes the lock, and what comes of it.
use Rattle.std.proofs.Common.{◌≡◌, ◌≢◌, ℕ, ◌==◌, Bool, true, false, MatchBool, [], ◌∷◌, refl, ap, ◌∙◌}
use prog.Atomic.{either}
use Rattle.step_table.specs.declared.list_place.AllRow.TheVariants.{L3}
use Rattle.step_table.specs.declared.list_place.ListPlace.{ListPlace}
use Rattle.step_table.specs.declared.list_place.ListPlace.TheVariants.{Waiting, NotifyingOne, NotifyingAll}
use Rattle.step_table.specs.declared.list_place.OneRow.TheVariants.{O3}
use Rattle.step_table.specs.declared.list_place.WaitRow.TheVariants.{W1}
use Rattle.step_table.specs.ListWorld.{ListWords, ListSeat}
use Rattle.step_table.specs.ListTable.{list_event_at}
use Rattle.step_table.specs.ListSteps.{seat_after}
use Rattle.step_law_lists.specs.ListLawful.{holds}
use Rattle.step_law_lists.specs.ListPath.{entries_of}
use Rattle.notify_list.specs.declared.view.Setting.{Setting}
use Rattle.notify_list.specs.Places.{at_place, waiting, takes_lock, locked}
use Rattle.running_rows.specs.Strides.{Took, FoundHeld}
use Rattle.running_rows.specs.Owing.{Owes}
use Rattle.running_rows.proofs.Telling.{went_from}
use Rattle.notify_list.specs.Rows.{list_rows}
use Rattle.notify_list.specs.Plays.{Me, standing, at_wait}
use Rattle.notify_list.specs.Seats.{ListModel, Token, setting_of, stands_of}
use Rattle.notify_list.specs.Walks.{MayLock, Locked, SawHeld}
use Rattle.notify_list.proofs.Keeping.{Fits}
use Rattle.notify_list.proofs.Allowing.{row_takes}
use Rattle.notify_list.proofs.Leading.{Ran, Led, led}
use Rattle.notify_list.proofs.Walking.{walked_row}

locking_fits : (z : Setting) (i : ℕ) (a : ListSeat) (g : ListWords) (p : ListPlace) → takes_lock p ≡ true → Fits z (list_event_at i a g p) 2 0 1
locking_fits z i a g (Waiting t W1) e = record { word = refl; there = tt; can = refl; becomes = refl }
locking_fits z i a g (NotifyingOne h O3) e = record { word = refl; there = tt; can = refl; becomes = refl }
locking_fits z i a g (NotifyingAll h L3) e = record { word = refl; there = tt; can = refl; becomes = refl }
locking_fits z i a g _ e = absurd (cc)

locking_free : (p : ListPlace) → takes_lock p ≡ true → holds p ≡ 0
locking_free (Waiting t W1) e = refl
locking_free (NotifyingOne h O3) e = refl
locking_free (NotifyingAll h L3) e = refl
locking_free _ e = absurd (cc)

locked_seat : (i : ℕ) (a : ListSeat) (g : ListWords) (p : ListPlace) → takes_lock p ≡ true
    → seat_after g ((list_event_at i a g p).leads 0) (at_place p a) ≡ at_place (locked p) a
locked_seat i a g (Waiting t W1) e = refl
locked_seat i a g (NotifyingOne h O3) e = refl
locked_seat i a g (NotifyingAll h L3) e = refl
locked_seat i a g _ e = absurd (cc)

locked_told : (i : ℕ) (a : ListSeat) (g : ListWords) (p : ListPlace) → takes_lock p ≡ true → entries_of i ((list_event_at i a g p).leads 0).1 ≡ []
locked_told i a g (Waiting t W1) e = refl
locked_told i a g (NotifyingOne h O3) e = refl
locked_told i a g (NotifyingAll h L3) e = refl
locked_told i a g _ e = absurd (cc)

-- what taking the lock owes
pub lock_owes : (k : Setting) (l : ListModel) (s : Token) → MayLock l s
    → Owes list_rows k s.me 2 (λ n. either (n == 0) 1 n) (λ n t. (n ≢ 0 → t ≡ s.me) × (n ≡ 0 → Took list_rows at_wait s.me t))
lock_owes k l s may = row_takes s.me (waiting (stands_of s)) may.begins at_wait refl
    (λ w. record {
      fits = locking_fits (setting_of s) s.me.0.own.number (waiting (stands_of s)) w.words (waiting (stands_of s)).place may.takes;
      free = locking_free (waiting (stands_of s)).place may.takes;
    }) k

pub has_locked : (l : ListModel) (s t : Token) → MayLock l s → Took list_rows at_wait s.me t.me → t.table_id ≡ s.table_id → Locked s t
has_locked l s t may T same =
    let a : ListSeat = waiting (stands_of s) in
    let r : Ran a s.me.0.own 0 t.me.0.own = went_from list_rows at_wait (standing a) s.me.0.own t.me.0.own 0 refl T.0 in
    let d : Led a s.me.0.own 0 t.me.0.own r.stride = led a s.me.0.own t.me.0.own 0 r in
    let slots : t.me.1 ≡ (0, T.1.1) ∷ [] = ap (λ (m : Me). m.1) T.1.2 ∙ (λ i. (T.1.3.0 i, T.1.1) ∷ may.bare i) in record {
      walked = walked_row s t a 0 (at_place (locked a.place) a) [] r same
          (d.stands ∙ locked_seat s.me.0.own.number a d.world.words a.place may.takes)
          (d.told ∙ locked_told s.me.0.own.number a d.world.words a.place may.takes);
      record_is = (T.1.1, slots, T.1.3.1);
    }

-- the lock was taken, or found held
pub has_tried : (l : ListModel) (s t : Token) → MayLock l s → (taken : Bool)
    → MatchBool taken (Took list_rows at_wait s.me t.me) (FoundHeld list_rows 2 s.me t.me) → t.table_id ≡ s.table_id
    → MatchBool taken (Locked s t) (SawHeld s t)
has_tried l s t may true took same = has_locked l s t may took same
has_tried l s t may false (n, ne, (went, left)) same =
    record { table_id = same; slots = ap (λ (m : Me). m.1) left; found = n; held = ne; looked = went }
