-- What the rows of a notification of all do to a token.
use Rattle.std.specs.Prelude.{◌≡◌, ℕ, ◌+◌, ◌<◌, ◌≤◌, ◌==◌, if◌then◌else◌, Bool, true, List, [], ◌∷◌, ◌++◌, length}
use Rattle.waiters.specs.declared.wait.Wait.{Wait}
use Rattle.step_table.specs.declared.list_place.AllRow.TheVariants.{L1, L3, L4, L7, L8}
use Rattle.step_table.specs.declared.list_place.ListPlace.{ListPlace}
use Rattle.step_table.specs.declared.list_place.ListPlace.TheVariants.{Rest, NotifyingAll}
use Rattle.step_table.specs.ListEvent.{if_any}
use Rattle.step_table.specs.ListWorld.{ListSeat, ListEntry}
use Rattle.step_table.specs.Path.{GoesOn}
use Rattle.step_law_lists.specs.ListLawful.{told}
use Rattle.notify_list.specs.Places.{at_place}
use Rattle.notify_list.specs.Rule.{Lands}
use Rattle.notify_list.specs.Seats.{ListModel, Token, list_of, IsSeat, seen_of, setting_of, stands_of}
use Rattle.notify_list.specs.Walks.{Walked, HasRecord}
use Rattle.notify_list.specs.NotifyingAll.{looks_all, reach_rows, wake_rows, all_entries}

-- the seat may begin a call
abbrev pub MayLook : ListModel → Token → Type 0
MayLook l s = (list_of s ≡ l) × ((n : ℕ) × IsSeat s n)

-- L1 and L2 ran
pub record LookedForAll (s : Token) (equal : Bool) (t : Token) : Type 0 where
  pub h : ℕ
  pub waited : ℕ
  pub notified : ℕ
  pub answer : equal ≡ (waited == notified)
  pub walked : Walked s (at_place (NotifyingAll 0 L1) (stands_of s)) t
      (at_place (if equal then Rest else NotifyingAll h L3) (stands_of s)) [] (looks_all h waited notified)
  pub slots : t.me.1 ≡ s.me.1
  pub since : (told (seen_of s)).handed ≤ h
  pub quiet : equal ≡ true → h ≤ (told (seen_of t)).passed

-- a seat of this list stands here
pub record IsAt (l : ListModel) (s : Token) (place : ListPlace) : Type 0 where
  pub list_is : list_of s ≡ l
  pub there : s.me.0.own.number < (setting_of s).seats
  pub few : (setting_of s).seats ≤ 65536
  pub at : (stands_of s).place ≡ place
  pub lands : Lands s.me.0.own.number s.me.0.own.knows

abbrev pub MayReach : ListModel → Token → ℕ → Type 0
MayReach l s h = IsAt l s (NotifyingAll h L4) × HasRecord s

-- L4, L5 and L6 ran
pub record ReachedAll (s : Token) (h n : ℕ) (t : Token) : Type 0 where
  pub notified : ℕ
  pub waited : ℕ
  pub handed : ℕ
  pub walked : Walked s (stands_of s) t (at_place (NotifyingAll h (L7 n)) (stands_of s))
      (all_entries s.me.0.own.number handed n)
      (reach_rows h notified waited handed)
  pub record_is : HasRecord t
  pub look : List ListEntry
  pub before : List ListEntry
  pub first : GoesOn look (seen_of s)
  pub later : GoesOn before look
  pub seen : seen_of t ≡ before ++ all_entries s.me.0.own.number handed n
  pub reaches : h ≤ handed
  pub counted : handed ≡ (told before).passed + n + length (told before).gone
  pub all : handed ≡ (told look).handed
  pub passed : (told (seen_of t)).passed ≡ handed

abbrev pub MayTake : ListModel → Token → ℕ → ℕ → Type 0
MayTake l s h n = IsAt l s (NotifyingAll h (L7 n)) × HasRecord s × ((stands_of s).hand ≡ [])

-- how the seat stands with these waits to grant
abbrev pub with_waits : ℕ → List Wait → ListSeat → ListSeat
with_waits h hand a =
    record { place = if_any hand (NotifyingAll h L8) Rest; ticket = a.ticket; hand = hand; late = a.late }

-- L7 ran
pub record TakenAll (s : Token) (h n : ℕ) (t : Token) : Type 0 where
  pub walked : Walked s (stands_of s) t (with_waits h (stands_of t).hand (stands_of s)) []
      ((NotifyingAll h (L7 n), 1) ∷ [])
  pub bare : t.me.1 ≡ []

abbrev pub MayWake : ListModel → Token → ℕ → Type 0
MayWake l s h = IsAt l s (if_any (stands_of s).hand (NotifyingAll h L8) Rest)

-- L8 ran
pub record WokenFirst (s : Token) (h : ℕ) (w : Wait) (rest : List Wait) (t : Token) : Type 0 where
  pub walked : Walked s (stands_of s) t (with_waits h rest (stands_of s)) [] ((NotifyingAll h L8, 0) ∷ [])
  pub slots : t.me.1 ≡ s.me.1

-- L8 ran for each of these waits, and these are left
pub record WokenSome (s : Token) (h : ℕ) (woken rest : List Wait) (t : Token) : Type 0 where
  pub walked : Walked s (stands_of s) t (with_waits h rest (stands_of s)) [] (wake_rows h woken)
  pub slots : t.me.1 ≡ s.me.1

-- L7 ran, and L8 for each wait that it took out
abbrev pub TakenAndWoken : Token → ℕ → ℕ → Token → Type 0
TakenAndWoken s h n t = (u : Token) × TakenAll s h n u × WokenSome u h (stands_of u).hand [] t
