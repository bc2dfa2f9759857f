-- What the calls of a guard promise.
use Rattle.std.specs.Prelude.{◌≡◌, true, false, Some, None, List, [], ◌∷◌, ◌++◌}
use Rattle.sync_parts.specs.declared.locker_call.LockerCall.{LockerCall}
use Rattle.sync_parts.specs.declared.locker_call.LockerCall.TheVariants as call
use Rattle.sync_guarded.specs.declared.view.GuardDeed.{GuardDeed}
use Rattle.sync_guarded.specs.declared.view.GuardDeed.TheVariants.{Locked, Unlocked, Looked}
use Rattle.sync_guarded.specs.declared.view.GuardCall.{GuardCall}
use Rattle.sync_guarded.specs.Rule.{locked, unlocked, looked}
use Rattle.sync_guarded.specs.Seats.{SeatModel, GuardModel}

-- what a seat did, as a locker has it: looks are none of its calls
abbrev pub locker_call : GuardDeed → List LockerCall → List LockerCall
locker_call Locked calls = call.Locked ∷ calls
locker_call Unlocked calls = call.Unlocked ∷ calls
locker_call (Looked has held) calls = calls

abbrev pub locker_calls : {T : Type 0} → List (GuardCall T) → List LockerCall
locker_calls [] = []
locker_calls (c ∷ calls) = locker_call c.deed (locker_calls calls)

module _ {T : Type 0} where
  -- the seat after these calls
  abbrev pub having_called : SeatModel T → List (GuardCall T) → SeatModel T
  having_called s calls = record s { calls = s.calls ++ calls }

  -- a guard that holds nothing
  abbrev pub new_guard : SeatModel T → GuardModel T
  new_guard s = record { seat = s; lent = None }

  -- it locked, and took a value, which is lent to it
  pub record HasLocked (g h : GuardModel T) : Type 0 where
    pub value : T
    pub seat : h.seat ≡ having_called g.seat (locked value ∷ [])
    pub lent : h.lent ≡ Some value

  -- it holds nothing, as before, and its last look found the lock held
  abbrev pub HasFoundHeld : GuardModel T → GuardModel T → Type 0
  HasFoundHeld g h = (h.seat ≡ having_called g.seat (looked false true ∷ [])) × (h.lent ≡ g.lent)

  -- it unlocked, and gave back the value that was lent to it
  pub record HasUnlocked (g h : GuardModel T) : Type 0 where
    pub value : T
    pub held : g.lent ≡ Some value
    pub seat : h.seat ≡ having_called g.seat (unlocked value ∷ [])
    pub lent : h.lent ≡ None

  -- the value that it holds was lent for the length of one call, which answered so: nothing else has changed
  pub record HasLent {A : Type 0} (ran : T → A → T → Type 0) (g : GuardModel T) (answer : A)
      (h : GuardModel T) : Type 0 where
    pub was : T
    pub now : T
    pub held : g.lent ≡ Some was
    pub ran_so : ran was answer now
    pub after : h ≡ record g { lent = Some now }

  -- it locked, the value that it took was lent for the length of one call, and it gave back what that left
  pub record HasHeld {A : Type 0} (ran : T → A → T → Type 0) (g : GuardModel T) (answer : A)
      (h : GuardModel T) : Type 0 where
    pub was : T
    pub now : T
    pub seat : h.seat ≡ having_called g.seat (locked was ∷ unlocked now ∷ [])
    pub ran_so : ran was answer now
    pub lent : h.lent ≡ None
