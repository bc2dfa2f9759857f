-- What a caller sees of a guarded value, of its seats, and of a guard.
use Rattle.std.specs.Prelude.{◌≡◌, ℕ, ◌<◌, Bool, true, false, Option, Some, None, List, [], ◌∷◌}
use Rattle.running_rows.specs.Seated.{TableId}
use Rattle.sync_guarded.specs.declared.view.GuardCall.{GuardCall}
use Rattle.sync_guarded.specs.Rule.{Token, is_some}

-- a guarded value: its words, and how many seats it has
pub record GuardedModel : Type 0 where
  pub id : TableId
  pub seats : ℕ

-- two words and one slot are laid for it, and it has seats
pub record IsLaid (id : TableId) (seats : ℕ) : Type 0 where
  pub words : id.words ≡ 2
  pub slots : id.slots ≡ 1
  pub some : 0 < seats

-- a seat of a guarded value: its number, and all that it did, with the value that moved by it
pub record SeatModel (T : Type 0) : Type 0 where
  pub guarded : GuardedModel
  pub number : ℕ
  pub calls : List (GuardCall T)

-- a guard: its seat, and the value that is lent to it while it holds the lock
pub record GuardModel (T : Type 0) : Type 0 where
  pub seat : SeatModel T
  pub lent : Option T

module _ {T : Type 0} where
  -- it holds the lock
  abbrev pub is_held : GuardModel T → Bool
  is_held g = is_some g.lent

  abbrev pub seat_of : Token T → SeatModel T
  seat_of t = record {
    guarded = record { id = t.table_id; seats = t.me.0.own.knows.seats };
    number = t.me.0.own.number;
    calls = t.me.0.own.gone;
  }

  abbrev pub lent_of : List (ℕ × T) → Option T
  lent_of [] = None
  lent_of (x ∷ rest) = Some x.1

  abbrev pub guard_of : Token T → GuardModel T
  guard_of t = record { seat = seat_of t; lent = lent_of t.me.1 }

  -- a seat of a guarded value, which holds nothing
  pub record IsSeat (t : Token T) : Type 0 where
    pub some : 0 < t.me.0.own.knows.seats
    pub free : is_some t.me.0.own.knows.holds ≡ false
    pub bare : t.me.1 ≡ []

  -- just the value of the slot is with the seat where it holds the lock, and else nothing
  abbrev pub IsOut : Bool → List (ℕ × T) → Type 0
  IsOut false out = out ≡ []
  IsOut true out = (x : T) × (out ≡ (0, x) ∷ [])

  -- what a guard keeps: a seat of its guarded value
  pub record IsGuard (g : GuardedModel) (t : Token T) (held : Bool) : Type 0 where
    pub own : (seat_of t).guarded ≡ g
    pub some : 0 < t.me.0.own.knows.seats
    pub holds : is_some t.me.0.own.knows.holds ≡ held
    pub out : IsOut held t.me.1
