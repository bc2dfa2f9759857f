-- The rule of a guarded value: it is at home where its lock is free, and with the seat that holds the lock
-- where it isn't. There is one history of what was locked and unlocked, in turn: who locks takes the value
-- that was given back last. Each seat has made its own calls of it.
use Rattle.std.specs.Prelude.{◌≡◌, ◌⊎◌, if◌then◌else◌, ℕ, ◌<◌, ◌==◌, Bool, true, false, Option, Some, None, refl}
use Rattle.std.specs.Prelude.{List, [], ◌∷◌, length, slice_index}
use mathlib.Core.Option as slot
use Rattle.running_rows.specs.Words as words
use Rattle.running_rows.specs.declared.view.Seated.{Seated}
use Rattle.running_rows.specs.Family.{Family}
use Rattle.running_rows.specs.Futex.{lock_at}
use Rattle.running_rows.specs.History.{SeatStride, strides_of}
use Rattle.running_rows.specs.Rule.{In}
use Rattle.step_table.specs.EventOf.{EventOf, take_lock, give_lock}
use Rattle.step_table.specs.Path.{Watched, Sight, Stride, ran_at, looked_at}
use Rattle.sync_guarded.specs.declared.view.GuardDeed.{GuardDeed}
use Rattle.sync_guarded.specs.declared.view.GuardDeed.TheVariants.{Locked, Unlocked, Looked}
use Rattle.sync_guarded.specs.declared.view.GuardKnown.{GuardKnown}
use Rattle.sync_guarded.specs.declared.view.GuardCall.{GuardCall}

-- a call that took this value, and one that gave it back; and a look, at which nothing moved
abbrev pub locked : {T : Type 0} → T → GuardCall T
locked x = record { deed = Locked; marker = record {}; value = Some x }

abbrev pub unlocked : {T : Type 0} → T → GuardCall T
unlocked x = record { deed = Unlocked; marker = record {}; value = Some x }

abbrev pub looked : {T : Type 0} → Bool → Bool → GuardCall T
looked has held = record { deed = Looked has held; marker = record {}; value = None }

-- where the value is: at home, where it is this one, or with the seat of this number
pub data Place (T : Type 0) : Type 0 where
  home : T → Place T
  lent : ℕ → Place T

-- it is locked where the value is at home, which is taken as it is there, and unlocked by the seat that it
-- was lent to, with whatever that gives back
abbrev pub InTurns : {T : Type 0} → Place T → List (SeatStride (GuardCall T)) → Place T → Type 0
InTurns at [] last = last ≡ at
InTurns (home x) (m ∷ history) last = (m.stride ≡ locked x) × InTurns (lent m.seat) history last
InTurns {T} (lent i) (m ∷ history) last =
    (y : T) × (m.stride ≡ unlocked y) × (m.seat ≡ i) × InTurns (home y) history last

-- whether it is with the seat i
abbrev pub is_with : {T : Type 0} → ℕ → Place T → Bool
is_with i (home x) = false
is_with i (lent j) = j == i

abbrev pub is_some : {T : Type 0} → Option T → Bool
is_some None = false
is_some (Some x) = true

-- whether a seat holds the lock that held it so, and then did this, or all of these
abbrev pub holds_then : Bool → GuardDeed → Bool
holds_then holds Locked = true
holds_then holds Unlocked = false
holds_then holds (Looked has held) = holds

abbrev pub holds_after : {T : Type 0} → Bool → List (GuardCall T) → Bool
holds_after holds [] = holds
holds_after holds (c ∷ calls) = holds_after (holds_then holds c.deed) calls

-- those that locked or unlocked
abbrev pub turn_of : {T : Type 0} → GuardDeed → GuardCall T → List (GuardCall T) → List (GuardCall T)
turn_of Locked c turns = c ∷ turns
turn_of Unlocked c turns = c ∷ turns
turn_of (Looked has held) c turns = turns

abbrev pub turns_of : {T : Type 0} → List (GuardCall T) → List (GuardCall T)
turns_of [] = []
turns_of (c ∷ calls) = turn_of c.deed c (turns_of calls)

-- the lock's word is 0 and the value lies in its slot; or the word is 1, and the value is out
abbrev pub LiesAt : {T : Type 0} → Place T → ℕ → List (slot.Option T) → Type 0
LiesAt (home x) word homes = (word ≡ 0) × (homes ≡ slot.some x ∷ [])
LiesAt (lent i) word homes = (word ≡ 1) × (homes ≡ slot.none ∷ [])

-- the lock's word, the first value, where the value is, and all that was locked and unlocked
pub record GuardLife (T : Type 0) : Type 0 where
  pub word : ℕ
  pub first : T
  pub at : Place T
  pub history : List (SeatStride (GuardCall T))

-- what a seat does next: who holds the lock unlocks
abbrev pub next_event : Bool → EventOf (Unit {0}) ℕ Bool
next_event false = take_lock tt true
next_event true = give_lock tt false

abbrev pub living_guard : {T : Type 0} → Watched (GuardLife T) (Unit {0}) ℕ Bool Bool ⊥
living_guard = record {
  rules = record {
    event_of = λ s i. next_event (is_with i s.at);
    found = λ s g. s.word;
    after = λ s i g w next. record s { word = w; at = (if next then lent i else home s.first) };
  };
  seat = λ s i. is_with i s.at;
  journal = λ s. [];
  met = λ s. Unit {0};
  own = λ i e. false;
}

-- words and slot are as the world has them, which its history led to, and all its calls are those of seats
-- that are there
pub record ShowsGuard {T : Type 0} (seats : ℕ) (s : GuardLife T) (words : List ℕ)
    (homes : List (slot.Option T)) : Type 0 where
  pub word_is : slice_index words 0 ≡ s.word
  pub wide : length words ≡ 2
  pub lies : LiesAt s.at s.word homes
  pub in_turns : InTurns (home s.first) s.history s.at
  pub there : (m : SeatStride (GuardCall T)) → In m s.history → m.seat < seats

-- the seat has locked and unlocked as the history has it, and it holds the lock where the last of these locked
pub record HasCalled {T : Type 0} (u : Seated (GuardKnown T) (GuardCall T)) (s : GuardLife T)
    : Type 0 where
  pub own : strides_of u.number s.history ≡ turns_of u.gone
  pub holds : is_some u.knows.holds ≡ holds_after false u.gone

-- a seat that held this makes this call, and holds that then: who holds nothing locks, and holds what it
-- took; who holds something unlocks; and each may look
abbrev pub IsTurn : {T : Type 0} → Option T → GuardCall T → Option T → Type 0
IsTurn {T} None c now =
    ((x : T) × (c ≡ locked x) × (now ≡ Some x)) ⊎ ((held : Bool) × (c ≡ looked false held) × (now ≡ None))
IsTurn (Some was) c now =
    ((c.deed ≡ Unlocked) × (now ≡ None)) ⊎ ((held : Bool) × (c ≡ looked true held) × (now ≡ Some was))

-- the call unlocked, and gave back the value of the first of these slots
abbrev pub HasGiven : {T : Type 0} → GuardCall T → List (ℕ × T) → Type 0
HasGiven c [] = ⊥
HasGiven c (taken ∷ slots) = c ≡ unlocked taken.1

abbrev pub idle : {T : Type 0} → ℕ → GuardKnown T
idle seats = record { seats = seats; marker = record {}; holds = None }

abbrev pub sight_of : Bool → Sight Bool ⊥
sight_of holds = record { stands = holds; seen = [] }

-- a call as a stride of the step table: who locks finds 0, and who unlocks 1
abbrev pub stride_of : GuardDeed → Stride (Unit {0}) ℕ Bool ⊥
stride_of Locked = ran_at false 0 [] []
stride_of Unlocked = ran_at true 1 [] []
stride_of (Looked has held) = looked_at tt has (if held then 1 else 0) []

abbrev pub guard_rows : {T : Type 0} → Family T (GuardKnown T) (GuardCall T) ℕ
guard_rows {T} = record {
  Key = ℕ;
  World = GuardLife T;
  Word = Unit {0};
  Value = ℕ;
  Next = Bool;
  Stands = Bool;
  Entry = ⊥;
  key = λ seats. seats;
  seats = λ seats. seats;
  of = λ v. v.seats;
  watched = λ seats. living_guard;
  sight = λ v. sight_of (is_some v.holds);
  stride = λ c. stride_of c.deed;
  value = λ n. n;
  word_at = λ seats i. tt;
  fresh = idle;
  nobody = idle 0;
  Shows = ShowsGuard;
  Knows = λ seats. HasCalled;
  IsHeld = λ v slot y. (slot ≡ 0) × (v.holds ≡ Some y);
  Also = λ s i v call w. IsTurn v.holds call w.holds;
  HasStored = λ seats call i x. ⊥;
  HasGiven = HasGiven;
  IsFutex = λ seats x. x ≡ lock_at 0 1;
  has_threads = λ seats. true;
  MayPass = λ v. ⊥;
  fresh_is = λ seats. refl;
  nobody_is = refl;
}

-- a seat's token, as the crate below has it
abbrev pub Token : Type 0 → Type 0
Token T = words.Token T (GuardKnown T) (GuardCall T)
