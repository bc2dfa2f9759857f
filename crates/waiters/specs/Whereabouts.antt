-- What lists know of where each seat's wait is. No public clause cites this.
use Rattle.std.specs.Prelude.{◌≡◌, ◌≢◌, ◌<◌, ◌==◌, if◌then◌else◌, ◌⊎◌, Bool, true, ℕ, List, ◌∷◌, ◌++◌, Option, Some, None, length, slice_get, slice_index_or}
use Rattle.slab.specs.Slab.{Slab, get}
use Rattle.waiters.specs.declared.sought.Sought.{Sought}
use Rattle.waiters.specs.declared.sought.Sought.TheVariants.{Ticket, Seat, Id}
use Rattle.waiters.specs.declared.wait.Wait.{Wait}
use Rattle.waiters.specs.declared.lists.Record.{Record}
use Rattle.waiters.specs.declared.lists.Chain.{Chain}
use Rattle.waiters.specs.declared.lists.Place.{Place}
use Rattle.waiters.specs.declared.lists.whereabouts.Side.{Side}
use Rattle.waiters.specs.declared.lists.whereabouts.Whereabouts.{Whereabouts}
use Rattle.waiters.specs.declared.lists.whereabouts.Whereabouts.TheVariants.{Nowhere, Only, Anywhere}
use Rattle.waiters.specs.Chains.{Links, AreChained, last_key}

-- the word of each seat, and where the record of each key is
pub record Known : Type 0 where
  pub words : List ℕ
  pub sides : List Side

-- where the record of a key is, if that is known
abbrev pub told : ℕ → Option Side → Whereabouts
told key None = Anywhere
told key (Some side) = Only side.list (record { before = side.before; key = key })

-- what a seat's word means, by where the records are
abbrev pub meant : List Side → ℕ → Whereabouts
meant sides word = if word == 65535 then Nowhere else if word == 65534 then Anywhere else told word (slice_get sides word)

-- what is known of a seat: nothing where the lists have no word for it
abbrev pub known_of : Known → ℕ → Whereabouts
known_of seats seat = meant seats.sides (slice_index_or seats.words seat 65534)

-- each word that is the key of a record is one that is known
abbrev pub AreTold : List ℕ → List Side → Type 0
AreTold words sides = (seat : ℕ) → slice_index_or words seat 65534 < 65534 → slice_index_or words seat 65534 < length sides

-- no seat has its one wait in the record of this key
abbrev pub IsFresh : Known → ℕ → Type 0
IsFresh seats key = (seat list : ℕ) (place : Place) → known_of seats seat ≡ Only list place → place.key ≢ key

-- a word that means this place, or nothing
abbrev pub Notes : List Side → ℕ → ℕ → Place → Type 0
Notes sides word list place = (word ≡ 65534) ⊎ (meant sides word ≡ Only list place)

-- after a wait of the seat was put in, and it was noted where or not; after one was taken out; and after another
-- record came before its own
abbrev pub after_put : Bool → ℕ → Place → Whereabouts → Whereabouts
after_put true list place Nowhere = Only list place
after_put noted list place _ = Anywhere

abbrev pub after_taken : Whereabouts → Whereabouts
after_taken Anywhere = Anywhere
after_taken _ = Nowhere

abbrev pub after_moved : ℕ → Option ℕ → Whereabouts → Whereabouts
after_moved key before (Only list place) =
    if place.key == key then Only list (record { before = before; key = key }) else Only list place
after_moved key before w = w

-- what is known of this seat changes so, and of no other
pub record Alters (old new : Known) (seat : ℕ) (change : Whereabouts → Whereabouts) : Type 0 where
  pub there : known_of new seat ≡ change (known_of old seat)
  pub elsewhere : (other : ℕ) → other ≢ seat → known_of new other ≡ known_of old other

-- another record comes before the one of this key, if there is one
abbrev pub Follows : Known → Known → Option ℕ → Option ℕ → Type 0
Follows old new None before = new ≡ old
Follows old new (Some key) before = (seat : ℕ) → known_of new seat ≡ after_moved key before (known_of old seat)

-- a record was put in
abbrev pub Learns : Slab Record → Known → Known → ℕ → Place → Option ℕ → Type 0
Learns records old new list place next =
    (found : Record) × (get records place.key ≡ Some found)
    × ((middle : Known) × ((noted : Bool) × Alters old middle found.wait.id.seat (after_put noted list place))
    × Follows middle new next (Some place.key))

-- a record is to be taken out
abbrev pub Forgets : Slab Record → Known → Known → Place → Type 0
Forgets records old new place =
    (found : Record) × (get records place.key ≡ Some found)
    × ((middle : Known) × Alters old middle found.wait.id.seat after_taken
    × Follows middle new found.next place.before)

-- a record of the seat may have this key
abbrev pub Allows : Whereabouts → ℕ → Type 0
Allows Nowhere key = ⊥
Allows (Only list place) key = key ≡ place.key
Allows Anywhere key = Unit {0}

-- a wait of the seat stands at this place of the list
pub record StandsThere (records : Slab Record) (chains : Slab Chain) (seat list : ℕ) (place : Place) : Type 0 where
  pub chain : Chain
  pub is_open : get chains list ≡ Some chain
  pub passed : List (ℕ × Wait)
  pub wait : Wait
  pub rest : List (ℕ × Wait)
  pub links : Links records chain (passed ++ (place.key, wait) ∷ rest)
  pub before : place.before ≡ last_key passed
  pub own : wait.id.seat ≡ seat

-- each record is where it may be by what is known of its seat, and what is known is so
pub record AreKnown (records : Slab Record) (chains : Slab Chain) (seats : Known) : Type 0 where
  pub allowed : (key : ℕ) (found : Record) → get records key ≡ Some found → Allows (known_of seats found.wait.id.seat) key
  pub stands : (seat list : ℕ) (place : Place) → known_of seats seat ≡ Only list place
      → StandsThere records chains seat list place

-- what is known of the seat of the wait that is sought
abbrev pub known_about : Known → Sought → Whereabouts
known_about seats (Ticket ticket) = Anywhere
known_about seats (Seat seat) = known_of seats seat
known_about seats (Id id) = known_of seats id.seat

-- the chain is that of a list of lists that know so of their seats
abbrev pub IsChainOf : Slab Record → Known → ℕ → Chain → Type 0
IsChainOf records seats list chain =
    (chains : Slab Chain) × (room : ℕ) × (list_room : ℕ) × AreChained records chains room list_room
    × AreKnown records chains seats × (get chains list ≡ Some chain)
