-- How `Lists` keeps its lists: each open key has a chain of records, linked by index. No public clause cites
-- this.
use Rattle.std.specs.Prelude.{◌≡◌, ◌+◌, ◌<◌, ◌≤◌, ◌^◌, [], ◌∷◌, ◌++◌, if◌then◌else◌}
use Rattle.std.specs.Prelude.{ℕ, zero, suc, Bool, List, map, drop, length, Option, Some, None, is_none}
use Rattle.std.specs.Option.{option_or}
use Rattle.slab.specs.Slab.{Slab, get, ContainsKey, slab_len, HasRoomFor, Updates, with_value}
use Rattle.waiters.specs.Lists.{seats_of, first_sought, without_sought}
use Rattle.waiters.specs.declared.wait.Wait.{Wait}
use Rattle.waiters.specs.declared.lists.Record.{Record}
use Rattle.waiters.specs.declared.lists.Chain.{Chain}
use Rattle.waiters.specs.declared.lists.Place.{Place}

-- the waits of so many records, each linked to the next
abbrev pub waits_from : Slab Record → ℕ → Option ℕ → List Wait
waits_from records zero here = []
waits_from records (suc left) None = []
waits_from records (suc left) (Some key) =
    elim (get records key) [ None ↦ [] | Some found ↦ found.wait ∷ waits_from records left found.next ]

-- the list of a chain
abbrev pub waits_in : Slab Record → Option Chain → Option (List Wait)
waits_in records None = None
waits_in records (Some chain) = Some (waits_from records chain.len chain.first)

-- the slot and those after it, but nothing where all are empty
abbrev pub put_before : {T : Type 0} → Option T → List (Option T) → List (Option T)
put_before None [] = []
put_before None (other ∷ rest) = None ∷ other ∷ rest
put_before (Some value) rest = Some value ∷ rest

-- the slots up to the last that isn't empty
abbrev pub trimmed : {T : Type 0} → List (Option T) → List (Option T)
trimmed [] = []
trimmed (slot ∷ rest) = put_before slot (trimmed rest)

-- the list under each key, up to the last that is open
abbrev pub listed : Slab Record → Slab Chain → List (Option (List Wait))
listed records chains = trimmed (map (waits_in records) chains.slots)

-- records linked from `here` on, by their keys and waits, and the link out of the last
abbrev pub Linked : Slab Record → Option ℕ → List (ℕ × Wait) → Option ℕ → Type 0
Linked records here [] there = here ≡ there
Linked records here (entry ∷ rest) there =
    (next : Option ℕ) × (here ≡ Some entry.0)
    × (get records entry.0 ≡ Some (record { wait = entry.1; next = next }))
    × Linked records next rest there

-- the key of the last of these records, or `None` where there is none
abbrev pub last_key : List (ℕ × Wait) → Option ℕ
last_key [] = None
last_key (entry ∷ []) = Some entry.0
last_key (entry ∷ other ∷ rest) = last_key (other ∷ rest)

-- the chain links these records
pub record Links (records : Slab Record) (chain : Chain) (entries : List (ℕ × Wait)) : Type 0 where
  pub linked : Linked records chain.first entries None
  pub ends : chain.last ≡ last_key entries
  pub counted : length entries ≡ chain.len

-- the chain links some records
abbrev pub HasLinks : Slab Record → Chain → Type 0
HasLinks records chain = (entries : List (ℕ × Wait)) × Links records chain entries

-- each of these records is the list's
abbrev pub Owned : (ℕ → ℕ) → ℕ → List (ℕ × Wait) → Type 0
Owned owner list [] = Unit {0}
Owned owner list (entry ∷ rest) = (owner entry.0 ≡ list) × Owned owner list rest

-- the chain links records of the list alone
pub record IsChain (records : Slab Record) (owner : ℕ → ℕ) (list : ℕ) (chain : Chain) : Type 0 where
  pub entries : List (ℕ × Wait)
  pub links : Links records chain entries
  pub owned : Owned owner list entries

-- so many more values fit, and their number is one of a `usize`
pub record HasRoom {T : Type 0} (values : Slab T) (room : ℕ) : Type 0 where
  pub fits : HasRoomFor values room
  pub bounded : slab_len values + room < 2 ^ 64

-- each open list has its chain, which shares no record with another's: each record has one owner
pub record AreChained (records : Slab Record) (chains : Slab Chain) (room list_room : ℕ) : Type 0 where
  pub owner : ℕ → ℕ
  pub chained : (list : ℕ) (chain : Chain) → get chains list ≡ Some chain → IsChain records owner list chain
  pub records_fit : HasRoom records room
  pub chains_fit : HasRoom chains list_room

-- there is a record under the key, if there is a key
abbrev pub IsThere : Slab Record → Option ℕ → Type 0
IsThere records None = Unit {0}
IsThere records (Some key) = ContainsKey records key

-- `next` follows `before`, or comes first
abbrev pub Relinks : Slab Record → Slab Record → Option ℕ → Option ℕ → Option ℕ → Option ℕ → Type 0
Relinks old new first None next result = (new ≡ old) × (result ≡ next)
Relinks old new first (Some key) next result =
    (found : Record) × (get old key ≡ Some found) × (new ≡ with_value old key (record found { next = next }))
    × (result ≡ first)

-- a record with this wait was put at the end of a chain
pub record Appends (old new : Slab Record) (chain : Chain) (wait : Wait) (longer : Chain) : Type 0 where
  pub key : ℕ
  pub middle : Slab Record
  pub vacant : get old key ≡ None
  pub added : Updates old middle key (Some (record { wait = wait; next = None }))
  pub relinked : Relinks middle new chain.first chain.last (Some key) longer.first
  pub last : longer.last ≡ Some key
  pub len : longer.len ≡ chain.len + 1
  pub room : slab_len middle ≡ slab_len old + 1
  pub capacity : middle.capacity ≡ old.capacity

-- a record with this wait was put at the front of a chain
pub record Prepends (old new : Slab Record) (chain : Chain) (wait : Wait) (longer : Chain) : Type 0 where
  pub key : ℕ
  pub vacant : get old key ≡ None
  pub added : Updates old new key (Some (record { wait = wait; next = chain.first }))
  pub first : longer.first ≡ Some key
  pub last : longer.last ≡ option_or chain.last (Some key)
  pub len : longer.len ≡ chain.len + 1
  pub room : slab_len new ≡ slab_len old + 1
  pub capacity : new.capacity ≡ old.capacity

-- a record was taken out of its chain
pub record Unlinks (old new : Slab Record) (chain : Chain) (place : Place) (wait : Wait) (left : Chain)
    : Type 0 where
  pub next : Option ℕ
  pub middle : Slab Record
  pub found : get old place.key ≡ Some (record { wait = wait; next = next })
  pub removed : Updates old middle place.key None
  pub relinked : Relinks middle new chain.first place.before next left.first
  pub last : left.last ≡ (if is_none next then place.before else chain.last)
  pub len : left.len + 1 ≡ chain.len
  pub room : slab_len middle + 1 ≡ slab_len old
  pub capacity : middle.capacity ≡ old.capacity

abbrev pub waits_of : List (ℕ × Wait) → List Wait
waits_of = map (λ entry. entry.1)

-- one of the records has this place
pub record StandsAt (entries : List (ℕ × Wait)) (place : Place) : Type 0 where
  pub passed : List (ℕ × Wait)
  pub wait : Wait
  pub rest : List (ℕ × Wait)
  pub splits : entries ≡ passed ++ (place.key, wait) ∷ rest
  pub before : place.before ≡ last_key passed

-- the first record that is sought has this place
pub record FoundAt (entries : List (ℕ × Wait)) (is : Wait → Bool) (place : Place) : Type 0 where
  pub stands : StandsAt entries place
  pub first : first_sought is (waits_of entries) ≡ Some stands.wait
  pub without : without_sought is (waits_of entries) ≡ waits_of (stands.passed ++ stands.rest)

-- no record is sought, or it is found
abbrev pub Finds : Slab Record → Chain → (Wait → Bool) → Option Place → Type 0
Finds records chain is None =
    (entries : List (ℕ × Wait)) × Links records chain entries
    × (first_sought is (waits_of entries) ≡ None)
    × (without_sought is (waits_of entries) ≡ waits_of entries)
Finds records chain is (Some place) =
    (entries : List (ℕ × Wait)) × Links records chain entries × FoundAt entries is place

-- a walk for it has passed these records and found none
pub record WalkedTo (records : Slab Record) (chain : Chain) (is : Wait → Bool) (before here : Option ℕ)
    : Type 0 where
  pub passed : List (ℕ × Wait)
  pub rest : List (ℕ × Wait)
  pub links : Links records chain (passed ++ rest)
  pub left : Linked records here rest None
  pub ends : before ≡ last_key passed
  pub first : first_sought is (waits_of (passed ++ rest)) ≡ first_sought is (waits_of rest)
  pub without : without_sought is (waits_of (passed ++ rest)) ≡ waits_of passed
      ++ without_sought is (waits_of rest)

-- the seats of the first records are copied, and the rest of the buffer is as it was
pub record CopiedTo (records : Slab Record) (waits : List Wait) (old items : List ℕ) (here : Option ℕ)
    (copied : ℕ) : Type 0 where
  pub passed : List (ℕ × Wait)
  pub rest : List (ℕ × Wait)
  pub all : waits ≡ waits_of (passed ++ rest)
  pub left : Linked records here rest None
  pub counted : length passed ≡ copied
  pub fits : copied ≤ length old
  pub written : items ≡ seats_of (waits_of passed) ++ drop copied old
