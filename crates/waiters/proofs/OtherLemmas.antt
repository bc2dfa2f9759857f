-- Where one list changes, every other keeps its records.
use Rattle.std.proofs.Common.{◌≡◌, ◌≢◌, ℕ, ◌+◌, ◌-◌, ◌<◌, ◌≤◌, ◌^◌, List, [], ◌∷◌, map, Option, Some, None, is_some}
use Rattle.std.proofs.Common.{cond, eqb, refl, sym, ap, ◌∙◌, inl, inr, arith, get_or}
use Rattle.std.proofs.lemmas.Bool.{cases_eq}
use Rattle.std.proofs.lemmas.Bool.Decides.{nat_tests}
use Rattle.std.proofs.Math.ListN.{get_or-map}
use Rattle.slab.specs.Slab.{Slab, get, ContainsKey, slab_len, Updates}
use Rattle.waiters.specs.Lists.{Lists, list_at, IsOpen, Changes}
use Rattle.waiters.specs.declared.wait.Wait.{Wait}
use Rattle.waiters.specs.declared.lists.Record.{Record}
use Rattle.waiters.specs.declared.lists.Chain.{Chain}
use Rattle.waiters.specs.Chains.{waits_in, waits_of, listed, Linked, last_key, Links, Owned, IsChain, HasRoom, AreChained}
use Rattle.waiters.proofs.SlotLemmas.{get_or-trimmed}
use Rattle.waiters.proofs.ChainLemmas.{Avoids, Avoids-owned, Owned-split, front_of, waits_from-Linked}

pub list_at-listed : (records : Slab Record) (chains : Slab Chain) (key : ℕ) → get_or (listed records chains) key None ≡ waits_in records (get chains key)
list_at-listed records chains key =
    get_or-trimmed (map (waits_in records) chains.slots) key ∙ get_or-map (waits_in records) chains.slots key None

-- a list is open where it has a chain
pub is_some_listed : (records : Slab Record) (chains : Slab Chain) (key : ℕ)
    → is_some (get_or (listed records chains) key None) ≡ is_some (get chains key)
is_some_listed records chains key = ap is_some (list_at-listed records chains key) ∙ by_chain (get chains key)
  where
    by_chain : (slot : Option Chain) → is_some (waits_in records slot) ≡ is_some slot
    by_chain None = refl
    by_chain (Some chain) = refl

pub ContainsKey-open : (records : Slab Record) (chains : Slab Chain) (lists : Lists) (key at : ℕ) → at ≡ key → lists.slots ≡ listed records chains
    → IsOpen lists key → ContainsKey chains at
ContainsKey-open records chains lists key at is was has =
    rw is (sym (is_some_listed records chains key) ∙ ap (λ slots. is_some (get_or slots key None)) (sym was) ∙ has)

pub waits_in-Links : (records : Slab Record) (chain : Chain) (entries : List (ℕ × Wait)) → Links records chain entries
    → waits_in records (Some chain) ≡ Some (waits_of entries)
waits_in-Links records chain entries links =
    ap Some (waits_from-Linked records entries chain.len chain.first (omega (arith, links.counted)) links.linked)

-- the record is the list's from now on
abbrev pub with_owner : (ℕ → ℕ) → ℕ → ℕ → ℕ → ℕ
with_owner owner key list other = cond (eqb other key) list (owner other)

pub with_owner-same : (owner : ℕ → ℕ) (key list : ℕ) → with_owner owner key list key ≡ list
with_owner-same owner key list = grind (arith, nat_tests)

pub with_owner-other : (owner : ℕ → ℕ) (key list other : ℕ) → other ≢ key → with_owner owner key list other ≡ owner other
with_owner-other owner key list other differs = grind (arith, nat_tests)

-- the list under a slot is a chain of its own
abbrev pub IsSlot : Slab Record → (ℕ → ℕ) → ℕ → Option Chain → Type 0
IsSlot records owner list None = Unit {0}
IsSlot records owner list (Some chain) = IsChain records owner list chain

module _ (records later : Slab Record) (chains next : Slab Chain) (room list_room : ℕ) (old : AreChained records chains room list_room) (list : ℕ)
    (slot : Option Chain) (updates : Updates chains next list slot) (owner : ℕ → ℕ) where
  -- every other list keeps its records
  abbrev pub Keeps : Type 0
  Keeps =
      (other : ℕ) (here : Option ℕ) (entries : List (ℕ × Wait)) → other ≢ list → Linked records here entries None → Owned old.owner other entries
      → Linked later here entries None × Owned owner other entries

  pub AreChained-step : (room2 list_room2 : ℕ) → Keeps → IsSlot later owner list slot → HasRoom later room2 → HasRoom next list_room2
      → AreChained later next room2 list_room2
  AreChained-step room2 list_room2 keeps is_slot fits lists_fit =
      record {
        owner = owner;
        chained = λ other chain read. elim (cases_eq other list) [
          | inl same ↦
              let is : slot ≡ Some chain = sym updates.changed ∙ ap (get next) (sym same) ∙ read in
              rw same (rw is at is_slot)
          | inr differs ↦
              let before = old.chained other chain (sym (updates.others other differs) ∙ read) in
              let kept = keeps other chain.first before.entries differs before.links.linked before.owned in
              record {
                entries = before.entries;
                links = record { linked = kept.0; ends = before.links.ends; counted = before.links.counted };
                owned = kept.1;
              }
        ];
        records_fit = fits;
        chains_fit = lists_fit;
      }

  same_waits : Keeps → (other : ℕ) (found : Option Chain) → other ≢ list → get chains other ≡ found
      → waits_in later found ≡ waits_in records found
  same_waits keeps other None differs read = refl
  same_waits keeps other (Some chain) differs read =
      let before = old.chained other chain read in
      let kept = keeps other chain.first before.entries differs before.links.linked before.owned in
      let links : Links later chain before.entries = record { linked = kept.0; ends = before.links.ends; counted = before.links.counted } in
      waits_in-Links later chain before.entries links ∙ sym (waits_in-Links records chain before.entries before.links)

  pub Changes-step : (from to : Lists) (result : Option (List Wait)) → Keeps → from.slots ≡ listed records chains → to.slots ≡ listed later next
      → waits_in later slot ≡ result → Changes from to list result
  Changes-step from to result keeps was is gives =
      record {
        there = rw is (list_at-listed later next list ∙ ap (waits_in later) updates.changed ∙ gives);
        elsewhere = λ other differs.
            rw (is, was) (list_at-listed later next other ∙ ap (waits_in later) (updates.others other differs) ∙ same_waits keeps other (get chains other)
            differs refl ∙ sym (list_at-listed records chains other));
      }

module _ {T : Type 0} (old new : Slab T) (room : ℕ) (fits : HasRoom old room) (same : new.capacity ≡ old.capacity) where
  pub HasRoom-kept : slab_len new ≡ slab_len old → HasRoom new room
  HasRoom-kept counted = let before = fits in record { fits = omega (arith, fits.fits); bounded = omega (arith, fits.bounded) }

  pub HasRoom-less : 0 < room → slab_len new ≡ slab_len old + 1 → HasRoom new (room - 1)
  HasRoom-less some counted = record { fits = omega (arith, fits.fits); bounded = omega (arith, fits.bounded) }

  pub HasRoom-more : slab_len new + 1 ≡ slab_len old → HasRoom new (room + 1)
  HasRoom-more counted = record { fits = omega (arith, fits.fits); bounded = omega (arith, fits.bounded) }

-- where no record changes, every list keeps its own
pub Keeps-same : (records : Slab Record) (owner : ℕ → ℕ) (list other : ℕ) (here : Option ℕ) (entries : List (ℕ × Wait)) → other ≢ list
    → Linked records here entries None → Owned owner other entries → Linked records here entries None × Owned owner other entries
Keeps-same records owner list other here entries differs linked owned = (linked, owned)

pub IsSlot-empty : (records : Slab Record) (owner : ℕ → ℕ) (list : ℕ)
    → IsSlot records owner list (Some (record { first = None; last = None; len = 0 }))
IsSlot-empty records owner list =
    record { entries = []; links = record { linked = refl; ends = refl; counted = refl }; owned = tt }

-- the last record of a list is none of another's
pub Avoids-other : (owner : ℕ → ℕ) (list other : ℕ) (last : Option ℕ) (mine entries : List (ℕ × Wait))
    → other ≢ list → last ≡ last_key mine
    → Owned owner list mine → Owned owner other entries → Avoids last entries
Avoids-other owner list other None mine entries differs is owned theirs = tt
Avoids-other owner list other (Some key) mine entries differs is owned theirs =
    let ends = front_of mine key is in
    let parts = Owned-split owner list ends.0 ((key, ends.1) ∷ []) (rw ends.2 at owned) in
    Avoids-owned owner other key entries (λ same. differs (sym same ∙ parts.1.0)) theirs

pub Changes-same : (lists : Lists) (list : ℕ) (result : Option (List Wait)) → list_at lists list ≡ result → Changes lists lists list result
Changes-same lists list result is = record { there = is; elsewhere = λ other differs. refl }

pub HasRoom-empty : {T : Type 0} (values : Slab T) (room : ℕ) → values.slots ≡ [] → room ≤ values.capacity → room < 2 ^ 64 → HasRoom values room
HasRoom-empty values room empty fits bounded =
    record { fits = rw empty (omega arith); bounded = rw empty (omega arith) }

pub AreChained-empty : (records : Slab Record) (chains : Slab Chain) (room list_room : ℕ) → chains.slots ≡ [] → HasRoom records room
    → HasRoom chains list_room → AreChained records chains room list_room
AreChained-empty records chains room list_room empty fits lists_fit =
    record {
      owner = λ key. key;
      chained = λ list chain read. let found = rw empty at read in absurd (cc);
      records_fit = fits;
      chains_fit = lists_fit;
    }
