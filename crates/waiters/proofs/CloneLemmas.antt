-- Lemmas on a copy of the records and the chains: it has the same lists.
use Rattle.std.proofs.Common.{◌≡◌, ℕ, zero, suc, ◌≤◌, List, [], ◌∷◌, map, get_or, Option, Some, None, refl, sym, ap, ◌∙◌, arith}
use Rattle.std.proofs.Math.ListN.{get_or-map}
use Rattle.std.proofs.lemmas.List.Elements.{same_from_all_zip}
use Rattle.slab.specs.Slab.{Slab, get, HasRoomFor, SameValues, IsSlotClone, IsSlabClone}
use Rattle.waiters.specs.declared.wait.Wait.{Wait}
use Rattle.waiters.specs.declared.lists.Record.{Record}
use Rattle.waiters.specs.declared.lists.Chain.{Chain}
use Rattle.waiters.specs.Chains.{waits_from, waits_in, listed, Linked, HasRoom, AreChained}
use Rattle.waiters.proofs.SlotLemmas.{slab_len-same, trimmed-same}

-- where a clone of a value is that value, a clone of a slab has the same values
pub SameValues-clone : {T : Type 0} (is_clone : T → T → Type 0) (slab copy : Slab T) → ((x y : T) → is_clone x y → y ≡ x)
    → IsSlabClone is_clone slab copy → SameValues slab copy
SameValues-clone {T} is_clone slab copy same clones key =
    ap (λ slots. get_or slots key None) (same_from_all_zip (IsSlotClone is_clone) slab.slots copy.slots clones.slots same_slot)
  where
    same_slot : (x y : Option T) → IsSlotClone is_clone x y → y ≡ x
    same_slot None y is = is
    same_slot (Some value) None is = absurd is
    same_slot (Some value) (Some copied) is = ap Some (same value copied is)

pub HasRoom-same : {T : Type 0} (slab copy : Slab T) (room : ℕ) → SameValues slab copy → HasRoomFor copy room → HasRoom slab room → HasRoom copy room
HasRoom-same slab copy room same fits old =
    record { fits = fits; bounded = omega (arith, slab_len-same slab copy same, old.bounded) }

-- with as much memory there is room for as many
HasRoomFor-same : {T : Type 0} (slab copy : Slab T) (room : ℕ) → SameValues slab copy → slab.capacity ≤ copy.capacity
    → HasRoomFor slab room → HasRoomFor copy room
HasRoomFor-same slab copy room same grown fits = omega (arith, slab_len-same slab copy same, grown, fits)

-- more memory changes no value
pub SameValues-grown : {T : Type 0} (slab later : Slab T) → later ≡ record slab { capacity = later.capacity } → SameValues slab later
SameValues-grown slab later kept key = ap (λ s. get s key) kept

module _ (records copy : Slab Record) (same : SameValues records copy) where
  same_step : (left key : ℕ) (slot : Option Record) → get records key ≡ slot
      → ((here : Option ℕ) → waits_from copy left here ≡ waits_from records left here) → waits_from copy (suc left) (Some key)
      ≡ waits_from records (suc left) (Some key)
  same_step left key None is later = rw (waits_from, same key, is) refl
  same_step left key (Some found) is later =
      rw (waits_from, same key, is) (ap (λ rest. found.wait ∷ rest) (later found.next))

  same_waits : (left : ℕ) (here : Option ℕ) → waits_from copy left here ≡ waits_from records left here
  same_waits zero here = refl
  same_waits (suc left) None = refl
  same_waits (suc left) (Some key) = same_step left key (get records key) refl (λ here. same_waits left here)

  same_list : (slot : Option Chain) → waits_in copy slot ≡ waits_in records slot
  same_list None = refl
  same_list (Some chain) = ap Some (same_waits chain.len chain.first)

  pub same_links : (entries : List (ℕ × Wait)) (here there : Option ℕ) → Linked records here entries there → Linked copy here entries there
  same_links [] here there linked = linked
  same_links (entry ∷ rest) here there linked =
      (linked.0, linked.1, same entry.0 ∙ linked.2, same_links rest linked.0 there linked.3)

  module _ (chains next : Slab Chain) (same_chains : SameValues chains next) where
    same_at : (key : ℕ) → get_or (map (waits_in copy) next.slots) key None ≡ get_or (map (waits_in records) chains.slots) key None
    same_at key =
        get_or-map (waits_in copy) next.slots key None ∙ ap (waits_in copy) (same_chains key) ∙ same_list (get chains key)
        ∙ sym (get_or-map (waits_in records) chains.slots key None)

    pub listed-same : listed copy next ≡ listed records chains
    listed-same = trimmed-same (map (waits_in copy) next.slots) (map (waits_in records) chains.slots) same_at

    pub AreChained-same : (room list_room : ℕ) → HasRoomFor copy room → HasRoomFor next list_room
        → AreChained records chains room list_room → AreChained copy next room list_room
    AreChained-same room list_room fits lists_fit old =
        record {
          owner = old.owner;
          chained = λ list chain read.
              let before = old.chained list chain (sym (same_chains list) ∙ read) in
              record {
                entries = before.entries;
                links =
                    record {
                      linked = same_links before.entries chain.first None before.links.linked;
                      ends = before.links.ends;
                      counted = before.links.counted;
                    };
                owned = before.owned;
              };
          records_fit = HasRoom-same records copy room same fits old.records_fit;
          chains_fit = HasRoom-same chains next list_room same_chains lists_fit old.chains_fit;
        }

    pub AreChained-copied : (room list_room : ℕ) → records.capacity ≤ copy.capacity → chains.capacity ≤ next.capacity
        → AreChained records chains room list_room → AreChained copy next room list_room
    AreChained-copied room list_room grown lists_grown old =
        AreChained-same room list_room (HasRoomFor-same records copy room same grown old.records_fit.fits)
        (HasRoomFor-same chains next list_room same_chains lists_grown old.chains_fit.fits) old
