-- A treap stays one, and within its room, whatever a walk from its top does.
use Rattle.std.proofs.Common.{◌≡◌, ◌==◌, ℕ, ◌-◌, ◌<◌, ◌≤◌, [], Bool, true, false, Option, Some, None, MatchOption, length, option_map}
use Rattle.std.proofs.Common.{refl, sym, ap, ◌∙◌, subst, arith, eqb-true}
use Rattle.std.proofs.lemmas.Bool.{eqb-false}
use Rattle.slab.specs.Slab.{Slab, slab_len}
use Rattle.waiters.specs.Lists.{Lists, waits_at}
use Rattle.sema_root.specs.declared.nodes.Node.{Node}
use Rattle.sema_root.specs.declared.branches.Branches.{Branches}
use Rattle.sema_root.specs.declared.listed.Listed.{Listed}
use Rattle.sema_root.specs.Entries.{entry_of}
use Rattle.sema_root.specs.Tree.{Tree, leaf, entries, size, sought, top_value}
use Rattle.sema_root.specs.Reshaping.{grafted, pruned}
use Rattle.sema_root.specs.Planted as treap
use Rattle.sema_root.specs.Linked.{tree_at}
use Rattle.sema_root.specs.Hanging.{Enters, IsFoundInBranches, Prunes, Leaves, IsPlanted}
use Rattle.sema_root.proofs.Seeking.{sought-value}
use Rattle.sema_root.proofs.Grafting.{grafted-size, grafted-treap}
use Rattle.sema_root.proofs.Pruning.{pruned-size, pruned-treap}
use Rattle.sema_root.proofs.Standing.{tree_at-is, Holds-read}
use Rattle.sema_root.proofs.Parting.{Holds-leaf}
use Rattle.sema_root.proofs.Listing.{sprout}

-- what a contract sees of these branches
abbrev pub seen : Branches → ℕ → treap.Planted
seen branches reserved = record { tree = tree_at branches.nodes branches.top; room = reserved - slab_len branches.nodes }

-- an empty slab has an empty treap
pub leaf-read : (nodes : Slab Node) → tree_at nodes None ≡ leaf
leaf-read nodes = tree_at-is nodes None leaf (Holds-leaf nodes)

pub IsPlanted-empty : (nodes : Slab Node) (reserved : ℕ) → nodes.slots ≡ [] → reserved ≤ nodes.capacity
    → IsPlanted (record { nodes = nodes; top = None }) reserved
IsPlanted-empty nodes reserved empty fits =
    let none : slab_len nodes ≡ 0 = rw empty refl in
    record {
      treap = rw (leaf-read nodes) (record { searched = tt; heaped = tt });
      holds = Holds-read nodes None leaf (Holds-leaf nodes);
      counted = rw (leaf-read nodes) (omega arith);
      within = omega arith;
      fits = fits;
    }

entry_lacks : (o : Option (ℕ × ℕ)) → option_map (λ pair. pair.1) o ≡ None → o ≡ None
entry_lacks None none = refl
entry_lacks (Some value) none = cc

entry_has : (o : Option (ℕ × ℕ)) (key : ℕ) → option_map (λ pair. pair.1) o ≡ Some key → (value : ℕ × ℕ) × (o ≡ Some value)
entry_has None key some = cc
entry_has (Some value) key some = (value, refl)

-- the treap is planted still, and this holds of the change
pub record IsReplanted (new : Branches) (reserved : ℕ) (P : Type 0) : Type 0 where
  pub stays : IsPlanted new reserved
  pub settled : P

module _ (old : Branches) (reserved : ℕ) (planted : IsPlanted old reserved) (counter : ℕ) where
  tree : Tree ℕ
  tree = tree_at old.nodes old.top

  lacking : top_value (sought counter tree) ≡ None → entry_of counter (entries tree) ≡ None
  unfolding tree
  lacking none = entry_lacks _ (sym (sought-value counter tree planted.treap.searched) ∙ none)

  having : (key : ℕ) → top_value (sought counter tree) ≡ Some key → (value : ℕ × ℕ) × (entry_of counter (entries tree) ≡ Some value)
  unfolding tree
  having key some = entry_has _ key (sym (sought-value counter tree planted.treap.searched) ∙ some)

  module _ (new : Branches) (old_lists new_lists : Lists) where
    -- it is a treap still after a counter's list was asked for
    pub Listed-top : (ticket : ℕ) (answer : Listed) → 0 < reserved - slab_len old.nodes
        → MatchOption (top_value (sought counter (tree_at old.nodes old.top)))
        (Enters old new (tree_at old.nodes old.top) counter ticket old_lists new_lists answer) (IsFoundInBranches old new old_lists new_lists answer)
        → IsReplanted new reserved (MatchOption (top_value (sought counter (tree_at old.nodes old.top)))
        (treap.Enters (seen old reserved) (seen new reserved) counter ticket old_lists new_lists answer)
        (treap.IsFound (seen old reserved) (seen new reserved) old_lists new_lists answer))
    unfolding tree
    Listed-top ticket answer room settled = by (top_value (sought counter tree)) refl settled
      where
        by : (o : Option ℕ) → top_value (sought counter tree) ≡ o
            → MatchOption o (Enters old new tree counter ticket old_lists new_lists answer) (IsFoundInBranches old new old_lists new_lists answer)
            → IsReplanted new reserved (MatchOption o (treap.Enters (seen old reserved) (seen new reserved) counter ticket old_lists new_lists answer)
            (treap.IsFound (seen old reserved) (seen new reserved) old_lists new_lists answer))
        by None none enters =
            let grown = grafted (sprout counter ticket answer) tree in
            let is : tree_at new.nodes new.top ≡ grown = tree_at-is new.nodes new.top grown enters.regrows.holds in
            record {
              stays = record {
                treap = rw is (grafted-treap (sprout counter ticket answer) tree planted.treap (lacking none));
                holds = Holds-read new.nodes new.top grown enters.regrows.holds;
                counted = omega (arith, ap size is, grafted-size (sprout counter ticket answer) tree, enters.len, planted.counted);
                within = omega (arith, enters.len);
                fits = omega (arith, planted.fits, enters.regrows.capacity);
              };
              settled = record {
                is_new = enters.is_new;
                tree = is;
                room = omega (arith, enters.len);
                opens = enters.opens;
              };
            }
        by (Some key) some found = record {
          stays = subst (λ (b : Branches). IsPlanted b reserved) (sym found.same) planted;
          settled = record {
            is_old = found.is_old;
            list = found.list;
            same = ap (λ (b : Branches). seen b reserved) found.same;
            same_lists = found.same_lists;
          };
        }

  -- and after a counter's node went
  prunes_top : (new : Branches) (key : ℕ) → top_value (sought counter (tree_at old.nodes old.top)) ≡ Some key
      → Prunes old new (tree_at old.nodes old.top) counter
      → IsReplanted new reserved (treap.Prunes (seen old reserved) (seen new reserved) counter)
  unfolding tree
  prunes_top new key some prunes =
      let has = having key some in
      let less = pruned counter tree in
      let is : tree_at new.nodes new.top ≡ less = tree_at-is new.nodes new.top less prunes.regrows.holds in
      record {
        stays = record {
          treap = rw is (pruned-treap counter tree planted.treap has.0 has.1);
          holds = Holds-read new.nodes new.top less prunes.regrows.holds;
          counted = omega (arith, ap size is, pruned-size counter tree planted.treap.searched has.0 has.1, prunes.len, planted.counted);
          within = omega (arith, prunes.len, planted.within);
          fits = omega (arith, planted.fits, prunes.regrows.capacity);
        };
        settled = record { tree = is; room = omega (arith, prunes.len, planted.within) };
      }

  -- or may have gone
  pub Leaves-top : (new : Branches) (lists : Lists) (found : Option ℕ) → found ≡ top_value (sought counter (tree_at old.nodes old.top))
      → MatchOption found (new ≡ old) (Leaves old new (tree_at old.nodes old.top) counter lists)
      → IsReplanted new reserved (MatchOption found (seen new reserved ≡ seen old reserved)
      (treap.Leaves (seen old reserved) (seen new reserved) counter lists))
  Leaves-top new lists None none same = record {
    stays = subst (λ (b : Branches). IsPlanted b reserved) (sym same) planted;
    settled = ap (λ (b : Branches). seen b reserved) same;
  }
  Leaves-top new lists (Some key) some leaves = record {
    stays = by (length (waits_at lists key) == 1) refl;
    settled = record {
      last = λ one. (prunes_top new key (sym some) (leaves.last one)).settled;
      others = λ more. ap (λ (b : Branches). seen b reserved) (leaves.others more);
    };
  }
    where
      by : (is_last : Bool) → (length (waits_at lists key) == 1) ≡ is_last → IsPlanted new reserved
      by true one = (prunes_top new key (sym some) (leaves.last (eqb-true (length (waits_at lists key)) 1 one))).stays
      by false more = subst (λ (b : Branches). IsPlanted b reserved) (sym (leaves.others (eqb-false (length (waits_at lists key)) 1 more))) planted
