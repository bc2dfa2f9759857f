-- What a treap of lists shows: the queues of its entries and the tickets of its nodes, before and after a change.
use Rattle.std.proofs.Common.{◌≡◌, ℕ, true, false, List, [], ◌∷◌, map, Option, Some, None, is_some, IsSome, option_map}
use Rattle.std.proofs.Common.{refl, sym, ap, ◌∙◌}
use Rattle.std.proofs.lemmas.List.{map-append}
use Rattle.waiters.specs.declared.wait.Wait.{Wait}
use Rattle.waiters.specs.Lists.{Lists, waits_at}
use Rattle.sema_root.specs.Entries.{entry_of, AllBelow, Adds, Removes}
use Rattle.sema_root.specs.Joined.{queues_in}
use Rattle.sema_root.specs.Reshaping.{grafted, pruned}
use Rattle.sema_root.specs.Rooted.{listed}
use Rattle.sema_root.specs.Treap.{queues_of, ticket_of, KeepsTickets}
use Rattle.sema_root.specs.Tree.{Sprig, Tree, entries, sought, top_value, mapped, IsTreap}
use Rattle.sema_root.proofs.Entering.{Adds-is, Adds-else, Removes-is, Removes-else}
use Rattle.sema_root.proofs.Grafting.{grafted-adds}
use Rattle.sema_root.proofs.Mapping.{changed-above, changed-entry_of, mapped-entries, mapped-entry_of}
use Rattle.sema_root.proofs.Pruning.{pruned-removes}
use Rattle.sema_root.proofs.Seeking.{sought-value}

-- of what a node holds, its ticket and its list
abbrev pub ticket_in : {V : Type 0} → ℕ × V → ℕ
ticket_in held = held.0

abbrev pub list_in : ℕ × ℕ → ℕ
list_in held = held.1

module _ {A B : Type 0} (change : A → B) where
  changed-below : (c : ℕ) (xs : List (ℕ × A)) → AllBelow c xs → AllBelow c (map (λ entry. (entry.0, change entry.1)) xs)
  changed-below c [] below = tt
  changed-below c (x ∷ xs) below = (below.0, changed-below c xs below.1)

  -- an entry that comes in or goes does so with its value changed
  changed-Adds : {old new : List (ℕ × A)} {c : ℕ} {value : A} → Adds old new c value
      → Adds (map (λ entry. (entry.0, change entry.1)) old) (map (λ entry. (entry.0, change entry.1)) new) c (change value)
  changed-Adds {c = c} {value = value} adds = record {
    before = map (λ entry. (entry.0, change entry.1)) adds.before;
    behind = map (λ entry. (entry.0, change entry.1)) adds.behind;
    were = ap (map (λ entry. (entry.0, change entry.1))) adds.were ∙ map-append _ adds.before adds.behind;
    are = ap (map (λ entry. (entry.0, change entry.1))) adds.are ∙ map-append _ adds.before ((c, value) ∷ adds.behind);
    below = changed-below c adds.before adds.below;
    above = changed-above change c adds.behind adds.above;
  }

  abbrev changed-Removes : {old new : List (ℕ × A)} {c : ℕ} → Removes old new c
      → Removes (map (λ entry. (entry.0, change entry.1)) old) (map (λ entry. (entry.0, change entry.1)) new) c
  changed-Removes {c = c} removes = record {
    before = map (λ entry. (entry.0, change entry.1)) removes.before;
    value = change removes.value;
    behind = map (λ entry. (entry.0, change entry.1)) removes.behind;
    were = ap (map (λ entry. (entry.0, change entry.1))) removes.were ∙ map-append _ removes.before ((c, removes.value) ∷ removes.behind);
    are = ap (map (λ entry. (entry.0, change entry.1))) removes.are ∙ map-append _ removes.before removes.behind;
  }

-- the queues that a tree shows are those of its lists
pub shown-queues : (lists : Lists) (tree : Tree ℕ) → queues_of (mapped (waits_at lists) tree) ≡ queues_in lists (listed tree)
shown-queues lists tree =
    ap (map {A = ℕ × (ℕ × List Wait)} (λ entry. (entry.0, entry.1.1))) (mapped-entries (waits_at lists) tree) ∙ along (entries tree)
  where
    along : (es : List (ℕ × (ℕ × ℕ)))
        → map {A = ℕ × (ℕ × List Wait)} (λ entry. (entry.0, entry.1.1)) (map (λ entry. (entry.0, (entry.1.0, waits_at lists entry.1.1))) es)
        ≡ queues_in lists (map (λ entry. (entry.0, entry.1.1)) es)
    along [] = refl
    along (x ∷ xs) = ap (λ rest. (x.0, waits_at lists x.1.1) ∷ rest) (along xs)

-- the ticket of a counter is that of its node
pub shown-ticket : (lists : Lists) (tree : Tree ℕ) (c : ℕ)
    → ticket_of (mapped (waits_at lists) tree) c ≡ option_map ticket_in (entry_of c (entries tree))
shown-ticket lists tree c =
    changed-entry_of ticket_in c (entries (mapped (waits_at lists) tree))
    ∙ ap (option_map ticket_in) (mapped-entry_of (waits_at lists) c tree)
    ∙ by (entry_of c (entries tree))
  where
    by : (found : Option (ℕ × ℕ))
        → option_map ticket_in (option_map {T = ℕ × ℕ} (λ held. (held.0, waits_at lists held.1)) found) ≡ option_map ticket_in found
    by None = refl
    by (Some held) = refl

-- the list of a counter is that of its node
pub sought-listed : (c : ℕ) (tree : Tree ℕ) → IsTreap tree → top_value (sought c tree) ≡ entry_of c (listed tree)
sought-listed c tree treap = sought-value c tree treap.searched ∙ sym (changed-entry_of list_in c (entries tree))

-- an entry, where the list of one is known
held_of : (c : ℕ) (tree : Tree ℕ) (found : Option (ℕ × ℕ)) → entry_of c (entries tree) ≡ found
    → (k : ℕ) → entry_of c (listed tree) ≡ Some k → (ticket : ℕ) × (entry_of c (entries tree) ≡ Some (ticket, k))
held_of c tree None is k has = absurd (none_some (sym (changed-entry_of list_in c (entries tree) ∙ ap (option_map list_in) is) ∙ has))
  where
    none_some : None ≡ Some k → ⊥
    none_some same = cc
held_of c tree (Some held) is k has =
    (held.0, is ∙ ap (λ key. Some (held.0, key)) (some_is (sym (changed-entry_of list_in c (entries tree) ∙ ap (option_map list_in) is) ∙ has)))
  where
    some_is : Some held.1 ≡ Some k → held.1 ≡ k
    some_is same = cc

lacks_of : (c : ℕ) (tree : Tree ℕ) (found : Option (ℕ × ℕ)) → entry_of c (entries tree) ≡ found → entry_of c (listed tree) ≡ None
    → entry_of c (entries tree) ≡ None
lacks_of c tree None is lacks = is
lacks_of c tree (Some held) is lacks =
    absurd (some_none (sym (changed-entry_of list_in c (entries tree) ∙ ap (option_map list_in) is) ∙ lacks))
  where
    some_none : Some held.1 ≡ None → ⊥
    some_none same = cc

-- a node that comes in
module _ (tree : Tree ℕ) (treap : IsTreap tree) (new : Sprig ℕ) (lacks : entry_of new.counter (listed tree) ≡ None) where
  pub lacking : entry_of new.counter (entries tree) ≡ None
  lacking = lacks_of new.counter tree (entry_of new.counter (entries tree)) refl lacks

  pub grafted-listed : Adds (listed tree) (listed (grafted new tree)) new.counter new.value
  grafted-listed = changed-Adds list_in (grafted-adds new tree treap.searched lacking)

  pub grafted-ticket : (lists : Lists) → ticket_of (mapped (waits_at lists) (grafted new tree)) new.counter ≡ Some new.ticket
  grafted-ticket lists =
      shown-ticket lists (grafted new tree) new.counter
      ∙ ap (option_map ticket_in) (Adds-is (grafted-adds new tree treap.searched lacking))

-- a node that goes
module _ (tree : Tree ℕ) (treap : IsTreap tree) (c k : ℕ) (has : entry_of c (listed tree) ≡ Some k) where
  pub holding : (ticket : ℕ) × (entry_of c (entries tree) ≡ Some (ticket, k))
  holding = held_of c tree (entry_of c (entries tree)) refl k has

  abbrev gone : Removes (entries tree) (entries (pruned c tree)) c
  gone = pruned-removes c tree treap.searched (holding.0, k) holding.1

  abbrev pub pruned-listed : Removes (listed tree) (listed (pruned c tree)) c
  pruned-listed = changed-Removes list_in gone

-- a counter with a ticket is in
pub ticketed : (lists : Lists) (tree : Tree ℕ) (c : ℕ) → IsSome (ticket_of (mapped (waits_at lists) tree) c)
    → entry_of c (entries tree) ≡ None → ⊥
ticketed lists tree c some lacks = none_some (ap is_some (sym (shown-ticket lists tree c ∙ ap (option_map ticket_in) lacks)) ∙ some)
  where
    none_some : false ≡ true → ⊥
    none_some same = cc

-- tickets stay where the nodes stay, whatever becomes of the lists
pub keeps-same : (old new : Lists) (tree : Tree ℕ) → KeepsTickets (mapped (waits_at old) tree) (mapped (waits_at new) tree)
keeps-same old new tree c was is = shown-ticket new tree c ∙ sym (shown-ticket old tree c)

-- and where a node comes in
pub keeps-grafted : (old new : Lists) (tree : Tree ℕ) (treap : IsTreap tree) (node : Sprig ℕ) → entry_of node.counter (listed tree) ≡ None
    → KeepsTickets (mapped (waits_at old) tree) (mapped (waits_at new) (grafted node tree))
keeps-grafted old new tree treap node lacks c was is =
    let lacking : entry_of node.counter (entries tree) ≡ None = lacking tree treap node lacks in
    shown-ticket new (grafted node tree) c
    ∙ ap (option_map ticket_in) (Adds-else (grafted-adds node tree treap.searched lacking) c
    (λ same. ticketed old tree c was (ap (λ counter. entry_of counter (entries tree)) same ∙ lacking)))
    ∙ sym (shown-ticket old tree c)

-- or goes
pub keeps-pruned : (old new : Lists) (tree : Tree ℕ) (treap : IsTreap tree) (d k : ℕ) → entry_of d (listed tree) ≡ Some k
    → KeepsTickets (mapped (waits_at old) tree) (mapped (waits_at new) (pruned d tree))
keeps-pruned old new tree treap d k has c was is =
    let removes : Removes (entries tree) (entries (pruned d tree)) d = gone tree treap d k has in
    shown-ticket new (pruned d tree) c
    ∙ ap (option_map ticket_in) (Removes-else removes treap.searched c
    (λ same. ticketed new (pruned d tree) c is (ap (λ counter. entry_of counter (entries (pruned d tree))) same ∙ Removes-is removes treap.searched)))
    ∙ sym (shown-ticket old tree c)
