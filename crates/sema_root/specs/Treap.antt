-- What a `TreapRoot` is to whoever uses it: a treap of counters, each with its waits, and where tickets come
-- from.
use Rattle.std.specs.Prelude.{◌≡◌, ℕ, ◌%◌, ◌^◌, List, map, Option, Some, None, IsSome, bit_or, refl}
use Rattle.std.specs.Coded.{Coded, code_by, coded×, coded_list, coded_ℕ}
use Rattle.waiters.specs.declared.wait.Wait.{Wait}
use Rattle.rand_xoshiro.specs.SplitMix64.{splitmix_seed}
use Rattle.rand_xoshiro.specs.Xoshiro256.{of_seed, plus_plus}
use Rattle.sema_root.specs.Entries.{entry_of}
use Rattle.sema_root.specs.Tree.{Tree, entries}
use Rattle.sema_root.specs.TreeCode.{tree_code}

-- the ticket that the next new node gets, and the generator's state behind it
pub record Tickets : Type 0 where
  pub next : ℕ
  pub generator : List ℕ

-- the tree of the counters, the tickets to come, and how many waits fit
pub record Treap : Type 0 where
  pub tree : Tree (List Wait)
  pub tickets : Tickets
  pub seats : ℕ

-- a wait is stored as the tuple of its numbers
abbrev pub wait_code : Coded Wait
wait_code =
    code_by (ℕ × (ℕ × ℕ)) (coded× coded_ℕ (coded× coded_ℕ coded_ℕ)) (λ w. (w.id.seat, (w.id.turn, w.ticket)))
    (λ p. record { id = record { seat = p.0; turn = p.1.0 }; ticket = p.1.1 }) (λ _. refl)

-- a treap as the tuple of its fields
abbrev pub treap_code : Coded Treap
treap_code =
    code_by
    (Tree (List Wait) × ((ℕ × List ℕ) × ℕ))
    (coded× (tree_code (coded_list wait_code)) (coded× (coded× coded_ℕ (coded_list coded_ℕ)) coded_ℕ))
    (λ t. (t.tree, ((t.tickets.next, t.tickets.generator), t.seats)))
    (λ p. record { tree = p.0; tickets = record { next = p.1.0.0; generator = p.1.0.1 }; seats = p.1.1 })
    (λ _. refl)

-- the counters in rising order, each with its waits
abbrev pub queues_of : Tree (List Wait) → List (ℕ × List Wait)
queues_of tree = map (λ entry. (entry.0, entry.1.1)) (entries tree)

-- the ticket of a counter that is in
abbrev pub ticket_of : Tree (List Wait) → ℕ → Option ℕ
ticket_of tree counter = entry_of counter (map (λ entry. (entry.0, entry.1.0)) (entries tree))

-- the low 32 bits of a word, with the lowest bit set
abbrev pub as_ticket : ℕ → ℕ
as_ticket word = bit_or (word % 2 ^ 32) 1

-- the ticket of the generator's next word, and the state behind that word
abbrev pub drawn_from : List ℕ → Tickets
drawn_from generator =
    let drawn = plus_plus generator in record { next = as_ticket drawn.0; generator = drawn.1 }

-- the tickets of a seed, from the first on
abbrev pub tickets_from : ℕ → Tickets
tickets_from seed = drawn_from (of_seed (splitmix_seed 32 seed))

-- a counter that stays keeps its ticket
abbrev pub KeepsTickets : Tree (List Wait) → Tree (List Wait) → Type 0
KeepsTickets old new = (counter : ℕ) → IsSome (ticket_of old counter) → IsSome (ticket_of new counter)
    → ticket_of new counter ≡ ticket_of old counter

-- a counter that comes in takes the next ticket, and only then another is drawn
pub record Draws (old new : Treap) (counter : ℕ) : Type 0 where
  pub waited : IsSome (ticket_of old.tree counter) → new.tickets ≡ old.tickets
  pub came : ticket_of old.tree counter ≡ None
      → (ticket_of new.tree counter ≡ Some old.tickets.next)
      × (new.tickets ≡ drawn_from old.tickets.generator)
