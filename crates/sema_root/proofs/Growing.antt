-- What it comes to on a root whose entries a treap keeps that a wait is queued or taken out.
use Rattle.std.proofs.Common.{◌≡◌, ℕ, ◌+◌, ◌<◌, Bool, List, [], Option, Some, None, is_some, IsSome, MatchOption, length}
use Rattle.std.proofs.Common.{option_map}
use Rattle.std.proofs.Common.{refl, sym, ap, ◌∙◌, subst, arith}
use Rattle.std.proofs.lemmas.List.{length-map}
use Rattle.waiters.specs.declared.wait.Wait.{Wait}
use Rattle.waiters.specs.Lists.{Lists, IsOpen, waits_at, Changes as ListChanges}
use Rattle.sema_root.specs.declared.which.Which.{Which}
use Rattle.sema_root.specs.Entries.{entry_of}
use Rattle.sema_root.specs.Joined.{queues_in}
use Rattle.sema_root.specs.Planted.{Planted, Leaves}
use Rattle.sema_root.specs.Queues.{waits_on, total, AreQueues, joined_by, Changes}
use Rattle.sema_root.specs.Reshaping.{grafted, pruned}
use Rattle.sema_root.specs.Rooted.{listed, shown, IsRooted, Comes, IsIn}
use Rattle.sema_root.specs.Takes.{taken_by, Takes, TakesOut}
use Rattle.sema_root.specs.Treap.{Tickets, queues_of, KeepsTickets, Draws}
use Rattle.sema_root.specs.Tree.{Tree, Sprig, entries, size, sought, top_value, mapped, IsTreap}
use Rattle.sema_root.proofs.Grafting.{grafted-size, grafted-treap}
use Rattle.sema_root.proofs.Joining.{joined-fits, joined-list_room, joined-open, joined-queues, joined-room, joined-waited, pending}
use Rattle.sema_root.proofs.Entries.{waits_on-absent, waits_on-entry}
use Rattle.sema_root.proofs.Pruning.{pruned-size, pruned-treap}
use Rattle.sema_root.proofs.Queueing.{Queued, queued_beside, queued_first, Taken, left_by-length, taken_beside, taken_last}
use Rattle.sema_root.proofs.Rooting.{grafted-listed, grafted-ticket, holding, keeps-grafted, keeps-pruned, keeps-same, lacking, pruned-listed, shown-queues}
use Rattle.sema_root.proofs.Rooting.{shown-ticket, sought-listed, ticket_in, ticketed}
use Rattle.sema_root.proofs.Seeking.{entries-length}

-- what a root shows of its counts
module _ {treap : Planted} {lists : Lists} {seats : ℕ} (rooted : IsRooted treap lists seats) where
  pub shown-total : total (queues_of (mapped (waits_at lists) treap.tree)) ≡ total (queues_in lists (listed treap.tree))
  shown-total = ap total (shown-queues lists treap.tree)

  pub shown-are_queues : AreQueues (queues_of (mapped (waits_at lists) treap.tree))
  shown-are_queues = subst AreQueues (sym (shown-queues lists treap.tree)) (joined-queues rooted.joined)

  -- while a seat is free there is room for a node, a list and a wait
  pub rooted-room : total (queues_of (mapped (waits_at lists) treap.tree)) < seats → 0 < treap.room
  rooted-room free =
      let fits : length (listed treap.tree) < seats = joined-fits rooted.joined (subst (λ n. n < seats) shown-total free) in
      let count : length (listed treap.tree) ≡ size treap.tree = length-map (entries treap.tree) _ ∙ entries-length treap.tree in
      omega (arith, fits, count, rooted.room)

  pub rooted-list_room : total (queues_of (mapped (waits_at lists) treap.tree)) < seats → 0 < lists.list_room
  rooted-list_room free = joined-list_room rooted.joined (subst (λ n. n < seats) shown-total free)

  pub rooted-wait_room : total (queues_of (mapped (waits_at lists) treap.tree)) < seats → 0 < lists.room
  rooted-wait_room free = joined-room rooted.joined (subst (λ n. n < seats) shown-total free)

  -- the list of a counter that is in is open
  pub rooted-open : (c key : ℕ) → top_value (sought c treap.tree) ≡ Some key → IsOpen lists key
  rooted-open c key is = joined-open rooted.joined c key (sym (sought-listed c treap.tree rooted.treap) ∙ is)

  -- who waits on a counter: its list, or nobody
  pub rooted-waits : (c key : ℕ) → top_value (sought c treap.tree) ≡ Some key
      → waits_on (queues_of (mapped (waits_at lists) treap.tree)) c ≡ waits_at lists key
  rooted-waits c key is =
      ap (λ queues. waits_on queues c) (shown-queues lists treap.tree)
      ∙ waits_on-entry lists c key (listed treap.tree) (sym (sought-listed c treap.tree rooted.treap) ∙ is)

  pub rooted-nobody : (c : ℕ) → top_value (sought c treap.tree) ≡ None → waits_on (queues_of (mapped (waits_at lists) treap.tree)) c ≡ []
  rooted-nobody c is =
      ap (λ queues. waits_on queues c) (shown-queues lists treap.tree)
      ∙ waits_on-absent lists c (listed treap.tree) (sym (sought-listed c treap.tree rooted.treap) ∙ is)

-- what `queue` promises, and what the root keeps
pub record QueuedOn (old new : Planted) (old_tickets new_tickets : Tickets) (old_lists new_lists : Lists) (seats counter : ℕ)
    (lifo : Bool) (wait : Wait) : Type 0 where
  pub rooted : IsRooted new new_lists seats
  pub queued : Changes (queues_of (mapped (waits_at old_lists) old.tree)) (queues_of (mapped (waits_at new_lists) new.tree)) counter
      (joined_by lifo wait (waits_on (queues_of (mapped (waits_at old_lists) old.tree)) counter))
  pub count : total (queues_of (mapped (waits_at new_lists) new.tree)) ≡ total (queues_of (mapped (waits_at old_lists) old.tree)) + 1
  pub kept : KeepsTickets (mapped (waits_at old_lists) old.tree) (mapped (waits_at new_lists) new.tree)
  pub drawn : Draws (shown old_lists old.tree old_tickets seats) (shown new_lists new.tree new_tickets seats) counter

module _ (old : Planted) (old_tickets : Tickets) (old_lists : Lists) (seats : ℕ) (rooted : IsRooted old old_lists seats)
    (counter : ℕ) (lifo : Bool) (wait : Wait) where
  -- a counter that comes in
  queued_in : (new : Planted) (new_tickets : Tickets) (mid new_lists : Lists) (key : ℕ)
      → top_value (sought counter old.tree) ≡ None → Comes old new old_tickets new_tickets old_lists mid counter key
      → ListChanges mid new_lists key (Some (joined_by lifo wait (waits_at mid key)))
      → new_lists.room + 1 ≡ mid.room → new_lists.list_room ≡ mid.list_room
      → QueuedOn old new old_tickets new_tickets old_lists new_lists seats counter lifo wait
  queued_in new new_tickets mid new_lists key is comes changed room list_room =
      let node : Sprig ℕ = record { counter = counter; ticket = old_tickets.next; value = key } in
      let lacks : entry_of counter (listed old.tree) ≡ None = sym (sought-listed counter old.tree rooted.treap) ∙ is in
      let done : Queued old_lists new_lists (listed old.tree) (listed (grafted node old.tree)) seats counter lifo wait =
      queued_first rooted.joined lifo wait (grafted-listed old.tree rooted.treap node lacks)
      comes.opens.was_closed comes.opens.opened comes.opens.room comes.opens.list_room changed room list_room in
      subst (λ tree. QueuedOn old (record new { tree = tree }) old_tickets new_tickets old_lists new_lists seats counter lifo wait) (sym comes.tree)
      (record {
        rooted = record {
          joined = done.joined;
          treap = grafted-treap node old.tree rooted.treap (lacking old.tree rooted.treap node lacks);
          room = omega (arith, grafted-size node old.tree, comes.room, rooted.room);
        };
        queued = rw (shown-queues old_lists old.tree, shown-queues new_lists (grafted node old.tree)) done.queued;
        count = rw (shown-queues old_lists old.tree, shown-queues new_lists (grafted node old.tree)) done.count;
        kept = keeps-grafted old_lists new_lists old.tree rooted.treap node lacks;
        drawn = record {
          waited = λ some. absurd (ticketed old_lists old.tree counter some (lacking old.tree rooted.treap node lacks));
          came = λ none. (grafted-ticket old.tree rooted.treap node lacks new_lists, comes.tickets);
        };
      })

  -- a counter that is in
  queued_on : (new_lists : Lists) (key : ℕ) → top_value (sought counter old.tree) ≡ Some key
      → ListChanges old_lists new_lists key (Some (joined_by lifo wait (waits_at old_lists key)))
      → new_lists.room + 1 ≡ old_lists.room → new_lists.list_room ≡ old_lists.list_room
      → QueuedOn old old old_tickets old_tickets old_lists new_lists seats counter lifo wait
  queued_on new_lists key is changed room list_room =
      let has : entry_of counter (listed old.tree) ≡ Some key = sym (sought-listed counter old.tree rooted.treap) ∙ is in
      let done : Queued old_lists new_lists (listed old.tree) (listed old.tree) seats counter lifo wait =
      queued_beside rooted.joined lifo wait has changed room list_room in
      record {
        rooted = record { joined = done.joined; treap = rooted.treap; room = rooted.room };
        queued = rw (shown-queues old_lists old.tree, shown-queues new_lists old.tree) done.queued;
        count = rw (shown-queues old_lists old.tree, shown-queues new_lists old.tree) done.count;
        kept = keeps-same old_lists new_lists old.tree;
        drawn = record {
          waited = λ some. refl;
          came =
              λ none.
              absurd (some_none (sym (ap (option_map ticket_in) (holding old.tree rooted.treap counter key has).1)
              ∙ sym (shown-ticket old_lists old.tree counter) ∙ none));
        };
      }
    where
      some_none : {ticket : ℕ} → Some ticket ≡ None → ⊥
      some_none same = cc

  -- either way the wait is queued
  pub queued_so : (found : Option ℕ) → top_value (sought counter old.tree) ≡ found
      → (new : Planted) (new_tickets : Tickets) (mid new_lists : Lists) (key : ℕ)
      → MatchOption found (Comes old new old_tickets new_tickets old_lists mid counter key) (λ at. IsIn old new old_tickets new_tickets old_lists mid at key)
      → ListChanges mid new_lists key (Some (joined_by lifo wait (waits_at mid key)))
      → new_lists.room + 1 ≡ mid.room → new_lists.list_room ≡ mid.list_room
      → QueuedOn old new old_tickets new_tickets old_lists new_lists seats counter lifo wait
  queued_so None is new new_tickets mid new_lists key comes changed room list_room =
      queued_in new new_tickets mid new_lists key is comes changed room list_room
  queued_so (Some at) is new new_tickets mid new_lists key found changed room list_room =
      subst (λ (n : Planted). QueuedOn old n old_tickets new_tickets old_lists new_lists seats counter lifo wait) (sym found.same)
      (subst (λ (t : Tickets). QueuedOn old old old_tickets t old_lists new_lists seats counter lifo wait) (sym found.same_tickets)
      (queued_on new_lists key (is ∙ ap (λ k. Some k) (sym found.list))
      (subst (λ (l : Lists). ListChanges l new_lists key (Some (joined_by lifo wait (waits_at l key)))) found.same_lists changed)
      (subst (λ (l : Lists). new_lists.room + 1 ≡ l.room) found.same_lists room)
      (subst (λ (l : Lists). new_lists.list_room ≡ l.list_room) found.same_lists list_room)))

  -- and its list is open and has room
  pub open_for : (found : Option ℕ) → top_value (sought counter old.tree) ≡ found
      → (new : Planted) (new_tickets : Tickets) (mid : Lists) (key : ℕ)
      → MatchOption found (Comes old new old_tickets new_tickets old_lists mid counter key) (λ at. IsIn old new old_tickets new_tickets old_lists mid at key)
      → IsOpen mid key × (mid.room ≡ old_lists.room)
  open_for None is new new_tickets mid key comes = (ap is_some comes.opens.opened.there, comes.opens.room)
  open_for (Some at) is new new_tickets mid key found = (
    subst (λ (l : Lists). IsOpen l key) (sym found.same_lists) (rooted-open rooted counter key (is ∙ ap (λ k. Some k) (sym found.list))),
    ap (λ l. l.room) found.same_lists,
  )

-- what a wait that is taken out of the queue of a counter that is in comes to, and what the root keeps
pub record TakenOn (old new : Planted) (old_lists new_lists : Lists) (seats counter : ℕ) (which : Which) (taken : Option Wait) : Type 0 where
  pub rooted : IsRooted new new_lists seats
  pub some : IsSome taken
  pub out : TakesOut (queues_of (mapped (waits_at old_lists) old.tree)) (queues_of (mapped (waits_at new_lists) new.tree)) counter which taken
  pub kept : KeepsTickets (mapped (waits_at old_lists) old.tree) (mapped (waits_at new_lists) new.tree)

module _ (old : Planted) (old_lists : Lists) (seats : ℕ) (rooted : IsRooted old old_lists seats) (counter key : ℕ)
    (is : Some key ≡ top_value (sought counter old.tree)) (which : Which)
    {tree : Tree (List Wait)} (shows : mapped (waits_at old_lists) old.tree ≡ tree)
    (meant : 0 < length (waits_on (queues_of tree) counter) → IsSome (taken_by which (waits_on (queues_of tree) counter)))
    (taken : Option Wait) (new : Planted) (leaves : Leaves old new counter old_lists key)
    (popped : Lists) (takes : Takes old_lists popped key which taken) where
  has : entry_of counter (listed old.tree) ≡ Some key
  has = sym (sought-listed counter old.tree rooted.treap) ∙ sym is

  -- a wait is meant, since somebody waits
  is_taken : IsSome (taken_by which (waits_at old_lists key))
  is_taken =
      let waits : waits_on (queues_of tree) counter ≡ waits_at old_lists key =
      ap (λ tree. waits_on (queues_of tree) counter) (sym shows) ∙ rooted-waits rooted counter key (sym is) in
      subst (λ waits. IsSome (taken_by which waits)) waits
      (meant (subst (λ waits. 0 < length waits) (sym waits) (joined-waited rooted.joined counter key has)))

  one_less : length (waits_at popped key) + 1 ≡ length (waits_at old_lists key)
  one_less = omega (arith, ap length (pending takes.rest), left_by-length which (waits_at old_lists key) is_taken)

  -- from the queues of the entries to those that are shown
  taken_to : (after : Planted) (new_lists : Lists) → IsTreap after.tree → after.room + size after.tree ≡ seats
      → KeepsTickets (mapped (waits_at old_lists) old.tree) (mapped (waits_at new_lists) after.tree)
      → Taken old_lists new_lists (listed old.tree) (listed after.tree) seats counter which taken
      → TakenOn old after old_lists new_lists seats counter which taken
  taken_to after new_lists treap room kept done = record {
    rooted = record { joined = done.joined; treap = treap; room = room };
    some = subst IsSome (sym takes.first) is_taken;
    out = rw (shown-queues old_lists old.tree, shown-queues new_lists after.tree) done.out;
    kept = kept;
  }

  -- somebody still waits on the counter
  pub taken_among : 0 < length (waits_at popped key) → TakenOn old new old_lists popped seats counter which taken
  taken_among left =
      subst (λ (n : Planted). TakenOn old n old_lists popped seats counter which taken)
      (sym (leaves.others (λ one. absurd (omega (arith, one, one_less, left)))))
      (taken_to old popped rooted.treap rooted.room (keeps-same old_lists popped old.tree)
      (taken_beside rooted.joined which taken has takes left))

  -- nobody does, and the counter goes
  pub taken_alone : length (waits_at popped key) ≡ 0 → (closed : Lists)
      → ListChanges popped closed key None → closed.room ≡ popped.room → closed.list_room ≡ popped.list_room + 1
      → TakenOn old new old_lists closed seats counter which taken
  taken_alone left closed closes room_after list_room_after =
      let prunes = leaves.last (omega (arith, left, one_less)) in
      let held = holding old.tree rooted.treap counter key has in
      subst (λ tree. TakenOn old (record new { tree = tree }) old_lists closed seats counter which taken) (sym prunes.tree)
      (taken_to (record new { tree = pruned counter old.tree }) closed
      (pruned-treap counter old.tree rooted.treap (held.0, key) held.1)
      (omega (arith, pruned-size counter old.tree rooted.treap.searched (held.0, key) held.1, prunes.room, rooted.room))
      (keeps-pruned old_lists closed old.tree rooted.treap counter key has)
      (taken_last rooted.joined which taken (pruned-listed old.tree rooted.treap counter key has) has takes left
      closes room_after list_room_after))
