-- What a wait that is queued, and one that is taken out, comes to on the queues, whatever keeps the entries.
use Rattle.std.proofs.Common.{◌≡◌, ℕ, ◌+◌, ◌<◌, Bool, true, false, List, [], ◌∷◌, Option, Some, None, is_some, IsSome, IfNone, OnSome}
use Rattle.std.proofs.Common.{length}
use Rattle.std.proofs.Common.{refl, sym, ap, ◌∙◌, subst, arith, length-append, length-drop}
use Rattle.waiters.specs.declared.wait.Wait.{Wait}
use Rattle.waiters.specs.Lists.{Lists, list_at, waits_at, is_sought, Changes as ListChanges}
use Rattle.waiters.proofs.SoughtLemmas.{without-none, without-length}
use Rattle.sema_root.specs.declared.which.Which.{Which}
use Rattle.sema_root.specs.declared.which.Which.TheVariants.{First, Of}
use Rattle.sema_root.specs.Entries.{entry_of, Adds, Removes}
use Rattle.sema_root.specs.Queues.{waits_on, total, AreQueues, joined_by, Changes}
use Rattle.sema_root.specs.Takes.{taken_by, left_by, Takes, TakesOut}
use Rattle.sema_root.specs.Joined.{queues_in, AreJoined}
use Rattle.sema_root.proofs.Entering.{Adds-was}
use Rattle.sema_root.proofs.Joining.{Replaces, comes_in, goes, stays, joined-queues, pending, ListChanges-then}
use Rattle.sema_root.proofs.Entries.{waits_on-entry, waits_on-absent}

-- a wait that joins a queue makes it longer by one
length-joined_by : (lifo : Bool) (wait : Wait) (waits : List Wait) → length (joined_by lifo wait waits) ≡ length waits + 1
length-joined_by true wait waits = omega arith
length-joined_by false wait waits = omega (arith, length-append waits (wait ∷ []))

-- what `queue` promises, and what a root keeps
pub record Queued (old new : Lists) (entries more : List (ℕ × ℕ)) (seats c : ℕ) (lifo : Bool) (wait : Wait) : Type 0 where
  pub joined : AreJoined new more seats
  pub queued : Changes (queues_in old entries) (queues_in new more) c (joined_by lifo wait (waits_on (queues_in old entries) c))
  pub count : total (queues_in new more) ≡ total (queues_in old entries) + 1

queued_from : {old new : Lists} {entries more : List (ℕ × ℕ)} {seats c : ℕ} (lifo : Bool) (wait : Wait)
    → Replaces old new entries more seats c (joined_by lifo wait (waits_on (queues_in old entries) c))
    → Queued old new entries more seats c lifo wait
queued_from {old} {new} {entries} {more} {seats} {c} lifo wait replaces = record {
  joined = replaces.joined;
  queued = replaces.changes;
  count = omega (arith, replaces.total, length-joined_by lifo wait (waits_on (queues_in old entries) c));
}

module _ {old : Lists} {entries : List (ℕ × ℕ)} {seats c : ℕ} (joined : AreJoined old entries seats) (lifo : Bool) (wait : Wait) where
  -- a wait joins the queue of a counter that is in
  pub queued_beside : {new : Lists} {k : ℕ} → entry_of c entries ≡ Some k
      → ListChanges old new k (Some (joined_by lifo wait (waits_at old k)))
      → new.room + 1 ≡ old.room → new.list_room ≡ old.list_room
      → Queued old new entries entries seats c lifo wait
  queued_beside {new} {k} has changed room list_room =
      let longer = length-joined_by lifo wait (waits_at old k) in
      let replaces : Replaces old new entries entries seats c (joined_by lifo wait (waits_at old k)) =
      stays joined has changed (omega arith) (omega arith) list_room in
      queued_from lifo wait (subst (λ waits. Replaces old new entries entries seats c (joined_by lifo wait waits))
      (sym (waits_on-entry old c k entries has)) replaces)

  -- or is the first of a counter that comes in
  pub queued_first : {opened new : Lists} {more : List (ℕ × ℕ)} {k : ℕ} → Adds entries more c k
      → list_at old k ≡ None → ListChanges old opened k (Some []) → opened.room ≡ old.room → opened.list_room + 1 ≡ old.list_room
      → ListChanges opened new k (Some (joined_by lifo wait (waits_at opened k)))
      → new.room + 1 ≡ opened.room → new.list_room ≡ opened.list_room
      → Queued old new entries more seats c lifo wait
  queued_first {opened} {new} {more} {k} adds closed opens room list_room changed room_after list_room_after =
      let one = length-joined_by lifo wait [] in
      let pushed : ListChanges opened new k (Some (joined_by lifo wait [])) =
      subst (λ waits. ListChanges opened new k (Some (joined_by lifo wait waits))) (pending opens) changed in
      let replaces : Replaces old new entries more seats c (joined_by lifo wait []) =
      comes_in joined adds closed (ListChanges-then opens pushed) (omega arith) (omega arith) (omega arith) in
      queued_from lifo wait (subst (λ waits. Replaces old new entries more seats c (joined_by lifo wait waits))
      (sym (waits_on-absent old c entries (Adds-was adds))) replaces)

-- nobody is meant where nobody waits
taken_by-nobody : (which : Which) → taken_by which [] ≡ None
taken_by-nobody First = refl
taken_by-nobody (Of sought) = refl

-- the wait that is meant leaves all others: the whole list where there is none
pub left_by-none : (which : Which) (waits : List Wait) → taken_by which waits ≡ None → left_by which waits ≡ waits
left_by-none First [] none = refl
left_by-none First (wait ∷ rest) none = absurd (cc)
left_by-none (Of sought) waits none = without-none (is_sought sought) waits none

-- and else one wait less
pub left_by-length : (which : Which) (waits : List Wait) → IsSome (taken_by which waits) → length (left_by which waits) + 1 ≡ length waits
left_by-length First [] some = absurd (cc)
left_by-length First (wait ∷ rest) some = omega (arith, length-drop 1 (wait ∷ rest))
left_by-length (Of sought) waits some = without-length (is_sought sought) waits some

-- so a list gives as much room as it gets shorter
Takes-room : {old new : Lists} {key : ℕ} {which : Which} {taken : Option Wait} → Takes old new key which taken
    → new.room + length (left_by which (waits_at old key)) ≡ old.room + length (waits_at old key)
Takes-room {old} {new} {key} {which} {taken} takes = by taken takes.first takes.room takes.none
  where
    by : (some : Option Wait) → some ≡ taken_by which (waits_at old key) → OnSome some (new.room ≡ old.room + 1) → IfNone some (new ≡ old)
        → new.room + length (left_by which (waits_at old key)) ≡ old.room + length (waits_at old key)
    by (Some wait) first room none = omega (arith, left_by-length which (waits_at old key) (ap is_some (sym first)))
    by None first room none = omega (arith, ap (λ lists. lists.room) none, ap length (left_by-none which (waits_at old key) (sym first)))

-- where a list gets shorter, one is taken
pub Takes-some : {old new : Lists} {key : ℕ} {which : Which} {taken : Option Wait} → Takes old new key which taken
    → length (waits_at new key) < length (waits_at old key) → IsSome taken
Takes-some {old} {new} {key} {which} {taken} takes shorter = by taken takes.first
  where
    by : (some : Option Wait) → some ≡ taken_by which (waits_at old key) → IsSome some
    by (Some wait) first = refl
    by None first = absurd (omega (arith, shorter, ap length (pending takes.rest), ap length (left_by-none which (waits_at old key) (sym first))))

-- where one is taken, nothing has to hold of none
pub if_none_from : (P : Type 0) (taken : Option Wait) → IsSome taken → IfNone taken P
if_none_from P (Some wait) some = tt
if_none_from P None some = cc

-- what a wait that is taken out of the queue of a counter that is in comes to, and what a root keeps
pub record Taken (old new : Lists) (entries fewer : List (ℕ × ℕ)) (seats c : ℕ) (which : Which) (taken : Option Wait) : Type 0 where
  pub joined : AreJoined new fewer seats
  pub out : TakesOut (queues_in old entries) (queues_in new fewer) c which taken

taken_from : {old new : Lists} {entries fewer : List (ℕ × ℕ)} {seats c : ℕ} (which : Which) (taken : Option Wait) (waits : List Wait)
    → waits_on (queues_in old entries) c ≡ waits → taken ≡ taken_by which waits
    → Replaces old new entries fewer seats c (left_by which waits)
    → Taken old new entries fewer seats c which taken
taken_from {old} {new} {entries} {fewer} {seats} {c} which taken waits are first replaces = record {
  joined = replaces.joined;
  out = record {
    first = first ∙ ap (taken_by which) (sym are);
    rest = subst (λ waits. Changes (queues_in old entries) (queues_in new fewer) c (left_by which waits)) (sym are) replaces.changes;
    count = by taken first;
    queues = joined-queues replaces.joined;
  };
}
  where
    by : (some : Option Wait) → some ≡ taken_by which waits → OnSome some (total (queues_in new fewer) + 1 ≡ total (queues_in old entries))
    by (Some wait) first = omega (arith, replaces.total, left_by-length which waits (ap is_some (sym first)), ap length are)
    by None first = tt

module _ {old : Lists} {entries : List (ℕ × ℕ)} {seats c : ℕ} (joined : AreJoined old entries seats) (which : Which) (taken : Option Wait) where
  -- somebody still waits on the counter
  pub taken_beside : {new : Lists} {k : ℕ} → entry_of c entries ≡ Some k → Takes old new k which taken → 0 < length (waits_at new k)
      → Taken old new entries entries seats c which taken
  taken_beside {new} {k} has takes left =
      taken_from which taken (waits_at old k) (waits_on-entry old c k entries has) takes.first
      (stays joined has takes.rest (subst (λ waits. 0 < length waits) (pending takes.rest) left) (Takes-room takes) takes.list_room)

  -- nobody does: the counter goes, and its list is closed
  pub taken_last : {popped new : Lists} {fewer : List (ℕ × ℕ)} {k : ℕ} → Removes entries fewer c → entry_of c entries ≡ Some k
      → Takes old popped k which taken → length (waits_at popped k) ≡ 0
      → ListChanges popped new k None → new.room ≡ popped.room → new.list_room ≡ popped.list_room + 1
      → Taken old new entries fewer seats c which taken
  taken_last {popped} {new} {fewer} {k} removes has takes left closes room_after list_room_after =
      let none : length (left_by which (waits_at old k)) ≡ 0 = sym (ap length (pending takes.rest)) ∙ left in
      let replaces : Replaces old new entries fewer seats c [] =
      goes joined removes has (ListChanges-then takes.rest closes) (omega (arith, Takes-room takes)) (omega (arith, takes.list_room)) in
      taken_from which taken (waits_at old k) (waits_on-entry old c k entries has) takes.first
      (subst (Replaces old new entries fewer seats c) (sym (empty _ none)) replaces)
    where
      empty : (waits : List Wait) → length waits ≡ 0 → waits ≡ []
      empty [] none = refl
      empty (wait ∷ rest) none = absurd (omega arith)

-- where no wait is meant, none is taken
pub none_taken : (which : Which) (queues : List (ℕ × List Wait)) (c : ℕ) → AreQueues queues → taken_by which (waits_on queues c) ≡ None
    → TakesOut queues queues c which None
none_taken which queues c are none = record {
  first = sym none;
  rest = record { there = sym (left_by-none which (waits_on queues c) none); elsewhere = λ other differs. refl };
  count = tt;
  queues = are;
}

-- so none is where nobody waits
pub nobody_taken : (which : Which) (queues : List (ℕ × List Wait)) (c : ℕ) → AreQueues queues → waits_on queues c ≡ []
    → TakesOut queues queues c which None
nobody_taken which queues c are nobody = none_taken which queues c are (ap (taken_by which) nobody ∙ taken_by-nobody which)
