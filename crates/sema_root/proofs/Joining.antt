-- What a change of one list does to the queues of all counters, whatever keeps the entries.
use Rattle.std.proofs.Common.{◌≡◌, ℕ, ◌+◌, ◌<◌, ◌≤◌, List, [], ◌∷◌, ◌++◌, Option, Some, None, IsSome, length}
use Rattle.std.proofs.Common.{refl, sym, ap, ◌∙◌, subst, arith, unwrap_or}
use Rattle.waiters.specs.declared.wait.Wait.{Wait}
use Rattle.waiters.specs.Lists.{Lists, list_at, IsOpen, waits_at, Changes as ListChanges}
use Rattle.sema_root.specs.Entries.{entry_of, AreRising, Adds, Removes}
use Rattle.sema_root.specs.Queues.{waits_on, total, AreQueues, Changes}
use Rattle.sema_root.specs.Joined.{queues_in, AreApart, AreJoined}
use Rattle.sema_root.proofs.Rising.{All-weaken, Rising-below, Rising-above}
use Rattle.sema_root.proofs.Entering.{Adds-rising, Adds-was, Adds-is, Adds-else, Adds-length, Removes-rising, Removes-was, Removes-is, Removes-else}
use Rattle.sema_root.proofs.Entering.{Removes-length}
use Rattle.sema_root.proofs.Entries.{AreOthers, AreWaited, All-with, All-without, All-at, apart-with, apart-without, others-without, queues_in-rising}
use Rattle.sema_root.proofs.Entries.{queues_in-waited, entries_le_total, waits_on-entry, queues_in-Adds, queues_in-Removes, total-Adds, total-Removes, stands}
use Rattle.sema_root.proofs.Entries.{queues_in-others, waited-others}

-- two changes of one list are the second
pub ListChanges-then : {old mid new : Lists} {k : ℕ} {first second : Option (List Wait)}
    → ListChanges old mid k first → ListChanges mid new k second → ListChanges old new k second
ListChanges-then one two = record {
  there = two.there;
  elsewhere = λ other differs. two.elsewhere other differs ∙ one.elsewhere other differs;
}

module _ {lists : Lists} {entries : List (ℕ × ℕ)} {seats : ℕ} (joined : AreJoined lists entries seats) where
  -- the counters rise, and somebody waits on each
  pub joined-queues : AreQueues (queues_in lists entries)
  joined-queues = record { rising = queues_in-rising lists entries joined.rising; waited = queues_in-waited lists entries joined.waited }

  -- no more counters are in than waits
  pub joined-length : length entries ≤ total (queues_in lists entries)
  joined-length = entries_le_total lists entries joined.waited

  -- while a seat is free, a wait fits
  pub joined-room : total (queues_in lists entries) < seats → 0 < lists.room
  joined-room free = omega (arith, joined.room)

  -- and a list fits
  pub joined-list_room : total (queues_in lists entries) < seats → 0 < lists.list_room
  joined-list_room free = omega (arith, joined.list_room, joined-length)

  -- and another entry
  pub joined-fits : total (queues_in lists entries) < seats → length entries < seats
  joined-fits free = omega (arith, joined-length)

  -- somebody waits in the list of a counter that is in
  pub joined-waited : (c k : ℕ) → entry_of c entries ≡ Some k → 0 < length (waits_at lists k)
  joined-waited c k has =
      let at = stands c k entries has in
      All-at _ (c, k) at.before at.behind (subst (AreWaited lists) at.are joined.waited)

  -- so it is open
  pub joined-open : (c k : ℕ) → entry_of c entries ≡ Some k → IsOpen lists k
  joined-open c k has = by (list_at lists k) (joined-waited c k has)
    where
      by : (found : Option (List Wait)) → 0 < length (unwrap_or found []) → IsSome found
      by None waited = absurd (omega arith)
      by (Some waits) waited = refl

  -- a list that isn't open is no counter's
  joined-closed : (k : ℕ) → list_at lists k ≡ None → AreOthers k entries
  joined-closed k closed = All-weaken _ _ (λ entry waited same. by (list_at lists entry.1) (ap (list_at lists) same ∙ closed) waited) entries joined.waited
    where
      by : (found : Option (List Wait)) → found ≡ None → 0 < length (unwrap_or found []) → ⊥
      by None none waited = omega arith
      by (Some waits) none waited = cc

-- what a change of the waits on one counter comes to
pub record Replaces (old new : Lists) (entries changed : List (ℕ × ℕ)) (seats c : ℕ) (waits : List Wait) : Type 0 where
  pub joined : AreJoined new changed seats
  pub changes : Changes (queues_in old entries) (queues_in new changed) c waits
  pub total : total (queues_in new changed) + length (waits_on (queues_in old entries) c) ≡ total (queues_in old entries) + length waits

-- a list that changed has what it was given
pub pending : {old new : Lists} {k : ℕ} {waits : List Wait} → ListChanges old new k (Some waits) → waits_at new k ≡ waits
pending changed = ap (λ list. unwrap_or list []) changed.there

-- a counter comes in, with a list that was not open
module _ {old new : Lists} {entries more : List (ℕ × ℕ)} {seats c k : ℕ} {waits : List Wait}
    (joined : AreJoined old entries seats) (adds : Adds entries more c k)
    (closed : list_at old k ≡ None) (changed : ListChanges old new k (Some waits)) (waited : 0 < length waits)
    (room : new.room + length waits ≡ old.room) (list_room : new.list_room + 1 ≡ old.list_room) where
  others-before : AreOthers k entries
  others-before = joined-closed joined k closed

  brings : Adds (queues_in old entries) (queues_in new more) c waits
  brings = subst (λ queues. Adds queues (queues_in new more) c waits) (queues_in-others changed entries others-before)
      (subst (λ list. Adds (queues_in new entries) (queues_in new more) c list) (pending changed) (queues_in-Adds new adds))

  pub comes_in : Replaces old new entries more seats c waits
  comes_in = record {
    joined = record {
      rising = Adds-rising adds joined.rising;
      apart = subst AreApart (sym adds.are) (apart-with c k adds.before adds.behind
          (subst AreApart adds.were joined.apart) (subst (AreOthers k) adds.were others-before));
      waited = subst (AreWaited new) (sym adds.are) (All-with _ (c, k) adds.before adds.behind
          (subst (λ list. 0 < length list) (sym (pending changed)) waited)
          (subst (AreWaited new) adds.were (waited-others changed entries others-before joined.waited)));
      room = omega (arith, total-Adds brings, joined.room, room);
      list_room = omega (arith, Adds-length adds, joined.list_room, list_room);
    };
    changes = record {
      there = ap (λ found. unwrap_or found []) (Adds-is brings);
      elsewhere = λ other differs. ap (λ found. unwrap_or found []) (Adds-else brings other differs);
    };
    total = omega (arith, total-Adds brings, ap (λ found. length (unwrap_or found [])) (Adds-was brings));
  }

-- the list of an entry that goes is no other's
module _ {entries fewer : List (ℕ × ℕ)} {c : ℕ} (removes : Removes entries fewer c) (apart : AreApart entries) where
  apart-after : AreApart fewer
  apart-after = subst AreApart (sym removes.are) (apart-without c removes.value removes.before removes.behind (subst AreApart removes.were apart))

  others-after : AreOthers removes.value fewer
  others-after = subst (AreOthers removes.value) (sym removes.are)
      (others-without c removes.value removes.before removes.behind (subst AreApart removes.were apart))

waited-after : (lists : Lists) {entries fewer : List (ℕ × ℕ)} {c : ℕ} (removes : Removes entries fewer c)
    → AreWaited lists entries → AreWaited lists fewer
waited-after lists {c = c} removes waited = subst (AreWaited lists) (sym removes.are)
    (All-without _ (c, removes.value) removes.before removes.behind (subst (AreWaited lists) removes.were waited))

-- what goes names the list that the counter had
gone : {entries fewer : List (ℕ × ℕ)} {c k : ℕ} (removes : Removes entries fewer c) → AreRising entries
    → entry_of c entries ≡ Some k → removes.value ≡ k
gone removes rising has = ap (λ found. unwrap_or found 0) (sym (Removes-was removes rising) ∙ has)

-- a counter goes, and its list is closed
module _ {old new : Lists} {entries fewer : List (ℕ × ℕ)} {seats c k : ℕ}
    (joined : AreJoined old entries seats) (removes : Removes entries fewer c) (has : entry_of c entries ≡ Some k)
    (changed : ListChanges old new k None)
    (room : new.room ≡ old.room + length (waits_at old k)) (list_room : new.list_room ≡ old.list_room + 1) where
  same_queues : queues_in new fewer ≡ queues_in old fewer
  same_queues = queues_in-others changed fewer
      (subst (λ key. AreOthers key fewer) (gone removes joined.rising has) (others-after removes joined.apart))

  takes : Removes (queues_in old entries) (queues_in new fewer) c
  takes = subst (λ queues. Removes (queues_in old entries) queues c) (sym same_queues) (queues_in-Removes old removes)

  total-takes : total (queues_in old entries) ≡ total (queues_in new fewer) + length (waits_at old k)
  total-takes =
      total-Removes (queues_in-Removes old removes)
      ∙ ap (λ key. total (queues_in old fewer) + length (waits_at old key)) (gone removes joined.rising has)
      ∙ ap (λ queues. total queues + length (waits_at old k)) (sym same_queues)

  pub goes : Replaces old new entries fewer seats c []
  goes = record {
    joined = record {
      rising = Removes-rising removes joined.rising;
      apart = apart-after removes joined.apart;
      waited = waited-others changed fewer
          (subst (λ key. AreOthers key fewer) (gone removes joined.rising has) (others-after removes joined.apart))
          (waited-after old removes joined.waited);
      room = omega (arith, total-takes, joined.room, room);
      list_room = omega (arith, Removes-length removes joined.rising, joined.list_room, list_room);
    };
    changes = record {
      there = ap (λ found. unwrap_or found []) (Removes-is takes (queues_in-rising old entries joined.rising));
      elsewhere = λ other differs.
          ap (λ found. unwrap_or found []) (Removes-else takes (queues_in-rising old entries joined.rising) other differs);
    };
    total = omega (arith, total-takes, ap length (waits_on-entry old c k entries has));
  }

-- an entry between these two lists keeps its place while its list changes
module _ (old new : Lists) (c k : ℕ) (waits : List Wait) (before behind : List (ℕ × ℕ)) (seats : ℕ)
    (joined : AreJoined old (before ++ (c, k) ∷ behind) seats)
    (changed : ListChanges old new k (Some waits)) (waited : 0 < length waits)
    (room : new.room + length waits ≡ old.room + length (waits_at old k)) (list_room : new.list_room ≡ old.list_room) where
  abbrev leaves : Removes (before ++ (c, k) ∷ behind) (before ++ behind) c
  leaves = record { before = before; value = k; behind = behind; were = refl; are = refl }

  comes_back : Adds (before ++ behind) (before ++ (c, k) ∷ behind) c k
  comes_back = record {
    before = before;
    behind = behind;
    were = refl;
    are = refl;
    below = Rising-below c k before behind joined.rising;
    above = Rising-above c k before behind joined.rising;
  }

  others-beside : AreOthers k (before ++ behind)
  others-beside = others-without c k before behind joined.apart

  returned : Adds (queues_in old (before ++ behind)) (queues_in new (before ++ (c, k) ∷ behind)) c waits
  returned = subst (λ queues. Adds queues (queues_in new (before ++ (c, k) ∷ behind)) c waits) (queues_in-others changed (before ++ behind) others-beside)
      (subst (λ list. Adds (queues_in new (before ++ behind)) (queues_in new (before ++ (c, k) ∷ behind)) c list)
      (pending changed) (queues_in-Adds new comes_back))

  total-taken : total (queues_in old (before ++ (c, k) ∷ behind)) ≡ total (queues_in old (before ++ behind)) + length (waits_at old k)
  total-taken = total-Removes (queues_in-Removes old leaves)

  stays_at : Replaces old new (before ++ (c, k) ∷ behind) (before ++ (c, k) ∷ behind) seats c waits
  stays_at = record {
    joined = record {
      rising = joined.rising;
      apart = joined.apart;
      waited = All-with _ (c, k) before behind
          (subst (λ list. 0 < length list) (sym (pending changed)) waited)
          (waited-others changed (before ++ behind) others-beside (All-without _ (c, k) before behind joined.waited));
      room = omega (arith, total-Adds returned, total-taken, joined.room, room);
      list_room = omega (arith, joined.list_room, list_room);
    };
    changes = record {
      there = ap (λ found. unwrap_or found []) (Adds-is returned);
      elsewhere = λ other differs.
          ap (λ found. unwrap_or found []) (Adds-else returned other differs
          ∙ Removes-else (queues_in-Removes old leaves) (queues_in-rising old (before ++ (c, k) ∷ behind) joined.rising) other differs);
    };
    total =
        omega (arith, total-Adds returned, total-taken, ap length (waits_on-entry old c k (before ++ (c, k) ∷ behind) (Removes-was leaves joined.rising)));
  }

-- the list of a counter that is in changes, and somebody is still in it
pub stays : {old new : Lists} {entries : List (ℕ × ℕ)} {seats c k : ℕ} {waits : List Wait}
    → AreJoined old entries seats → entry_of c entries ≡ Some k
    → ListChanges old new k (Some waits) → 0 < length waits
    → new.room + length waits ≡ old.room + length (waits_at old k) → new.list_room ≡ old.list_room
    → Replaces old new entries entries seats c waits
stays {old} {new} {entries} {seats} {c} {k} {waits} joined has changed waited room list_room =
    let at = stands c k entries has in
    subst (λ entries. Replaces old new entries entries seats c waits) (sym at.are)
    (stays_at old new c k waits at.before at.behind seats (subst (λ entries. AreJoined old entries seats) at.are joined) changed waited room list_room)
