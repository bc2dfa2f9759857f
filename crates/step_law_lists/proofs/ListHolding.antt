-- Who may change which word of a notify list.
use Rattle.std.proofs.Common.{◌≡◌, ◌⊎◌, ℕ, ◌+◌, ◌<◌, ◌≤◌, IsTrue, List, [], ◌∷◌, ◌++◌, refl, sym, ap, ◌∙◌, subst}
use Rattle.std.proofs.Common.{inl, inr, eqb-true, arith}
use native.Mathlib.Decide.{ℕ_discrete}
use Rattle.waiters.specs.declared.wait.Wait.{Wait}
use Rattle.step_table.specs.declared.list_place.AllRow.TheVariants.{L1, L2, L3, L7, L8}
use Rattle.step_table.specs.declared.list_place.ListEffect.{ListEffect}
use Rattle.step_table.specs.declared.list_place.ListPlace.{ListPlace}
use Rattle.step_table.specs.declared.list_place.ListPlace.TheVariants.{Rest, Adding, Waiting, NotifyingOne, NotifyingAll}
use Rattle.step_table.specs.declared.list_place.OneRow.TheVariants.{O1, O2, O3, O6, O8, O9}
use Rattle.step_table.specs.declared.list_place.WaitRow.TheVariants.{W1, W3, W4, E4, Parked}
use Rattle.step_table.specs.declared.list_place.ListParkedRow.TheVariants.{P, E1, E5}
use Rattle.step_table.specs.World.{put}
use Rattle.step_table.specs.Wrapping.{word_of, next_word}
use Rattle.step_table.specs.ListWorld.{ListWords, ListSeat, ListEntry, Took, Granted, Forgone, ListWorld, found, journal_after}
use Rattle.step_table.specs.ListEvent.{ListEvent, waiter}
use Rattle.step_table.specs.ListTable.{list_event_at, list_table}
use Rattle.step_table.specs.ListSteps.{event_of, words_after, ListStep, turn}
use Rattle.step_law_lists.specs.ListLawful.{told, counted, holds, IsInReach}
use Rattle.step_law_lists.specs.ListInvariant.{WordsTell, IsListInvariant}
use Rattle.step_table.proofs.Sums.{put_here, put_else, total_has, pair}
use Rattle.step_law_lists.proofs.ListRows.{Row, n1, w1, w3, w4, woken, e1_in, e1_out, e3, e4, e5, o3, o6, o7, o8_none, o8_some, l3, l6_same, l6_else, l7_none, l7_some, Post, o9, l8_last}
use Rattle.step_law_lists.proofs.ListRows.{l8_more, Step, own, post}
use Rattle.step_law_lists.proofs.ListCases.{step_of}
use Rattle.step_law_lists.proofs.ListKeeping.{list_kept}
use Rattle.step_law_lists.proofs.ListPlacing.{waiter_of_post, other_seat}
use Rattle.step_law_lists.specs.ListHolders.{TakesLock, GivesLock, TakesGrant, StoresGrant, HoldsAlone, HolderAlone, LeavesGuarded, OnlyHolders, LockChanges}
use Rattle.step_law_lists.specs.ListHolders.{GrantChanges, ChangesWords}

takes_free : {g : ListWords} → g.lock ≡ 0 → LeavesGuarded g (record g { lock = 1 })
takes_free free = record { queue = refl; notify = refl; passed = refl; gone = refl; lock = inr (free, refl) }

-- a row of a seat that doesn't hold the lock
left_alone : (i : ℕ) (a : ListSeat) (g : ListWords) (place : ListPlace)
    → (let e : ListEvent = list_event_at i a g place in IsTrue (e.can (found g e.word))) → holds place ≡ 0
    → (let e : ListEvent = list_event_at i a g place in LeavesGuarded g (words_after g e (found g e.word)))
left_alone i a g Rest can free = absurd cc
left_alone i a g Adding can free = record { queue = refl; notify = refl; passed = refl; gone = refl; lock = inl refl }
left_alone i a g (Waiting t W1) can free = takes_free (eqb-true _ 0 can)
left_alone i a g (Waiting t (Parked E1)) can free = takes_free (eqb-true _ 0 can)
left_alone i a g (Waiting t (Parked P)) can free = record { queue = refl; notify = refl; passed = refl; gone = refl; lock = inl refl }
left_alone i a g (Waiting t _) can free = absurd (omega arith)
left_alone i a g (NotifyingOne h O1) can free = record { queue = refl; notify = refl; passed = refl; gone = refl; lock = inl refl }
left_alone i a g (NotifyingOne h (O2 x)) can free = record { queue = refl; notify = refl; passed = refl; gone = refl; lock = inl refl }
left_alone i a g (NotifyingOne h O3) can free = takes_free (eqb-true _ 0 can)
left_alone i a g (NotifyingOne h O9) can free = record { queue = refl; notify = refl; passed = refl; gone = refl; lock = inl refl }
left_alone i a g (NotifyingOne h _) can free = absurd (omega arith)
left_alone i a g (NotifyingAll h L1) can free = record { queue = refl; notify = refl; passed = refl; gone = refl; lock = inl refl }
left_alone i a g (NotifyingAll h (L2 x)) can free = record { queue = refl; notify = refl; passed = refl; gone = refl; lock = inl refl }
left_alone i a g (NotifyingAll h L3) can free = takes_free (eqb-true _ 0 can)
left_alone i a g (NotifyingAll h L8) can free = record { queue = refl; notify = refl; passed = refl; gone = refl; lock = inl refl }
left_alone i a g (NotifyingAll h _) can free = absurd (omega arith)

pub only_holders : (s t : ListWorld) (i : ℕ) → ListStep s i t → OnlyHolders i s t
only_holders s t i = by
  where
    by : {u : ListWorld} → ListStep s i u → OnlyHolders i s u
    by (turn x) free =
        subst (λ u. LeavesGuarded s.words u.words) (sym x.is) (left_alone i (s.seats i) s.words (s.seats i).place x.can free)
    by _ free = record { queue = refl; notify = refl; passed = refl; gone = refl; lock = inl refl }

-- only a seat that holds the lock gives it back
gives_held : (i : ℕ) (a : ListSeat) (g : ListWords) (place : ListPlace) → GivesLock (list_event_at i a g place) → holds place ≡ 1
gives_held i a g (Waiting t W3) gives = refl
gives_held i a g (Waiting t W4) gives = refl
gives_held i a g (Waiting t E4) gives = refl
gives_held i a g (Waiting t (Parked E5)) gives = refl
gives_held i a g (NotifyingOne h O6) gives = refl
gives_held i a g (NotifyingOne h (O8 t)) gives = refl
gives_held i a g (NotifyingAll h (L7 n)) gives = refl
gives_held i a g _ gives = absurd (let word = ap (λ e. e.word) gives.1 in let can = ap (λ e. e.can 1) gives.1 in cc)

pub alone : (first seats : ℕ) (s : ListWorld) → IsListInvariant first seats s → HolderAlone seats s
alone first seats s inv i there = ((λ one. by one), gives_held i (s.seats i) s.words (s.seats i).place)
  where
    by : holds (s.seats i).place ≡ 1 → HoldsAlone seats i s
    by one =
        let all = total_has seats (λ k. holds (s.seats k).place) i there in
        let lock = inv.lock.0 in
        let most = inv.lock.1 in record {
          lock = omega arith;
          alone = λ k here ne. let two = pair seats (λ k. holds (s.seats k).place) k i here there ne in omega arith;
        }

-- a row that stores a grant stores 1, for the first wait in hand
pub stores_one : (i : ℕ) (a : ListSeat) (g : ListWords) (place : ListPlace) (k x : ℕ) → StoresGrant (list_event_at i a g place) k x
    → (x ≡ 1) × (k ≡ waiter i a.hand) × (((h : ℕ) × (place ≡ NotifyingOne h O9)) ⊎ ((h : ℕ) × (place ≡ NotifyingAll h L8)))
stores_one i a g (NotifyingOne h O9) k x stores =
    let word = ap (λ e. e.word) stores.1 in let becomes = ap (λ e. e.becomes 0) stores.1 in (sym becomes, cc, inl (h, refl))
stores_one i a g (NotifyingAll h L8) k x stores =
    let word = ap (λ e. e.word) stores.1 in let becomes = ap (λ e. e.becomes 0) stores.1 in (sym becomes, cc, inr (h, refl))
stores_one i a g (Waiting t (Parked P)) k x stores = absurd (let can = ap (λ e. e.can 0) stores.1 in cc)
stores_one i a g _ k x stores = absurd (let word = ap (λ e. e.word) stores.1 in let can = ap (λ e. e.can 0) stores.1 in cc)

-- how a row may change the words g to h, and the journal j to l
record Changes (i : ℕ) (event : ListEvent) (j l : List ListEntry) (g h : ListWords) : Type 0 where
  wait : (h.wait ≡ g.wait) ⊎ ((h.wait ≡ next_word g.wait) × (l ≡ j ++ Took i ∷ []))
  lock : LockChanges event g.lock h.lock
  grants : (k : ℕ) → GrantChanges i event k (g.grants k) (h.grants k)

-- by giving a lock that is held, or taking one that is free
given : {i : ℕ} {g : ListWords} {event : ListEvent} {j l : List ListEntry} {q : List Wait} → GivesLock event → 1 ≤ g.lock → g.lock ≤ 1
    → Changes i event j l g (record g { lock = 0; queue = q })
given gives some one = record { wait = inl refl; lock = inr (inr (gives, omega arith, refl)); grants = λ k. inl refl }

taken : {i : ℕ} {g : ListWords} {event : ListEvent} {j l : List ListEntry} → TakesLock event → g.lock ≡ 0
    → Changes i event j l g (record g { lock = 1 })
taken takes free = record { wait = inl refl; lock = inr (inl (takes, free, refl)); grants = λ k. inl refl }

-- by reading its own grant
reads_grant : (i : ℕ) (grants : ℕ → ℕ) (event : ListEvent) → TakesGrant event i → 0 < grants i → (k : ℕ)
    → GrantChanges i event k (grants k) (put grants i 0 k)
reads_grant i grants event takes some k = by (ℕ_discrete k i)
  where
    by : Dec (k ≡ i) → GrantChanges i event k (grants k) (put grants i 0 k)
    by (yes e) = inr (inl (rw e takes, e, rw e some, rw e (put_here grants i 0)))
    by (no ne) = inl (put_else grants i 0 k ne)

-- which word a row changes, where a seat that holds the lock finds 1 there
changed : {i : ℕ} {g h : ListWords} {p q : ListSeat} {e : ListEffect} → Row i g p q h e → (j : List ListEntry)
    → holds p.place ≤ g.lock → g.lock ≤ 1
    → Changes i (list_table i p g) j (journal_after i e j) g h
changed n1 j held one = record { wait = inr (refl, refl); lock = inl refl; grants = λ k. inl refl }
changed (w1 free) j held one = taken (_, refl) free
changed (o3 free) j held one = taken (_, refl) free
changed (l3 free) j held one = taken (_, refl) free
changed (e1_in free _) j held one = taken (_, refl) free
changed (e1_out free _) j held one = taken (_, refl) free
changed e4 j held one = given (_, refl) held one
changed e5 j held one = given (_, refl) held one
changed w3 j held one = given (_, refl) held one
changed w4 j held one = given (_, refl) held one
changed o6 j held one = given (_, refl) held one
changed (o8_none _) j held one = given (_, refl) held one
changed (o8_some _) j held one = given (_, refl) held one
changed (l7_none _) j held one = given (_, refl) held one
changed (l7_some _) j held one = given (_, refl) held one
changed {i = i} {g = g} (woken some) j held one =
    record { wait = inl refl; lock = inl refl; grants = reads_grant i g.grants _ (_, refl) some }
changed _ j held one = record { wait = inl refl; lock = inl refl; grants = λ k. inl refl }

-- the notify word stays, or becomes that of the number that is passed by what the row tells
tells_notify : (first : ℕ) {i : ℕ} {g h : ListWords} {p q : ListSeat} {e : ListEffect} → Row i g p q h e → (j : List ListEntry)
    → g.numbers ≡ told j → WordsTell first g → WordsTell first h
    → (h.notify ≡ g.notify)
    ⊎ (((upto : ℕ) × (h.notify ≡ word_of first (counted (Granted upto i) (told j)).passed) × (journal_after i e j ≡ j ++ Granted upto i ∷ []))
    ⊎ ((n : ℕ) × (h.notify ≡ word_of first (counted (Forgone n i) (told j)).passed) × (journal_after i e j ≡ j ++ Forgone n i ∷ [])))
tells_notify first {i = i} {g = g} o7 j is before after =
    inr (inl (g.numbers.passed + 1, after.1 ∙ ap (λ n. word_of first (counted (Granted (g.numbers.passed + 1) i) n).passed) is, refl))
tells_notify first (l6_same _) j is before after = inl (after.1 ∙ sym before.1)
tells_notify first {i = i} (l6_else {r = r} _) j is before after =
    inr (inl (r.handed, after.1 ∙ ap (λ n. word_of first (counted (Granted r.handed i) n).passed) is, refl))
tells_notify first {i = i} (e3 {t = t}) j is before after =
    inr (inr (t.number, after.1 ∙ ap (λ n. word_of first (counted (Forgone t.number i) n).passed) is, refl))
tells_notify first _ j is before after = inl refl

-- a row that grants does it by storing 1
posts : (i : ℕ) (g : ListWords) {p q : ListSeat} {w : Wait} → Post p q w → StoresGrant (list_table i p g) w.id.seat 1
posts i g o9 = (_, refl)
posts i g l8_last = (_, refl)
posts i g l8_more = (_, refl)

pub changes : (first seats i : ℕ) (s t : ListWorld) → i < seats → IsListInvariant first seats s → ListStep s i t → ChangesWords first i s t
changes first seats i s t there inv listed =
    let mine = inv.seats_known i there in
    by (step_of s t i mine.fits mine.only listed) (λ reach. (list_kept first seats i s t reach there inv listed).words)
  where
    by : {u : ListWorld} → Step s i u → (IsInReach u.journal → WordsTell first u.words) → ChangesWords first i s u
    by (own row) after =
        let held = total_has seats (λ k. holds (s.seats k).place) i there in
        let lock = inv.lock.0 in
        let c = changed row s.journal (omega arith) inv.lock.1 in
        record { wait = c.wait; notify = λ reach. tells_notify first row s.journal inv.numbers inv.words (after reach); lock = c.lock; grants = c.grants }
    by (post {w = w} row) after = record { wait = inl refl; notify = λ reach. inl refl; lock = inl refl; grants = λ k. at k (ℕ_discrete k w.id.seat) }
      where
        at : (k : ℕ) → Dec (k ≡ w.id.seat) → GrantChanges i (event_of s i) k (s.words.grants k) (put s.words.grants w.id.seat 1 k)
        at k (yes e) =
            let v = waiter_of_post seats s i there inv.placed row in
            inr (inr (rw e (posts i s.words row), rw e (other_seat seats s i v row), rw e v.1, rw e (put_here s.words.grants w.id.seat 1)))
        at k (no ne) = inl (put_else s.words.grants w.id.seat 1 k ne)
