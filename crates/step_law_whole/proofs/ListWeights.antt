-- Each row of a notify list lowers the weight, and a choice raises it by its cost at most.
use Rattle.std.proofs.Common.{◌≡◌, ◌≢◌, ℕ, zero, suc, ◌+◌, ◌<◌, ◌≤◌, ◌==◌, if◌then◌else◌, nat_lt, Bool, true, false}
use Rattle.std.proofs.Common.{IsTrue, List, [], ◌∷◌, ◌++◌, length}
use Rattle.std.proofs.Common.{Option, Some, None, refl, sym, ap, ap₂, subst, ltb-true, arith}
use Rattle.waiters.specs.declared.wait.Wait.{Wait}
use Rattle.waiters.specs.Lists.{first_with}
use Rattle.step_table.specs.Wrapping.{less}
use Rattle.step_table.specs.declared.list_place.AllRow.TheVariants.{L1, L2, L3, L4, L5, L6, L7, L8}
use Rattle.step_table.specs.declared.list_place.ListPlace.{ListPlace}
use Rattle.step_table.specs.declared.list_place.ListPlace.TheVariants.{Rest, Adding, Waiting, NotifyingOne, NotifyingAll}
use Rattle.step_table.specs.declared.list_place.ListEffect.TheVariants.{Nothing, TakesOut, Gives}
use Rattle.step_table.specs.declared.list_place.OneRow.TheVariants.{O1, O2, O3, O4, O5, O6, O7, O8, O9}
use Rattle.step_table.specs.declared.list_place.Ticket.{Ticket}
use Rattle.step_table.specs.declared.list_place.ListParkedRow.TheVariants.{P, E1, E2, E3, E5}
use Rattle.step_table.specs.declared.list_place.WaitRow.TheVariants.{W1, W2, W3, W4, E4, Parked}
use Rattle.step_table.specs.World.{put}
use Rattle.step_table.specs.Counting.{total, granted}
use Rattle.step_table.specs.ListWorld.{ListWords, ListSeat, ListWorld, found, numbers_after, queue_after, gone_after, is_queued}
use Rattle.step_table.specs.ListEvent.{ListNext, ListEvent, by_found, if_any, waiter}
use Rattle.step_table.specs.ListTable.{list_event_at}
use Rattle.step_table.specs.ListSteps.{ListTurn, words_after, seat_after, with_ticket, ListChoice, notify_one, notify_all, end_looks, leave, sleep_on}
use Rattle.step_table.proofs.Sums.{put_else, owned, posted}
use Rattle.step_law_lists.specs.ListHolders.{StoresGrant}
use Rattle.step_law_lists.specs.ListPlaces.{GrantsParked}
use Rattle.step_law_lists.specs.ListInvariant.{IsListInvariant}
use Rattle.step_law_lists.proofs.ListResting.{grants_parked}
use Rattle.step_law_lists.proofs.ListLawfulness.{list_lawful}
use Rattle.step_law_whole.specs.ListWeight.{parked_weight, leaving_weight, list_place_weight, list_weight, choice_cost, ListChosen, chosen, adds, waits}

-- what a seat of a list weighs
abbrev pub list_weighs : ListSeat → ℕ → ℕ
list_weighs seat grant = list_place_weight seat.place grant

-- a row of seat i, from the seat p and the words g to the seat q and the words h
data ListFalls (i : ℕ) (g : ListWords) (p q : ListSeat) (h : ListWords) : Type 0 where
  -- it changes no other's grant
  alone : ((k : ℕ) → k ≢ i → h.grants k ≡ g.grants k) → list_weighs q (h.grants i) < list_weighs p (g.grants i) → ListFalls i g p q h
  -- it stores the grant of another, who pays for it
  wakes : (k : ℕ) → StoresGrant (list_event_at i p g p.place) k 1 → h.grants ≡ put g.grants k 1
      → list_weighs q (g.grants i) ≤ list_weighs p (g.grants i) → ListFalls i g p q h

module _ (i : ℕ) (g : ListWords) where
  abbrev Runs : ListSeat → Type 0
  Runs z =
      let e : ListEvent = list_event_at i z g z.place in
      let v : ℕ = found g e.word in
      -- who leaves has no grant
      IsTrue (e.can v) → ((t : Ticket) (v : ℕ) → z.place ≡ Waiting t (Parked (E3 v)) → g.grants i ≡ 0) → ListFalls i g z (seat_after g (e.leads v) z) (words_after g e v)

  -- the seat goes to one of two places that weigh less
  either : (z : ListSeat) (h : ListWords) (b : Bool) (late : ℕ) (one other : ListPlace) → h.grants ≡ g.grants
      → list_place_weight one (g.grants i) < list_weighs z (g.grants i) → list_place_weight other (g.grants i) < list_weighs z (g.grants i)
      → ListFalls i g z (record z { place = if b then one else other; late = late }) h
  either z h true late one other same first second = alone (λ k ne j. same j k) (rw same first)
  either z h false late one other same first second = alone (λ k ne j. same j k) (rw same second)

  woken : (v : ℕ) → 0 < v → parked_weight v ≡ 1
  woken zero some = absurd (omega arith)
  woken (suc v) some = refl

  slept : (v : ℕ) → parked_weight v < 3
  slept zero = omega arith
  slept (suc v) = omega arith

  falls : (place : ListPlace) (ticket : Option Ticket) (hand : List Wait) (late : ℕ)
      → Runs (record { place = place; ticket = ticket; hand = hand; late = late })
  falls Rest k hand z can free = cc
  falls Adding k hand z can free = alone (λ k ne. refl) (omega arith)
  falls (Waiting t W1) k hand z can free = alone (λ k ne. refl) (omega arith)
  falls (Waiting t W2) k hand z can free =
      either (record { place = Waiting t W2; ticket = k; hand = hand; late = z }) g (less t.word g.notify) _ (Waiting t W3) (Waiting t W4) refl
      (omega arith) (omega arith)
  falls (Waiting t W3) k hand z can free = alone (λ k ne. refl) (omega arith)
  falls (Waiting t W4) k hand z can free = alone (λ k ne. refl) (let least = slept (g.grants i) in omega arith)
  falls (Waiting t E4) k hand z can free = alone (λ k ne. refl) (omega arith)
  falls (Waiting t (Parked P)) k hand z can free =
      alone (λ k ne. put_else g.grants i 0 k ne) (let one = woken (g.grants i) (ltb-true 0 (g.grants i) can) in omega arith)
  falls (Waiting t (Parked E1)) k hand z can free =
      either (record { place = Waiting t (Parked E1); ticket = k; hand = hand; late = z }) (record g { lock = 1 }) (is_queued i g.queue) z
      (Waiting t (Parked E2)) (Waiting t (Parked E5)) refl (omega arith) (omega arith)
  falls (Waiting t (Parked E2)) k hand z can free = alone (λ k ne. refl) (omega arith)
  falls (Waiting t (Parked (E3 v))) k hand z can free =
      alone (λ k ne. refl) (let none : parked_weight (g.grants i) ≡ 2 = ap parked_weight (free t v refl) in omega arith)
  falls (Waiting t (Parked E5)) k hand z can free = alone (λ k ne. refl) (omega arith)
  falls (NotifyingOne h O1) k hand z can free = alone (λ k ne. refl) (omega arith)
  falls (NotifyingOne h (O2 a)) k hand z can free =
      either (record { place = NotifyingOne h (O2 a); ticket = k; hand = hand; late = z }) g (a == g.notify) z Rest (NotifyingOne h O3) refl
      (omega arith) (omega arith)
  falls (NotifyingOne h O3) k hand z can free = alone (λ k ne. refl) (omega arith)
  falls (NotifyingOne h O4) k hand z can free = alone (λ k ne. refl) (omega arith)
  falls (NotifyingOne h (O5 t)) k hand z can free =
      either (record { place = NotifyingOne h (O5 t); ticket = k; hand = hand; late = z }) g (g.wait == t) z (NotifyingOne h O6)
      (NotifyingOne h (O7 t)) refl (omega arith) (omega arith)
  falls (NotifyingOne h O6) k hand z can free = alone (λ k ne. refl) (omega arith)
  falls (NotifyingOne h (O7 t)) k hand z can free = alone (λ k ne. refl) (omega arith)
  falls (NotifyingOne h (O8 t)) k hand z can free = by (first_with t g.queue)
    where
      z8 : ListSeat
      z8 = record { place = NotifyingOne h (O8 t); ticket = k; hand = hand; late = z }

      by : (o : Option Wait)
          → let next : ListNext = by_found o (Rest, Nothing) (λ w. (NotifyingOne h O9, TakesOut t)) in
          ListFalls i g z8 (seat_after g next z8) (record g { lock = 0; numbers = numbers_after next.1 g.numbers; queue = queue_after next.1 g.queue; gone = gone_after next.1 0 g.gone })
      by None = alone (λ k ne. refl) (omega arith)
      by (Some w) = alone (λ k ne. refl) (omega arith)
  falls (NotifyingOne h O9) k hand z can free = wakes (waiter i hand) ((Rest, Gives), refl) refl (omega arith)
  falls (NotifyingAll h L1) k hand z can free = alone (λ k ne. refl) (omega arith)
  falls (NotifyingAll h (L2 a)) k hand z can free =
      either (record { place = NotifyingAll h (L2 a); ticket = k; hand = hand; late = z }) g (a == g.notify) z Rest (NotifyingAll h L3) refl
      (omega arith) (omega arith)
  falls (NotifyingAll h L3) k hand z can free = alone (λ k ne. refl) (omega arith)
  falls (NotifyingAll h L4) k hand z can free = alone (λ k ne. refl) (omega arith)
  falls (NotifyingAll h (L5 t)) k hand z can free = alone (λ k ne. refl) (omega arith)
  falls (NotifyingAll h (L6 r)) k hand z can free = alone (λ k ne. refl) (omega arith)
  falls (NotifyingAll h (L7 n)) k hand z can free = by g.queue
    where
      by : (l : List Wait)
          → ListFalls i g (record { place = NotifyingAll h (L7 n); ticket = k; hand = hand; late = z })
          (record { place = if_any l (NotifyingAll h L8) Rest; ticket = k; hand = hand ++ g.queue; late = z }) (record g { lock = 0; queue = [] })
      by [] = alone (λ k ne. refl) (omega arith)
      by (w ∷ l) = alone (λ k ne. refl) (omega arith)
  falls (NotifyingAll h L8) k hand z can free = wakes (waiter i hand) (_, refl) refl (by (nat_lt 1 (length hand)))
    where
      by : (b : Bool) → list_place_weight (if b then NotifyingAll h L8 else Rest) (g.grants i) ≤ 0
      by true = omega arith
      by false = omega arith

-- a row of seat i, from s to the words h and the seat q
module _ (first seats : ℕ) (s : ListWorld) (i : ℕ) (in_range : i < seats) (inv : IsListInvariant first seats s) (q : ListSeat) (h : ListWords) where
  abbrev after : ListWorld
  after = record { words = h; seats = put s.seats i q; journal = s.journal }

  lower : ListFalls i s.words (s.seats i) q h → list_weight seats after < list_weight seats s
  lower (alone grants less) =
      let all = owned (λ k seat grant. list_weighs seat grant) seats s.seats s.words.grants h.grants i q in_range grants in omega arith
  lower (wakes k stores grants most) =
      let v : GrantsParked seats i k s = (grants_parked first seats s inv i k 1 in_range stores).1 in
      let all = posted (λ k seat grant. list_weighs seat grant) seats s.seats s.words.grants i k 1 q in_range v.there v.other in
      let slept : list_weighs (s.seats k) (s.words.grants k) ≡ 2 + leaving_weight v.row = ap₂ list_place_weight v.parked v.unset in
      let woken : list_weighs (s.seats k) 1 ≡ 1 + leaving_weight v.row = ap (λ p. list_place_weight p 1) v.parked in
      let granted = ap (λ f. total seats (λ k. list_weighs (put s.seats i q k) (f k))) grants in omega arith

-- the wait of a seat that leaves is in the list, so that it isn't granted
leaves_ungranted : (first seats : ℕ) (s : ListWorld) (i : ℕ) → i < seats → IsListInvariant first seats s → (t : Ticket) (v : ℕ)
    → (s.seats i).place ≡ Waiting t (Parked (E3 v)) → s.words.grants i ≡ 0
leaves_ungranted first seats s i in_range inv t v at =
    let lawful = list_lawful first seats s inv in
    let once = lawful.once i t (E3 v) in_range at in
    let queued = lawful.leaving i t (E3 v) in_range at in
    by (s.words.grants i) (omega arith)
  where
    by : (grant : ℕ) → granted grant ≡ 0 → grant ≡ 0
    by zero none = refl
    by (suc grant) none = absurd (omega arith)

pub lowered : (first seats : ℕ) (s t : ListWorld) (i : ℕ) → i < seats → IsListInvariant first seats s → ListTurn s i t
    → list_weight seats t < list_weight seats s
lowered first seats s t i in_range inv turn =
    subst (λ t. list_weight seats t < list_weight seats s) (sym turn.is)
    (lower first seats s i in_range inv _ _
    (falls i s.words (s.seats i).place (s.seats i).ticket (s.seats i).hand (s.seats i).late turn.can
    (leaves_ungranted first seats s i in_range inv)))

-- a choice
costs : (grant : ℕ) {p q : ListPlace} → ListChoice p q → list_place_weight q grant ≤ list_place_weight p grant + choice_cost p
costs grant notify_one = omega arith
costs grant notify_all = omega arith
costs grant (end_looks h) = omega arith
costs grant (leave t) = omega arith
costs grant (sleep_on t) = omega arith

pub with_its : (seat : ListSeat) (o : Option Ticket) (grant : ℕ) → list_weighs (with_ticket seat o) grant ≤ list_weighs seat grant + 5
with_its seat None grant = omega arith
with_its seat (Some t) grant = omega arith

pub raised : (seats : ℕ) (s t : ListWorld) (i cost : ℕ) → i < seats → ListChosen s i cost t → list_weight seats t ≤ list_weight seats s + cost
raised seats s t i cost in_range = by
  where
    changed : (q : ListSeat)
        → list_weight seats (record s { seats = put s.seats i q }) + list_weighs (s.seats i) (s.words.grants i)
        ≡ list_weight seats s + list_weighs q (s.words.grants i)
    changed q = owned (λ k seat grant. list_weighs seat grant) seats s.seats s.words.grants s.words.grants i q in_range (λ k ne. refl)

    by : {cost : ℕ} {t : ListWorld} → ListChosen s i cost t → list_weight seats t ≤ list_weight seats s + cost
    by (chosen {place = place} choice) =
        let all = changed (record (s.seats i) { place = place }) in let one = costs (s.words.grants i) choice in omega arith
    by (adds rests none) = let all = changed (record (s.seats i) { place = Adding }) in omega arith
    by (waits rests held) =
        let all = changed (with_ticket (s.seats i) (s.seats i).ticket) in
        let one = with_its (s.seats i) (s.seats i).ticket (s.words.grants i) in omega arith
