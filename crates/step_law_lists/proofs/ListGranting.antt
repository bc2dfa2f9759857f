-- Each grant in the journal of a notify list is of the least ticket that is neither granted nor gone alone, or of all tickets that were handed out when
-- L5 read the wait word.
use Rattle.std.proofs.Common.{◌≡◌, ℕ, ◌+◌, ◌<◌, ◌⊎◌, List, [], ◌∷◌, ◌++◌, refl, sym, ap, ◌∙◌, subst, inl, inr}
use Rattle.std.proofs.Common.{arith}
use native.Mathlib.Decide.{ℕ_discrete}
use Rattle.waiters.specs.declared.wait.Wait.{Wait}
use Rattle.step_table.specs.declared.list_place.AllRow.TheVariants.{L5, L6}
use Rattle.step_table.specs.declared.list_place.ListEffect.{ListEffect}
use Rattle.step_table.specs.declared.list_place.ListEffect.TheVariants.{HandsOut, Grants, Forgoes}
use Rattle.step_table.specs.declared.list_place.ListPlace.TheVariants.{NotifyingOne, NotifyingAll}
use Rattle.step_table.specs.declared.list_place.OneRow.TheVariants.{O7}
use Rattle.step_table.specs.declared.list_place.Reach.{Reach}
use Rattle.step_table.specs.Wrapping.{word_of}
use Rattle.step_table.specs.ListWorld.{Numbers, ListWords, ListSeat, ListEntry, Took, Granted, Forgone, ListWorld, first_list, journal_after}
use Rattle.step_table.specs.World.{put}
use Rattle.step_table.specs.ListSteps.{Leads, ListStep, none, more}
use Rattle.step_law_lists.specs.ListLawful.{told, holds, IsInReach}
use Rattle.step_law_lists.specs.ListInvariant.{IsListInvariant}
use Rattle.step_law_lists.specs.ListGrants.{HasRead, RowGrants, RowsGrantLeast, IsGrantAfter, EachGrantsLeast}
use Rattle.step_table.proofs.Sums.{put_here, put_else}
use Rattle.step_law_lists.proofs.ListRows.{Row, e3, o7, l5, l6_else, Post, o9, l8_last, l8_more, Step, own, post}
use Rattle.step_law_lists.proofs.ListCases.{step_of}
use Rattle.step_law_lists.proofs.ListCalling.{list_least}
use Rattle.step_law_lists.proofs.ListLocks.{sole_holder}
use Rattle.step_law_lists.proofs.ListJournals.{last_or_before}
use Rattle.step_law_lists.proofs.ListKeeping.{list_reached, reach_back}
use Rattle.step_law_lists.proofs.ListLawfulness.{passed_told, handed_told, known_at}

nothing_in : (before after : List ListEntry) (e : ListEntry) → [] ≡ before ++ e ∷ after → ⊥
nothing_in [] after e q = cc
nothing_in (x ∷ before) after e q = cc

-- a row that leads to L6 is L5, and has read the wait word
read_row : {i : ℕ} {g n : ListWords} {p q : ListSeat} {e : ListEffect} → Row i g p q n e → (h : ℕ) (r : Reach)
    → q.place ≡ NotifyingAll h (L6 r)
    → (p.place ≡ NotifyingAll h (L5 r.notified)) × (r.handed ≡ g.numbers.handed) × (n.numbers ≡ g.numbers)
read_row {g = g} (l5 {h = a} {t = t}) h r is =
    let same : record { notified = t; waited = g.wait; handed = g.numbers.handed } ≡ r = cc in
    let call : a ≡ h = cc in
    ((λ j. NotifyingAll (call j) (L5 (same j).notified)), sym (ap (λ (r : Reach). r.handed) same), refl)
read_row _ h r is = absurd cc

read_post : {p q : ListSeat} {w : Wait} → Post p q w → (h : ℕ) (r : Reach) → q.place ≡ NotifyingAll h (L6 r) → ⊥
read_post o9 h r is = cc
read_post l8_last h r is = cc
read_post l8_more h r is = cc

-- a step of seat i that leads it to L6 is its L5
pub read_step : (w : ListWorld) (i : ℕ) (u : ListWorld) → Step w i u → (h : ℕ) (r : Reach) → (u.seats i).place ≡ NotifyingAll h (L6 r)
    → ((w.seats i).place ≡ NotifyingAll h (L5 r.notified)) × (r.handed ≡ w.words.numbers.handed)
read_step w i u (own {q = q} row) h r is =
    let read = read_row row h r (ap (λ (z : ListSeat). z.place) (sym (put_here w.seats i q)) ∙ is) in (read.0, read.1)
read_step w i u (post {q = q} row) h r is =
    absurd (read_post row h r (ap (λ (z : ListSeat). z.place) (sym (put_here w.seats i q)) ∙ is))

-- from m to n no ticket is passed, and none has gone
abbrev NonePassed : Numbers → Numbers → Type 0
NonePassed m n = (n.passed ≡ m.passed) × (n.gone ≡ m.gone)

-- a row that grants, or by which a ticket goes, holds the lock
passed_row : {i : ℕ} {g n : ListWords} {p q : ListSeat} {e : ListEffect} → Row i g p q n e
    → NonePassed g.numbers n.numbers ⊎ (0 < holds p.place)
passed_row o7 = inr (omega arith)
passed_row e3 = inr (omega arith)
passed_row (l6_else ne) = inr (omega arith)
passed_row _ = inl (refl, refl)

-- the rows that grant
grant_row : {i : ℕ} {g n : ListWords} {p q : ListSeat} {e : ListEffect} → Row i g p q n e → (upto : ℕ) → e ≡ Grants upto
    → ((h t : ℕ) × (p.place ≡ NotifyingOne h (O7 t)) × (upto ≡ g.numbers.passed + 1))
    ⊎ ((h : ℕ) × (r : Reach) × (p.place ≡ NotifyingAll h (L6 r)) × (upto ≡ r.handed))
grant_row {g = g} (o7 {h = h} {t = t}) upto is = inl (h, t, refl, (let same : g.numbers.passed + 1 ≡ upto = cc in sym same))
grant_row (l6_else {h = h} {r = r} ne) upto is = inr (h, r, refl, (let same : r.handed ≡ upto = cc in sym same))
grant_row _ upto is = absurd cc

module _ (first seats : ℕ) where
  -- a step of the seat i, after which k has read as it had, or has read now
  module _ (t : ListWorld) (reached : Leads seats (first_list first) t) (reach : IsInReach t.journal) (i : ℕ) (in_range : i < seats)
      (before : (k h : ℕ) (r : Reach) → k < seats → (t.seats k).place ≡ NotifyingAll h (L6 r) → HasRead first seats t k h r) where
    invariant : IsListInvariant first seats t
    invariant = list_reached first seats t reach reached

    -- the seat i has read
    reads_now : (u : ListWorld) → ListStep t i u → u.words.numbers ≡ told u.journal → (k h : ℕ) (r : Reach) → k ≡ i
        → (t.seats i).place ≡ NotifyingAll h (L5 r.notified) → r.handed ≡ t.words.numbers.handed
        → NonePassed t.words.numbers u.words.numbers → HasRead first seats u k h r
    reads_now u listed told_after k h r is stood handed same = record {
      earlier = t;
      reached = reached;
      since = more i in_range none listed;
      stood = ap (λ z. (t.seats z).place) is ∙ stood;
      handed = handed ∙ handed_told first seats t invariant;
      passed = ap (λ (n : Numbers). n.passed) (sym told_after) ∙ same.0 ∙ ap (λ (n : Numbers). n.passed) invariant.numbers;
      gone = ap (λ (n : Numbers). n.gone) (sym told_after) ∙ same.1 ∙ ap (λ (n : Numbers). n.gone) invariant.numbers;
    }

    -- another has, before
    had_read : (u : ListWorld) → ListStep t i u → u.words.numbers ≡ told u.journal → (k h : ℕ) (r : Reach) → k < seats
        → (t.seats k).place ≡ NotifyingAll h (L6 r) → NonePassed t.words.numbers u.words.numbers → HasRead first seats u k h r
    had_read u listed told_after k h r there at same =
        let was = before k h r there at in
        record {
          earlier = was.earlier;
          reached = was.reached;
          since = more i in_range was.since listed;
          stood = was.stood;
          handed = was.handed;
          passed = ap (λ (n : Numbers). n.passed) (sym told_after) ∙ same.0 ∙ ap (λ (n : Numbers). n.passed) invariant.numbers ∙ was.passed;
          gone = ap (λ (n : Numbers). n.gone) (sym told_after) ∙ same.1 ∙ ap (λ (n : Numbers). n.gone) invariant.numbers ∙ was.gone;
        }

    reads_on : (u : ListWorld) → ListStep t i u → Step t i u → u.words.numbers ≡ told u.journal → (k h : ℕ) (r : Reach)
        → k < seats → (u.seats k).place ≡ NotifyingAll h (L6 r) → HasRead first seats u k h r
    reads_on u listed (own {q = q} {h = g} row) told_after k h r there at = by (ℕ_discrete k i)
      where
        by : Dec (k ≡ i) → HasRead first seats u k h r
        by (yes is) =
            let here : q.place ≡ NotifyingAll h (L6 r)
            = ap (λ (z : ListSeat). z.place) (sym (put_here t.seats i q)) ∙ ap (λ z. (put t.seats i q z).place) (sym is) ∙ at in
            let read = read_row row h r here in
            reads_now u listed told_after k h r is read.0 read.1 (ap (λ (n : Numbers). n.passed) read.2, ap (λ (n : Numbers). n.gone) read.2)
        by (no ne) = had_read u listed told_after k h r there stays (same (passed_row row))
          where
            stays : (t.seats k).place ≡ NotifyingAll h (L6 r)
            stays = ap (λ (z : ListSeat). z.place) (sym (put_else t.seats i q k ne)) ∙ at

            same : NonePassed t.words.numbers g.numbers ⊎ (0 < holds (t.seats i).place) → NonePassed t.words.numbers g.numbers
            same (inl is) = is
            same (inr held) =
                let free = sole_holder seats t i k invariant.lock in_range there ne held in
                let holding = ap holds stays in absurd (omega arith)
    reads_on u listed (post {q = q} row) told_after k h r there at = by (ℕ_discrete k i)
      where
        by : Dec (k ≡ i) → HasRead first seats u k h r
        by (yes is) =
            absurd (read_post row h r
            (ap (λ (z : ListSeat). z.place) (sym (put_here t.seats i q)) ∙ ap (λ z. (put t.seats i q z).place) (sym is) ∙ at))
        by (no ne) =
            had_read u listed told_after k h r there (ap (λ (z : ListSeat). z.place) (sym (put_else t.seats i q k ne)) ∙ at) (refl, refl)

  -- a seat at L6 has read at L5
  pub has_read : {s : ListWorld} → IsInReach s.journal → Leads seats (first_list first) s → (k h : ℕ) (r : Reach) → k < seats
      → (s.seats k).place ≡ NotifyingAll h (L6 r) → HasRead first seats s k h r
  has_read reach none k h r there at = absurd cc
  has_read reach (more {t = t} {u = u} i in_range led listed) k h r there at =
      let before = reach_back t i listed reach in
      let mine = (list_reached first seats t before led).seats_known i in_range in
      let after = list_reached first seats u reach (more i in_range led listed) in
      reads_on t led before i in_range (has_read before led) u listed (step_of t u i mine.fits mine.only listed) after.numbers
      k h r there at

  -- what a row that grants does
  row_grants : (t : ListWorld) → IsInReach t.journal → Leads seats (first_list first) t → (i : ℕ) → i < seats → (upto : ℕ)
      → ((h n : ℕ) × ((t.seats i).place ≡ NotifyingOne h (O7 n)) × (upto ≡ t.words.numbers.passed + 1))
      ⊎ ((h : ℕ) × (r : Reach) × ((t.seats i).place ≡ NotifyingAll h (L6 r)) × (upto ≡ r.handed))
      → RowGrants first seats t i upto
  row_grants t reach led i in_range upto (inl is) =
      let inv = list_reached first seats t reach led in
      let knows = known_at first seats t i inv in_range (NotifyingOne is.0 (O7 is.1)) is.2 in
      let granted = passed_told first seats t inv in let next = is.3 in
      inl (is.0, is.1, is.2, omega arith, knows.0 ∙ inv.words.1 ∙ ap (word_of first) granted)
  row_grants t reach led i in_range upto (inr is) = inr (is.0, is.1, is.2, is.3, has_read reach led i is.0 is.1 in_range is.2)

  -- the journal with one entry more
  granted_more : (t : ListWorld) → Leads seats (first_list first) t → (i : ℕ) → i < seats → (e : ListEffect)
      → ((upto : ℕ) → e ≡ Grants upto → RowGrants first seats t i upto)
      → EachGrantsLeast first seats t.journal → EachGrantsLeast first seats (journal_after i e t.journal)
  granted_more t led i in_range (HandsOut ticket) row each before after upto k is =
      by (last_or_before t.journal before after (Took i) (Granted upto k) is)
    where
      by : ((rest : List ListEntry) × (t.journal ≡ before ++ Granted upto k ∷ rest)) ⊎ ((before ≡ t.journal) × (Granted upto k ≡ Took i))
          → IsGrantAfter first seats before upto k
      by (inl r) = each before r.0 upto k r.1
      by (inr r) = let other = r.1 in absurd cc
  granted_more t led i in_range (Grants more_granted) row each before after upto k is =
      by (last_or_before t.journal before after (Granted more_granted i) (Granted upto k) is)
    where
      by : ((rest : List ListEntry) × (t.journal ≡ before ++ Granted upto k ∷ rest))
          ⊎ ((before ≡ t.journal) × (Granted upto k ≡ Granted more_granted i)) → IsGrantAfter first seats before upto k
      by (inl r) = each before r.0 upto k r.1
      by (inr r) =
          let same = r.1 in
          let number : upto ≡ more_granted = cc in
          let seat : k ≡ i = cc in
          record {
            there = omega arith;
            world = t;
            reached = led;
            journal = sym r.0;
            row = subst (λ k. RowGrants first seats t k upto) (sym seat) (subst (RowGrants first seats t i) (sym number) (row more_granted refl));
          }
  granted_more t led i in_range (Forgoes w) row each before after upto k is =
      by (last_or_before t.journal before after (Forgone w.id.turn i) (Granted upto k) is)
    where
      by : ((rest : List ListEntry) × (t.journal ≡ before ++ Granted upto k ∷ rest)) ⊎ ((before ≡ t.journal) × (Granted upto k ≡ Forgone w.id.turn i))
          → IsGrantAfter first seats before upto k
      by (inl r) = each before r.0 upto k r.1
      by (inr r) = let other = r.1 in absurd cc
  granted_more t led i in_range _ row each before after upto k is = each before after upto k is

  grants_step : (t : ListWorld) → IsInReach t.journal → Leads seats (first_list first) t → (i : ℕ) → i < seats → EachGrantsLeast first seats t.journal
      → (u : ListWorld) → Step t i u → EachGrantsLeast first seats u.journal
  grants_step t reach led i in_range each u (own {e = e} row) =
      granted_more t led i in_range e (λ upto is. row_grants t reach led i in_range upto (grant_row row upto is)) each
  grants_step t reach led i in_range each u (post row) = each

  pub each_grants : {s : ListWorld} → IsInReach s.journal → Leads seats (first_list first) s → EachGrantsLeast first seats s.journal
  each_grants reach none before after upto k is = absurd (nothing_in before after (Granted upto k) is)
  each_grants reach (more {t = t} {u = u} i in_range led listed) before after upto k is =
      let earlier = reach_back t i listed reach in
      let mine = (list_reached first seats t earlier led).seats_known i in_range in
      grants_step t earlier led i in_range (each_grants earlier led) u (step_of t u i mine.fits mine.only listed) before after upto k is

  pub rows_grant : (s : ListWorld) → IsInReach s.journal → Leads seats (first_list first) s → RowsGrantLeast first seats s
  rows_grant s reach led k upto there is = by (list_least first seats k s there (list_reached first seats s reach led) upto is)
    where
      by : ((h : ℕ) × (t : ℕ) × ((s.seats k).place ≡ NotifyingOne h (O7 t))
          × (upto ≡ (told s.journal).passed + 1) × (t ≡ word_of first (told s.journal).passed))
          ⊎ ((h : ℕ) × (r : Reach) × ((s.seats k).place ≡ NotifyingAll h (L6 r)) × (upto ≡ r.handed)) → RowGrants first seats s k upto
      by (inl is) = inl is
      by (inr is) = inr (is.0, is.1, is.2, is.3, has_read reach led k is.0 is.1 there is.2)
