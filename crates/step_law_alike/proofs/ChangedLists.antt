-- A notify list keeps form and bounds, while at most 2^63 tickets were handed out: each step of the table does, and so does a
-- seat that goes on where a changed table leads.
use Rattle.std.proofs.Common.{◌≡◌, ◌≢◌, ◌⊎◌, ℕ, ◌+◌, ◌<◌, ◌≤◌, length, refl, sym, ap, ◌∙◌, subst, inl, inr, arith, nat_lt}
use Rattle.std.proofs.lemmas.Bool.{cases_lt}
use native.Mathlib.Decide.{ℕ_discrete}
use Rattle.waiters.specs.declared.wait.Wait.{Wait}
use Rattle.step_table.specs.declared.list_place.AllRow.TheVariants.{L5, L6}
use Rattle.step_table.specs.declared.list_place.ListEffect.{ListEffect}
use Rattle.step_table.specs.declared.list_place.ListEffect.TheVariants.{HandsOut, Grants, Forgoes}
use Rattle.step_table.specs.declared.list_place.ListParkedRow.TheVariants.{P, E1, E2, E3, E5}
use Rattle.step_table.specs.declared.list_place.ListPlace.{ListPlace}
use Rattle.step_table.specs.declared.list_place.ListPlace.TheVariants.{Waiting, NotifyingOne, NotifyingAll}
use Rattle.step_table.specs.declared.list_place.OneRow.TheVariants.{O5, O7}
use Rattle.step_table.specs.declared.list_place.Ticket.{Ticket}
use Rattle.step_table.specs.declared.list_place.WaitRow.TheVariants.{Parked}
use Rattle.step_table.specs.World.{put}
use Rattle.step_table.specs.Counting.{total, among}
use Rattle.step_table.specs.Wrapping.{word_of}
use Rattle.step_table.specs.ListWorld.{Numbers, ListWords, ListSeat, ListWorld, first_list, numbers_after, with_gone}
use Rattle.step_table.specs.ListTable.{wait_for}
use Rattle.step_table.specs.ListSteps.{ListStep, turn, choose, add, wait, Leads, none, more, IsListReached, moved, effect_of}
use Rattle.step_law_lists.specs.ListLawful.{times, holds, IsGrantOf}
use Rattle.step_law_lists.specs.ListInvariant.{WordsTell, IsTicket, HandFits, HeldTicket, awaits}
use Rattle.step_law_lists.specs.ListWellFormed.{StillReads, WaitFits, IsWellFormedListSeat, IsWellFormedList, IsWellFormedWhileFew}
use Rattle.step_table.proofs.Sums.{put_at, total_same, nothing, on_else}
use Rattle.step_table.proofs.Skipping.{among_more}
use Rattle.step_law_lists.proofs.ListJournals.{passing_gone}
use Rattle.step_law_lists.proofs.ListRows.{Row, begin_wait, n1, w1, w2_less, w2_else, w4, e1_in, e1_out, e2, e3, e5, gives_up, sleeps_on, o4, o5_else, o7, o8_some}
use Rattle.step_law_lists.proofs.ListRows.{l4, l5, l6_same, l6_else, l7_none, l7_some, Post, o9, l8_last, l8_more, Step, own, post}
use Rattle.step_law_lists.proofs.ListCases.{step_of}
use Rattle.step_law_lists.proofs.ListLocks.{lock_kept, sole_holder}
use Rattle.step_law_lists.proofs.ListPlacing.{placed_kept, grants_kept, LeavesQueued, Sole, own_wait, queued_in, not_queued}
use Rattle.step_law_lists.proofs.ListKnowing.{ticket_row}
use Rattle.step_law_lists.proofs.ListLeaving.{held_still}
use Rattle.step_law_lists.proofs.ListWriting.{WritesBy, words_row}
use Rattle.step_law_alike.proofs.ChangedPlaces.{IsAsGoodOnList}

-- two words that differ are those of two numbers
some_left : (first : ℕ) (g : ListWords) → WordsTell first g → g.wait ≢ g.notify → g.numbers.passed < g.numbers.handed
some_left first g words ne = by (cases_lt g.numbers.passed g.numbers.handed)
  where
    by : (g.numbers.passed < g.numbers.handed) ⊎ (g.numbers.handed ≤ g.numbers.passed) → g.numbers.passed < g.numbers.handed
    by (inl l) = l
    by (inr l) =
        let le = words.2 in
        let is : g.numbers.handed ≡ g.numbers.passed = omega arith in absurd (ne (words.0 ∙ ap (word_of first) is ∙ sym words.1))

-- the gone tickets were handed out
abbrev GoneBelow : ListWords → Type 0
GoneBelow g = (n : ℕ) → 0 < among n g.numbers.gone → n < g.numbers.handed

reads_row : (first : ℕ) {i : ℕ} {g h : ListWords} {p q : ListSeat} {e : ListEffect} → Row i g p q h e → WordsTell first g → GoneBelow g
    → StillReads first g p.place → StillReads first h q.place
reads_row first n1 words gone reads = tt
reads_row first e2 words gone reads = refl
reads_row first o4 words gone reads = refl
reads_row first {g = g} (o5_else ne) words gone reads = (reads, some_left first g words (λ e. ne (e ∙ sym reads)))
reads_row first l4 words gone reads = refl
reads_row first l5 words gone reads = (reads, words.0, omega arith, gone)
reads_row first _ words gone reads = tt

-- a seat has a ticket that was handed out, and finds its wait in the list or not
waits_row : (first : ℕ) {i : ℕ} {g h : ListWords} {p q : ListSeat} {e : ListEffect} → Row i g p q h e → Sole i g p.place
    → HeldTicket first g p.ticket → WaitFits first g i p.place → WaitFits first h i q.place
waits_row first begin_wait sole held waits = held
waits_row first (w1 _) sole held waits = waits
waits_row first (w2_less _ _) sole held waits = waits
waits_row first (w2_else _ _) sole held waits = waits
waits_row first w4 sole held waits = (waits, tt)
waits_row first gives_up sole held waits = (waits.0, tt)
waits_row first sleeps_on sole held waits = (waits.0, tt)
waits_row first {i = i} {g = g} (e1_in {t = t} _ queued) sole held waits =
    let x = queued_in i g.queue queued in (waits.0, subst (λ z. 0 < times z g.queue) (sole t E1 refl x.0 x.1 x.2).0 x.1)
waits_row first {i = i} {g = g} (e1_out {t = t} _ absent) sole held waits = (waits.0, not_queued i g.queue absent (wait_for i t) refl)
waits_row first e2 sole held waits = waits
waits_row first e3 sole held waits = waits.0
waits_row first e5 sole held waits = (waits.0, tt)
waits_row first _ sole held waits = tt

-- what it writes
writes : (first i : ℕ) (g : ListWords) (place : ListPlace) → WaitFits first g i place → StillReads first g place → WritesBy first 0 g place
writes first i g (Waiting t (Parked (E3 v))) waits reads = (reads, waits.0, omega arith)
writes first i g (NotifyingOne h (O7 t)) waits reads = reads
writes first i g (NotifyingAll h (L6 r)) waits reads = (reads.0, reads.1, omega arith, reads.2, reads.3)
writes first i g _ waits reads = tt

gone_row : (first : ℕ) {i : ℕ} {g h : ListWords} {p q : ListSeat} {e : ListEffect} → Row i g p q h e → WaitFits first g i p.place → GoneBelow g
    → GoneBelow h
gone_row first n1 waits gone n some = let below = gone n some in omega arith
gone_row first {g = g} (e3 {t = t}) waits gone n some =
    by (passing_gone g.numbers.handed g.numbers.passed n (with_gone nat_lt t.number g.numbers.gone) some).1 (ℕ_discrete n t.number)
  where
    by : 0 < among n (with_gone nat_lt t.number g.numbers.gone) → Dec (n ≡ t.number) → n < g.numbers.handed
    by some (yes is) = let below = waits.0.1 in omega arith
    by some (no ne) =
        let more = among_more nat_lt n t.number g.numbers.gone in let off = on_else n t.number 1 ne in gone n (omega arith)
gone_row first {g = g} o7 waits gone n some = gone n (passing_gone g.numbers.handed (g.numbers.passed + 1) n g.numbers.gone some).1
gone_row first {g = g} (l6_else {r = r} _) waits gone n some = gone n (passing_gone g.numbers.handed r.handed n g.numbers.gone some).1
gone_row first _ waits gone n some = gone n some

-- what is left to a seat that holds the lock, where another runs a row
record Leaves (g h : ListWords) (held : ℕ) : Type 0 where
  notify : 0 < held → h.notify ≡ g.notify
  numbers : 0 < held → (h.numbers.passed ≡ g.numbers.passed) × (h.numbers.gone ≡ g.numbers.gone)
  queue : 0 < held → h.queue ≡ g.queue
  handed : g.numbers.handed ≤ h.numbers.handed

-- nothing, where that holds it
none_holds : (g h : ListWords) (held : ℕ) → held ≡ 0 → g.numbers.handed ≤ h.numbers.handed → Leaves g h held
none_holds g h held free handed = record {
  notify = λ some. absurd (omega arith);
  numbers = λ some. absurd (omega arith);
  queue = λ some. absurd (omega arith);
  handed = handed;
}

leaves_row : (first : ℕ) {i : ℕ} {g h : ListWords} {p q : ListSeat} {e : ListEffect} → Row i g p q h e
    → (held : ℕ) → (0 < holds p.place → held ≡ 0)
    → Leaves g h held
leaves_row first n1 held alone = record { notify = λ some. refl; numbers = λ some. (refl, refl); queue = λ some. refl; handed = omega arith }
leaves_row first w4 held alone = none_holds _ _ held (alone (omega arith)) (omega arith)
leaves_row first e3 held alone = none_holds _ _ held (alone (omega arith)) (omega arith)
leaves_row first o7 held alone = none_holds _ _ held (alone (omega arith)) (omega arith)
leaves_row first (o8_some _) held alone = none_holds _ _ held (alone (omega arith)) (omega arith)
leaves_row first (l6_same _) held alone = none_holds _ _ held (alone (omega arith)) (omega arith)
leaves_row first (l6_else _) held alone = none_holds _ _ held (alone (omega arith)) (omega arith)
leaves_row first (l7_none _) held alone = none_holds _ _ held (alone (omega arith)) (omega arith)
leaves_row first (l7_some _) held alone = none_holds _ _ held (alone (omega arith)) (omega arith)
leaves_row first _ held alone = record { notify = λ some. refl; numbers = λ some. (refl, refl); queue = λ some. refl; handed = omega arith }

reads_still : (first : ℕ) (g h : ListWords) (place : ListPlace) → Leaves g h (holds place) → StillReads first g place → StillReads first h place
reads_still first g h (Waiting t (Parked (E3 v))) leaves reads = reads ∙ sym (leaves.notify (omega arith))
reads_still first g h (NotifyingOne n (O5 t)) leaves reads = reads ∙ sym (leaves.notify (omega arith))
reads_still first g h (NotifyingOne n (O7 t)) leaves reads =
    let passed = (leaves.numbers (omega arith)).0 in let handed = leaves.handed in let some = reads.1 in
    (reads.0 ∙ sym (leaves.notify (omega arith)), omega arith)
reads_still first g h (NotifyingAll n (L5 t)) leaves reads = reads ∙ sym (leaves.notify (omega arith))
reads_still first g h (NotifyingAll n (L6 r)) leaves reads =
    let handed = leaves.handed in let few = reads.2 in (
      reads.0 ∙ sym (leaves.notify (omega arith)),
      reads.1,
      omega arith,
      (λ k some. let same = ap (among k) (leaves.numbers (omega arith)).1 in reads.3 k (omega arith)),
    )
reads_still first g h _ leaves reads = tt

ticket_still : (first : ℕ) (g h : ListWords) (t : Ticket) → g.numbers.handed ≤ h.numbers.handed → IsTicket first g t → IsTicket first h t
ticket_still first g h t le is = (is.0, (let below = is.1 in omega arith))

waits_still : (first : ℕ) (g h : ListWords) (k : ℕ) (place : ListPlace) → Leaves g h (holds place) → WaitFits first g k place → WaitFits first h k place
waits_still first g h k (Waiting t (Parked P)) leaves waits = (ticket_still first g h t leaves.handed waits.0, tt)
waits_still first g h k (Waiting t (Parked E1)) leaves waits = (ticket_still first g h t leaves.handed waits.0, tt)
waits_still first g h k (Waiting t (Parked E2)) leaves waits =
    (ticket_still first g h t leaves.handed waits.0, subst (λ l. 0 < times (wait_for k t) l) (sym (leaves.queue (omega arith))) waits.1)
waits_still first g h k (Waiting t (Parked (E3 v))) leaves waits =
    (ticket_still first g h t leaves.handed waits.0, subst (λ l. 0 < times (wait_for k t) l) (sym (leaves.queue (omega arith))) waits.1)
waits_still first g h k (Waiting t (Parked E5)) leaves waits =
    (ticket_still first g h t leaves.handed waits.0, ap (times (wait_for k t)) (leaves.queue (omega arith)) ∙ waits.1)
waits_still first g h k (Waiting t row) leaves waits = ticket_still first g h t leaves.handed waits
waits_still first g h k _ leaves waits = tt

fits_row : {i : ℕ} {g h : ListWords} {p q : ListSeat} {e : ListEffect} → Row i g p q h e → HandFits q.place (length q.hand)
fits_row n1 = refl
fits_row (o8_some _) = refl
fits_row (l7_some _) = omega arith
fits_row _ = refl

after_post : {p q : ListSeat} {w : Wait} → Post p q w → (first : ℕ) (g : ListWords) (k : ℕ) → HeldTicket first g p.ticket
    → IsWellFormedListSeat first g k q
after_post o9 first g k held = record { fits = refl; only = tt; held = held; waits = tt; reads = tt }
after_post l8_last first g k held = record { fits = refl; only = tt; held = held; waits = tt; reads = tt }
after_post l8_more first g k held = record { fits = omega arith; only = tt; held = held; waits = tt; reads = tt }

kept_by : (first seats i : ℕ) (s t : ListWorld) → s.words.numbers.handed ≤ 9223372036854775808 → i < seats → IsWellFormedList first seats s
    → Step s i t → IsWellFormedList first seats t
kept_by first seats i s t few in_range inv step = record {
  lock = lock_kept seats i s t in_range inv.lock step;
  words = words step;
  placed = placed_kept seats i s t in_range queued inv.grants inv.placed step;
  grants = grants_kept seats i s t in_range queued inv.placed inv.grants step;
  seats_known = known step;
  gone = gone step;
}
  where
    mine : IsWellFormedListSeat first s.words i (s.seats i)
    mine = inv.seats_known i in_range

    queued : LeavesQueued i s.words (s.seats i).place
    queued t v at = (subst (WaitFits first s.words i) at mine.waits).1

    words : {u : ListWorld} → Step s i u → WordsTell first u.words
    words (own row) =
        words_row first 0 row (writes first i s.words (s.seats i).place mine.waits mine.reads) (λ n some. (omega arith, inv.gone n some))
        (omega arith) (omega arith) inv.words
    words (post row) = inv.words

    gone : {u : ListWorld} → Step s i u → GoneBelow u.words
    gone (own row) = gone_row first row mine.waits inv.gone
    gone (post row) = inv.gone

    known : {u : ListWorld} → Step s i u → (k : ℕ) → k < seats → IsWellFormedListSeat first u.words k (u.seats k)
    known (own {q = q} {h = h} row) k there =
        let ticket = ticket_row first row inv.words.0 mine.only mine.held in
        put_at (λ k seat. IsWellFormedListSeat first h k seat) s.seats i q k
        (record {
          fits = fits_row row;
          only = ticket.0;
          held = ticket.1;
          waits = waits_row first row (own_wait seats s i inv.placed) mine.held mine.waits;
          reads = reads_row first row inv.words inv.gone mine.reads;
        })
        (λ ne.
        let other = inv.seats_known k there in
        let leaves = leaves_row first row (holds (s.seats k).place) (λ held. sole_holder seats s i k inv.lock in_range there ne held) in
        record {
          fits = other.fits;
          only = other.only;
          held = held_still first s.words h (s.seats k).ticket leaves.handed other.held;
          waits = waits_still first s.words h k (s.seats k).place leaves other.waits;
          reads = reads_still first s.words h (s.seats k).place leaves other.reads;
        })
    known (post {q = q} {w = w} row) k there =
        let h : ListWords = record s.words { grants = put s.words.grants w.id.seat 1 } in
        let leaves : Leaves s.words h (holds (s.seats k).place)
        = record { notify = λ some. refl; numbers = λ some. (refl, refl); queue = λ some. refl; handed = omega arith } in
        put_at (λ k seat. IsWellFormedListSeat first h k seat) s.seats i q k
        (after_post row first h i (held_still first s.words h (s.seats i).ticket (omega arith) mine.held))
        (λ ne.
        let other = inv.seats_known k there in
        record {
          fits = other.fits;
          only = other.only;
          held = held_still first s.words h (s.seats k).ticket (omega arith) other.held;
          waits = waits_still first s.words h k (s.seats k).place leaves other.waits;
          reads = reads_still first s.words h (s.seats k).place leaves other.reads;
        })

pub well_formed_list_first : (first seats : ℕ) → IsWellFormedList first seats (first_list first)
well_formed_list_first first seats =
    let zeros = nothing seats (λ k. 0) (λ k. refl) in
    record {
      lock = (sym zeros, omega arith);
      words = (refl, refl, omega arith, refl);
      placed = λ w. omega arith;
      grants = λ k. refl;
      seats_known = λ k there. record { fits = refl; only = tt; held = tt; waits = tt; reads = tt };
      gone = λ n some. absurd (omega arith);
    }

-- no step takes a ticket back
handed_after : (e : ListEffect) (n : Numbers) → n.handed ≤ (numbers_after e n).handed
handed_after (HandsOut t) n = omega arith
handed_after (Grants upto) n = omega arith
handed_after (Forgoes w) n = omega arith
handed_after _ n = omega arith

handed_step : (s : ListWorld) (i : ℕ) {t : ListWorld} → ListStep s i t → s.words.numbers.handed ≤ t.words.numbers.handed
handed_step s i (turn x) =
    subst (λ (u : ListWorld). s.words.numbers.handed ≤ u.words.numbers.handed) (sym x.is) (handed_after (effect_of s i) s.words.numbers)
handed_step s i (choose choice) = omega arith
handed_step s i (add rests free) = omega arith
handed_step s i (wait rests held) = omega arith

pub well_formed_list_kept : (first seats i : ℕ) (s t : ListWorld) → i < seats → IsWellFormedWhileFew first seats s
    → ListStep s i t → IsWellFormedWhileFew first seats t
well_formed_list_kept first seats i s t in_range known step few =
    let before = handed_step s i step in
    let inv = known (omega arith) in
    let mine = inv.seats_known i in_range in
    kept_by first seats i s t (omega arith) in_range inv (step_of s t i mine.fits mine.only step)

well_formed_led : (first seats : ℕ) {s : ListWorld} → Leads seats (first_list first) s → IsWellFormedWhileFew first seats s
well_formed_led first seats none = λ few. well_formed_list_first first seats
well_formed_led first seats (more {t = s} {u = u} i in_range led step) = well_formed_list_kept first seats i s u in_range (well_formed_led first seats led) step

pub well_formed_list : (first seats : ℕ) (s : ListWorld) → IsListReached first seats s → IsWellFormedWhileFew first seats s
well_formed_list first seats s reached = well_formed_led first seats reached

-- a seat at a place that is as good
module _ (first seats i : ℕ) (s : ListWorld) (in_range : i < seats) (place : ListPlace) (good : IsAsGoodOnList (s.seats i).place place) where
  abbrev seat : ListSeat
  seat = record (s.seats i) { place = place }

  sum_same : (f : ℕ → ListSeat → ℕ) → f i seat ≡ f i (s.seats i)
      → total seats (λ k. f k (put s.seats i seat k)) ≡ total seats (λ k. f k (s.seats k))
  sum_same f same =
      total_same seats (λ k. f k (put s.seats i seat k)) (λ k. f k (s.seats k))
      (λ k lt. put_at (λ k z. f k z ≡ f k (s.seats k)) s.seats i seat k same (λ ne. refl))

  moved_kept : IsWellFormedList first seats s → IsWellFormedList first seats (moved s i place)
  moved_kept inv = record {
    lock = (inv.lock.0 ∙ sym (sum_same (λ k z. holds z.place) good.holds), inv.lock.1);
    words = inv.words;
    placed = λ w.
        (let held = sum_same (λ k z. times w z.hand) refl in
        let awaited = sum_same (λ k z. awaits w k z.place (s.words.grants k)) (good.awaits w i (s.words.grants i)) in
        let before = inv.placed w in omega arith);
    grants = λ k. put_at (λ k z. IsGrantOf z.place (s.words.grants k)) s.seats i seat k
        (good.granted (s.words.grants i) (inv.grants i)) (λ ne. inv.grants k);
    gone = inv.gone;
    seats_known = λ k there. put_at (λ k z. IsWellFormedListSeat first s.words k z) s.seats i seat k
        (let mine = inv.seats_known i in_range in
        record {
          fits = good.fits (length (s.seats i).hand) mine.fits;
          only = good.only (s.seats i).ticket mine.only;
          held = mine.held;
          waits = good.waits first s.words i mine.waits;
          reads = good.reads first s.words mine.reads;
        })
        (λ ne. inv.seats_known k there);
  }

  pub well_formed_list_moved : IsWellFormedWhileFew first seats s → IsWellFormedWhileFew first seats (moved s i place)
  well_formed_list_moved known few = moved_kept (known few)
