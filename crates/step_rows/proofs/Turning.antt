-- What a row of a notify list asks for lets its effect be made; and effect, word and place together are its turn.
use Rattle.std.proofs.Common.{◌≡◌, ℕ, ◌+◌, Bool, true, false, if◌then◌else◌, List, Option, Some, None, refl, sym, ap, ◌∙◌, subst, arith}
use Rattle.std.proofs.Common.{nat_lt}
use Rattle.std.proofs.lemmas.Bool.{le-ltb}
use Rattle.waiters.specs.declared.wait.Wait.{Wait}
use Rattle.waiters.specs.Lists.{first_with}
use Rattle.step_outcomes.specs.declared.list_outcome.ListOutcome.{ListOutcome}
use Rattle.step_table.specs.declared.list_place.AllRow.TheVariants.{L6, L7}
use Rattle.step_table.specs.declared.list_place.ListEffect.{ListEffect}
use Rattle.step_table.specs.declared.list_place.ListEffect.TheVariants.{Nothing, Grants}
use Rattle.step_table.specs.declared.list_place.ListPlace.{ListPlace}
use Rattle.step_table.specs.declared.list_place.ListPlace.TheVariants.{Rest, Adding, Waiting, NotifyingOne, NotifyingAll}
use Rattle.step_table.specs.declared.list_place.ListWord.{ListWord}
use Rattle.step_table.specs.declared.list_place.ListWord.TheVariants as word
use Rattle.step_table.specs.declared.list_place.OneRow.TheVariants.{O7, O8}
use Rattle.step_table.specs.declared.list_place.WaitRow.TheVariants.{W2, W4, Parked}
use Rattle.step_table.specs.declared.list_place.ListParkedRow.TheVariants.{E3}
use Rattle.step_table.specs.World.{put}
use Rattle.step_table.specs.ListWorld.{ListSeat, ListEntry, written, ticket_after, hand_after, late_after, journal_after}
use Rattle.step_table.specs.ListEvent.{ListNext, ListEvent, by_found}
use Rattle.step_table.specs.ListTable.{list_event_at}
use Rattle.step_table.specs.ListSteps.{event_of, finds, turned, words_with, seat_after, ListTurn}
use Rattle.step_rows.specs.ListStored.{ListMoment, world_at, HasListRow, AsksAt, Allows, made, placed}
use Rattle.step_outcomes.specs.ListOutcomes.{IsListOutcome}
use Rattle.step_table.proofs.Sums.{put_here}
use Rattle.step_rows.proofs.Handing.{put_put}

module _ (m : ListMoment) (i : ℕ) (row : HasListRow m.count m.words m.seats i) where
  either : (b : Bool) (e f : ListEffect) → Allows m i e → Allows m i f → Allows m i (if b then e else f)
  either true e f a b = a
  either false e f a b = b

  by_wait : (o : Option Wait) (none : ListNext) (some : Wait → ListNext) → Allows m i none.1
      → ((w : Wait) → Allows m i (some w).1) → Allows m i (by_found o none some).1
  by_wait None none some a b = a
  by_wait (Some w) none some a b = b w

  asked : (p : ListPlace) → AsksAt m.count m.words m.seats (m.seats i) p → (v : ℕ) → Allows m i ((list_event_at i (m.seats i) m.words p).leads v).1
  asked Rest a v = tt
  asked Adding a v = row.handed
  asked (Waiting t W4) a v = a
  asked (Waiting t (Parked (E3 n))) a v = let room = row.passed in (a, omega arith)
  asked (Waiting t (Parked r)) a v = tt
  asked (Waiting t r) a v = tt
  asked (NotifyingOne h (O7 t)) a v = let room = row.passed in omega arith
  asked (NotifyingOne h (O8 t)) a v = by_wait (first_with t m.words.queue) _ _ tt (λ w. tt)
  asked (NotifyingOne h r) a v = tt
  asked (NotifyingAll h (L6 r)) a v = either _ Nothing (Grants r.handed) tt a
  asked (NotifyingAll h (L7 n)) a v = a
  asked (NotifyingAll h r) a v = tt

  never_late : (p : ListPlace) → AsksAt m.count m.words m.seats (m.seats i) p → (late : ℕ) → late ≡ late_after p m.words.numbers.passed late
  never_late (Waiting t W2) a late =
      let f : nat_lt (t.number + 9223372036854775808) m.words.numbers.passed ≡ false = le-ltb (t.number + 9223372036854775808) m.words.numbers.passed a in
      sym (ap (λ b. if b then 1 else late) f)
  never_late p a late = refl

  module _ (journal : List ListEntry) (o : ListOutcome) (does : IsListOutcome (event_of (world_at m journal) i) (finds (world_at m journal) i) o) where
    pub allowed : Allows m i o.effect
    allowed = subst (Allows m i) (sym does.effect) (asked (m.seats i).place row.asks (finds (world_at m journal) i))

    -- the effect, then the word, then the place
    abbrev run : ListWord → ℕ → ListNext → ListMoment
    run w x next =
        let n : ListMoment = made m i next.1 x in placed (record n { words = written n.words w x }) i next.0

    words_run : (w : ListWord) (x : ℕ) (next : ListNext)
        → (run w x next).words ≡ words_with m.words w x next
    words_run word.Wait x next = refl
    words_run word.Notify x next = refl
    words_run word.Lock x next = refl
    words_run (word.Grant s) x next = refl

    -- the seat after the effect
    abbrev with_effect : ListEffect → ListSeat
    with_effect e = record (m.seats i) { ticket = ticket_after e (m.seats i).ticket; hand = hand_after e m.words.queue (m.seats i).hand }

    seats_run : (w : ListWord) (x : ℕ) (next : ListNext) → (run w x next).seats ≡ put m.seats i (seat_after m.words next (m.seats i))
    seats_run w x next =
        ap (λ z. put (put m.seats i (with_effect next.1)) i (record z { place = next.0 })) (put_here m.seats i (with_effect next.1))
        ∙ put_put m.seats i (with_effect next.1) (record (with_effect next.1) { place = next.0 })
        ∙ ap (λ late. put m.seats i (record (with_effect next.1) { place = next.0; late = late })) (never_late (m.seats i).place row.asks (m.seats i).late)

    abbrev e : ListEvent
    e = event_of (world_at m journal) i

    abbrev v : ℕ
    v = finds (world_at m journal) i

    is_turn : world_at (run e.word (e.becomes v) (e.leads v)) (journal_after i (e.leads v).1 journal) ≡ turned (world_at m journal) i
    is_turn = λ j. record {
      words = words_run e.word (e.becomes v) (e.leads v) j;
      seats = seats_run e.word (e.becomes v) (e.leads v) j;
      journal = journal_after i (e.leads v).1 journal;
    }

    by_event : (w : ListWord) → w ≡ e.word → run w o.becomes (o.place, o.effect) ≡ run e.word (e.becomes v) (e.leads v)
    by_event w at = λ j. run (at j) (does.becomes j) (does.place j, does.effect j)

    pub turns : (w : ListWord) → w ≡ e.word → (n : ListMoment) → n ≡ run w o.becomes (o.place, o.effect)
        → ListTurn (world_at m journal) i (world_at n (journal_after i o.effect journal))
    turns w at n is = record {
      can = does.can;
      is = ap (λ z. world_at z (journal_after i o.effect journal)) (is ∙ by_event w at)
          ∙ ap (λ f. world_at (run e.word (e.becomes v) (e.leads v)) (journal_after i f journal)) does.effect
          ∙ is_turn;
    }
