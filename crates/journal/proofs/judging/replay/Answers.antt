use Rattle.std.proofs.Common.{◌≡◌, ℕ, ◌+◌, ◌<◌, List, [], length, get_or, take, refl, sym, ap, subst, ◌∙◌}
use Rattle.std.proofs.lemmas.List.{get_or_default}
use Rattle.journal.specs.declared.entry.JournalEntry.{JournalEntry}
use Rattle.journal.specs.declared.entry.JournalEntry.TheVariants.{Add}
use Rattle.journal.specs.LawfulJournal.{entry_of, entries_of, IsLawfulJournal}
use Rattle.journal.specs.Account.{Account, account, after, first_broken}
use Rattle.journal.specs.Shown.{shown}
use Rattle.journal.proofs.Bounds.{IsBounded, bounded_start, bounded_more}
use Rattle.journal.proofs.Verdicts.{account_next, lawful_next, told_unlawful, lawful_none, whole_front, in_order, told_in_order}
use Rattle.journal.proofs.judging.replay.Goals as goal

pub loop-place-init : goal.loop-place-init
loop-place-init c =
    let starts : List ℕ = c.args.journal.now.starts in
    let shows : shown c.in_ok-ledger.ledger ≡ account starts [] = rw (c.as_slice.ensures) at c.in_ok-ledger.ensures.shown in
    record {
      shows = shows;
      lawful = lawful_none starts;
      order = in_order (shown c.in_ok-ledger.ledger) (account starts []) shows (told_in_order starts [] (lawful_none starts));
      bounded = subst (IsBounded 0) (sym shows) (bounded_start starts c.requires.starts);
      numbers = rw (c.as_slice.ensures) at c.in_ok-ledger.ensures.numbers;
      queues = rw (c.as_slice.ensures) at c.in_ok-ledger.ensures.queues;
      tickets = c.in_ok-ledger.ensures.tickets;
    }

pub returns-in-Some : goal.returns-in-Some
returns-in-Some c =
    let i : ℕ = c.loop-place.place in
    let e : JournalEntry = get_or c.args.journal.now.entries i (Add 0 0) in
    let lt : i < length c.args.journal.now.entries = rw (c.as_slice-entries.ensures) at c.loop-place-test.true in
    told_unlawful c.args.journal.now i e lt (get_or_default c.args.journal.now.entries i (Add 0 0) e lt) c.in-Some.rule (c.args.journal.now.heads + i + 1)
    c.loop-place.invariant.lawful
    ((rw (c.as_slice-entries.ensures) at c.in-Some.ensures) ∙ ap (λ (a : Account). first_broken a (entry_of e)) c.loop-place.invariant.shows) refl

pub loop-place-preserved : goal.loop-place-preserved
loop-place-preserved c =
    let i : ℕ = c.loop-place.place in
    let e : JournalEntry = get_or c.args.journal.now.entries i (Add 0 0) in
    let lt : i < length c.args.journal.now.entries = rw (c.as_slice-entries.ensures) at c.loop-place-test.true in
    let is = get_or_default c.args.journal.now.entries i (Add 0 0) e lt in
    let shown_is = rw (c.as_slice-entries.ensures) at c.in_ok-enter.ensures.shown in
    let shows = shown_is ∙ ap (λ (a : Account). after a (entry_of e)) c.loop-place.invariant.shows ∙ sym (account_next c.args.journal.now i e lt is) in
    let lawful = lawful_next c.args.journal.now i e lt is c.loop-place.invariant.lawful
    ((rw (c.as_slice-entries.ensures) at c.in_default.ensures) ∙ ap (λ (a : Account). first_broken a (entry_of e)) c.loop-place.invariant.shows) in
    record {
      shows = shows;
      lawful = lawful;
      order = in_order _ (account c.args.journal.now.starts (entries_of (take (i + 1) c.args.journal.now.entries))) shows
          (told_in_order c.args.journal.now.starts (entries_of (take (i + 1) c.args.journal.now.entries)) lawful);
      bounded =
          subst (IsBounded (i + 1)) (sym shown_is)
          (bounded_more (length c.args.journal.now.starts) c.args.journal.now.lists i _ e (c.requires.entries i (Add 0 0) lt) c.loop-place.invariant.bounded);
      numbers = c.in_ok-enter.ensures.sizes.0 ∙ c.loop-place.invariant.numbers;
      queues = c.in_ok-enter.ensures.sizes.1 ∙ c.loop-place.invariant.queues;
      tickets = c.in_ok-enter.ensures.sizes.2 ∙ c.loop-place.invariant.tickets;
    }

pub returns : goal.returns
returns c =
    let I = c.loop-place.invariant in
    let all = whole_front c.args.journal.now.entries c.loop-place.place (rw (c.as_slice-entries.ensures) at c.loop-place-test.false) in
    record {
      lawful = subst (λ (es : List JournalEntry). IsLawfulJournal c.args.journal.now.starts (entries_of es)) all I.lawful;
      shows = I.shows ∙ ap (λ (es : List JournalEntry). account c.args.journal.now.starts (entries_of es)) all;
      sizes = I.queues ∙ sym I.numbers;
    }
