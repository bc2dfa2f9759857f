use Rattle.std.proofs.Common.{◌≡◌, ℕ, ◌+◌, ◌<◌, Option, length, get_or, take, refl, sym, ap, subst, ◌∙◌}
use Rattle.std.proofs.lemmas.List.{get_or_default}
use Rattle.journal.specs.declared.entry.JournalEntry.{JournalEntry}
use Rattle.journal.specs.declared.entry.JournalEntry.TheVariants.{Add}
use Rattle.journal.specs.declared.lock.LockUse.{LockUse}
use Rattle.journal.specs.declared.lock_rule.LockRule.{LockRule}
use Rattle.journal.specs.LawfulJournal.{entry_of, entries_of}
use Rattle.journal.specs.Locks.{use_of, holder_after, holder_of, BreaksUse, BreaksLock}
use Rattle.journal.proofs.Locks.{holder_next, kept_next, breach_here, kept_none}
use Rattle.journal.proofs.lock.judge_lock.Goals as goal

pub loop-place-init : goal.loop-place-init
loop-place-init c = record { holder = refl; kept = kept_none c.args.lock }

pub returns-in-Some : goal.returns-in-Some
returns-in-Some c =
    let i : ℕ = c.loop-place.place in
    let e : JournalEntry = get_or c.args.journal.now.entries i (Add 0 0) in
    let lt : i < length c.args.journal.now.entries = rw (c.as_slice-entries.ensures) at c.loop-place-test.true in
    let used_is : c.use_of-used.result ≡ use_of c.args.lock (entry_of e) = rw (c.as_slice-entries.ensures) at c.use_of-used.ensures in
    let breaks : BreaksLock c.in-Some.rule c.args.lock (entries_of (take i c.args.journal.now.entries)) (entry_of e) =
    subst (λ (h : Option ℕ). BreaksUse c.in-Some.rule h (use_of c.args.lock (entry_of e))) c.loop-place.invariant.holder
    (subst (λ (u : Option LockUse). BreaksUse c.in-Some.rule c.loop-place.holder u) used_is c.in-Some.ensures) in
    breach_here c.args.journal.now c.args.lock i e lt (get_or_default c.args.journal.now.entries i (Add 0 0) e lt) c.in-Some.rule
    (c.args.journal.now.heads + i + 1) c.loop-place.invariant.kept breaks refl

pub loop-place-preserved : goal.loop-place-preserved
loop-place-preserved c =
    let i : ℕ = c.loop-place.place in
    let e : JournalEntry = get_or c.args.journal.now.entries i (Add 0 0) in
    let lt : i < length c.args.journal.now.entries = rw (c.as_slice-entries.ensures) at c.loop-place-test.true in
    let is = get_or_default c.args.journal.now.entries i (Add 0 0) e lt in
    let used_is : c.use_of-used.result ≡ use_of c.args.lock (entry_of e) = rw (c.as_slice-entries.ensures) at c.use_of-used.ensures in
    let none : (rule : LockRule) → BreaksLock rule c.args.lock (entries_of (take i c.args.journal.now.entries)) (entry_of e) → ⊥ =
    λ rule breaks. c.in_default.ensures rule
    (subst (λ (u : Option LockUse). BreaksUse rule c.loop-place.holder u) (sym used_is)
    (subst (λ (h : Option ℕ). BreaksUse rule h (use_of c.args.lock (entry_of e))) (sym c.loop-place.invariant.holder) breaks)) in
    record {
      holder = c.holder_after-holder.ensures ∙ ap (λ (h : Option ℕ). holder_after h c.use_of-used.result) c.loop-place.invariant.holder
          ∙ ap (λ (u : Option LockUse). holder_after (holder_of c.args.lock (entries_of (take i c.args.journal.now.entries))) u) used_is
          ∙ sym (holder_next c.args.journal.now c.args.lock i e lt is);
      kept = kept_next c.args.journal.now c.args.lock i e lt is c.loop-place.invariant.kept none;
    }
