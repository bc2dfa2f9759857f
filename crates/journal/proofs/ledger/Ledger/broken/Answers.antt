use Rattle.std.proofs.Common.{sym, ap, ◌∙◌}
use Rattle.journal.specs.declared.entry.JournalEntry.{JournalEntry}
use Rattle.journal.specs.LawfulJournal.{entry_of}
use Rattle.journal.specs.Account.{first_broken}
use Rattle.journal.specs.Shown.{shown}
use Rattle.journal.proofs.ledger.Ledger.broken.Goals as goal

pub returns-in-Take : goal.returns-in-Take
returns-in-Take c = c.broken_by_take.ensures c.in-Take.seat ∙ ap (λ (e : JournalEntry). first_broken (shown c.args.self.now) (entry_of e)) (sym c.in-Take.is)

pub returns-in-Queue : goal.returns-in-Queue
returns-in-Queue c =
    c.broken_by_queue.ensures c.in-Queue.counter c.in-Queue.lifo ∙ ap (λ (e : JournalEntry). first_broken (shown c.args.self.now) (entry_of e)) (sym c.in-Queue.is)

pub returns-in-Grant : goal.returns-in-Grant
returns-in-Grant c = c.broken_by_grant.ensures c.in-Grant.seat ∙ ap (λ (e : JournalEntry). first_broken (shown c.args.self.now) (entry_of e)) (sym c.in-Grant.is)

pub returns-in-Forgo : goal.returns-in-Forgo
returns-in-Forgo c = c.broken_by_forgo.ensures c.in-Forgo.seat ∙ ap (λ (e : JournalEntry). first_broken (shown c.args.self.now) (entry_of e)) (sym c.in-Forgo.is)
