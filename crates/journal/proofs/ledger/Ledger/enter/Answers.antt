use Rattle.std.proofs.Common.{sym, ap, ◌∙◌, rules}
use Rattle.journal.specs.declared.entry.JournalEntry.{JournalEntry}
use Rattle.journal.specs.LawfulJournal.{entry_of, wait_of}
use Rattle.journal.specs.Account.{after}
use Rattle.journal.specs.Shown.{shown}
use Rattle.journal.proofs.Shown.{add_one, on_ok}
use Rattle.journal.proofs.ledger.Ledger.enter.Goals as goal

pub returns-in-Add-clause-shown : goal.returns-in-Add-clause-shown
returns-in-Add-clause-shown c =
    on_ok c.add.result c.add.ensures.shown
    (λ h. h ∙ add_one (shown c.args.self.now) c.in-Add.counter c.in-Add.seat
    ∙ ap (λ (e : JournalEntry). after (shown c.args.self.now) (entry_of e)) (sym c.in-Add.is))

pub returns-in-Take-clause-shown : goal.returns-in-Take-clause-shown
returns-in-Take-clause-shown c = c.take.ensures.shown c.in-Take.seat ∙ ap (λ (e : JournalEntry). after (shown c.args.self.now) (entry_of e)) (sym c.in-Take.is)

pub returns-in-Leave-clause-shown : goal.returns-in-Leave-clause-shown
returns-in-Leave-clause-shown c =
    on_ok c.leave.result c.leave.ensures.shown
    (λ h. h (wait_of c.in-Leave.wait) ∙ ap (λ (e : JournalEntry). after (shown c.args.self.now) (entry_of e)) (sym c.in-Leave.is))

pub returns-in-Ticket-clause-shown : goal.returns-in-Ticket-clause-shown
returns-in-Ticket-clause-shown c =
    c.hand_out.ensures.shown c.in-Ticket.seat ∙ ap (λ (e : JournalEntry). after (shown c.args.self.now) (entry_of e)) (sym c.in-Ticket.is)

pub returns-in-Grant-clause-shown : goal.returns-in-Grant-clause-shown
returns-in-Grant-clause-shown c = c.grant.ensures.shown c.in-Grant.seat ∙ ap (λ (e : JournalEntry). after (shown c.args.self.now) (entry_of e)) (sym c.in-Grant.is)

pub returns-in-Queue-clause-shown : goal.returns-in-Queue-clause-shown
returns-in-Queue-clause-shown c = search rules

pub returns-in-Withdraw-clause-shown : goal.returns-in-Withdraw-clause-shown
returns-in-Withdraw-clause-shown c =
    c.withdraw.ensures.shown ∙ ap (λ (e : JournalEntry). after (shown c.args.self.now) (entry_of e)) (sym c.in-Withdraw.is)

pub returns-in-Forgo-clause-shown : goal.returns-in-Forgo-clause-shown
returns-in-Forgo-clause-shown c =
    on_ok c.forgo.result c.forgo.ensures.shown
    (λ h. h c.in-Forgo.seat ∙ ap (λ (e : JournalEntry). after (shown c.args.self.now) (entry_of e)) (sym c.in-Forgo.is))
