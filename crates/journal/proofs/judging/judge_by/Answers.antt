use Rattle.std.proofs.Common.{ℕ, List, Some, length, subst}
use Rattle.journal.specs.Judged.{IsLedgerOf, IsReplayOf}
use Rattle.journal.specs.Locks.{IsFirstOf}
use Rattle.journal.proofs.judging.judge_by.Goals as goal

pub returns-in-Some : goal.returns-in-Some
returns-in-Some c =
    let ledger : IsLedgerOf c.args.journal.now c.in-Lawful.ledger = subst (IsReplayOf c.args.journal.now) c.in-Lawful.is c.in_ok-ledger.ensures in (
      ledger.lawful,
      subst (λ (locks : List ℕ). IsFirstOf c.args.journal.now locks (length locks) (Some c.in-Some.breach))
          c.deref.ensures.value c.in-Some.ensures,
    )
