-- What is said of a journal, by what is asked of it.
use Rattle.std.specs.Prelude.{◌≡◌, ℕ, true, length, vec_len, Some, None}
use Rattle.journal.specs.declared.journal.Journal.{Journal}
use Rattle.journal.specs.declared.judgement.Demands.{Demands}
use Rattle.journal.specs.declared.judgement.Judgement.{Judgement}
use Rattle.journal.specs.declared.judgement.Judgement.TheVariants.{Lawful, Unlawful, Misheld}
use Rattle.journal.specs.declared.judgement.Judgement.TheVariants.{LeftAsleep}
use Rattle.journal.specs.declared.judging.Replayed.{Replayed}
use Rattle.journal.specs.declared.judging.Replayed.TheVariants as replayed
use Rattle.journal.specs.declared.ledger.Ledger.{Ledger}
use Rattle.journal.specs.declared.verdict.Verdict.TheVariants as verdict
use Rattle.journal.specs.Account.{IsAsleepBeside, account}
use Rattle.journal.specs.LawfulJournal.{entries_of, IsLawfulJournal}
use Rattle.journal.specs.Locks.{IsFirstOf}
use Rattle.journal.specs.Rules.{IsVerdictOf}
use Rattle.journal.specs.Shown.{shown}

-- at the end of the journal a wait is queued on the counter, which has a unit
abbrev pub LeavesAsleep : Journal → ℕ → Type 0
LeavesAsleep j c = IsAsleepBeside (account j.starts (entries_of j.entries)) c

-- no wait is left so
abbrev pub LeavesNone : Journal → Type 0
LeavesNone j = (c : ℕ) → LeavesAsleep j c → ⊥

-- each of the locks is kept
abbrev pub KeepsLocks : Journal → Demands → Type 0
KeepsLocks j demands = IsFirstOf j demands.locks.items (length demands.locks.items) None

-- first the law is judged, of a lawful journal its locks, and where they are kept, and that is asked for, who
-- is left asleep
abbrev pub IsJudgementOf : Journal → Demands → Judgement → Type 0
IsJudgementOf j demands Lawful =
    IsLawfulJournal j.starts (entries_of j.entries) × KeepsLocks j demands
    × (demands.settled ≡ true → LeavesNone j)
IsJudgementOf j demands (Unlawful line rule) = IsVerdictOf j (verdict.Unlawful line rule)
IsJudgementOf j demands (Misheld line rule) =
    IsLawfulJournal j.starts (entries_of j.entries)
    × IsFirstOf j demands.locks.items (length demands.locks.items)
    (Some (record { line = line; rule = rule }))
IsJudgementOf j demands (LeftAsleep c) =
    IsLawfulJournal j.starts (entries_of j.entries) × KeepsLocks j demands × (demands.settled ≡ true)
    × LeavesAsleep j c

-- the ledger shows the account of a lawful journal
pub record IsLedgerOf (j : Journal) (ledger : Ledger) : Type 0 where
  pub lawful : IsLawfulJournal j.starts (entries_of j.entries)
  pub shows : shown ledger ≡ account j.starts (entries_of j.entries)
  pub sizes : vec_len ledger.queues ≡ vec_len ledger.numbers

-- a replay of the journal ends so
abbrev pub IsReplayOf : Journal → Replayed → Type 0
IsReplayOf j (replayed.Lawful ledger) = IsLedgerOf j ledger
IsReplayOf j (replayed.Unlawful line rule) = IsVerdictOf j (verdict.Unlawful line rule)
