use Rattle.std.proofs.Common.{◌≡◌, ℕ, ◌≤◌, length, take, vec_len}
use Rattle.journal.specs.LawfulJournal.{entries_of, IsLawfulJournal}
use Rattle.journal.specs.Account.{account}
use Rattle.journal.specs.Shown.{shown}
use Rattle.journal.proofs.Bounds.{IsBounded}
use Rattle.journal.proofs.judging.replay.Given as goal

-- the ledger shows the account of the entries in front, which are lawful
abbrev pub invariant-loop-place : goal.invariant-loop-place
invariant-loop-place l =
    record {
      shows : shown l.ledger ≡ account l.journal.starts (entries_of (take l.place l.journal.entries));
      lawful : IsLawfulJournal l.journal.starts (entries_of (take l.place l.journal.entries));
      order : (k : ℕ) → ((shown l.ledger).told k).passed ≤ ((shown l.ledger).told k).handed;
      bounded : IsBounded l.place (shown l.ledger);
      numbers : vec_len l.ledger.numbers ≡ length l.journal.starts;
      queues : vec_len l.ledger.queues ≡ length l.journal.starts;
      tickets : vec_len l.ledger.tickets ≡ l.journal.lists;
    }
