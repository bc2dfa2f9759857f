-- What a ledger shows: the account that it stands for.
use Rattle.std.specs.Prelude.{◌≡◌, Bool, [], slice_index, slice_index_or, vec_len, nat_eq, Option, None, Some}
use Rattle.std.specs.HashMap as hash
use Rattle.std.specs.HashSet as bag
use Rattle.step_table.specs.Journal as law
use Rattle.step_table.specs.Journal.{is_same}
use Rattle.step_law_lists.specs.ListLawful.{none_told}
use Rattle.journal.specs.declared.entry.JournalEntry.{JournalEntry}
use Rattle.journal.specs.declared.entry.JournalWait.{JournalWait}
use Rattle.journal.specs.JournalLine.{HasForm}
use Rattle.journal.specs.declared.budget.Budget.{Budget}
use Rattle.journal.specs.declared.ledger.Ledger.{Ledger}
use Rattle.journal.specs.LawfulJournal.{wait_of}
use Rattle.journal.specs.Account.{Account}

-- what a seat may still let out as the laws have it: nothing of a seat that released nothing
abbrev pub budget_of : Option Budget → law.Budget
budget_of None = record { counter = 0; units = 0 }
budget_of (Some b) = record { counter = b.counter; units = b.units }

-- one wait by the numbers of both
abbrev pub are_same : JournalWait → JournalWait → Bool
are_same w x = is_same (wait_of w) (wait_of x)

-- the account that a ledger stands for
abbrev pub shown : Ledger → Account
shown l = record {
  numbers = λ c. slice_index l.numbers.items c;
  lists = λ c. slice_index_or l.queues.items c [];
  told = λ k. slice_index_or l.tickets.items k none_told;
  budgets = λ s. budget_of (hash.get nat_eq l.budgets s);
  queued = λ w. bag.contains are_same l.queued (record { seat = w.seat; turn = w.turn });
}

-- the other ledger is of as many counters and lists
abbrev pub HasSizesOf : Ledger → Ledger → Type 0
HasSizesOf l m =
    (vec_len m.numbers ≡ vec_len l.numbers) × (vec_len m.queues ≡ vec_len l.queues)
    × (vec_len m.tickets ≡ vec_len l.tickets)

-- the ledger is of the counters and lists that the entry names
pub record IsReady (l : Ledger) (e : JournalEntry) : Type 0 where
  pub form : HasForm (vec_len l.numbers) (vec_len l.tickets) e
  pub queues : vec_len l.queues ≡ vec_len l.numbers
