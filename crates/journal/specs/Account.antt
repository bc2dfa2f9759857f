-- What the judge keeps of the entries that it has seen.
use Rattle.std.specs.Prelude.{◌≢◌, ℕ, ◌+◌, ◌<◌, ◌^◌, ◌==◌, Bool, false, cond, nat_lt, ◌&&◌, ◌||◌, List, []}
use Rattle.std.specs.Prelude.{◌∷◌, Option, Some, None}
use Rattle.waiters.specs.declared.wait.WaitId.{WaitId}
use Rattle.step_table.specs.declared.entry.Entry.{Entry}
use Rattle.step_table.specs.declared.entry.Entry.TheVariants.{Take, Queue, Leave, Withdraw, Grant, Forgo}
use Rattle.step_table.specs.Core.{sema_entries, list_entries}
use Rattle.step_table.specs.Journal.{Budget, numbered, told_lists, spent, budget, queued, is_same}
use Rattle.step_table.specs.Counting.{times}
use Rattle.step_table.specs.ListWorld.{Numbers, is_gone}
use Rattle.step_law_lists.specs.ListLawful as list
use Rattle.journal.specs.declared.rule.Rule.{Rule}
use Rattle.journal.specs.declared.rule.Rule.TheVariants.{NoUnit, NotFirst, NotQueued, GrantedBefore}
use Rattle.journal.specs.declared.rule.Rule.TheVariants.{PassedBefore, GoneBefore, NotHandedOut}
use Rattle.journal.specs.declared.rule.Rule.TheVariants.{QueuedTwice, NoRelease}
use Rattle.journal.specs.LawfulJournal.{plain_after, told_after}

-- numbers and lists of the counters, tickets of the lists, what each seat may still let out, which waits were
-- queued
pub record Account : Type 0 where
  pub numbers : ℕ → ℕ
  pub lists : ℕ → List WaitId
  pub told : ℕ → Numbers
  pub budgets : ℕ → Budget
  pub queued : WaitId → Bool

-- the account of these entries
abbrev pub account : List ℕ → List Entry → Account
account starts entries = record {
  numbers = (plain_after starts entries).numbers;
  lists = (plain_after starts entries).lists;
  told = told_after entries;
  budgets = λ s. budget s (sema_entries entries);
  queued = λ w. nat_lt 0 (queued w (sema_entries entries));
}

-- the entry queues the wait
abbrev pub queues : WaitId → Entry → Bool
queues w (Queue c x lifo) = is_same x w
queues w entry = false

-- the account after one entry more
abbrev pub after : Account → Entry → Account
after a entry = record {
  numbers = numbered entry a.numbers;
  lists = told_lists entry a.lists;
  told = λ l. list.replay (a.told l) (list_entries l (entry ∷ []));
  budgets = λ s. spent s entry (a.budgets s);
  queued = λ w. queues w entry || a.queued w;
}

-- the wait is the first of the list
abbrev pub begins : WaitId → List WaitId → Bool
begins w [] = false
begins w (x ∷ l) = is_same x w

-- a unit of a release of this counter is left
abbrev pub has_unit : Budget → ℕ → Bool
has_unit b c = b.counter == c && nat_lt 0 b.units

-- the first rule that the entry breaks, by the account
abbrev pub first_broken : Account → Entry → Option Rule
first_broken a (Take c s) = cond (a.numbers c == 0) (Some NoUnit) None
first_broken a (Queue c w lifo) = cond (a.queued w) (Some QueuedTwice) None
first_broken a (Leave c w s) =
    cond (begins w (a.lists c)) (cond (has_unit (a.budgets s) c) None (Some NoRelease)) (Some NotFirst)
first_broken a (Withdraw c w) = cond (nat_lt 0 (times w (a.lists c))) None (Some NotQueued)
first_broken a (Grant l upto s) =
    cond (nat_lt (a.told l).passed upto) (cond (nat_lt (a.told l).handed upto) (Some NotHandedOut) None)
    (Some GrantedBefore)
first_broken a (Forgo l n s) =
    cond (nat_lt n (a.told l).passed) (Some PassedBefore)
    (cond (is_gone n (a.told l).gone) (Some GoneBefore)
    (cond (nat_lt n (a.told l).handed) None (Some NotHandedOut)))
first_broken a entry = None

-- one entry more can't pass 128 bits
pub record HasRoom (a : Account) : Type 0 where
  pub numbers : (c : ℕ) → a.numbers c + 10 ^ 20 < 2 ^ 128
  pub handed : (l : ℕ) → (a.told l).handed + 1 < 2 ^ 128
  pub passed : (l : ℕ) → (a.told l).passed + 2 ^ 64 < 2 ^ 128

-- a wait is queued on the counter, which has a unit
abbrev pub IsAsleepBeside : Account → ℕ → Type 0
IsAsleepBeside a c = (0 < a.numbers c) × (a.lists c ≢ [])
