-- The whole machine at one moment: its semaphores, its notify lists and its wait groups, what each seat is
-- doing, and the journal. The seats stand at rest in each part that their call isn't on.
use Rattle.std.specs.Prelude.{◌≡◌, ℕ, ◌+◌, List, [], ◌∷◌, ◌++◌, eqb, cond}
use Rattle.step_table.specs.declared.entry.Entry.{Entry}
use Rattle.step_table.specs.declared.entry.Entry.TheVariants.{Ticket, Grant, Forgo}
use Rattle.step_table.specs.declared.group_word.GroupWord.{GroupWord}
use Rattle.step_table.specs.declared.list_place.ListEffect.{ListEffect}
use Rattle.step_table.specs.declared.list_place.ListEffect.TheVariants.{HandsOut, Grants, Forgoes}
use Rattle.step_table.specs.declared.standing.Standing.{Standing}
use Rattle.step_table.specs.declared.standing.Standing.TheVariants as doing
use Rattle.step_table.specs.World.{Layout, SemaWorld, first_world}
use Rattle.step_table.specs.ListWorld.{ListEntry, Took, Granted, Forgone, ListWorld, first_list}
use Rattle.step_table.specs.Group.{empty_word}

-- how many seats, counters, lists and groups there are; the root of each counter and the number at which it
-- starts; and the word of each list's first ticket. The counters of groups' semaphores come after the others
pub record CoreLayout : Type 0 where
  pub seats : ℕ
  pub counters : ℕ
  pub lists : ℕ
  pub groups : ℕ
  pub root : ℕ → ℕ
  pub starts : ℕ → ℕ
  pub firsts : ℕ → ℕ

-- the counter that is the semaphore of the group g
abbrev pub semaphore : CoreLayout → ℕ → ℕ
semaphore m g = m.counters + g

-- the layout of the semaphores, those of groups among them
abbrev pub counters_of : CoreLayout → Layout
counters_of m = record { counters = m.counters + m.groups; seats = m.seats; root = m.root; starts = m.starts }

-- each part has its own journal, which is the part of the whole one that tells of it
pub record Core : Type 0 where
  pub semaphores : SemaWorld
  pub lists : ℕ → ListWorld
  pub groups : ℕ → GroupWord
  pub standing : ℕ → Standing
  pub journal : List Entry

-- an entry of the list l as the whole journal has it
abbrev pub entry_of : ℕ → ListEntry → Entry
entry_of l (Took s) = Ticket l s
entry_of l (Granted upto s) = Grant l upto s
entry_of l (Forgone n s) = Forgo l n s

-- the whole journal after seat i did this on the list l
abbrev pub journal_after_list : ℕ → ℕ → ListEffect → List Entry → List Entry
journal_after_list l i (HandsOut t) journal = journal ++ Ticket l i ∷ []
journal_after_list l i (Grants upto) journal = journal ++ Grant l upto i ∷ []
journal_after_list l i (Forgoes w) journal = journal ++ Forgo l w.id.turn i ∷ []
journal_after_list l i _ journal = journal

-- the entries that tell of semaphores
abbrev pub sema_entries : List Entry → List Entry
sema_entries [] = []
sema_entries (Ticket l s ∷ es) = sema_entries es
sema_entries (Grant l upto s ∷ es) = sema_entries es
sema_entries (Forgo l n s ∷ es) = sema_entries es
sema_entries (e ∷ es) = e ∷ sema_entries es

-- those that tell of the list l
abbrev pub list_entries : ℕ → List Entry → List ListEntry
list_entries l [] = []
list_entries l (Ticket m s ∷ es) = cond (eqb m l) (Took s ∷ list_entries l es) (list_entries l es)
list_entries l (Grant m upto s ∷ es) = cond (eqb m l) (Granted upto s ∷ list_entries l es) (list_entries l es)
list_entries l (Forgo m n s ∷ es) = cond (eqb m l) (Forgone n s ∷ list_entries l es) (list_entries l es)
list_entries l (e ∷ es) = list_entries l es

-- the journals of the parts are those of the whole
pub record OneJournalOfAll (s : Core) : Type 0 where
  pub semaphores : s.semaphores.journal ≡ sema_entries s.journal
  pub lists : (l : ℕ) → (s.lists l).journal ≡ list_entries l s.journal

-- all seats are at rest, and nothing has happened
abbrev pub first_core : CoreLayout → Core
first_core m =
    record {
      semaphores = first_world m.starts;
      lists = λ l. first_list (m.firsts l);
      groups = λ g. empty_word;
      standing = λ k. doing.Rest;
      journal = [];
    }
