-- What the steps of a run grant: the least ticket that is neither granted nor gone alone, or all such that were
-- handed out when L5 read the wait word.
use Rattle.std.specs.Prelude.{◌≡◌, ◌≢◌, ℕ, ◌+◌, ◌<◌, ◌⊎◌, List, [], ◌∷◌, ◌++◌, All}
use Rattle.step_table.specs.declared.entry.Entry.{Entry}
use Rattle.step_table.specs.declared.entry.Entry.TheVariants.{Grant}
use Rattle.step_table.specs.declared.list_place.AllRow.TheVariants.{L5, L6}
use Rattle.step_table.specs.declared.list_place.ListPlace.{ListPlace}
use Rattle.step_table.specs.declared.list_place.ListPlace.TheVariants.{NotifyingOne, NotifyingAll}
use Rattle.step_table.specs.declared.list_place.OneRow.TheVariants.{O7}
use Rattle.step_table.specs.declared.list_place.Reach.{Reach}
use Rattle.step_table.specs.declared.parts.Parts.{Parts}
use Rattle.step_table.specs.declared.standing.Ending.{Ending}
use Rattle.step_table.specs.declared.standing.Standing.TheVariants.{AtList}
use Rattle.step_table.specs.Wrapping.{word_of}
use Rattle.step_table.specs.ListWorld.{Numbers}
use Rattle.step_law_lists.specs.ListLawful.{told}
use Rattle.step_table.specs.Core.{CoreLayout, Core, list_entries}
use Rattle.step_table.specs.Run.{layout, reached}

-- the seat stands at this row of a call on the list l
abbrev pub IsOnList : Core → ℕ → ℕ → ListPlace → Type 0
IsOnList s i l place = ((ending : Ending) × (s.standing i ≡ AtList l ending)) × (((s.lists l).seats i).place ≡ place)

-- how many tickets of the list l were handed out and passed, and which are gone, as the one journal tells
abbrev pub told_of : ℕ → List Entry → Numbers
told_of l journal = told (list_entries l journal)

-- a step of seat i from s to t
pub record StepGrants (m : CoreLayout) (s t : Core) (i : ℕ) : Type 0 where
  -- by O7 it grants the least ticket that is neither granted nor gone alone
  pub one : (l h n : ℕ) → IsOnList s i l (NotifyingOne h (O7 n))
      → (n ≡ word_of (m.firsts l) (told_of l s.journal).passed)
      × (t.journal ≡ s.journal ++ Grant l ((told_of l s.journal).passed + 1) i ∷ [])
  -- by L6 it grants all that were handed out when its L5 read, where these weren't all passed
  pub all : (l h : ℕ) (r : Reach) → IsOnList s i l (NotifyingAll h (L6 r))
      → ((r.notified ≡ r.waited) × (r.handed ≡ (told_of l s.journal).passed) × (t.journal ≡ s.journal))
      ⊎ ((r.notified ≢ r.waited) × ((told_of l s.journal).passed < r.handed)
      × (t.journal ≡ s.journal ++ Grant l r.handed i ∷ []))
  -- and by no other row does it grant
  pub only : (l upto k : ℕ) → t.journal ≡ s.journal ++ Grant l upto k ∷ []
      → (k ≡ i)
      × (((h n : ℕ) × IsOnList s i l (NotifyingOne h (O7 n)))
      ⊎ ((h : ℕ) × (r : Reach) × IsOnList s i l (NotifyingAll h (L6 r))))

-- the seat i, which stands at L6 of the list l after this schedule, ran L5 in its course, where so many
-- tickets were handed out, and has run no row since
pub record HasReadIn (parts : Parts) (schedule : List ℕ) (i l h : ℕ) (r : Reach) : Type 0 where
  pub before : List ℕ
  pub after : List ℕ
  pub is : schedule ≡ before ++ i ∷ after
  pub alone : All (λ k. k ≢ i) after
  pub stood : IsOnList (reached parts before).core i l (NotifyingAll h (L5 r.notified))
  pub handed : r.handed ≡ (told_of l (reached parts before).core.journal).handed

-- each step of the schedule grants so
abbrev pub EachStepGrantsLeast : Parts → List ℕ → Type 0
EachStepGrantsLeast parts schedule =
    (before after : List ℕ) (i : ℕ) → schedule ≡ before ++ i ∷ after
    → StepGrants (layout parts) (reached parts before).core (reached parts (before ++ i ∷ [])).core i
    × ((l h : ℕ) (r : Reach) → IsOnList (reached parts before).core i l (NotifyingAll h (L6 r))
    → HasReadIn parts before i l h r)
