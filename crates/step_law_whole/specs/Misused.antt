-- When no wait group is misused, and what its counter is then.
use Rattle.std.specs.Prelude.{◌≡◌, ℕ, ◌<◌, eqb, cond, if◌then◌else◌, Bool, true, false, ℤ, pos, ◌+ℤ◌, ◌≤ℤ◌, List, [], ◌∷◌, length, ◌^◌, ◌-◌}
use Rattle.step_table.specs.declared.misuse.Misuse.{Misuse}
use Rattle.step_table.specs.declared.parts.Parts.{Parts}
use Rattle.step_table.specs.declared.place.AcquireRow.TheVariants.{D4, Parked}
use Rattle.step_table.specs.declared.place.ParkedRow.TheVariants.{D3}
use Rattle.step_table.specs.declared.place.Place.{Place}
use Rattle.step_table.specs.declared.place.Place.TheVariants.{Acquiring}
use Rattle.step_table.specs.declared.standing.After.TheVariants.{LooksAgain}
use Rattle.step_table.specs.declared.standing.Ending.{Ending}
use Rattle.step_table.specs.declared.standing.Ending.TheVariants.{GaveUp}
use Rattle.step_table.specs.declared.standing.GroupRow.TheVariants.{G1, G3, V3, V4, V5}
use Rattle.step_table.specs.declared.standing.Standing.{Standing}
use Rattle.step_table.specs.declared.standing.Standing.TheVariants.{AtCounter, AtGroup, Failed}
use Rattle.step_table.specs.declared.group_word.GroupWord.{GroupWord}
use Rattle.step_table.specs.Counting.{on, total}
use Rattle.step_table.specs.Core.{Core}
use Rattle.step_table.specs.Run.{Run, start, stepped, reached}

-- a wait on a group, which ends so, has left: at D3 and D4 its group's word doesn't count it any more
abbrev pub has_left : Ending → Place → Bool
has_left (GaveUp how) (Acquiring a (Parked turn D3)) = true
has_left (GaveUp how) (Acquiring a D4) = true
has_left _ _ = false

-- the seat's wait on the group g was counted, and has neither left nor ended
abbrev pub IsCounted : ℕ → Standing → Place → Type 0
IsCounted g (AtCounter (LooksAgain h ending)) place = (h ≡ g) × (has_left ending place ≡ false)
IsCounted g (AtGroup h (V3 ending)) place = h ≡ g
IsCounted g (AtGroup h (V4 how)) place = h ≡ g
IsCounted g (AtGroup h (V5 how w)) place = h ≡ g
IsCounted g _ place = ⊥

-- 1 where it is
abbrev pub counted_at : ℕ → Standing → Place → ℕ
counted_at g (AtCounter (LooksAgain h ending)) place = if has_left ending place then 0 else on h g 1
counted_at g (AtGroup h (V3 ending)) place = on h g 1
counted_at g (AtGroup h (V4 how)) place = on h g 1
counted_at g (AtGroup h (V5 how w)) place = on h g 1
counted_at g _ place = 0

-- an add of d, which finds this counter, leaves it from 0 to 2^31 - 1; and where it finds 0, no wait of the
-- group is counted
pub record IsFairAdd (s : Core) (seats g : ℕ) (d : ℤ) : Type 0 where
  pub above : pos 0 ≤ℤ ((s.groups g).counter +ℤ d)
  pub below : ((s.groups g).counter +ℤ d) ≤ℤ pos (2 ^ 31 - 1)
  pub alone : (s.groups g).counter ≡ pos 0 → (k : ℕ) → k < seats
      → IsCounted g (s.standing k) (s.semaphores.seats k).place → ⊥

-- the step of a seat that does this is no unfair add
abbrev pub IsFair : Core → ℕ → Standing → Type 0
IsFair s seats (AtGroup g (G1 d)) = IsFairAdd s seats g d
IsFair s seats _ = Unit {0}

-- what the step of a seat that does this adds to the group g
abbrev pub adds_to : ℕ → Standing → ℤ
adds_to g (AtGroup h (G1 d)) = cond (eqb h g) d (pos 0)
adds_to g _ = pos 0

-- no step of the schedule is an unfair add
abbrev pub AllFairFrom : Parts → Run → List ℕ → Type 0
AllFairFrom parts run [] = Unit {0}
AllFairFrom parts run (i ∷ schedule) =
    IsFair run.core (length parts.calls) (run.core.standing i)
    × AllFairFrom parts (stepped parts run i) schedule

-- the sum of the adds to the group g along the schedule
abbrev pub sum_from : Parts → ℕ → Run → List ℕ → ℤ
sum_from parts g run [] = pos 0
sum_from parts g run (i ∷ schedule) =
    adds_to g (run.core.standing i) +ℤ sum_from parts g (stepped parts run i) schedule

-- no seat has failed; each group's counter is the sum of its adds; and an add that is about to release the waits
-- of its group releases as many as are counted
pub record IsUnmisused (parts : Parts) (schedule : List ℕ) : Type 0 where
  pub nobody : (k : ℕ) (misuse : Misuse) → (reached parts schedule).core.standing k ≡ Failed misuse → ⊥
  pub sums : (g : ℕ) → g < parts.groups
      → ((reached parts schedule).core.groups g).counter ≡ sum_from parts g (start parts) schedule
  pub released : (g k : ℕ) (w : GroupWord) → (reached parts schedule).core.standing k ≡ AtGroup g (G3 w)
      → w.waits ≡ total (length parts.calls) (λ i. counted_at g ((reached parts schedule).core.standing i)
      ((reached parts schedule).core.semaphores.seats i).place)
