-- A seat that gives up an acquire before its first row leaves the layer as lawful as it was.
use Rattle.std.proofs.Common.{◌≡◌, ◌≢◌, ℕ, ◌+◌, ◌<◌, true, refl, sym, ap, ◌∙◌, subst}
use Rattle.std.proofs.lemmas.Bool.{false≢true}
use Rattle.program_steps.specs.Steps.{given_up, is_first}
use Rattle.program_steps.proofs.Staying.{AllStay, rested}
use Rattle.step_law_semaphores.specs.Invariant.{IsInvariant}
use Rattle.step_law_whole.specs.CoreLaw.{IsCoreInvariant, IsOffList, IsStanding}
use Rattle.step_law_whole.proofs.CoreStanding.{between, counters_changed, stands_now}
use Rattle.step_law_whole.proofs.Naming.{and_named, kept_of}
use Rattle.step_law_semaphores.proofs.Promises.{kept}
use Rattle.step_table.specs.declared.place.Acquire.{Acquire}
use Rattle.step_table.specs.declared.place.AcquireRow.TheVariants.{A1}
use Rattle.step_table.specs.declared.place.Place.{Place}
use Rattle.step_table.specs.declared.place.Place.TheVariants as on_counter
use Rattle.step_table.specs.declared.place.Place.TheVariants.{Acquiring}
use Rattle.step_table.specs.declared.standing.Standing.{Standing}
use Rattle.step_table.specs.declared.standing.Standing.TheVariants.{Rest, AtCounter, AtList, AtGroup, Left, Failed}
use Rattle.step_table.specs.Core.{Core, CoreLayout, counters_of}
use Rattle.step_table.specs.Steps.{Choice, choose, give_up, moved}
use Rattle.step_table.specs.World.{SeatState, SemaWorld}
use Rattle.step_table.proofs.Sums.{put_else, put_here}

-- who stands at the first row of an acquire
pub first_of : (place : Place) → is_first place ≡ true → (a : Acquire) × (place ≡ Acquiring a A1)
first_of (Acquiring a A1) e = (a, refl)
first_of _ e = absurd (false≢true e)

module _ (m : CoreLayout) (c : Core) (i : ℕ) (below : i < m.seats) (inv : IsCoreInvariant m c)
    (first : is_first (c.semaphores.seats i).place ≡ true) where
  at_first : (a : Acquire) × ((c.semaphores.seats i).place ≡ Acquiring a A1)
  at_first = first_of (c.semaphores.seats i).place first

  -- it is in no call of a list
  busy : (c.semaphores.seats i).place ≡ on_counter.Rest → ⊥
  busy rest = false≢true (sym (ap is_first rest) ∙ first)

  off : (standing : Standing) → IsStanding m c i standing → (l : ℕ) → IsOffList c i l
  off Rest is = is.1
  off (AtCounter after) is = is.1
  off (AtList l ending) is = absurd (busy is.0)
  off (AtGroup g row) is = is.2
  off (Left skips) is = is.1
  off (Failed misuse) is = is.1

  pub given_up_kept : IsCoreInvariant m (given_up i c)
  given_up_kept = and_named m (given_up i c)
      (stands_now m i (record c { semaphores = w })
      (counters_changed m i c (between m i c (kept_of m c inv)) w c.journal changed places inv.journals.semaphores (λ l. refl)) Rest
      (here, off (c.standing i) (inv.standing i)))
      inv.named
    where
      w : SemaWorld
      w = moved c.semaphores i on_counter.Rest

      here : (w.seats i).place ≡ on_counter.Rest
      here = ap (λ (z : SeatState). z.place) (put_here c.semaphores.seats i (record (c.semaphores.seats i) { place = on_counter.Rest }))

      places : (k : ℕ) → k ≢ i → (w.seats k).place ≡ (c.semaphores.seats k).place
      places k ne = ap (λ (z : SeatState). z.place) (put_else c.semaphores.seats i (record (c.semaphores.seats i) { place = on_counter.Rest }) k ne)

      changed : IsInvariant (counters_of m) w
      changed = kept (counters_of m) c.semaphores w i below inv.semaphores
          (choose (subst (λ p. Choice (m.counters + m.groups) p on_counter.Rest) (sym at_first.1) (give_up at_first.0)))

-- and the others stand where they stood
pub given_up_else : (c : Core) (i k : ℕ) → k ≢ i → (given_up i c).standing k ≡ c.standing k
given_up_else c i k ne = put_else c.standing i Rest k ne

pub given_up_rests : (c : Core) (i : ℕ) → (given_up i c).standing i ≡ Rest
given_up_rests c i = put_here c.standing i Rest

-- and all go on to stay
pub given_up_stays : (m : CoreLayout) (c : Core) (i : ℕ) → AllStay c → AllStay (given_up i c)
given_up_stays m c i stay =
    let at_rest = rested m c i stay in
    record { standing = at_rest.standing; places = at_rest.places; journals = at_rest.journals }
