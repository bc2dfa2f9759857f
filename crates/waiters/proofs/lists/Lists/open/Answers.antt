use Rattle.std.proofs.Common.{ap, sym, refl, ◌∙◌}
use Rattle.waiters.proofs.OtherLemmas.{list_at-listed, AreChained-step, Changes-step, Keeps-same, IsSlot-empty, HasRoom-less}
use Rattle.waiters.specs.Chains.{waits_in}
use Rattle.waiters.proofs.WhereaboutsSteps.{known_opened}
use Rattle.waiters.proofs.lists.Lists.open.Goals as goal

pub invariant_of-self : goal.invariant_of-self
invariant_of-self c =
    let old = c.self.invariant.0 in
    let records = c.self.inside.records in
    let inserted = c.insert_reserved.ensures in
    let some = rw (← c.self.view_is) at c.requires in
    let chains = c.self.inside.chains in (
      AreChained-step records records _ _ _ _ old _ _ inserted.updates old.owner _ _ (Keeps-same records old.owner _) (IsSlot-empty records old.owner _)
          old.records_fit (HasRoom-less _ _ _ old.chains_fit inserted.capacity some inserted.len),
      known_opened records chains _ c.self.inside.seats _ _ inserted.was_vacant inserted.updates c.self.invariant.1,
    )

pub returns-clause-opened : goal.returns-clause-opened
returns-clause-opened c =
    let old = c.self.invariant.0 in
    let records = c.self.inside.records in
    rw c.new.ensures (Changes-step records records _ _ _ _ old _ _ c.insert_reserved.ensures.updates old.owner _ _ _ (Keeps-same records old.owner _)
    (ap (λ lists. lists.slots) (sym c.self.view_is)) refl refl)

pub returns-clause-was_closed : goal.returns-clause-was_closed
returns-clause-was_closed c =
    let records = c.self.inside.records in
    rw (← c.self.view_is, c.new.ensures) (list_at-listed records c.self.inside.chains _ ∙ ap (waits_in records) c.insert_reserved.ensures.was_vacant)
