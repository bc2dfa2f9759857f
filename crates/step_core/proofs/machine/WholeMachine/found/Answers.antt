use Rattle.std.proofs.Common.{inl, inr, subst}
use Rattle.step_table.specs.declared.standing.Standing.TheVariants.{Rest}
use Rattle.step_rows.specs.Stored.{each}
use Rattle.step_core.specs.declared.turn.Turn.{Turn}
use Rattle.step_core.specs.State.{IsReady}
use Rattle.step_core.proofs.Finding.{counter_finds, giving_up_finds, giving_up_on_list_finds}
use Rattle.step_core.proofs.RunningRows.{gives_up_is, gives_up_on_list_is}
use Rattle.step_core.proofs.machine.WholeMachine.found.Goals as goal

pub returns-in-OnCounter : goal.returns-in-OnCounter
returns-in-OnCounter c =
    counter_finds _ _ c.self.view_is c.args.seat _ _
    (subst (λ (turn : Turn). IsReady c.args.self.now c.args.seat turn) c.in-OnCounter.is c.requires.ready)
    _ c.read.ensures _ c.on_counter.ensures

pub returns-in-GivesUp : goal.returns-in-GivesUp
returns-in-GivesUp c =
    let h = c.args.self.now in
    let i = c.args.seat in
    elim c.in-GivesUp.is [
      | inl e ↦
          let at = gives_up_is h i (each Rest h.standing i) e.0 (subst (λ (turn : Turn). IsReady h i turn) e.1 c.requires.ready) in
          giving_up_finds h i e.0 at.0 at.1
      | inr e ↦
          let at = gives_up_on_list_is h i (each Rest h.standing i) e.0 e.1 (subst (λ (turn : Turn). IsReady h i turn) e.2 c.requires.ready) in
          giving_up_on_list_finds h i e.0 e.1 at.0 at.1
    ]
