use Rattle.std.proofs.Common.{◌≡◌, sym, subst}
use Rattle.program_steps.specs.declared.stand.Stand.TheVariants.{Asleep}
use Rattle.program_rows.specs.Rows.{DoesIfItCan, wakes_at}
use Rattle.program_rows.specs.Stored.{seats_of}
use Rattle.program_machine.specs.Shared.{Shared}
use Rattle.program_machine.proofs.Lines.{can_inside, run_outside}
use Rattle.program_machine.proofs.Stepping.{asleep_ran}
use Rattle.program_machine.proofs.shared.Shared.run_asleep.Goals as goal

pub returns-clause-row : goal.returns-clause-row
returns-clause-row c =
    run_outside c.args.program.now c.args.seat _ _ c.self.view_is _ c.in-Some.then
    (asleep_ran c.args.program.now (record { layer = c.self.inside.layer; own = c.self.inside.own }) c.args.seat
    (can_inside c.args.program.now c.args.seat _ _ c.self.view_is c.requires.can)
    c.args.line (subst (λ (s : Shared). (seats_of s.own.seats c.args.seat).stand ≡ Asleep c.args.line) (sym c.self.view_is) c.requires.stand)
    c.awake.new.self c.in-Some.then
    (subst (λ then. DoesIfItCan (wakes_at c.args.seat) c.self.inside.own c.awake.new.self then) c.in-Some.is c.awake.ensures))
