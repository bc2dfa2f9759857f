use Rattle.std.proofs.Common.{◌<◌, length, sym, subst}
use Rattle.step_core.specs.State.{WholeMachine, HasSeatAt}
use Rattle.program_machine.proofs.Seeing.{seat_at, grant_there}
use Rattle.program_machine.proofs.machine.ProgramMachine.phase.Goals as goal

pub phase-requires-clause-seat : goal.phase-requires-clause-seat
phase-requires-clause-seat c =
    subst (λ (h : WholeMachine). HasSeatAt h c.args.seat) (sym c.layer.ensures.layer)
    (seat_at c.args.self.now.program c.args.self.now.steps c.args.self.now.shared c.layer.ensures.sound c.args.seat c.requires)

pub phase-requires-clause-grant : goal.phase-requires-clause-grant
phase-requires-clause-grant c =
    subst (λ (h : WholeMachine). c.args.seat < length h.semaphores.stored.grants) (sym c.layer.ensures.layer)
    (grant_there c.args.self.now.program c.args.self.now.steps c.args.self.now.shared c.layer.ensures.sound c.args.seat c.requires)
