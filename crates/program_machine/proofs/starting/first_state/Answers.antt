use Rattle.std.proofs.Common.{length, ap, ◌∙◌, subst}
use Rattle.program_code.specs.declared.program.Program.{Program}
use Rattle.program_rows.specs.Settling.{HasStarted}
use Rattle.program_machine.proofs.FirstSeats.{none_started, one_started}
use Rattle.program_steps.specs.World.{code_of}
use Rattle.program_machine.proofs.starting.first_state.Goals as goal

pub loop-i-init : goal.loop-i-init
loop-i-init c =
    none_started c.args.program.now _ _ c.in_ok-own.own c.in_ok-own.ensures
    (c.as_slice.ensures ∙ ap (λ (p : Program). p.words) c.program-2.ensures.program)
    (c.len-seats.ensures ∙ ap (λ (p : Program). length p.seats) c.program.ensures.program)

pub loop-i-preserved : goal.loop-i-preserved
loop-i-preserved c =
    one_started c.args.program.now c.loop-i.i c.loop-i.own c.start.new.self c.loop-i.invariant c.code.result.now
    (c.code.ensures ∙ ap (code_of c.args.program.now) c.new-seat.ensures)
    (subst (λ k. HasStarted c.code.result.now k c.loop-i.own c.start.new.self) c.new-seat.ensures c.start.ensures)
