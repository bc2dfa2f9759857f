use Rattle.std.proofs.Common.{rules, FitsSigned, w64, sym, ap, ◌∙◌}
use Rattle.std.proofs.lemmas.Int.{to_z-of_z}
use Rattle.program_machine.specs.Shared.{world_at}
use Rattle.program_rows.specs.Stored.{seats_of}
use Rattle.program_steps.specs.Calls.{many_of, release_of}
use Rattle.program_machine.proofs.calls.release_of.Goals as goal

pub returns-in-One : goal.returns-in-One
returns-in-One c =
    c.unless_over.ensures c.args.own.now
    ∙ ap (release_of (world_at c.args.layer.now c.args.own.now) c.args.seat (seats_of c.args.own.now.seats c.args.seat).registers c.args.counter)
    (sym c.in-One.is)

pub returns-in-Handoff : goal.returns-in-Handoff
returns-in-Handoff c =
    c.unless_over-in-Handoff.ensures c.args.own.now
    ∙ ap (release_of (world_at c.args.layer.now c.args.own.now) c.args.seat (seats_of c.args.own.now.seats c.args.seat).registers c.args.counter)
    (sym c.in-Handoff.is)

pub returns-in-Many : goal.returns-in-Many
returns-in-Many c =
    let fits : FitsSigned w64 c.value.result = search rules in
    c.many_of.ensures c.args.own.now
    ∙ ap (many_of (world_at c.args.layer.now c.args.own.now) c.args.counter) (to_z-of_z w64 c.value.result fits ∙ c.value.ensures)
    ∙ ap (release_of (world_at c.args.layer.now c.args.own.now) c.args.seat (seats_of c.args.own.now.seats c.args.seat).registers c.args.counter)
    (sym c.in-Many.is)
