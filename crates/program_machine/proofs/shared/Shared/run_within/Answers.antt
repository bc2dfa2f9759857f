use Rattle.std.proofs.Common.{◌≡◌, sym, subst}
use Rattle.program_steps.specs.declared.stand.Stand.TheVariants.{Within}
use Rattle.program_rows.specs.Stored.{seats_of}
use Rattle.program_machine.specs.Shared.{Shared}
use Rattle.program_machine.proofs.Lines.{can_inside, may_run_here, run_outside, none_outside, on_ok, on_err}
use Rattle.program_machine.proofs.Stepping.{within_ran, within_refused}
use Rattle.program_machine.proofs.shared.Shared.run_within.Goals as goal

pub run_row-requires : goal.run_row-requires
run_row-requires c = may_run_here c.args.program.now (record { layer = c.self.inside.layer; own = c.self.inside.own }) c.args.seat
    (can_inside c.args.program.now c.args.seat _ _ c.self.view_is c.requires.can)

pub returns-clause-row : goal.returns-clause-row
returns-clause-row c =
    on_ok _ _ (λ then row. run_outside c.args.program.now c.args.seat _ _ c.self.view_is _ then
    (within_ran c.args.program.now (record { layer = c.self.inside.layer; own = c.self.inside.own }) c.args.seat
    (can_inside c.args.program.now c.args.seat _ _ c.self.view_is c.requires.can)
    c.args.line (subst (λ (s : Shared). (seats_of s.own.seats c.args.seat).stand ≡ Within c.args.line) (sym c.self.view_is) c.requires.stand)
    c.run_row.new.layer then row c.run_row.ensures.size)) c.run_row.result c.run_row.ensures.row

pub returns-clause-why : goal.returns-clause-why
returns-clause-why c =
    on_err _ _ (λ cause none other. none_outside c.args.program.now c.args.seat _ _ c.self.view_is
    (within_refused c.args.program.now (record { layer = c.self.inside.layer; own = c.self.inside.own }) c.args.seat
    (can_inside c.args.program.now c.args.seat _ _ c.self.view_is c.requires.can)
    c.args.line (subst (λ (s : Shared). (seats_of s.own.seats c.args.seat).stand ≡ Within c.args.line) (sym c.self.view_is) c.requires.stand) none))
    c.run_row.result c.run_row.ensures.why
