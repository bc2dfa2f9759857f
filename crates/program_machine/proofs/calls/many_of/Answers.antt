use Rattle.std.proofs.Common.{rules, FitsSigned, w64, ◌≡◌, pos, true, ◌&&◌, int_le, unsigned_abs, Err, cond, sym, ap, ◌∙◌}
use Rattle.std.proofs.lemmas.Int.{to_z-of_z}
use Rattle.program_machine.specs.Shared.{world_at}
use Rattle.program_steps.specs.declared.failure.Failure.TheVariants.{Many}
use Rattle.program_steps.specs.Calls.{unless_over}
use Rattle.step_table.specs.declared.call.Call.TheVariants.{ReleaseMany}
use Rattle.program_machine.proofs.calls.many_of.Goals as goal

pub returns : goal.returns
returns c =
    let fits : FitsSigned w64 c.args.units = search rules in
    let units : c.unsigned_abs-units.result ≡ unsigned_abs c.args.units
    = c.unsigned_abs-units.ensures.value ∙ ap unsigned_abs (to_z-of_z w64 c.args.units fits) in
    let many : (int_le (pos 1) c.args.units && int_le c.args.units (pos 256)) ≡ true
    = (λ j. int_le (pos 1) (sym (to_z-of_z w64 c.args.units fits) j) && int_le (sym (to_z-of_z w64 c.args.units fits) j) (pos 256))
    ∙ sym c.is_many.ensures ∙ c.if-not-is_many.false in
    λ own. c.unless_over.ensures own
    ∙ (λ j. unless_over (world_at c.args.layer.now own) c.args.counter (units j) (ReleaseMany c.args.counter (units j)))
    ∙ sym (ap (λ b. cond b (unless_over (world_at c.args.layer.now own) c.args.counter (unsigned_abs c.args.units)
    (ReleaseMany c.args.counter (unsigned_abs c.args.units))) (Err Many)) many)
