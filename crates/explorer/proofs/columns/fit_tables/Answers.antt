use Rattle.std.proofs.Common.{◌≡◌, ◌++◌, ap, ◌∙◌, subst, sym}
use Rattle.explorer.proofs.Fitting.{StandsAt, goes_on}
use Rattle.explorer.proofs.columns.fit_tables.Goals as goal

pub loop-rest-preserved : goal.loop-rest-preserved
loop-rest-preserved c =
    let first = c.in_ok-extend_from_slice.ensures.items in
    let told : c.extend_from_slice-in-loop-rest.new.self.items
    ≡ (c.loop-rest.told.items ++ c.kept.result.now) ++ c.first_line.result.1.now =
    c.in_ok-extend_from_slice-2.ensures.items ∙ ap (λ xs. xs ++ c.first_line.result.1.now) first in
    subst (λ xs. StandsAt c.args.most c.args.text.now c.first_line.result.2.now xs) (sym told)
    (goes_on c.args.most c.args.text.now c.loop-rest.rest.now c.loop-rest.told.items c.first_line.result.0.now c.first_line.result.1.now
    c.first_line.result.2.now c.kept.result.now c.loop-rest.invariant c.first_line.ensures.parts c.first_line.ensures.one
    c.first_line.ensures.ended c.kept.ensures)
