use Rattle.std.proofs.Common.{◌≡◌, ◌-◌, zero, suc, arith}
use Rattle.std.proofs.lemmas.List.{nil_from_length}
use Rattle.scenario_text.specs.Pieces.{pieces}
use Rattle.scenario_text.proofs.Behind.{next, first, ended}
use Rattle.scenario_text.proofs.reader.pieces.line_at.Goals as goal

pub loop-left-preserved : goal.loop-left-preserved
loop-left-preserved c =
    let left : c.loop-left.left - 1 ≡ suc (c.loop-left.left - 1 - 1) = omega arith in
    next (c.loop-left.left - 1) (c.loop-left.left - 1 - 1) _ _ (pieces c.loop-left.rest.now) _ left c.first_line.ensures.line c.loop-left.invariant

pub returns-then-is_empty : goal.returns-then-is_empty
returns-then-is_empty c = ended (c.loop-left.left - 1) c.loop-left.rest.now _ (nil_from_length c.loop-left.rest.now (grind (arith))) c.loop-left.invariant

pub returns-then-is_empty-2 : goal.returns-then-is_empty-2
returns-then-is_empty-2 c = ended (c.loop-left.left - 1) c.loop-left.rest.now _ (nil_from_length c.loop-left.rest.now (grind (arith))) c.loop-left.invariant

pub returns : goal.returns
returns c =
    let few : c.loop-left.left - 1 ≡ zero = grind (arith) in
    first (c.loop-left.left - 1) _ _ (pieces c.loop-left.rest.now) _ few c.first_line-2.ensures.line c.loop-left.invariant
