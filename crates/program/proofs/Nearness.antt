-- The members of an array have small numbers.
use Rattle.std.proofs.Common.{◌≡◌, ◌≤◌, Result, Ok, Err, subst}
use Rattle.program_text.specs.declared.cause.ProgramCause.{ProgramCause}
use Rattle.program.specs.declared.names.CellSpan.{CellSpan}
use Rattle.program.specs.Bounds.{IsNearWhere}
use Rattle.program.specs.Causes.{both}

pub near_of_both : {B : Type 0} (r : Result CellSpan ProgramCause) (s : Result B ProgramCause) (x : CellSpan × B) → IsNearWhere r → both r s ≡ Ok x → x.0.first ≤ 32
near_of_both {B} (Ok a) (Ok b) x h e =
    let y : CellSpan × B = (a, b) in
    let is : y ≡ x = cc in
    subst (λ (z : CellSpan × B). z.0.first ≤ 32) is h
near_of_both (Ok a) (Err d) x h e = absurd cc
near_of_both (Err c) (Ok b) x h e = absurd cc
near_of_both (Err c) (Err d) x h e = absurd cc
