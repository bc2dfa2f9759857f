use Rattle.std.proofs.Common.{rules, FitsSigned, w64}
use Rattle.std.proofs.lemmas.Int.{to_z-of_z}
use Rattle.program_rows.proofs.Storing.{reads}
use Rattle.program_rows.proofs.state.ProgramState.read.Goals as goal

pub returns : goal.returns
returns c =
    let was : FitsSigned w64 c.index-was.result.now = search rules in
    let new : FitsSigned w64 c.args.number = search rules in
    reads _ _ c.self.view_is c.args.seat _ c.number.ensures c.requires.seat c.args.register c.args.word c.requires.word c.args.number _
    (to_z-of_z w64 c.args.number new) _ c.index_mut.ensures.value _ _ c.index-was.ensures (to_z-of_z w64 c.index-was.result.now was) _
    c.keep.ensures.seat c.keep.ensures.grant
