use Rattle.std.proofs.Common.{rules, FitsSigned, w64, ℕ, Some, refl, sym, ◌∙◌}
use Rattle.std.proofs.lemmas.Int.{to_z-of_z}
use Rattle.program_code.specs.declared.instruction.Instruction.TheVariants as line
use Rattle.program_steps.specs.Steps.{reading}
use Rattle.program_steps.specs.World.{ProgramWorld}
use Rattle.program_rows.specs.Rows.{row_at}
use Rattle.program_rows.proofs.Storing.{fails, on_place, reads_there, word_read}
use Rattle.program_rows.proofs.state.ProgramState.load.Goals as goal

pub returns-in_default : goal.returns-in_default
returns-in_default c =
    λ n. fails (row_at c.args.seat n (line.Load c.args.place.now c.args.register)) c.args.self.now c.word.result
    (λ (world : ProgramWorld) (w : ℕ). Some (reading world c.args.seat (Some c.args.register) w (world.words w)))
    (on_place c.args.self.now c.args.seat c.args.place.now c.word.result c.word.ensures.found
    (λ (world : ProgramWorld) (w : ℕ). Some (reading world c.args.seat (Some c.args.register) w (world.words w)))) c.in_default.not-Some

pub returns : goal.returns
returns c =
    let fits : FitsSigned w64 c.index-number.result.now = search rules in
    λ n. reads_there (row_at c.args.seat n (line.Load c.args.place.now c.args.register)) c.args.self.now c.word.result
    (λ (world : ProgramWorld) (w : ℕ). Some (reading world c.args.seat (Some c.args.register) w (world.words w)))
    (on_place c.args.self.now c.args.seat c.args.place.now c.word.result c.word.ensures.found
    (λ (world : ProgramWorld) (w : ℕ). Some (reading world c.args.seat (Some c.args.register) w (world.words w))))
    c.in-Some.word c.in-Some.is c.args.seat (Some c.args.register)
    _ _ _ _ c.read.ensures (λ layer. refl)
    (sym (word_read _ _ c.self.view_is c.in-Some.word (c.in-Some.ensures.within) c.index-number.result.now c.index-number.ensures)
    ∙ sym (to_z-of_z w64 c.index-number.result.now fits))
