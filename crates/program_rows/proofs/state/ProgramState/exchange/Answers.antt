use Rattle.std.proofs.Common.{rules, FitsSigned, w64, ℕ, Some, cond, refl, sym, ◌∙◌}
use Rattle.std.specs.Ordering.{int_eq}
use Rattle.std.proofs.lemmas.Int.{to_z-of_z}
use Rattle.program_code.specs.declared.instruction.Instruction.TheVariants as line
use Rattle.program_steps.specs.Reading.{value}
use Rattle.program_steps.specs.Steps.{reading}
use Rattle.program_steps.specs.World.{ProgramWorld}
use Rattle.program_rows.specs.Rows.{row_at}
use Rattle.program_rows.proofs.Storing.{fails, on_place, reads_there, word_read}
use Rattle.program_rows.proofs.state.ProgramState.exchange.Goals as goal

pub returns-in_default : goal.returns-in_default
returns-in_default c =
    λ n. fails (row_at c.args.seat n (line.Exchange c.args.place.now c.args.first.now c.args.second.now c.args.register)) c.args.self.now c.word.result
    (λ (world : ProgramWorld) (w : ℕ). Some (reading world c.args.seat c.args.register w
    (cond (int_eq (world.words w) (value c.args.seat (world.seats c.args.seat).registers c.args.first.now))
    (value c.args.seat (world.seats c.args.seat).registers c.args.second.now) (world.words w))))
    (on_place c.args.self.now c.args.seat c.args.place.now c.word.result c.word.ensures.found
    (λ (world : ProgramWorld) (w : ℕ). Some (reading world c.args.seat c.args.register w
    (cond (int_eq (world.words w) (value c.args.seat (world.seats c.args.seat).registers c.args.first.now))
    (value c.args.seat (world.seats c.args.seat).registers c.args.second.now) (world.words w))))) c.in_default.not-Some

pub returns : goal.returns
returns c =
    let fits : FitsSigned w64 c.index-was.result.now = search rules in
    let first : FitsSigned w64 c.value.result = search rules in
    let second : FitsSigned w64 c.value-2.result = search rules in
    let made : FitsSigned w64 c.exchanged-number.result = search rules in
    λ n. reads_there (row_at c.args.seat n (line.Exchange c.args.place.now c.args.first.now c.args.second.now c.args.register)) c.args.self.now c.word.result
    (λ (world : ProgramWorld) (w : ℕ). Some (reading world c.args.seat c.args.register w
    (cond (int_eq (world.words w) (value c.args.seat (world.seats c.args.seat).registers c.args.first.now))
    (value c.args.seat (world.seats c.args.seat).registers c.args.second.now) (world.words w))))
    (on_place c.args.self.now c.args.seat c.args.place.now c.word.result c.word.ensures.found
    (λ (world : ProgramWorld) (w : ℕ). Some (reading world c.args.seat c.args.register w
    (cond (int_eq (world.words w) (value c.args.seat (world.seats c.args.seat).registers c.args.first.now))
    (value c.args.seat (world.seats c.args.seat).registers c.args.second.now) (world.words w))))) c.in-Some.word c.in-Some.is c.args.seat c.args.register
    _ _ _ _ c.read.ensures (λ layer. refl)
    ((λ j. cond (int_eq ((sym (word_read _ _ c.self.view_is c.in-Some.word (c.in-Some.ensures.within) c.index-was.result.now c.index-was.ensures)) j)
    (sym c.value.ensures j)) (sym c.value-2.ensures j)
    ((sym (word_read _ _ c.self.view_is c.in-Some.word (c.in-Some.ensures.within) c.index-was.result.now c.index-was.ensures)) j))
    ∙ (λ j. cond (int_eq (sym (to_z-of_z w64 c.index-was.result.now fits) j) (sym (to_z-of_z w64 c.value.result first) j))
    (sym (to_z-of_z w64 c.value-2.result second) j) (sym (to_z-of_z w64 c.index-was.result.now fits) j))
    ∙ sym c.exchanged-number.ensures ∙ sym (to_z-of_z w64 c.exchanged-number.result made))
