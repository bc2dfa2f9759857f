use Rattle.std.proofs.Common.{rules, FitsSigned, w64, ◌≡◌, ℕ, pos, true, false, Some, None, cond, refl, sym, ap, ◌∙◌}
use Rattle.std.proofs.lemmas.Int.{to_z-of_z}
use Rattle.program_code.specs.declared.instruction.Instruction.TheVariants as line
use Rattle.program_steps.specs.Numbers.{holds}
use Rattle.program_steps.specs.Reading.{value}
use Rattle.program_steps.specs.Steps.{reading}
use Rattle.program_steps.specs.World.{ProgramWorld}
use Rattle.program_rows.specs.Rows.{row_at}
use Rattle.program_rows.specs.Stored.{seats_of, world_over}
use Rattle.step_rows.specs.Stored.{each}
use Rattle.program_rows.proofs.Storing.{fails, found, on_place, reads_there, word_read}
use Rattle.program_rows.proofs.state.ProgramState.await_word.Goals as goal

pub returns-in_default : goal.returns-in_default
returns-in_default c =
    λ n. fails (row_at c.args.seat n (line.Await c.args.place.now c.args.relation c.args.operand.now c.args.register)) c.args.self.now c.word.result
    (λ (world : ProgramWorld) (w : ℕ). cond (holds c.args.relation (world.words w) (value c.args.seat (world.seats c.args.seat).registers c.args.operand.now))
    (Some (reading world c.args.seat c.args.register w (world.words w))) None)
    (on_place c.args.self.now c.args.seat c.args.place.now c.word.result c.word.ensures.found
    (λ (world : ProgramWorld) (w : ℕ). cond (holds c.args.relation (world.words w) (value c.args.seat (world.seats c.args.seat).registers c.args.operand.now))
    (Some (reading world c.args.seat c.args.register w (world.words w))) None)) c.in_default.not-Some

pub returns-then-not-is_so : goal.returns-then-not-is_so
returns-then-not-is_so c =
    let fits : FitsSigned w64 c.index-number.result.now = search rules in
    let asked : FitsSigned w64 c.value.result = search rules in
    let not : holds c.args.relation (each (pos 0) c.args.self.now.words c.in-Some.word)
    (value c.args.seat (seats_of c.args.self.now.seats c.args.seat).registers c.args.operand.now) ≡ false
    = (λ j. holds c.args.relation
    ((sym (word_read _ _ c.self.view_is c.in-Some.word (c.in-Some.ensures.within) c.index-number.result.now c.index-number.ensures)) j) (sym c.value.ensures j))
    ∙ (λ j. holds c.args.relation (sym (to_z-of_z w64 c.index-number.result.now fits) j) (sym (to_z-of_z w64 c.value.result asked) j))
    ∙ sym c.is_so.ensures ∙ search rules in
    λ n. record {
      none =
          λ layer. found (row_at c.args.seat n (line.Await c.args.place.now c.args.relation c.args.operand.now c.args.register)) c.args.self.now c.word.result
          (λ (world : ProgramWorld) (w : ℕ). cond (holds c.args.relation (world.words w)
          (value c.args.seat (world.seats c.args.seat).registers c.args.operand.now)) (Some (reading world c.args.seat c.args.register w (world.words w))) None)
          (on_place c.args.self.now c.args.seat c.args.place.now c.word.result c.word.ensures.found
          (λ (world : ProgramWorld) (w : ℕ). cond (holds c.args.relation (world.words w)
          (value c.args.seat (world.seats c.args.seat).registers c.args.operand.now)) (Some (reading world c.args.seat c.args.register w (world.words w)))
          None)) c.in-Some.word c.in-Some.is layer
          ∙ ap
          (λ b.
          cond b
          (Some (reading (world_over layer c.args.self.now) c.args.seat c.args.register c.in-Some.word (each (pos 0) c.args.self.now.words c.in-Some.word)))
          None) not;
      same = refl;
    }

pub returns : goal.returns
returns c =
    let fits : FitsSigned w64 c.index-number.result.now = search rules in
    let asked : FitsSigned w64 c.value.result = search rules in
    let so : holds c.args.relation (each (pos 0) c.args.self.now.words c.in-Some.word)
    (value c.args.seat (seats_of c.args.self.now.seats c.args.seat).registers c.args.operand.now) ≡ true
    = (λ j. holds c.args.relation
    ((sym (word_read _ _ c.self.view_is c.in-Some.word (c.in-Some.ensures.within) c.index-number.result.now c.index-number.ensures)) j) (sym c.value.ensures j))
    ∙ (λ j. holds c.args.relation (sym (to_z-of_z w64 c.index-number.result.now fits) j) (sym (to_z-of_z w64 c.value.result asked) j))
    ∙ sym c.is_so.ensures ∙ search rules in
    λ n. reads_there (row_at c.args.seat n (line.Await c.args.place.now c.args.relation c.args.operand.now c.args.register)) c.args.self.now c.word.result
    (λ (world : ProgramWorld) (w : ℕ). cond (holds c.args.relation (world.words w) (value c.args.seat (world.seats c.args.seat).registers c.args.operand.now))
    (Some (reading world c.args.seat c.args.register w (world.words w))) None)
    (on_place c.args.self.now c.args.seat c.args.place.now c.word.result c.word.ensures.found
    (λ (world : ProgramWorld) (w : ℕ). cond (holds c.args.relation (world.words w) (value c.args.seat (world.seats c.args.seat).registers c.args.operand.now))
    (Some (reading world c.args.seat c.args.register w (world.words w))) None)) c.in-Some.word c.in-Some.is c.args.seat c.args.register
    _ _ _ _ c.read.ensures
    (λ layer.
    ap (λ b.
    cond b (Some (reading (world_over layer c.args.self.now) c.args.seat c.args.register c.in-Some.word (each (pos 0) c.args.self.now.words c.in-Some.word)))
    None) so)
    (sym (word_read _ _ c.self.view_is c.in-Some.word (c.in-Some.ensures.within) c.index-number.result.now c.index-number.ensures)
    ∙ sym (to_z-of_z w64 c.index-number.result.now fits))
