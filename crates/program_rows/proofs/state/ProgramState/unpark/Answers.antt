use Rattle.std.proofs.Common.{rules, FitsSigned, w64, ◌≡◌, ℕ, Some, sym, ap, ◌∙◌}
use Rattle.std.proofs.lemmas.Int.{to_z-of_z}
use Rattle.program_code.specs.declared.instruction.Instruction.TheVariants as line
use Rattle.program_steps.specs.declared.stand.Then.TheVariants.{OnFromNext}
use Rattle.program_steps.specs.Reading.{value}
use Rattle.program_steps.specs.Steps.{unparked, as_many}
use Rattle.program_steps.specs.World.{ProgramWorld}
use Rattle.program_rows.specs.Rows.{row_at}
use Rattle.program_rows.specs.Stored.{seats_of, world_over}
use Rattle.program_rows.proofs.Storing.{found, on_place}
use Rattle.program_rows.proofs.state.ProgramState.unpark.Goals as goal

pub returns : goal.returns
returns c =
    let fits : FitsSigned w64 c.value.result = search rules in
    let many : as_many (value c.args.seat (seats_of c.args.self.now.seats c.args.seat).registers c.args.operand.now) ≡ c.as_many-many.result
    = ap as_many (sym c.value.ensures) ∙ ap as_many (sym (to_z-of_z w64 c.value.result fits)) ∙ sym c.as_many-many.ensures in
    λ n. record {
      did = λ layer.
          found (row_at c.args.seat n (line.Unpark c.args.place.now c.args.operand.now)) c.args.self.now c.word.result
          (λ (world : ProgramWorld) (w : ℕ). Some (record {
            world = unparked world w (as_many (value c.args.seat (world.seats c.args.seat).registers c.args.operand.now));
            next = OnFromNext;
          }))
          (on_place c.args.self.now c.args.seat c.args.place.now c.word.result c.word.ensures.found
          (λ (world : ProgramWorld) (w : ℕ). Some (record {
            world = unparked world w (as_many (value c.args.seat (world.seats c.args.seat).registers c.args.operand.now));
            next = OnFromNext;
          }))) c.in-Some.word c.in-Some.is layer
          ∙ ap (λ k. Some (record { world = unparked (world_over layer c.args.self.now) c.in-Some.word k; next = OnFromNext })) many
          ∙ ap (λ world. Some (record { world = world; next = OnFromNext })) (sym (c.wake.ensures.world layer));
      size = c.wake.ensures.size;
    }
