use Rattle.std.proofs.Common.{ℕ, List, Some, sym, subst, refl, rules, arith}
use Rattle.scenario_text.specs.Phrases.{ReadsAs}
use Rattle.scenario_text.specs.ScheduleText.{SpellsSeats}
use Rattle.scenario_text.proofs.Schedules.{SoFar, turn, empty, no_first, no_last, whole}
use Rattle.scenario_text.proofs.reader.schedule.read_seats.Goals as goal

pub returns-then-is_empty : goal.returns-then-is_empty
returns-then-is_empty c =
    subst (λ (seats : List ℕ). ReadsAs (SpellsSeats c.args.text.now) (Some seats)) (sym c.new-seats.ensures.items) (empty c.args.text.now (grind arith))

pub returns-in_default-read_seat : goal.returns-in_default-read_seat
returns-in_default-read_seat c = no_first c.args.text.now c.loop-first.rest.now c.loop-first.seats.items (c.in-Some.first, c.in-Some.others) (grind arith)
    c.loop-first.invariant.1 c.in-Some.ensures.cases c.in_default-read_seat.ensures

pub loop-first-preserved : goal.loop-first-preserved
loop-first-preserved c = (
  search rules,
  subst (λ (seats : List ℕ). SoFar c.args.text.now c.in-Some.others.now seats) (sym c.in_ok-push.ensures.items)
      (turn c.args.text.now c.loop-first.rest.now c.in-Some.others.now c.loop-first.seats.items (c.in-Some.first, c.in-Some.others)
      c.in-Some-read_seat.seat c.loop-first.invariant.1 c.in-Some.ensures.cases c.in-Some-read_seat.ensures refl),
)

pub returns-in_default-read_seat-2 : goal.returns-in_default-read_seat-2
returns-in_default-read_seat-2 c = no_last c.args.text.now c.loop-first.rest.now c.loop-first.seats.items (grind arith) c.loop-first.invariant.1
    c.in_default.ensures.cases c.in_default-read_seat-2.ensures

pub returns : goal.returns
returns c = subst (λ (seats : List ℕ). ReadsAs (SpellsSeats c.args.text.now) (Some seats)) (sym c.in_ok-push-2.ensures.items)
    (whole c.args.text.now c.loop-first.rest.now c.loop-first.seats.items c.in-Some-read_seat-2.last (grind arith) c.loop-first.invariant.1
    c.in_default.ensures.cases c.in-Some-read_seat-2.ensures)
