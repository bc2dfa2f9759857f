use Rattle.std.proofs.Common.{ℕ, Some, refl, sym, subst, arith}
use Rattle.scenario_text.specs.Phrases.{ReadsAs, IsNumber}
use Rattle.scenario_text.proofs.reader.schedule.read_seat.Goals as goal

pub overflow_cast-seat : goal.overflow_cast-seat
overflow_cast-seat c = let few = ((c.in_ok-seat.ensures c.in_ok-seat.seat).1 refl).0 in omega (arith, few)

pub returns : goal.returns
returns c = subst (λ (n : ℕ). ReadsAs (IsNumber 2 c.args.text.now) (Some n)) (sym c.new.ensures) c.in_ok-seat.ensures
