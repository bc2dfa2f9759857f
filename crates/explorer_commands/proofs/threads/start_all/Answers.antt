use Rattle.std.proofs.Common.{◌≡◌, ℕ, ◌+◌, ◌<◌, rules, arith, get_or, vec_len, length, refl, sym, ap, ◌∙◌, subst, inr}
use Rattle.std.proofs.lemmas.Bool.{eqb-true}
use Rattle.std.proofs.lemmas.List.{length_push}
use Rattle.std.specs.Vec.Iter.{into_iter_items, into_iter_len}
use Rattle.std.proofs.lemmas.List.Elements.{All-push, All-same}
use Rattle.sema_table.specs.Seats.{SeatModel}
use Rattle.explorer_commands.specs.Threads.{Worker, IsWorker, HasStopped}
use Rattle.explorer_commands.proofs.Working.{is_next, by_number, one_more, shifted, has_stopped}
use Rattle.explorer_commands.proofs.threads.start_all.Goals as goal

-- the seat that begins stood first among the rest, so its number is the next
pub start-requires-clause-seat : goal.start-requires-clause-seat
start-requires-clause-seat g c κs within =
    let was = c.loop-seat.invariant in let step = c.in-Some.ensures.steps in
    let done = length c.loop-seat.started.items + length c.loop-seat.back.items in
    let first = c.into_iter-seat-iterator.result in let gives = c.into_iter-seat-iterator.ensures.into_iter_gives in
    let t = c.args.table.now in let s = c.in-Some.seat in
    let next : s ≡ get_or (into_iter_items first) done s = (let h = was.next 0 s in grind rules) in
    let low : done < into_iter_len first = search rules in
    by_number t done s (is_next t _ _ (gives.0 ∙ c.requires.seats) done s (omega (arith, low, gives.1, c.args.seats.ok.0)) next)

pub returns-clause-begun : goal.returns-clause-begun
returns-clause-begun g c =
    let was = c.loop-seat.invariant in let gives = c.into_iter-seat-iterator.ensures.into_iter_gives in let long = c.args.seats.ok.0 in
    let none = c.in-None.ensures.steps.0 in record {
      count = omega (arith, was.left, gives.1, long, none);
      each = was.each;
      others = was.others;
    }

-- a seat behind one that came back is as it was new
pub loop-seat-preserved-then-not-is_empty : goal.loop-seat-preserved-then-not-is_empty
loop-seat-preserved-then-not-is_empty g c =
    let was = c.loop-seat.invariant in let step = c.in-Some.ensures.steps in
    let started = c.loop-seat.started.items in let back = c.loop-seat.back.items in let done = length started + length back in
    let first = c.into_iter-seat-iterator.result in let gives = c.into_iter-seat-iterator.ensures.into_iter_gives in
    let t = c.args.table.now in let n = c.args.rounds in let s = c.in-Some.seat in
    let next : s ≡ get_or (into_iter_items first) done s = (let h = was.next 0 s in grind rules) in
    let low : done < into_iter_len first = search rules in
    let is = is_next t _ _ (gives.0 ∙ c.requires.seats) done s (omega (arith, low, gives.1, c.args.seats.ok.0)) next in
    let pushed = c.push_reserved.ensures in let longer = ap length pushed.items ∙ length_push back s in record {
      left = omega (arith, longer, was.left, step.1);
      next = shifted _ _ (into_iter_items first) s done _ _ step.0 (omega (arith, longer)) (λ k d b. was.next k d (omega (arith, b, step.1)));
      each = was.each;
      others = All-same (HasStopped t n) _ _ pushed.items (All-push (HasStopped t n) back s was.others (inr (by_number t done s is)));
      room = (was.room.0, (let cap = pushed.capacity in omega (arith, cap, was.room.1)));
    }

-- no seat is back yet where one starts, so its number is that of its worker's place
pub loop-seat-preserved-in-Ok : goal.loop-seat-preserved-in-Ok
loop-seat-preserved-in-Ok g c =
    let was = c.loop-seat.invariant in let step = c.in-Some.ensures.steps in
    let started = c.loop-seat.started.items in let back = c.loop-seat.back.items in let done = length started + length back in
    let first = c.into_iter-seat-iterator.result in let gives = c.into_iter-seat-iterator.ensures.into_iter_gives in
    let t = c.args.table.now in let n = c.args.rounds in let s = c.in-Some.seat in
    let next : s ≡ get_or (into_iter_items first) done s = (let h = was.next 0 s in grind rules) in
    let low : done < into_iter_len first = search rules in
    let is = is_next t _ _ (gives.0 ∙ c.requires.seats) done s (omega (arith, low, gives.1, c.args.seats.ok.0)) next in
    let none = eqb-true (vec_len c.loop-seat.back) 0 (sym c.is_empty.ensures ∙ c.if-not-is_empty.false) in
    let w = c.in-Ok.worker in let number : s.number ≡ length started = ap (λ (x : SeatModel). x.number) is ∙ omega (arith, none, c.loop-seat.back.ok.0) in
    let here = subst (λ (i : ℕ). IsWorker t i n w) number c.in-Ok.ensures.started in
    let pushed = c.push_reserved-in-Ok.ensures in let longer = ap length pushed.items ∙ length_push started w in record {
      left = omega (arith, longer, was.left, step.1);
      next = shifted _ _ (into_iter_items first) s done _ _ step.0 (omega (arith, longer)) (λ k d b. was.next k d (omega (arith, b, step.1)));
      each = λ k d b. one_more (λ (i : ℕ) (x : Worker). IsWorker t i n x) (length started) started _ w pushed.items refl was.each here k d
          (omega (arith, b, longer));
      others = was.others;
      room = ((let cap = pushed.capacity in omega (arith, cap, was.room.0)), was.room.1);
    }

-- the seat of a worker that could not start has made its rounds
pub loop-seat-preserved : goal.loop-seat-preserved
loop-seat-preserved g c =
    let was = c.loop-seat.invariant in let step = c.in-Some.ensures.steps in
    let started = c.loop-seat.started.items in let back = c.loop-seat.back.items in let done = length started + length back in
    let first = c.into_iter-seat-iterator.result in let gives = c.into_iter-seat-iterator.ensures.into_iter_gives in
    let t = c.args.table.now in let n = c.args.rounds in let s = c.in-Some.seat in
    let it = c.in-Err.seat in let stopped = has_stopped t s.number n it c.in-Err.ensures.worked in
    let pushed = c.push_reserved-in-Err.ensures in let longer = ap length pushed.items ∙ length_push back it in record {
      left = omega (arith, longer, was.left, step.1);
      next = shifted _ _ (into_iter_items first) s done _ _ step.0 (omega (arith, longer)) (λ k d b. was.next k d (omega (arith, b, step.1)));
      each = was.each;
      others = All-same (HasStopped t n) _ _ pushed.items (All-push (HasStopped t n) back it was.others stopped);
      room = (was.room.0, (let cap = pushed.capacity in omega (arith, cap, was.room.1)));
    }
