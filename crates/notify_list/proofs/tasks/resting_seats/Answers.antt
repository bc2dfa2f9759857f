use Rattle.std.proofs.Common.{◌≡◌, List, [], ◌∷◌, map, sym, ap, ◌∙◌, refl, arith}
use Rattle.std.proofs.lemmas.Iterator.Adapters.{YieldsList-from_vec}
use Rattle.std.proofs.lemmas.Iterator.Consumers.{YieldsList-end}
use Rattle.notify_list.specs.declared.task_seat.TaskStage.TheVariants.{Resting}
use Rattle.notify_list.specs.Seats.{SeatModel}
use Rattle.notify_list.specs.TaskSeats.{TaskModel}
use Rattle.notify_list.proofs.tasks.resting_seats.Goals as goal

-- each seat as a task's
abbrev as_task : SeatModel → TaskModel
as_task s = record { seat = s; stage = Resting }

same_seats : (l : List SeatModel) → map (λ s. s) l ≡ l
same_seats [] = refl
same_seats (s ∷ l) = ap (λ k. s ∷ k) (same_seats l)

pub returns : goal.returns
returns c =
    let gives = c.into_iter-seat-iterator.ensures.into_iter_gives in let count = c.args.seats.ok.0 in
    let all = YieldsList-from_vec {s = c.into_iter-seat-iterator.result} c.args.seats.items gives.0 (omega (arith, gives.1, count)) in
    let t = YieldsList-end all c.loop-seat.yielded c.loop-seat.seat-iterator c.loop-seat.yielded_by c.next.result c.next.new.self c.in-None.is
    c.next.ensures.steps in
    c.loop-seat.invariant ∙ ap (map as_task) (sym (same_seats c.loop-seat.yielded) ∙ t.0)
