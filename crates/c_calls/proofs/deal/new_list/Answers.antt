use Rattle.std.proofs.Common.{◌≡◌, ◌∙◌, ap, arith, length}
use Rattle.std.proofs.lemmas.List.{length-map}
use Rattle.std.proofs.lemmas.List.FromFn.{length-map-range_with_len}
use Rattle.notify_list.specs.declared.task_seat.TaskStage.TheVariants.{Resting}
use Rattle.notify_list.specs.Seats.{SeatModel}
use Rattle.notify_list.specs.Making.{new_seat}
use Rattle.c_calls.proofs.deal.new_list.Goals as goal

pub give_seats-requires-clause-as_many : goal.give_seats-requires-clause-as_many
give_seats-requires-clause-as_many c =
    let ok = c.in-Ok.ensures.ok in
    let few = ok.1.allowed.1 in
    let asked = c.seats_for.ensures in
    let long : length c.in-Ok.seats.items ≡ c.seats_for.result = ap length ok.2
    ∙ length-map ok.0 (λ (s : SeatModel). record { seat = s; stage = Resting })
    ∙ ap length ok.1.seats_are ∙ length-map-range_with_len (new_seat c.in-Ok.list) 0 c.seats_for.result in
    omega arith
