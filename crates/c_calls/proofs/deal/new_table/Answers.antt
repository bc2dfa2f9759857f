use Rattle.std.proofs.Common.{◌≡◌, ◌∙◌, refl, ap, arith, length, inl, inr}
use Rattle.std.proofs.lemmas.List.{length-map}
use Rattle.std.proofs.lemmas.List.FromFn.{length-map-range_with_len}
use Rattle.sema_table.specs.declared.settings.Settings.{Settings}
use Rattle.sema_table.specs.declared.task_seat.TaskStage.TheVariants.{Resting}
use Rattle.sema_table.specs.Seats.{SeatModel}
use Rattle.sema_table.specs.Making.{new_seat}
use Rattle.c_calls.proofs.deal.new_table.Goals as goal

pub give_seats-requires-clause-as_many : goal.give_seats-requires-clause-as_many
give_seats-requires-clause-as_many c =
    let ok = c.in-Ok-new.ensures.ok in
    let few = ok.1.allowed.seats.1 in
    let asked = c.seats_for.ensures in
    let long : length c.in-Ok-new.seats.items ≡ c.seats_for.result = ap length ok.2
    ∙ length-map ok.0 (λ (s : SeatModel). record { seat = s; stage = Resting })
    ∙ ap length ok.1.seats_are ∙ length-map-range_with_len (new_seat c.in-Ok-new.table) 0 c.seats_for.result in
    omega arith

pub returns-in-Ok-new : goal.returns-in-Ok-new
returns-in-Ok-new c =
    let k : Settings = record { starts = c.in-Ok.starts; seats = c.seats_for.result; roots = c.args.roots; seed = c.args.seed; release_limit = c.args.release_limit } in
    elim c.give_seats.ensures [
      | inl given ↦ inl (
        c.in-Ok-new.seats.items,
        given.0,
        (
          k,
          c.in-Ok-new.table,
          record { starts_are = c.in-Ok.ensures; roots_are = refl; seed_is = refl; limit_is = refl; seats_are = c.seats_for.ensures },
          c.in-Ok-new.ensures.ok,
        ),
        given.1,
      )
      | inr lacks ↦ inr (inr lacks)
    ]

pub returns-in-Err : goal.returns-in-Err
returns-in-Err c =
    let k : Settings = record { starts = c.in-Ok.starts; seats = c.seats_for.result; roots = c.args.roots; seed = c.args.seed; release_limit = c.args.release_limit } in
    inr (inl (
      c.in-Err.refused,
      c.of_setup.ensures,
      (
        k,
        record { starts_are = c.in-Ok.ensures; roots_are = refl; seed_is = refl; limit_is = refl; seats_are = c.seats_for.ensures },
        c.in-Err.ensures.err,
      ),
      refl,
    ))
