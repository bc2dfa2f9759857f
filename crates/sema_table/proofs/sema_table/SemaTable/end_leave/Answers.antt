use Rattle.std.proofs.Common.{◌≡◌, ◌+◌, ◌-◌, Bool, true, false, sym, ap, subst, ◌∙◌}
use Rattle.step_table.specs.declared.place.AcquireRow.TheVariants.{Parked}
use Rattle.step_table.specs.declared.place.ParkedRow.TheVariants.{D3}
use Rattle.step_table.specs.declared.place.Place.{Place}
use Rattle.step_table.specs.declared.place.Place.TheVariants.{Acquiring}
use Rattle.sema_table.specs.declared.seat.Numbers.{Numbers}
use Rattle.sema_table.specs.Seats.{SeatModel, seat_of}
use Rattle.sema_table.specs.Leaving.{EndsLeaving}
use Rattle.sema_table.proofs.Leaving.{leaving_stands, leaving_spends, leaving_left, ended_seat, ended_rows}
use Rattle.sema_table.proofs.CallerLeaves.{ends}
use Rattle.sema_table.proofs.sema_table.SemaTable.end_leave.Goals as goal

abbrev is_queued : Place → Bool
is_queued (Acquiring a (Parked turn D3)) = true
is_queued _ = false

pub withdraw-withdrew-requires-clause-seat : goal.withdraw-withdrew-requires-clause-seat
withdraw-withdrew-requires-clause-seat c =
    let g = c.giving_up.inside in let is = c.giving_up.invariant in (
      leaving_stands g.token g.numbers g.call g.turn is c.args.self.now (ap (λ (s : SeatModel). s.table) c.giving_up.view_is ∙ c.requires),
      is.has_record,
      leaving_spends g.token g.numbers g.call g.turn is,
    )

pub unreachable-requires : goal.unreachable-requires
unreachable-requires c =
    let lost : true ≡ false = sym (ap is_queued c.giving_up.invariant.midway.at) ∙ ap is_queued c.if-not-withdrew.ensures.settled.0 in absurd (cc)

pub unlock_left-requires-clause-seat : goal.unlock_left-requires-clause-seat
unlock_left-requires-clause-seat c =
    let g = c.giving_up.inside in (
      leaving_left g.token g.numbers g.call g.turn c.giving_up.invariant c.withdraw-withdrew.new.token c.if-not-withdrew.ensures.settled.0
          c.args.self.now (ap (λ (s : SeatModel). s.table) c.giving_up.view_is ∙ c.requires),
      c.withdraw-withdrew.ensures.record,
    )

pub invariant_of-result : goal.invariant_of-result
invariant_of-result c =
    let g = c.giving_up.inside in let y = c.unlock_left.ensures in
    ended_seat g.token g.numbers g.call g.turn c.giving_up.invariant c.withdraw-withdrew.new.token c.if-not-withdrew.ensures.settled.0
    c.unlock_left.new.token y.0 y.1

pub returns-clause-rows : goal.returns-clause-rows
returns-clause-rows c =
    let g = c.giving_up.inside in let y = c.unlock_left.ensures in
    let less : Numbers = record g.numbers { left = g.numbers.left - 1; withdrawn = g.numbers.withdrawn + 1 } in
    subst (λ (s : SeatModel). EndsLeaving s (seat_of c.unlock_left.new.token less)) c.giving_up.view_is
    (ended_rows g.token g.numbers g.call g.turn c.giving_up.invariant c.withdraw-withdrew.new.token c.if-not-withdrew.ensures.settled.0
    c.unlock_left.new.token y.0 y.1)

pub returns-clause-caller : goal.returns-clause-caller
returns-clause-caller c = ends _ _ (returns-clause-rows c)
