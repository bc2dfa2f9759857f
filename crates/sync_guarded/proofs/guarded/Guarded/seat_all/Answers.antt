use Rattle.std.proofs.Common.{◌≡◌, ℕ, ◌+◌, ◌<◌, List, [], length, map, sym, ap, ◌∙◌, subst, rules, arith, length-append}
use Rattle.std.specs.List.{range_with_len}
use Rattle.running_rows.specs.Rule.{making}
use Rattle.sync_guarded.specs.Rule.{is_some}
use Rattle.sync_guarded.specs.Seats.{SeatModel, seat_of}
use Rattle.sync_guarded.specs.Making.{has_made, new_seat}
use Rattle.sync_guarded.proofs.Keeping.{Me}
use Rattle.sync_guarded.proofs.Starting.{seats_more, seats_all}
use Rattle.sync_guarded.proofs.guarded.Guarded.seat_all.Goals as goal

pub next_seat-seat-requires : goal.next_seat-seat-requires
next_seat-seat-requires g c =
    let i = c.loop-number.invariant in let count = i.count in let more = c.loop-number-test.true in (
      omega arith,
      (
        i.first,
        (
          subst (λ (m : Me g.row.T.Denot). (0 < m.0.made) × (m.0.made < m.0.own.knows.seats)) (sym i.makes) (omega arith, omega arith),
          ap (λ (m : Me g.row.T.Denot). m.0.own.knows.seats) i.makes ∙ sym c.requires.seats.0,
        ),
      ),
    )

pub push_reserved-requires : goal.push_reserved-requires
push_reserved-requires g c = let i = c.loop-number.invariant in let count = i.count in let room = i.room in let more = c.loop-number-test.true in omega arith

pub loop-number-preserved : goal.loop-number-preserved
loop-number-preserved g c =
    let i = c.loop-number.invariant in let made = c.loop-number.made.items in let self = c.args.self.now in let seat = c.next_seat-seat.result in
    let items = c.push_reserved.ensures.items in let more = c.loop-number-test.true in let count = i.count in
    let seat_is : seat ≡ new_seat self (length made + 1) = c.next_seat-seat.ensures.made ∙ ap (λ (m : Me g.row.T.Denot). new_seat self m.0.made) i.makes in
    let longer : length c.push_reserved.new.self.items ≡ length made + 1 = ap length items ∙ length-append made _ in record {
      first = c.next_seat-seat.ensures.first.0;
      makes = ◌∙◌ {A = Me g.row.T.Denot} c.next_seat-seat.ensures.first.1
          (◌∙◌ {A = Me g.row.T.Denot} (ap (λ (m : Me g.row.T.Denot). (making m.0, m.1)) i.makes)
          (ap (λ (n : ℕ). (has_made c.args.seats (n + 1), [])) (sym longer)));
      seated = items ∙ seats_more self made seat i.seated seat_is
          ∙ ap (λ (l : List (SeatModel g.row.T.Denot)). map (new_seat self) (range_with_len 1 (length l))) (sym items);
      count = omega arith;
      room = search rules;
      upto = omega arith;
    }

pub invariant_of-insert : goal.invariant_of-insert
invariant_of-insert g c = let makes = c.loop-number.invariant.makes in record {
  some = subst (λ (m : Me g.row.T.Denot). 0 < m.0.own.knows.seats) (sym makes) c.requires.seats.1;
  free = ap (λ (m : Me g.row.T.Denot). is_some m.0.own.knows.holds) makes;
  bare = ap (λ (m : Me g.row.T.Denot). m.1) makes;
}

pub unreachable-requires : goal.unreachable-requires
unreachable-requires g c = let i = c.loop-number.invariant in let count = i.count in let upto = i.upto in let room = i.room in
    let there = c.in_default.ensures.succeeds (omega arith) in absurd (cc)

pub returns : goal.returns
returns g c =
    let i = c.loop-number.invariant in let end = c.loop-number-test.false in let upto = i.upto in let count = i.count in let self = c.args.self.now in
    let seats_are : c.args.seats ≡ self.seats = sym c.requires.seats.0 in
    let seat_is : seat_of c.loop-number.first ≡ new_seat self 0 = (λ j. record {
      guarded = record { id = i.first j; seats = (i.makes j).0.own.knows.seats };
      number = (i.makes j).0.own.number;
      calls = (i.makes j).0.own.gone;
    }) ∙ (λ j. record { guarded = record { id = self.id; seats = seats_are j }; number = 0; calls = [] }) in
    c.in-Ok.ensures.items ∙ seats_all self c.args.seats c.loop-number.made.items (seat_of c.loop-number.first) i.seated seat_is (omega arith)
