use Rattle.std.proofs.Common.{rules, ◌≡◌, ℕ, ◌+◌, ◌-◌, ◌<◌, subst, List, [], ◌∷◌, ◌++◌, length, map, sym, ap, ◌∙◌, arith}
use Rattle.std.proofs.Common.{append_assoc, length-append}
use Rattle.std.specs.Prelude.{reverse}
use Rattle.std.specs.List.{range_with_len}
use Rattle.std.proofs.lemmas.List.{reverse-reverse}
use Rattle.sema_table.specs.Seats.{SeatModel}
use Rattle.running_rows.specs.Rule.{making}
use Rattle.sync_parts.specs.GroupPlays.{Me}
use Rattle.sync_parts.specs.GroupSeats.{GroupSeatModel, group_seat_of, is_free}
use Rattle.sync_parts.specs.GroupMaking.{has_made, seat_on}
use Rattle.sync_parts.proofs.GroupStarting.{turned, popped}
use Rattle.sync_parts.proofs.group_make.seat_all.Goals as goal

pub loop-sema-init : goal.loop-sema-init
loop-sema-init c =
    let none = c.in_ok-made.ensures.items in let rest = c.pop.new.self.items in let own = c.in-Some.own in
    let seats = c.args.seats.items in let all : ℕ = c.args.word.now.seats in let f = seat_on c.args.word.now.id in
    let back = ap reverse c.reverse.ensures.items ∙ reverse-reverse seats in
    let p = popped 0 all c.reverse.new.self.items rest own c.in-Some.ensures.items (ap (map (λ s. s.number)) back ∙ c.requires.numbers) in record {
      first = c.requires.first.0;
      makes = c.requires.first.1 ∙ ap (λ (l : List GroupSeatModel). (has_made all (length l + 1), [])) (sym none);
      own = p.0;
      numbers = p.2 ∙ ap (λ (l : List GroupSeatModel). range_with_len (length l + 1) (all - (length l + 1))) (sym none);
      seated = ap (λ (l : List GroupSeatModel). f own ∷ (l ++ map f (reverse rest))) none
          ∙ ap (map f) (sym (turned c.reverse.new.self.items rest own c.in-Some.ensures.items) ∙ back);
      room = search rules;
    }

pub invariant_of-push_reserved : goal.invariant_of-push_reserved
invariant_of-push_reserved c =
    let made = c.loop-sema.made.items in
    let p = popped (length made + 1) (c.args.word.now.seats - (length made + 1)) c.loop-sema.rest.items c.pop-in-loop-sema.new.self.items
    c.in-Some-pop.sema c.in-Some-pop.ensures.items c.loop-sema.invariant.numbers in record {
      some =
          subst (λ (m : Me). 0 < m.0.own.knows.seats) (sym c.split-token.ensures.made.1)
          (subst (λ (m : Me). 0 < m.0.own.knows.seats) (sym c.loop-sema.invariant.makes) c.requires.some);
      free = ap (λ (m : Me). is_free m.0.own.knows.next) c.split-token.ensures.made.1;
      number = ap (λ (m : Me). m.0.own.number) c.split-token.ensures.made.1 ∙ ap (λ (m : Me). m.0.made) c.loop-sema.invariant.makes ∙ sym p.0;
    }

pub loop-sema-preserved : goal.loop-sema-preserved
loop-sema-preserved c =
    let rest = c.pop-in-loop-sema.new.self.items in let own = c.in-Some.own in let sema = c.in-Some-pop.sema in
    let f = seat_on c.args.word.now.id in
    let seat_is : group_seat_of c.split-token.result sema ≡ f sema = λ i. record {
      group = record { word = c.split-token.ensures.made.0 i; sema = sema.table };
      sema = sema;
      steps = (c.split-token.ensures.made.1 i).0.own.gone;
    } in
    let inv = c.loop-sema.invariant in let made = c.loop-sema.made.items in let all : ℕ = c.args.word.now.seats in
    let p = popped (length made + 1) (all - (length made + 1)) c.loop-sema.rest.items c.pop-in-loop-sema.new.self.items
    c.in-Some-pop.sema c.in-Some-pop.ensures.items inv.numbers in
    let longer : length c.push_reserved.new.self.items ≡ length made + 1 = ap length c.push_reserved.ensures.items ∙ length-append made _ in record {
      first = c.split-token.ensures.first.0;
      makes = c.split-token.ensures.first.1 ∙ ap (λ (m : Me). (making m.0, m.1)) inv.makes ∙ ap (λ (n : ℕ). (has_made all (n + 1), [])) (sym longer);
      own = inv.own;
      numbers = p.2 ∙ ap (range_with_len (length made + 1 + 1)) (omega arith)
          ∙ ap (λ (n : ℕ). range_with_len (n + 1) (all - (n + 1))) (sym longer);
      seated = ap (λ (l : List GroupSeatModel). f own ∷ (l ++ map f (reverse rest))) c.push_reserved.ensures.items
          ∙ ap (λ (l : List GroupSeatModel). f own ∷ l) (append_assoc made (group_seat_of c.split-token.result sema ∷ []) (map f (reverse rest)))
          ∙ (λ i. f own ∷ (made ++ seat_is i ∷ map f (reverse rest)))
          ∙ ap (λ (l : List SeatModel). f own ∷ (made ++ map f l)) (sym (turned c.loop-sema.rest.items rest sema c.in-Some-pop.ensures.items))
          ∙ inv.seated;
      room = search rules;
    }
