use Rattle.std.proofs.Common.{◌≡◌, ◌+◌, ◌<◌, ℕ, sym, ap, refl, ◌∙◌, subst, arith, lt-ltb}
use Rattle.step_table.specs.declared.place.AcquireRow.TheVariants.{Parked}
use Rattle.step_table.specs.declared.place.ParkedRow.TheVariants.{P}
use Rattle.step_table.specs.declared.place.Place.TheVariants.{Acquiring}
use Rattle.step_table.specs.declared.word.Word.TheVariants.{Grant}
use Rattle.sema_table.specs.declared.seat.Numbers.{Numbers}
use Rattle.sema_table.specs.declared.answers.Polled.TheVariants.{Still, Woken, Handed}
use Rattle.sema_table.specs.Setting.{address}
use Rattle.sema_table.specs.Seats.{TableModel, SeatModel, Token, table_of, seat_of, IsToken}
use Rattle.sema_table.specs.Waking.{IsPolled}
use Rattle.sema_table.proofs.Striding.{slots_are}
use Rattle.sema_table.proofs.Owned.{own, someones, is_grant}
use Rattle.sema_table.proofs.Seeing.{owes_received}
use Rattle.sema_table.proofs.Trying.{grant_look}
use Rattle.sema_table.proofs.Walking.{spent_few}
use Rattle.sema_table.proofs.Polling.{still_seat, polled_still, woken_seat, polled_woken, handed_seat, polled_handed}
use Rattle.sema_table.proofs.CallerPolls.{polls}
use Rattle.sema_table.proofs.sema_table.SemaTable.poll.Goals as goal

-- where the seat's grant word lies
lies_at : (s : Token) (n : Numbers) (t : TableModel) (k w : ℕ) → IsToken s n → table_of s ≡ t → k ≡ n.seat → w ≡ address t.setting (Grant k)
    → address s.me.0.own.knows.setting (Grant s.me.0.own.number) ≡ w
lies_at s n t k w is at same e = (λ i. address (at i).setting (Grant ((is.number_is ∙ sym same) i))) ∙ sym e

pub take_grant-found-requires : goal.take_grant-found-requires
take_grant-found-requires c =
    let s = c.sleeping.inside.token in let n = c.sleeping.inside.numbers in let seat = c.sleeping.invariant in
    let at = own c.self.inside s n c.self.view_is c.sleeping.view_is c.requires in
    let word = lies_at s n c.args.self.now c.number.result c.grant_word-word.result seat.token_is (at ∙ c.self.view_is)
    (c.number.ensures ∙ c.id.ensures) c.grant_word-word.ensures.at in (
      omega arith,
      (
        (ap (λ (t : TableModel). t.id) at, someones c.self.inside c.self.invariant s at),
        (
          (let low = c.grant_word-word.ensures.low in let e = ap (λ (t : TableModel). t.id.words) c.self.view_is in omega arith),
          (
            is_grant c.self.inside c.self.invariant c.self.view_is c.number.result
                (subst (λ (y : TableModel). c.number.result < y.setting.seats) (at ∙ c.self.view_is)
                (let h = seat.token_is.there in let e = c.number.ensures ∙ c.id.ensures in omega (arith, e, h))) c.grant_word-word.ensures.at,
            owes_received _ c.grant_word-word.result s.me (Acquiring c.sleeping.inside.call (Parked c.sleeping.inside.turn P)) seat.at
                (spent_few s n 0 seat.token_is (omega arith)) word
                (λ b k known some. record { fits = record { word = word; there = known.there; can = lt-ltb 0 k some; becomes = refl }; apart = refl }),
          ),
        ),
      ),
    )

pub invariant_of-result : goal.invariant_of-result
invariant_of-result c =
    let s = c.sleeping.inside.token in let n = c.sleeping.inside.numbers in let t = c.take_grant-found.new.token in
    let T = c.take_grant-found.ensures.went.0 c.if-found-eq0.true in
    let at = own c.self.inside s n c.self.view_is c.sleeping.view_is c.requires in
    let word = lies_at s n c.args.self.now c.number.result c.grant_word-word.result c.sleeping.invariant.token_is (at ∙ c.self.view_is)
    (c.number.ensures ∙ c.id.ensures) c.grant_word-word.ensures.at in
    still_seat s t n c.sleeping.inside.call c.sleeping.inside.turn 0 c.sleeping.invariant c.take_grant-found.ensures.own (slots_are T.1)
    (grant_look s.me.0.own t.me.0.own s.me.0.own.number c.grant_word-word.result 0 word T.0)

pub returns-then-found-eq0-clause-rows : goal.returns-then-found-eq0-clause-rows
returns-then-found-eq0-clause-rows c =
    let s = c.sleeping.inside.token in let n = c.sleeping.inside.numbers in let t = c.take_grant-found.new.token in
    let T = c.take_grant-found.ensures.went.0 c.if-found-eq0.true in
    let at = own c.self.inside s n c.self.view_is c.sleeping.view_is c.requires in
    let word = lies_at s n c.args.self.now c.number.result c.grant_word-word.result c.sleeping.invariant.token_is (at ∙ c.self.view_is)
    (c.number.ensures ∙ c.id.ensures) c.grant_word-word.ensures.at in
    subst (λ (s : SeatModel). IsPolled s (Still (seat_of t n))) c.sleeping.view_is
    (polled_still s t n c.sleeping.inside.call c.sleeping.inside.turn 0 c.sleeping.invariant c.take_grant-found.ensures.own (slots_are T.1)
    (grant_look s.me.0.own t.me.0.own s.me.0.own.number c.grant_word-word.result 0 word T.0) refl)

pub returns-then-found-eq0-clause-caller : goal.returns-then-found-eq0-clause-caller
returns-then-found-eq0-clause-caller c =
    polls c.args.sleeping (Still (seat_of c.take_grant-found.new.token c.sleeping.inside.numbers)) (returns-then-found-eq0-clause-rows c)

pub invariant_of-result-then-found-eq1 : goal.invariant_of-result-then-found-eq1
invariant_of-result-then-found-eq1 c =
    let T = c.take_grant-found.ensures.went.1 (let z = c.if-found-eq0.false in omega (arith, z)) in
    woken_seat c.sleeping.inside.token c.take_grant-found.new.token c.sleeping.inside.numbers c.sleeping.inside.call c.sleeping.inside.turn
    c.take_grant-found.result c.sleeping.invariant c.take_grant-found.ensures.own (slots_are T.1) T.0 c.if-found-eq1.true

pub returns-then-found-eq1-clause-rows : goal.returns-then-found-eq1-clause-rows
returns-then-found-eq1-clause-rows c =
    let n = c.sleeping.inside.numbers in let t = c.take_grant-found.new.token in
    let T = c.take_grant-found.ensures.went.1 (let z = c.if-found-eq0.false in omega (arith, z)) in
    subst (λ (s : SeatModel). IsPolled s (Woken (seat_of t n))) c.sleeping.view_is
    (polled_woken c.sleeping.inside.token t n c.sleeping.inside.call c.sleeping.inside.turn c.take_grant-found.result c.sleeping.invariant
    c.take_grant-found.ensures.own (slots_are T.1) T.0 c.if-found-eq1.true)

pub returns-then-found-eq1-clause-caller : goal.returns-then-found-eq1-clause-caller
returns-then-found-eq1-clause-caller c =
    polls c.args.sleeping (Woken (seat_of c.take_grant-found.new.token c.sleeping.inside.numbers)) (returns-then-found-eq1-clause-rows c)

pub invariant_of-result-2 : goal.invariant_of-result-2
invariant_of-result-2 c =
    let T = c.take_grant-found.ensures.went.1 (let z = c.if-found-eq0.false in omega (arith, z)) in
    handed_seat c.sleeping.inside.token c.take_grant-found.new.token c.sleeping.inside.numbers c.sleeping.inside.call c.sleeping.inside.turn
    c.take_grant-found.result c.sleeping.invariant c.take_grant-found.ensures.own (slots_are T.1) T.0 c.if-found-eq1.false

pub returns-clause-rows : goal.returns-clause-rows
returns-clause-rows c =
    let n = c.sleeping.inside.numbers in let t = c.take_grant-found.new.token in
    let some : 0 < c.take_grant-found.result = (let z = c.if-found-eq0.false in omega (arith, z)) in
    let T = c.take_grant-found.ensures.went.1 some in let counted : Numbers = record n { taken = n.taken + 1 } in
    subst (λ (s : SeatModel). IsPolled s (Handed (seat_of t counted))) c.sleeping.view_is
    (polled_handed c.sleeping.inside.token t n c.sleeping.inside.call c.sleeping.inside.turn c.take_grant-found.result c.sleeping.invariant
    c.take_grant-found.ensures.own (slots_are T.1) T.0 c.if-found-eq1.false some)

pub returns-clause-caller : goal.returns-clause-caller
returns-clause-caller c = let n = c.sleeping.inside.numbers in let counted : Numbers = record n { taken = n.taken + 1 } in
    polls c.args.sleeping (Handed (seat_of c.take_grant-found.new.token counted)) (returns-clause-rows c)
