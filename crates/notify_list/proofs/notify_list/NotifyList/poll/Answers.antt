use Rattle.std.proofs.Common.{ℕ, ◌+◌, ◌<◌, sym, ap, refl, ◌∙◌, subst, arith}
use Rattle.notify_list.specs.declared.waited.Polled.TheVariants.{Still, Granted}
use Rattle.notify_list.specs.Seats.{ListModel, SeatModel, seat_of}
use Rattle.notify_list.specs.Waiting.{IsPolled}
use Rattle.notify_list.proofs.Owned.{own, grant_low, owned}
use Rattle.notify_list.proofs.Futexes.{at_grant}
use Rattle.notify_list.proofs.Parking.{receives_at, stands_parked, seat_still, polled_still, seat_woken, takes_grant}
use Rattle.notify_list.proofs.Answering.{is_sound}
use Rattle.notify_list.proofs.Callers.{polls_still, polls_granted}
use Rattle.notify_list.proofs.notify_list.NotifyList.poll.Goals as goal

pub take_grant-found-requires : goal.take_grant-found-requires
take_grant-found-requires c =
    let x = c.self.inside in let s = c.parked.inside.token in let n : ℕ = c.parked.inside.number in let K = c.parked.invariant in
    let at = own x s n c.self.view_is c.parked.view_is c.requires in
    let grant = c.grant_word.ensures in let seats = ap (λ (l : ListModel). l.setting.seats) at in
    let low = grant_low x c.self.invariant n (let k = K.token_is.there in omega (arith, seats, k)) in (
      omega arith,
      (
        owned x c.self.invariant s at,
        (
          omega (arith, grant, low),
          (
            at_grant x.words.table.shared.key n (let k = K.token_is.there in omega (arith, seats, k)) (omega (arith, grant)),
            receives_at _ s.me _ _ (stands_parked s n K) K.ticket refl (let j = K.token_is.number_is in omega (arith, grant, j)),
          ),
        ),
      ),
    )

pub invariant_of-result : goal.invariant_of-result
invariant_of-result c =
    let s = c.parked.inside.token in let n : ℕ = c.parked.inside.number in let T = c.take_grant-found.ensures in
    seat_still s n c.parked.invariant c.take_grant-found.new.token c.grant_word.result (sym (c.grant_word.ensures ∙ ap (λ k. 3 + k) c.from.ensures)) (T.went.0 c.if-found-eq0.true) T.own

pub returns-then-found-eq0-clause-rows : goal.returns-then-found-eq0-clause-rows
returns-then-found-eq0-clause-rows c =
    let s = c.parked.inside.token in let n : ℕ = c.parked.inside.number in let t = c.take_grant-found.new.token in let T = c.take_grant-found.ensures in
    subst (λ (y : SeatModel). IsPolled y (Still (seat_of t n))) c.parked.view_is
    (polled_still s n c.parked.invariant t c.grant_word.result (sym (c.grant_word.ensures ∙ ap (λ k. 3 + k) c.from.ensures)) (T.went.0 c.if-found-eq0.true) T.own)

pub returns-then-found-eq0-clause-caller : goal.returns-then-found-eq0-clause-caller
returns-then-found-eq0-clause-caller c = let t = c.take_grant-found.new.token in let n : ℕ = c.parked.inside.number in
    polls_still c.args.parked (seat_of t n) (is_sound t n (invariant_of-result c).token_is) (returns-then-found-eq0-clause-rows c)

pub invariant_of-result-2 : goal.invariant_of-result-2
invariant_of-result-2 c =
    let s = c.parked.inside.token in let n : ℕ = c.parked.inside.number in let T = c.take_grant-found.ensures in
    let some : 0 < c.take_grant-found.result = (let z = c.if-found-eq0.false in omega (arith, z)) in
    seat_woken s n c.parked.invariant c.take_grant-found.new.token _ some (T.went.1 some) T.own

pub returns-clause-rows : goal.returns-clause-rows
returns-clause-rows c =
    let s = c.parked.inside.token in let n : ℕ = c.parked.inside.number in let t = c.take_grant-found.new.token in let T = c.take_grant-found.ensures in
    let some : 0 < c.take_grant-found.result = (let z = c.if-found-eq0.false in omega (arith, z)) in
    subst (λ (y : SeatModel). IsPolled y (Granted (seat_of t n))) c.parked.view_is
    (takes_grant s n c.parked.invariant t _ some (T.went.1 some) T.own)

pub returns-clause-caller : goal.returns-clause-caller
returns-clause-caller c = let t = c.take_grant-found.new.token in let n : ℕ = c.parked.inside.number in
    polls_granted c.args.parked (seat_of t n) (is_sound t n (invariant_of-result-2 c).token_is) (returns-clause-rows c)
