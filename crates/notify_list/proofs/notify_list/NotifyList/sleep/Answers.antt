use Rattle.std.proofs.Common.{ℕ, ◌<◌, refl, ap, ◌∙◌, subst, arith}
use Rattle.notify_list.specs.Seats.{ListModel, SeatModel, seat_of}
use Rattle.notify_list.specs.Setting.{asleep_address}
use Rattle.notify_list.specs.Waiting.{TakesGrant}
use Rattle.notify_list.proofs.Owned.{own, low_word, grant_low, owned, grant_futex, beside}
use Rattle.notify_list.proofs.Allowing.{takes_at}
use Rattle.notify_list.proofs.Parking.{stands_parked, seat_woken, takes_grant, ran_same}
use Rattle.notify_list.proofs.Answering.{is_sound}
use Rattle.notify_list.proofs.Callers.{polls_granted}
use Rattle.notify_list.proofs.notify_list.NotifyList.sleep.Goals as goal

pub take_when_granted-requires : goal.take_when_granted-requires
take_when_granted-requires g c =
    let x = c.self.inside in let s = c.parked.inside.token in let n : ℕ = c.parked.inside.number in let K = c.parked.invariant in
    let at = own x s n c.self.view_is c.parked.view_is c.requires in
    let grant = c.grant_word-grant.ensures in let seats = ap (λ (l : ListModel). l.setting.seats) at in
    let from = c.from-seat.ensures in let there = K.token_is.there in
    let sits : n < c.args.self.now.setting.seats
    = (let k = ap (λ (l : ListModel). l.setting.seats) (at ∙ c.self.view_is) in omega (arith, there, k)) in
    let A = c.asleep_word-asleep.ensures in let M = c.misses_word-misses.ensures in let misses_at = M.at in
    let futex = grant_futex x n c.self.view_is sits (omega (arith, grant, from)) (A.at ∙ ap (asleep_address c.args.self.now.setting) from) A.low in
    let misses = beside x c.self.view_is (omega (arith, misses_at, from, sits)) (omega (arith, misses_at, from, sits)) in
    let low = grant_low x c.self.invariant n (let k = K.token_is.there in omega (arith, seats, k)) in (
      omega arith,
      (
        owned x c.self.invariant s at,
        (
          (
            omega (arith, grant, low),
            futex.0,
            (let w = ap (λ (l : ListModel). l.id.words) c.self.view_is in let k = M.low in omega (arith, w, k)),
          ),
          (
            (low_word x c.self.invariant 0 (omega arith), low_word x c.self.invariant 1 (omega arith)),
            (
              (omega arith, omega arith),
              (
                futex.1,
                (misses, takes_at _ s.me _ _ (stands_parked s n K) K.ticket refl (let j = K.token_is.number_is in omega (arith, grant, j))),
              ),
            ),
          ),
        ),
      ),
    )

pub wake_heirs-requires : goal.wake_heirs-requires
wake_heirs-requires g c =
    let x = c.self.inside in let s = c.parked.inside.token in let n : ℕ = c.parked.inside.number in let K = c.parked.invariant in
    let at = own x s n c.self.view_is c.parked.view_is c.requires in let S = c.take_when_granted.ensures in record {
      own = (λ i. record { id = S.own i; setting = S.went.0.same.1 i }) ∙ at ∙ c.self.view_is;
      there = (let k = K.token_is.there in let seats = ap (λ (l : ListModel). l.setting.seats) (at ∙ c.self.view_is) in omega (arith, seats, k));
    }

pub invariant_of-result : goal.invariant_of-result
invariant_of-result g c =
    let s = c.parked.inside.token in let n : ℕ = c.parked.inside.number in let K = c.parked.invariant in let S = c.take_when_granted.ensures in
    seat_woken s n K c.wake_heirs.new.token _ S.some
    (ran_same s c.take_when_granted.new.token c.wake_heirs.new.token _ S.went c.wake_heirs.ensures) (c.wake_heirs.ensures.0 ∙ S.own)

pub returns-clause-took : goal.returns-clause-took
returns-clause-took g c =
    let s = c.parked.inside.token in let n : ℕ = c.parked.inside.number in let K = c.parked.invariant in let S = c.take_when_granted.ensures in
    subst (λ (y : SeatModel). TakesGrant y (seat_of c.wake_heirs.new.token n)) c.parked.view_is
    (takes_grant s n K c.wake_heirs.new.token _ S.some
    (ran_same s c.take_when_granted.new.token c.wake_heirs.new.token _ S.went c.wake_heirs.ensures) (c.wake_heirs.ensures.0 ∙ S.own))

pub returns-clause-caller : goal.returns-clause-caller
returns-clause-caller g c = let t = c.wake_heirs.new.token in let n : ℕ = c.parked.inside.number in
    polls_granted c.args.parked (seat_of t n) (is_sound t n (invariant_of-result g c).token_is) (returns-clause-took g c)
