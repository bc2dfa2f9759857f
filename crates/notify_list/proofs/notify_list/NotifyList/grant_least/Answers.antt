use Rattle.std.proofs.Common.{◌≡◌, ℕ, refl, sym, ap, ◌∙◌, arith}
use Rattle.notify_list.specs.Seats.{SeatModel, list_of}
use Rattle.notify_list.specs.Shared.{list_by}
use Rattle.notify_list.proofs.Owned.{low_word, owned, lock_futex, serves}
use Rattle.notify_list.proofs.Allowing.{goes_at}
use Rattle.notify_list.proofs.Recording.{gives_plain}
use Rattle.notify_list.proofs.Notifying.{stands4, w4, stands6, record5, seat_none, ends_none, may_grant, seat_some, ends_some}
use Rattle.notify_list.proofs.notify_list.NotifyList.grant_least.Goals as goal

pub load-ticket-requires : goal.load-ticket-requires
load-ticket-requires g c =
    let x = c.self.inside in let s = c.requires.seat.0 in let n : ℕ = c.requires.seat.1 in let h : ℕ = c.requires.seat.2 in let may = c.requires.seat.3 in let t = c.args.token.now in let L = may.locked in
    let at3 = may.at in
    let at = L.walked.list_is ∙ may.list_is ∙ sym c.self.view_is in (
      omega arith,
      (
        owned x c.self.invariant t at,
        (
          low_word x c.self.invariant 1 (omega arith),
          goes_at _ t.me 1 _ (stands4 s n h may.seat at3 t L) (λ k. k) (λ e. absurd (omega arith))
              (λ w k known. record { word = refl; there = tt; can = refl; becomes = refl }),
        ),
      ),
    )

pub load-requires : goal.load-requires
load-requires g c =
    let x = c.self.inside in let s = c.requires.seat.0 in let n : ℕ = c.requires.seat.1 in let h : ℕ = c.requires.seat.2 in let may = c.requires.seat.3 in let t = c.args.token.now in let L = may.locked in
    let u = c.load-ticket.new.token in let E = c.load-ticket.ensures in
    let at3 = may.at in
    let R = w4 s n h may.seat at3 t L u c.load-ticket.result E.went E.own in
    let at = R.list_is ∙ may.list_is ∙ sym c.self.view_is in (
      omega arith,
      (
        owned x c.self.invariant u at,
        (
          low_word x c.self.invariant 0 (omega arith),
          goes_at _ u.me 0 _ R.stands_is (λ k. k) (λ e. absurd (omega arith))
              (λ w k known. record { word = refl; there = tt; can = refl; becomes = refl }),
        ),
      ),
    )

pub give_lock-requires : goal.give_lock-requires
give_lock-requires g c =
    let x = c.self.inside in let s = c.requires.seat.0 in let n : ℕ = c.requires.seat.1 in let h : ℕ = c.requires.seat.2 in let may = c.requires.seat.3 in let t = c.args.token.now in let L = may.locked in
    let u = c.load-ticket.new.token in let E = c.load-ticket.ensures in
    let y = c.load.new.token in let F = c.load.ensures in let equal = c.if-load-ticket.true in
    let at3 = may.at in
    let R = w4 s n h may.seat at3 t L u c.load-ticket.result E.went E.own in
    let at : list_of y ≡ list_by x = (λ i. record { id = F.own i; setting = F.went.0.same.1 i }) ∙ R.list_is
    ∙ may.list_is ∙ sym c.self.view_is in
    let futex = lock_futex x c.self.view_is c.sleepers_word.ensures.at c.sleepers_word.ensures.low in (
      omega arith,
      (
        owned x c.self.invariant y at,
        (
          (low_word x c.self.invariant 2 (omega arith), futex.0),
          (
            serves c.self.inside c.self.view_is g.N.Kernel.serves c.requires.kernel,
            (
              futex.1,
              gives_plain _ y _ (stands6 s n h may.seat at3 t L u c.load-ticket.result E.went E.own y c.load.result F.went F.own equal)
                  (record5 s n h may.seat at3 t L u c.load-ticket.result E.went E.own y c.load.result F.went F.own) refl
                  (λ w. (record { word = refl; there = tt; can = refl; becomes = refl }, refl)),
            ),
          ),
        ),
      ),
    )

pub grant_one-seat-requires-clause-seat : goal.grant_one-seat-requires-clause-seat
grant_one-seat-requires-clause-seat g c =
    let s = c.requires.seat.0 in let n : ℕ = c.requires.seat.1 in let h : ℕ = c.requires.seat.2 in let may = c.requires.seat.3 in let t = c.args.token.now in
    let u = c.load-ticket.new.token in let E = c.load-ticket.ensures in let y = c.load.new.token in let F = c.load.ensures in (
      h,
      may_grant s n h may.seat may.at t may.locked u c.load-ticket.result E.went E.own y c.load.result F.went F.own c.if-load-ticket.false
          c.args.self.now may.list_is,
    )

pub returns-then-load-ticket-clause-rows : goal.returns-then-load-ticket-clause-rows
returns-then-load-ticket-clause-rows g c s n h may =
    let t = c.args.token.now in let u = c.load-ticket.new.token in let E = c.load-ticket.ensures in
    let y = c.load.new.token in let F = c.load.ensures in let G = c.give_lock.ensures in let equal = c.if-load-ticket.true in (
      ends_none s n h may.seat may.at t may.locked u c.load-ticket.result E.went E.own y c.load.result F.went F.own c.give_lock.new.token
          equal G.went G.own,
      seat_none s n h may.seat may.at t may.locked u c.load-ticket.result E.went E.own y c.load.result F.went F.own c.give_lock.new.token
          equal G.went G.own,
    )

pub returns-then-load-ticket-clause-own : goal.returns-then-load-ticket-clause-own
returns-then-load-ticket-clause-own g c = let may = c.requires.seat.3 in
    ap (λ (q : SeatModel). q.list) (returns-then-load-ticket-clause-rows g c c.requires.seat.0 c.requires.seat.1 c.requires.seat.2 may).0.0.same ∙ may.list_is

pub returns-clause-rows : goal.returns-clause-rows
returns-clause-rows g c s n h may =
    let t = c.args.token.now in let u = c.load-ticket.new.token in let E = c.load-ticket.ensures in
    let y = c.load.new.token in let F = c.load.ensures in let unequal = c.if-load-ticket.false in
    let G = c.grant_one-seat.ensures.rows h
    (may_grant s n h may.seat may.at t may.locked u c.load-ticket.result E.went E.own y c.load.result F.went F.own unequal
    c.args.self.now may.list_is) in (
      ends_some s n h may.seat may.at t may.locked u c.load-ticket.result E.went E.own y c.load.result F.went F.own unequal
          c.grant_one-seat.new.token G,
      seat_some s n h may.seat may.at t may.locked u c.load-ticket.result E.went E.own y c.load.result F.went F.own unequal
          c.grant_one-seat.new.token G,
    )

pub returns-clause-own : goal.returns-clause-own
returns-clause-own g c = let may = c.requires.seat.3 in
    ap (λ (q : SeatModel). q.list) (returns-clause-rows g c c.requires.seat.0 c.requires.seat.1 c.requires.seat.2 may).0.0.same ∙ may.list_is
