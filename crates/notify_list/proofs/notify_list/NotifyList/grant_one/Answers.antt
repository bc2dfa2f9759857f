use Rattle.std.proofs.Common.{ℕ}
use Rattle.notify_list.specs.Seats.{guarded_of}
use Rattle.notify_list.proofs.Passing.{may_pass_one, may_store, granted_from}
use Rattle.notify_list.proofs.notify_list.NotifyList.grant_one.Goals as goal

pub pass-next-requires : goal.pass-next-requires
pass-next-requires g c = (guarded_of c.args.token.now, may_pass_one c.args.self.now c.args.token.now c.requires.seat.0 c.args.ticket c.requires.seat.1)

pub grant_passed-requires-clause-seat : goal.grant_passed-requires-clause-seat
grant_passed-requires-clause-seat g c =
    let s = c.args.token.now in let l = c.args.self.now in let h : ℕ = c.requires.seat.0 in let may = c.requires.seat.1 in (
      h,
      may_store l s h c.args.ticket may c.pass-next.result c.pass-next.new.token
          (c.pass-next.ensures (guarded_of s) (may_pass_one l s h c.args.ticket may)),
    )

pub returns-clause-rows : goal.returns-clause-rows
returns-clause-rows g c h may =
    let s = c.args.token.now in let l = c.args.self.now in
    let over = c.pass-next.ensures (guarded_of s) (may_pass_one l s h c.args.ticket may) in
    granted_from l s h c.args.ticket may c.pass-next.result c.pass-next.new.token over c.grant_passed.new.token
    (c.grant_passed.ensures.rows h (may_store l s h c.args.ticket may c.pass-next.result c.pass-next.new.token over))
