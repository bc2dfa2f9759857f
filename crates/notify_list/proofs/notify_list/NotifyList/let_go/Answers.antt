use Rattle.std.proofs.Common.{◌≡◌, ◌≢◌, arith}
use Rattle.step_table.specs.ListWorld.{without_seat}
use Rattle.notify_list.specs.Rule.{Guarded}
use Rattle.notify_list.specs.Seats.{guarded_of, queue_of, with_queue}
use Rattle.notify_list.proofs.Forgoing.{may_pass, passed_first, may_go, gone_later}
use Rattle.notify_list.proofs.notify_list.NotifyList.let_go.Goals as goal

pub pass-requires : goal.pass-requires
pass-requires c =
    let s = c.args.token.now in
    (with_queue (without_seat s.me.0.own.number (queue_of s)) (guarded_of s), may_pass c.args.self.now s c.requires.0 c.args.ticket c.args.notified c.requires.1 (omega arith))

pub returns-then-ticket-notified : goal.returns-then-ticket-notified
returns-then-ticket-notified c k may =
    let s = c.args.token.now in let is : c.args.ticket ≡ c.args.notified = omega arith in
    let g : Guarded = with_queue (without_seat s.me.0.own.number (queue_of s)) (guarded_of s) in
    passed_first c.args.self.now s k c.args.ticket c.args.notified may is c.pass.new.token c.pass.result
    (c.pass.ensures g (may_pass c.args.self.now s k c.args.ticket c.args.notified may is))

pub take_ticket-requires : goal.take_ticket-requires
take_ticket-requires c =
    let s = c.args.token.now in let ne : c.args.ticket ≢ c.args.notified = (λ e. absurd (omega arith)) in
    (with_queue (without_seat s.me.0.own.number (queue_of s)) (guarded_of s), c.requires.0.number, may_go c.args.self.now s c.requires.0 c.args.ticket c.args.notified c.requires.1 ne)

pub returns : goal.returns
returns c k may =
    let s = c.args.token.now in let ne : c.args.ticket ≢ c.args.notified = (λ e. absurd (omega arith)) in
    let g : Guarded = with_queue (without_seat s.me.0.own.number (queue_of s)) (guarded_of s) in
    gone_later c.args.self.now s k c.args.ticket c.args.notified may ne c.take_ticket.new.token
    (c.take_ticket.ensures g k.number (may_go c.args.self.now s k c.args.ticket c.args.notified may ne))
