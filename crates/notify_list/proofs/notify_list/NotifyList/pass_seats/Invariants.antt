use Rattle.std.proofs.Common.{ℕ, take}
use Rattle.notify_list.specs.NotifyingAll.{StoresGrants}
use Rattle.notify_list.specs.GrantingAll.{MayWake}
use Rattle.notify_list.proofs.Wakening.{WokenUpTo}
use Rattle.notify_list.proofs.notify_list.NotifyList.pass_seats.Given as goal

abbrev pub invariant-loop-seat : goal.invariant-loop-seat
invariant-loop-seat l =
    ((h : ℕ) → MayWake l.fn.self l.fn.token h → WokenUpTo l.fn.token h l.seat-index l.token)
    × StoresGrants (take l.seat-index l.fn.seats) l.fn.token.me.0.own.gone l.token.me.0.own.gone
