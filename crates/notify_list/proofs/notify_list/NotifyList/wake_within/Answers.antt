use Rattle.std.proofs.Common.{sym, arith}
use Rattle.std.proofs.lemmas.List.{length-take-le}
use Rattle.notify_list.proofs.Emptying.{wakes_after}
use Rattle.notify_list.proofs.notify_list.NotifyList.wake_within.Goals as goal

pub slice_bounds-wake_all-end : goal.slice_bounds-wake_all-end
slice_bounds-wake_all-end c = let n = c.take_all-waits.ensures.count in let r = c.requires.room in let l = c.take_all-waits.auto.room in omega arith

pub slice_bounds-wake_all-end-2 : goal.slice_bounds-wake_all-end-2
slice_bounds-wake_all-end-2 c = sym (length-take-le c.take_all-waits.result c.take_all-waits.new.room (slice_bounds-wake_all-end c))

pub wake_all-requires-clause-seat : goal.wake_all-requires-clause-seat
wake_all-requires-clause-seat c = let r = c.requires.seat in (
  r.0,
  wakes_after c.args.self.now c.args.token.now r.0 r.1 r.2 c.take_all-waits.new.token (c.take_all-waits.ensures.taken r.0 r.1 r.2),
)

pub returns : goal.returns
returns c h n may = let T = c.take_all-waits.ensures.taken h n may in (
  c.take_all-waits.new.token,
  T,
  c.wake_all.ensures h (wakes_after c.args.self.now c.args.token.now h n may c.take_all-waits.new.token T),
)
