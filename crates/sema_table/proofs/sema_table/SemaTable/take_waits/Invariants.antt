use Rattle.std.proofs.Common.{◌≡◌, length, map}
use Rattle.sema_table.specs.Walks.{Walked, HasRecord}
use Rattle.sema_table.specs.Many.{leaves}
use Rattle.sema_table.specs.ManyWalks.{picking, with_hand}
use Rattle.sema_table.proofs.sema_table.SemaTable.take_waits.Given as goal

abbrev pub invariant-loop : goal.invariant-loop
invariant-loop l = record {
  walked : Walked l.initial.token (picking l.initial.token l.fn.call) l.token
      (with_hand l.initial.token (picking l.token l.fn.call) l.token.me.0.own.knows.hand)
      (leaves l.initial.token.me.0.own.number l.fn.call l.token.me.0.own.knows.hand) 0;
  kept : HasRecord l.token l.fn.call.counter;
  items : l.hand.items ≡ map (λ w. w.seat) l.token.me.0.own.knows.hand;
  count : length l.token.me.0.own.knows.hand ≡ l.counter;
}
