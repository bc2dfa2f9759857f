use Rattle.std.proofs.Common.{map, sym, ap, ◌∙◌}
use Rattle.waiters.specs.declared.wait.Wait.{Wait}
use Rattle.notify_list.specs.Plays.{Me}
use Rattle.notify_list.proofs.Wakening.{may_same, woken_since}
use Rattle.notify_list.proofs.notify_list.NotifyList.wake_all.Goals as goal

pub name_heirs-requires : goal.name_heirs-requires
name_heirs-requires c = c.requires.seat.1.list_is

pub pass_seats-requires : goal.pass_seats-requires
pass_seats-requires c = let same = c.name_heirs.ensures in record {
  seat = (c.requires.seat.0, may_same c.args.self.now c.args.token.now c.name_heirs.new.token c.requires.seat.0 c.requires.seat.1 same);
  seats = c.requires.seats ∙ ap (λ (m : Me). map (λ (w : Wait). w.id.seat) m.0.own.knows.sight.stands.hand) (sym same.1);
}

pub wake_first-requires : goal.wake_first-requires
wake_first-requires c = (c.name_heirs.new.token.me.0.own.gone, c.pass_seats.ensures.stored)

pub returns : goal.returns
returns c h may = let same = c.name_heirs.ensures in
    woken_since c.args.self.now c.args.token.now c.name_heirs.new.token c.pass_seats.new.token h may same
    (c.pass_seats.ensures.rows h (may_same c.args.self.now c.args.token.now c.name_heirs.new.token h may same))
