use Rattle.std.proofs.Common.{sym, ap, subst, length, arith}
use Rattle.notify_list.specs.Seats.{Token, queue_of}
use Rattle.notify_list.specs.GrantingAll.{MayTake, TakenAndWoken}
use Rattle.notify_list.proofs.notify_list.NotifyList.take_and_wake.Goals as goal

pub waits-requires : goal.waits-requires
waits-requires c = (c.requires.2.0.list_is, c.requires.2.1)

pub wake_within-requires : goal.wake_within-requires
wake_within-requires c = let same = c.waits.ensures.same in record {
  seat = (c.requires.0, c.requires.1, subst (λ (t : Token). MayTake c.args.self.now t c.requires.0 c.requires.1) (sym same) c.requires.2);
  room = (let q = ap (λ (t : Token). length (queue_of t)) same in let n = c.waits.ensures.count in let k = c.if-waits-le-FEW.true in omega arith);
}

pub returns-then-waits-le-FEW : goal.returns-then-waits-le-FEW
returns-then-waits-le-FEW c h n may = let same = c.waits.ensures.same in
    subst (λ (t : Token). TakenAndWoken t h n c.wake_within.new.token) same
    (c.wake_within.ensures h n (subst (λ (t : Token). MayTake c.args.self.now t h n) (sym same) may))

pub wake_many-requires : goal.wake_many-requires
wake_many-requires c =
    (c.requires.0, c.requires.1, subst (λ (t : Token). MayTake c.args.self.now t c.requires.0 c.requires.1) (sym c.waits.ensures.same) c.requires.2)

pub returns-else-waits-le-FEW : goal.returns-else-waits-le-FEW
returns-else-waits-le-FEW c h n may = let same = c.waits.ensures.same in
    subst (λ (t : Token). TakenAndWoken t h n c.wake_many.new.token) same
    (c.wake_many.ensures h n (subst (λ (t : Token). MayTake c.args.self.now t h n) (sym same) may))
