use Rattle.std.proofs.Common.{◌≡◌, ◌<◌, sym, ap, ◌∙◌, subst, arith}
use Rattle.sema_table.specs.Setting.{address}
use Rattle.sema_table.specs.Seats.{TableModel}
use Rattle.step_table.specs.declared.word.Word.TheVariants.{Grant}
use Rattle.step_table.specs.Event.{waiter}
use Rattle.sema_table.proofs.Owned.{someones, grant_sleeps, serves}
use Rattle.sema_table.proofs.Striding.{slots_are}
use Rattle.sema_table.proofs.Granting.{granted, grants_at}
use Rattle.sema_table.proofs.sema_table.SemaTable.grant.Goals as goal

pub grant-requires : goal.grant-requires
grant-requires g c =
    let s = c.args.token.now in let a = c.args.call.now in let r = c.requires.seat.0 in let at = r.table_is ∙ sym c.self.view_is in
    let first : waiter s.me.0.own.number s.me.0.own.knows.hand ≡ c.args.id.now.seat = ap (waiter s.me.0.own.number) c.requires.seat.1 in
    let there : waiter s.me.0.own.number s.me.0.own.knows.hand < s.me.0.own.knows.setting.seats = subst
    (λ (y : TableModel). waiter s.me.0.own.number s.me.0.own.knows.hand < y.setting.seats) (sym r.table_is) (let h = c.requires.there in omega arith) in
    let word : address s.me.0.own.knows.setting (Grant (waiter s.me.0.own.number s.me.0.own.knows.hand)) ≡ c.grant_word-word.result
    = (λ i. address (r.table_is i).setting (Grant ((first ∙ sym c.number-seat.ensures) i))) ∙ sym c.grant_word-word.ensures.at in
    let sleeps = grant_sleeps c.self.inside c.self.invariant c.self.view_is c.number-seat.result (let h = c.requires.there in let e = c.number-seat.ensures in omega (arith, e)) c.grant_word-word.ensures.at
    c.asleep_word-asleep.ensures.at c.asleep_word-asleep.ensures.low in
    let words = ap (λ (t : TableModel). t.id.words) c.self.view_is in let low = c.grant_word-word.ensures.low in (
      omega arith,
      (
        (ap (λ (t : TableModel). t.id) at, someones c.self.inside c.self.invariant s at),
        (
          (omega arith, sleeps.0),
          (
            serves c.self.inside c.self.view_is g.N.Kernel.serves c.requires.kernel,
            (
              sleeps.1,
              grants_at _ c.self.inside.words.table.shared.table_id.slots c.grant_word-word.result s.me a c.args.handed c.granted_units.result
                  c.granted_units.ensures r.place_is r.limited word there,
            ),
          ),
        ),
      ),
    )

pub returns-clause-granted : goal.returns-clause-granted
returns-clause-granted g c = let T = c.grant.ensures.went in
    granted c.args.token.now c.grant.new.token c.args.call.now c.args.id.now T.0 T.1 c.grant.ensures.own c.args.handed c.requires.seat.0.place_is

pub returns-clause-slots : goal.returns-clause-slots
returns-clause-slots g c = slots_are c.grant.ensures.went.3
