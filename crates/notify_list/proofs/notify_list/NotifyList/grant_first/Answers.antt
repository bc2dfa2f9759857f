use Rattle.std.proofs.Common.{refl, sym, ap, ◌∙◌, arith}
use Rattle.step_table.specs.declared.list_place.ListWord.TheVariants.{Grant}
use Rattle.waiters.specs.declared.wait.Wait.{Wait}
use Rattle.notify_list.specs.Seats.{ListModel}
use Rattle.notify_list.proofs.Owned.{grant_low, owned, grant_futex, serves}
use Rattle.notify_list.proofs.Allowing.{grants_at}
use Rattle.notify_list.proofs.Wakening.{stands8, waiter_there, woken_first, stored_one}
use Rattle.notify_list.proofs.notify_list.NotifyList.grant_first.Goals as goal

pub asleep_word-requires : goal.asleep_word-requires
asleep_word-requires g c =
    let r = c.requires.seat in let w : Wait = r.1 in let may = r.3 in let low = waiter_there c.args.self.now c.args.token.now r.0 w r.2 may r.4 in
    let mine = ap (λ (y : ListModel). y.setting.seats) may.list_is in let same = r.5 in omega (arith, low, mine, same)

pub grant-requires : goal.grant-requires
grant-requires g c =
    let x = c.self.inside in let s = c.args.token.now in let l = c.args.self.now in let r = c.requires.seat in let w : Wait = r.1 in let may = r.3 in
    let low = waiter_there l s r.0 w r.2 may r.4 in let at = may.list_is ∙ sym c.self.view_is in let mine = ap (λ (y : ListModel). y.setting.seats) at in
    let same = r.5 in let word = c.grant_word.ensures in let A = c.asleep_word.ensures in
    let futex = grant_futex x c.args.seat c.self.view_is (asleep_word-requires g c.before) word A.at A.low in (
      omega arith,
      (
        owned x c.self.invariant s at,
        (
          ((let g = grant_low x c.self.invariant w.id.seat (omega (arith, mine, low)) in omega (arith, same, word)), futex.0),
          (
            serves c.self.inside c.self.view_is g.N.Kernel.serves c.requires.kernel,
            (
              futex.1,
              grants_at _ s.me c.grant_word.result _ (stands8 l s r.0 w r.2 may r.4) (Grant w.id.seat) 1 _ (λ g. refl) (omega (arith, same, word)) low
                  (λ e. absurd (omega (arith, word, e))),
            ),
          ),
        ),
      ),
    )

pub returns-clause-rows : goal.returns-clause-rows
returns-clause-rows g c h w rest may hand = let E = c.grant.ensures in
    woken_first c.args.self.now c.args.token.now h w rest may hand c.grant.new.token E.went.0 (E.went.1, E.went.3) E.own

pub returns-clause-stored : goal.returns-clause-stored
returns-clause-stored g c = let E = c.grant.ensures in
    stored_one c.args.token.now c.grant.new.token c.grant_word.result c.args.seat E.went.0 E.went.1 E.went.2 c.grant_word.ensures
