use Rattle.std.proofs.Common.{List, refl, sym, ap, ◌∙◌, arith}
use Rattle.step_table.specs.declared.list_place.AllRow.TheVariants.{L8}
use Rattle.step_table.specs.declared.list_place.ListPlace.TheVariants.{Rest, NotifyingAll}
use Rattle.step_table.specs.declared.list_place.ListWord.TheVariants.{Grant}
use Rattle.step_table.specs.ListEvent.{if_any}
use Rattle.waiters.specs.declared.wait.Wait.{Wait}
use Rattle.notify_list.specs.Seats.{ListModel}
use Rattle.notify_list.proofs.Owned.{grant_low, owned}
use Rattle.notify_list.proofs.Futexes.{at_grant}
use Rattle.notify_list.proofs.Allowing.{grants_at}
use Rattle.notify_list.proofs.Wakening.{stands8, waiter_there, woken_first, stored_one}
use Rattle.notify_list.proofs.notify_list.NotifyList.pass_first.Goals as goal

pub pass_grant-requires : goal.pass_grant-requires
pass_grant-requires c =
    let x = c.self.inside in let s = c.args.token.now in let l = c.args.self.now in let r = c.requires in let w : Wait = r.1 in let may = r.3 in
    let low = waiter_there l s r.0 w r.2 may r.4 in let at = may.list_is ∙ sym c.self.view_is in let mine = ap (λ (y : ListModel). y.setting.seats) at in
    let same = r.5 in let word = c.grant_word.ensures in (
      omega arith,
      (
        owned x c.self.invariant s at,
        (
          (let g = grant_low x c.self.invariant w.id.seat (omega (arith, mine, low)) in omega (arith, same, word)),
          (
            at_grant x.words.table.shared.key w.id.seat (omega (arith, mine, low)) (omega (arith, same, word)),
            (
              (r.0, may.at ∙ ap (λ (q : List Wait). if_any q (NotifyingAll r.0 L8) Rest) r.4),
              grants_at _ s.me c.grant_word.result _ (stands8 l s r.0 w r.2 may r.4) (Grant w.id.seat) 1 _ (λ g. refl) (omega (arith, same, word)) low
                  (λ e. absurd (omega (arith, word, e))),
            ),
          ),
        ),
      ),
    )

pub returns-clause-rows : goal.returns-clause-rows
returns-clause-rows c h w rest may hand = let E = c.pass_grant.ensures in
    woken_first c.args.self.now c.args.token.now h w rest may hand c.pass_grant.new.token E.went.0 (E.went.1, E.went.3) E.own

pub returns-clause-stored : goal.returns-clause-stored
returns-clause-stored c = let E = c.pass_grant.ensures in
    stored_one c.args.token.now c.pass_grant.new.token c.grant_word.result c.args.seat E.went.0 E.went.1 E.went.2 c.grant_word.ensures
