use Rattle.std.proofs.Common.{[], refl, sym, ap, ◌∙◌, arith}
use Rattle.notify_list.specs.Plays.{Me}
use Rattle.notify_list.specs.Seats.{guarded_of}
use Rattle.notify_list.proofs.Recording.{list_edited}
use Rattle.notify_list.proofs.Owned.{low_word, owned}
use Rattle.notify_list.proofs.Futexes.{plain_low}
use Rattle.notify_list.proofs.Allowing.{goes_at, stores_at}
use Rattle.notify_list.proofs.Reaching.{stands4, w4, w5, may_pass_all, few_granted, reached_all}
use Rattle.notify_list.proofs.notify_list.NotifyList.reach_all.Goals as goal

pub load-requires : goal.load-requires
load-requires c =
    let x = c.self.inside in let s = c.args.token.now in let l = c.args.self.now in let may = c.requires.1 in let at = may.0.list_is ∙ sym c.self.view_is in (
      omega arith,
      (
        owned x c.self.invariant s at,
        (
          low_word x c.self.invariant 1 (omega arith),
          goes_at _ s.me 1 _ (stands4 l s c.requires.0 may) (λ k. k) (λ e. absurd (omega arith))
              (λ w k known. record { word = refl; there = tt; can = refl; becomes = refl }),
        ),
      ),
    )

pub load-waited-requires : goal.load-waited-requires
load-waited-requires c =
    let x = c.self.inside in let s = c.args.token.now in let l = c.args.self.now in let may = c.requires.1 in
    let t = c.load.new.token in let E = c.load.ensures in
    let R = w4 l s c.requires.0 may t c.load.result E.went E.own in let at = R.list_is ∙ may.0.list_is ∙ sym c.self.view_is in (
      omega arith,
      (
        owned x c.self.invariant t at,
        (
          low_word x c.self.invariant 0 (omega arith),
          goes_at _ t.me 0 _ R.stands_is (λ k. k) (λ e. absurd (omega arith))
              (λ w k known. record { word = refl; there = tt; can = refl; becomes = refl }),
        ),
      ),
    )

pub pass_all-granted-requires : goal.pass_all-granted-requires
pass_all-granted-requires c =
    let s = c.args.token.now in let l = c.args.self.now in let may = c.requires.1 in
    let E = c.load.ensures in let F = c.load-waited.ensures in let u = c.load-waited.new.token in
    (guarded_of u, _, may_pass_all l s c.requires.0 may c.load.new.token c.load.result E.went E.own u c.load-waited.result F.went F.own)

pub store-requires : goal.store-requires
store-requires c =
    let x = c.self.inside in let s = c.args.token.now in let l = c.args.self.now in let may = c.requires.1 in
    let t = c.load.new.token in let E = c.load.ensures in
    let u = c.load-waited.new.token in let F = c.load-waited.ensures in let y = c.pass_all-granted.new.token in
    let R = w5 l s c.requires.0 may t c.load.result E.went E.own u c.load-waited.result F.went F.own in
    let over = c.pass_all-granted.ensures (guarded_of u) _ (may_pass_all l s c.requires.0 may t c.load.result E.went E.own u c.load-waited.result F.went F.own) in
    let edit = over.1 [] (λ n. refl) in
    let at = list_edited u y _ edit ∙ R.list_is ∙ may.0.list_is ∙ sym c.self.view_is in (
      omega arith,
      (
        owned x c.self.invariant y at,
        (
          low_word x c.self.invariant 1 (omega arith),
          (
            plain_low x.words.table.shared.key 1 (omega arith),
            stores_at _ y.me 1 _ (ap (λ (m : Me). m.0.own.knows.sight.stands) edit.1.1 ∙ R.stands_is) c.load-waited.result (λ e. absurd (omega arith))
                (λ w k known. record { word = refl; there = tt; can = refl; becomes = refl }),
          ),
        ),
      ),
    )

pub overflow_cast-result : goal.overflow_cast-result
overflow_cast-result c =
    let s = c.args.token.now in let l = c.args.self.now in let may = c.requires.1 in let E = c.load.ensures in
    let F = c.load-waited.ensures in let G = c.store.ensures in let u = c.load-waited.new.token in
    let over = c.pass_all-granted.ensures (guarded_of u) _ (may_pass_all l s c.requires.0 may c.load.new.token c.load.result E.went E.own u c.load-waited.result F.went F.own) in
    let few = few_granted l s c.requires.0 may c.load.new.token c.load.result E.went E.own u c.load-waited.result
    F.went F.own c.pass_all-granted.result c.pass_all-granted.new.token c.store.new.token G.went.0 over G.went.1 G.own in omega (arith, few)

pub returns : goal.returns
returns c h may =
    let s = c.args.token.now in let l = c.args.self.now in let E = c.load.ensures in let F = c.load-waited.ensures in let G = c.store.ensures in
    let u = c.load-waited.new.token in
    let over = c.pass_all-granted.ensures (guarded_of u) _ (may_pass_all l s h may c.load.new.token c.load.result E.went E.own u c.load-waited.result F.went F.own) in
    reached_all l s h may c.load.new.token c.load.result E.went E.own u c.load-waited.result F.went F.own
    c.pass_all-granted.result c.pass_all-granted.new.token c.store.new.token G.went.0 over G.went.1 G.own
