use Rattle.std.proofs.Common.{ℕ, refl, sym, ◌∙◌, arith}
use Rattle.notify_list.proofs.Owned.{low_word, owned}
use Rattle.notify_list.proofs.Futexes.{plain_low}
use Rattle.notify_list.proofs.Allowing.{goes_at, stores_at}
use Rattle.notify_list.proofs.Forgoing.{list_forgo, stands_forgo, may_let_go, list_let_go, stands_let_go, stores_it, forwent}
use Rattle.notify_list.proofs.notify_list.NotifyList.forgo.Goals as goal

pub load-notified-requires : goal.load-notified-requires
load-notified-requires c =
    let x = c.self.inside in let s = c.requires.0 in let may = c.requires.1 in let t = c.args.token.now in
    let l = c.args.self.now in let word : ℕ = c.args.ticket in (
      omega arith,
      (
        owned x c.self.invariant t (list_forgo l s t word may ∙ sym c.self.view_is),
        (
          low_word x c.self.invariant 1 (omega arith),
          goes_at _ t.me 1 _ (stands_forgo l s t word may) (λ k. k) (λ e. absurd (omega arith))
              (λ w k known. record { word = refl; there = tt; can = refl; becomes = refl }),
        ),
      ),
    )

pub let_go-next-requires : goal.let_go-next-requires
let_go-next-requires c =
    let E = c.load-notified.ensures in
    (c.requires.1.ticket, may_let_go c.args.self.now c.requires.0 c.args.token.now c.args.ticket c.requires.1 c.load-notified.new.token c.load-notified.result E.went E.own)

pub store-requires : goal.store-requires
store-requires c =
    let x = c.self.inside in let s = c.requires.0 in let may = c.requires.1 in let t = c.args.token.now in
    let l = c.args.self.now in let word : ℕ = c.args.ticket in let E = c.load-notified.ensures in let u = c.load-notified.new.token in
    let v : ℕ = c.load-notified.result in let next : ℕ = c.let_go-next.result in let y = c.let_go-next.new.token in
    let go = c.let_go-next.ensures may.ticket (may_let_go l s t word may u v E.went E.own) in (
      omega arith,
      (
        owned x c.self.invariant y (list_let_go l s t word may u v E.went E.own next y go ∙ sym c.self.view_is),
        (
          low_word x c.self.invariant 1 (omega arith),
          (
            plain_low x.words.table.shared.key 1 (omega arith),
            stores_at _ y.me 1 _ (stands_let_go l s t word may u v E.went E.own next y go) next (λ e. absurd (omega arith))
                (λ w n known. record {
                  word = refl;
                  there = tt;
                  can = refl;
                  becomes = stores_it l s t word may u v E.went E.own next y go w n known;
                }),
          ),
        ),
      ),
    )

pub returns : goal.returns
returns c s may =
    let t = c.args.token.now in
    let l = c.args.self.now in let word : ℕ = c.args.ticket in let E = c.load-notified.ensures in let u = c.load-notified.new.token in
    let v : ℕ = c.load-notified.result in let next : ℕ = c.let_go-next.result in let y = c.let_go-next.new.token in
    let go = c.let_go-next.ensures may.ticket (may_let_go l s t word may u v E.went E.own) in let F = c.store.ensures in
    forwent l s t word may u v E.went E.own next y go c.store.new.token F.went.0 F.went.1 F.own
