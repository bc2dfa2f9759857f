use Rattle.std.proofs.Common.{rules, ◌==◌, ◌∙◌, refl, sym, subst}
use mathlib.Core.Option.{none}
use prog.Atomic.{either}
use Rattle.atomic_table.specs.Table.{step}
use Rattle.running_rows.specs.Strides.{runs_lock, Took}
use Rattle.running_rows.specs.Rule.{IsSomeones}
use Rattle.running_rows.specs.Owing.{Owes}
use Rattle.running_rows.proofs.Holding.{lock_leaves, allowed_since}
use Rattle.running_rows.proofs.locks.Running+S+View+V+T+K+OneWorld+R.take_lock.Goals as goal

pub compare_exchange-requires : goal.compare_exchange-requires
compare_exchange-requires g c = let same = c.loop.invariant in (
  same.0 ∙ c.requires.own.0,
  c.requires.words.0,
  allowed_since g.R.Rows.family _ _ _ _ c.args.token.now.me _ (λ n. either (n == 0) 1 n)
      (runs_lock g.R.Rows.family g.A.Start.at (step c.args.self.now.table.shared.table_id.slots c.args.word 0 1 none))
      c.requires.own.1 (lock_leaves g.R.Rows.family _ _ (_, c.requires.futex)) c.requires.owes same.1,
)

pub loop-init : goal.loop-init
loop-init g c = (refl, refl)

pub returns-then-compare_exchange-eq0-clause-own : goal.returns-then-compare_exchange-eq0-clause-own
returns-then-compare_exchange-eq0-clause-own g c = c.compare_exchange.ensures.0 ∙ c.loop.invariant.0

pub returns-then-compare_exchange-eq0-clause-took : goal.returns-then-compare_exchange-eq0-clause-took
returns-then-compare_exchange-eq0-clause-took g c =
    subst (λ m. Took g.R.Rows.family
    (g.A.Start.at (step c.args.self.now.table.shared.table_id.slots c.args.word 0 1 none)) m c.compare_exchange.new.seat.me)
    c.loop.invariant.1
    (c.compare_exchange.ensures.2.1 c.if-compare_exchange-eq0.true)

pub try_later-requires : goal.try_later-requires
try_later-requires g c = let same = c.compare_exchange.ensures.2.0 c.if-compare_exchange-eq0.false ∙ c.loop.invariant.1 in (
  search rules,
  (
    (c.compare_exchange.ensures.0 ∙ c.loop.invariant.0 ∙ c.requires.own.0, subst (λ m. IsSomeones g.R.Rows.family m.0) (sym same) c.requires.own.1),
    (
      c.requires.words,
      (
        c.requires.futex,
        subst (λ m. Owes g.R.Rows.family (g.R.Rows.family.key c.args.self.now.table.shared.key) m c.args.word (λ n. either (n == 0) 1 n)
            (runs_lock g.R.Rows.family g.A.Start.at (step c.args.self.now.table.shared.table_id.slots c.args.word 0 1 none) m)) (sym same) c.requires.owes,
      ),
    ),
  ),
)

pub returns-then-try_later-clause-own : goal.returns-then-try_later-clause-own
returns-then-try_later-clause-own g c = c.try_later.ensures.own ∙ c.compare_exchange.ensures.0 ∙ c.loop.invariant.0

pub returns-then-try_later-clause-took : goal.returns-then-try_later-clause-took
returns-then-try_later-clause-took g c =
    subst (λ m. Took g.R.Rows.family (g.A.Start.at (step c.args.self.now.table.shared.table_id.slots c.args.word 0 1 none)) m c.try_later.new.token.me)
    (c.compare_exchange.ensures.2.0 c.if-compare_exchange-eq0.false ∙ c.loop.invariant.1) c.if-try_later.ensures.took

pub loop-preserved : goal.loop-preserved
loop-preserved g c = (
  c.try_later.ensures.own ∙ c.compare_exchange.ensures.0 ∙ c.loop.invariant.0,
  c.if-try_later.ensures.took ∙ c.compare_exchange.ensures.2.0 c.if-compare_exchange-eq0.false ∙ c.loop.invariant.1,
)
