use Rattle.std.proofs.Common.{rules, ◌==◌, ◌∙◌, refl, sym, subst}
use mathlib.Core.Option.{some}
use prog.Atomic.{either}
use Rattle.atomic_table.specs.Table.{step}
use Rattle.running_rows.specs.Strides.{runs_lock, Took}
use Rattle.running_rows.specs.Rule.{IsSomeones}
use Rattle.running_rows.specs.Owing.{Owes}
use Rattle.running_rows.proofs.Holding.{lock_leaves, allowed_since}
use Rattle.running_rows.proofs.locks.Running+S+View+V+T+K+OneWorld+R.take_lock_for.Goals as goal

pub compare_exchange_with-requires : goal.compare_exchange_with-requires
compare_exchange_with-requires g c = let same = c.loop.invariant in (
  same.0 ∙ c.requires.own.0,
  c.requires.words.0,
  allowed_since g.R.Rows.family _ _ _ _ c.args.token.now.me _ (λ n. either (n == 0) 1 n)
      (runs_lock g.R.Rows.family g.A.Start.at (step c.args.self.now.table.shared.table_id.slots c.args.word 0 1 (some c.args.said.now)))
      c.requires.own.1 (lock_leaves g.R.Rows.family _ _ (_, c.requires.futex)) c.requires.owes same.1,
)

pub loop-init : goal.loop-init
loop-init g c = (refl, refl)

pub returns-then-compare_exchange_with-eq0-clause-own : goal.returns-then-compare_exchange_with-eq0-clause-own
returns-then-compare_exchange_with-eq0-clause-own g c = c.compare_exchange_with.ensures.0 ∙ c.loop.invariant.0

pub returns-then-compare_exchange_with-eq0-clause-took : goal.returns-then-compare_exchange_with-eq0-clause-took
returns-then-compare_exchange_with-eq0-clause-took g c =
    subst (λ m. Took g.R.Rows.family
    (g.A.Start.at (step c.args.self.now.table.shared.table_id.slots c.args.word 0 1 (some c.args.said.now))) m c.compare_exchange_with.new.seat.me)
    c.loop.invariant.1
    (c.compare_exchange_with.ensures.2.1 c.if-compare_exchange_with-eq0.true)

pub try_later_for-requires : goal.try_later_for-requires
try_later_for-requires g c = let same = c.compare_exchange_with.ensures.2.0 c.if-compare_exchange_with-eq0.false ∙ c.loop.invariant.1 in (
  search rules,
  (
    (c.compare_exchange_with.ensures.0 ∙ c.loop.invariant.0 ∙ c.requires.own.0, subst (λ m. IsSomeones g.R.Rows.family m.0) (sym same) c.requires.own.1),
    (
      c.requires.words,
      (
        c.requires.futex,
        subst (λ m. Owes g.R.Rows.family (g.R.Rows.family.key c.args.self.now.table.shared.key) m c.args.word (λ n. either (n == 0) 1 n)
            (runs_lock g.R.Rows.family g.A.Start.at (step c.args.self.now.table.shared.table_id.slots c.args.word 0 1 (some c.args.said.now)) m)) (sym same) c.requires.owes,
      ),
    ),
  ),
)

pub returns-then-try_later_for-clause-own : goal.returns-then-try_later_for-clause-own
returns-then-try_later_for-clause-own g c = c.try_later_for.ensures.own ∙ c.compare_exchange_with.ensures.0 ∙ c.loop.invariant.0

pub returns-then-try_later_for-clause-took : goal.returns-then-try_later_for-clause-took
returns-then-try_later_for-clause-took g c =
    subst (λ m. Took g.R.Rows.family (g.A.Start.at (step c.args.self.now.table.shared.table_id.slots c.args.word 0 1 (some c.args.said.now))) m c.try_later_for.new.token.me)
    (c.compare_exchange_with.ensures.2.0 c.if-compare_exchange_with-eq0.false ∙ c.loop.invariant.1) c.if-try_later_for.ensures.took

pub loop-preserved : goal.loop-preserved
loop-preserved g c = (
  c.try_later_for.ensures.own ∙ c.compare_exchange_with.ensures.0 ∙ c.loop.invariant.0,
  c.if-try_later_for.ensures.took ∙ c.compare_exchange_with.ensures.2.0 c.if-compare_exchange_with-eq0.false ∙ c.loop.invariant.1,
)
