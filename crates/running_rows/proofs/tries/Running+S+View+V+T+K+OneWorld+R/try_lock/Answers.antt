use Rattle.std.proofs.Common.{◌==◌, ◌∙◌, refl, subst}
use mathlib.Core.Option.{none}
use prog.Atomic.{either}
use Rattle.atomic_table.specs.Table.{step}
use Rattle.running_rows.specs.Strides.{runs_lock, runs_lock_or_look, Took}
use Rattle.running_rows.proofs.Holding.{lock_leaves, allowed_since, owes_lock_or_look}
use Rattle.running_rows.proofs.tries.Running+S+View+V+T+K+OneWorld+R.try_lock.Goals as goal

pub compare_exchange-found-requires : goal.compare_exchange-found-requires
compare_exchange-found-requires g c = let same = c.loop.invariant in (
  same.0 ∙ c.requires.own.0,
  c.requires.word,
  allowed_since g.R.Rows.family _ _ _ _ c.args.token.now.me _ (λ n. either (n == 0) 1 n)
      (runs_lock g.R.Rows.family g.A.Start.at (step c.args.self.now.table.shared.table_id.slots c.args.word 0 1 none))
      c.requires.own.1 (lock_leaves g.R.Rows.family _ _ c.requires.lock) c.requires.owes same.1,
)

pub loop-init : goal.loop-init
loop-init g c = (refl, refl)

pub returns-then-found-eq0-clause-own : goal.returns-then-found-eq0-clause-own
returns-then-found-eq0-clause-own g c = c.compare_exchange-found.ensures.0 ∙ c.loop.invariant.0

pub returns-then-found-eq0-clause-took : goal.returns-then-found-eq0-clause-took
returns-then-found-eq0-clause-took g c =
    subst (λ m. Took g.R.Rows.family
    (g.A.Start.at (step c.args.self.now.table.shared.table_id.slots c.args.word 0 1 none)) m c.compare_exchange-found.new.seat.me)
    c.loop.invariant.1
    (c.compare_exchange-found.ensures.2.1 c.if-found-eq0.true)

pub loop-preserved : goal.loop-preserved
loop-preserved g c = (
  c.compare_exchange-found.ensures.0 ∙ c.loop.invariant.0,
  c.compare_exchange-found.ensures.2.0 c.if-found-eq0.false ∙ c.loop.invariant.1,
)

pub compare_exchange-found-requires-2 : goal.compare_exchange-found-requires-2
compare_exchange-found-requires-2 g c = let same = c.loop.invariant in (
  same.0 ∙ c.requires.own.0,
  c.requires.word,
  allowed_since g.R.Rows.family _ _ _ _ c.args.token.now.me _ (λ n. either (n == 0) 1 n)
      (runs_lock_or_look g.R.Rows.family g.A.Start.at (step c.args.self.now.table.shared.table_id.slots c.args.word 0 1 none))
      c.requires.own.1 (lock_leaves g.R.Rows.family _ _ c.requires.lock)
      (owes_lock_or_look g.R.Rows.family _ g.A.Start.at (step c.args.self.now.table.shared.table_id.slots c.args.word 0 1 none) c.args.token.now.me c.requires.seen c.requires.owes) same.1,
)
