use Rattle.std.proofs.Common.{◌∙◌, refl, subst, arith}
use mathlib.Core.Option.{none}
use Rattle.atomic_table.specs.Table.{step}
use Rattle.running_rows.specs.Strides.{RanRow, here}
use Rattle.running_rows.proofs.Holding.{allowed_take_since}
use Rattle.running_rows.proofs.sleeping.Running+S+View+V+T+K+OneWorld+R.take_when_granted.Goals as goal

pub swap-found-requires : goal.swap-found-requires
swap-found-requires g c = let same = c.await_grant.ensures.same in let was = c.loop.invariant in (
  same.0 ∙ was.0 ∙ c.requires.own.0,
  c.requires.words.0,
  allowed_take_since g.R.Rows.family _ _ _ _ c.args.token.now.me _ (step c.args.self.now.table.shared.table_id.slots c.args.word 0 0 none)
      c.requires.own.1 (_, c.requires.futex) c.requires.owes (same.1 ∙ was.1),
)

pub loop-init : goal.loop-init
loop-init g c = (refl, refl)

pub returns-then-found-ne0-clause-own : goal.returns-then-found-ne0-clause-own
returns-then-found-ne0-clause-own g c = c.swap-found.ensures.0 ∙ c.await_grant.ensures.same.0 ∙ c.loop.invariant.0

pub returns-then-found-ne0-clause-some : goal.returns-then-found-ne0-clause-some
returns-then-found-ne0-clause-some g c = let z = c.if-found-ne0.true in omega (arith, z)

pub returns-then-found-ne0-clause-went : goal.returns-then-found-ne0-clause-went
returns-then-found-ne0-clause-went g c =
    subst (λ m. RanRow g.R.Rows.family here m c.swap-found.result c.swap-found.new.seat.me) (c.await_grant.ensures.same.1 ∙ c.loop.invariant.1)
    (c.swap-found.ensures.2.1 (returns-then-found-ne0-clause-some g c))

pub loop-preserved : goal.loop-preserved
loop-preserved g c = let same = c.await_grant.ensures.same in
    (c.swap-found.ensures.0 ∙ same.0 ∙ c.loop.invariant.0, c.swap-found.ensures.2.0 c.if-found-ne0.false ∙ same.1 ∙ c.loop.invariant.1)
