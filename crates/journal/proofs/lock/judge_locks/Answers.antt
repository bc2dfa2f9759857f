use Rattle.std.proofs.Common.{◌≡◌, ℕ, ◌+◌, length, sym, subst, arith}
use Rattle.journal.specs.Locks.{IsFirstOf}
use Rattle.journal.proofs.Locks.{first_more}
use Rattle.journal.proofs.lock.judge_locks.Goals as goal

pub loop-lock-preserved : goal.loop-lock-preserved
loop-lock-preserved c =
    subst (IsFirstOf c.args.journal.now c.args.locks.now (c.loop-lock.lock-index + 1)) (sym c.earlier-first.ensures)
    (first_more c.args.journal.now c.args.locks.now c.loop-lock.lock-index c.loop-lock.first c.judge_lock.result c.loop-lock.invariant c.judge_lock.ensures)

pub returns : goal.returns
returns c =
    let all : c.loop-lock.lock-index ≡ length c.args.locks.now = omega (arith, c.loop-lock.auto.lock-index-end, c.loop-lock-test.false) in
    subst (λ (n : ℕ). IsFirstOf c.args.journal.now c.args.locks.now n c.loop-lock.first) all c.loop-lock.invariant
