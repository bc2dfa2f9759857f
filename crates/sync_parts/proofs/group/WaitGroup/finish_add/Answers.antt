use Rattle.std.proofs.Common.{ℤ, subst}
use Rattle.std.specs.Int.{w32}
use Rattle.std.proofs.lemmas.Int.{to_z-of_z}
use Rattle.sync_parts.specs.GroupWalks.{Settles}
use Rattle.sync_parts.proofs.group.WaitGroup.finish_add.Goals as goal

pub returns : goal.returns
returns g c =
    let told = rw c.rebuilt.ensures at c.settle.ensures in
    subst (λ (k : ℤ). Settles c.args.token c.args.sema k c.args.word c.settle.result.0 c.settle.result.1) (to_z-of_z w32 c.args.d c.ranges.d) told
