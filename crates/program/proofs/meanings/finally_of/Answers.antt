use Rattle.std.proofs.Common.{sym, subst}
use Rattle.program.specs.Bounds.{IsNearWhere}
use Rattle.program.proofs.NearNames.{near_shared}
use Rattle.program.proofs.meanings.finally_of.Goals as goal

pub fixed_place-requires : goal.fixed_place-requires
fixed_place-requires c = subst IsNearWhere (sym c.shared_of.ensures) (near_shared c.args.names.now c.args.place.now.name c.requires)
