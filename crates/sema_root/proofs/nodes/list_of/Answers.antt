use Rattle.std.proofs.Common.{sym}
use Rattle.sema_root.proofs.Standing.{Holds-occupied, top_value-none, top_value-some}
use Rattle.sema_root.proofs.nodes.list_of.Goals as goal

pub returns-in_default : goal.returns-in_default
returns-in_default c = sym (top_value-none _ _ _ c.in_default.is c.find.ensures)

pub index-requires : goal.index-requires
index-requires c = Holds-occupied _ _ _ _ c.in-Some.is c.find.ensures

pub returns : goal.returns
returns c = sym (top_value-some _ _ _ _ _ c.in-Some.is c.index.ensures c.find.ensures)
