use Rattle.std.proofs.Common.{List, [], ◌∷◌, ◌++◌, map, sym, ap, ◌∙◌, subst, arith}
use mathlib.Core.Option as slot
use Rattle.running_rows.specs.Rule.{Opens}
use Rattle.sync_guarded.specs.Rule.{guard_rows}
use Rattle.sync_guarded.proofs.Starting.{opens}
use Rattle.sync_guarded.proofs.guarded.Guarded.lay.Goals as goal

pub new-requires : goal.new-requires
new-requires g c = (
  omega arith,
  subst (λ (l : List g.row.T.Denot). Opens guard_rows c.args.seats (0 ∷ 0 ∷ []) (map slot.some l))
      (sym (c.push_reserved.ensures.items ∙ ap (λ l. l ++ c.args.value ∷ []) c.in-Ok.ensures.items))
      (opens c.args.seats c.args.value c.requires),
)
