use Rattle.std.proofs.Common.{sym, ◌∙◌, arith}
use Rattle.sema_root.proofs.Standing.{Holds-occupied}
use Rattle.sema_root.proofs.Taking.{missing_there, list_here, AreMergeable-out, IsThere-out, Prunes-there}
use Rattle.sema_root.proofs.branches.leave.Goals as goal
use Rattle.sema_root.proofs.branches.leave.Goals.{then-len-eq1, else-len-eq1}

pub returns-in_default-clause-list : goal.returns-in_default-clause-list
returns-in_default-clause-list c = missing_there _ _ _ _ _ c.seek-link.ensures c.in_default.is

pub index-node-requires : goal.index-node-requires
index-node-requires c = Holds-occupied _ _ _ _ c.in-Some.is c.seek-link.ensures.seeks.comes.searchable.holds

pub len-requires : goal.len-requires
len-requires c = record {
  «open» = c.requires.listed.open_at _ (sym (list_here _ _ _ _ _ c.seek-link.ensures _ _ c.in-Some.is c.index-node.ensures (omega arith)));
}

pub merge-rest-requires : goal.merge-rest-requires
merge-rest-requires c =
    AreMergeable-out _ _ _ _ _ c.seek-link.ensures _ _ c.in-Some.is c.index-node.ensures (omega arith)
    _ c.remove.ensures.updates c.remove.ensures.capacity

pub hang-requires : goal.hang-requires
hang-requires c =
    IsThere-out _ _ _ _ _ c.seek-link.ensures _ _ c.in-Some.is c.index-node.ensures (omega arith)
    _ c.remove.ensures.updates c.remove.ensures.capacity _ _ c.merge-rest.ensures.merges

pub returns-clause-list : goal.returns-clause-list
returns-clause-list c = list_here _ _ _ _ _ c.seek-link.ensures _ _ c.in-Some.is c.index-node.ensures (omega arith)

pub returns-clause-leaves : goal.returns-clause-leaves
returns-clause-leaves c = elim c.if-len-eq1.branch [
  | then-len-eq1 w ↦ record {
    last = λ one. rw w.branches-is (Prunes-there _ _ _ _ _ c.seek-link.ensures _ _ c.in-Some.is c.index-node.ensures (omega arith)
        _ w.remove.ensures.updates w.remove.ensures.capacity _ _ w.merge-rest.ensures.merges
        _ w.remove.ensures.len w.merge-rest.ensures.len w.hang.ensures);
    others = λ more. absurd (more (sym c.len.ensures ∙ w.if-len-eq1.true));
  }
  | else-len-eq1 w ↦ record {
    last = λ one. absurd (omega (arith, one, c.len.ensures, w.if-len-eq1.false));
    others = λ more. w.branches-is;
  }
]
