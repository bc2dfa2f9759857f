use Rattle.std.proofs.Common.{ℕ, ap, sym, ◌∙◌}
use Rattle.waiters.proofs.CloneLemmas.{SameValues-clone, SameValues-grown}
use Rattle.sema_root.proofs.Copying.{fits-copied, seen-copied, IsPlanted-copied}
use Rattle.sema_root.proofs.treap.TreapClone.clone.Goals as goal

pub invariant_of-result : goal.invariant_of-result
invariant_of-result c =
    let nodes = c.self.inside.branches.nodes in
    let reserves = c.in_ok-reserve_exact.ensures in
    let copied = SameValues-clone _ nodes c.in_ok-nodes.nodes (λ x y is. is) c.in_ok-nodes.ensures.cases in
    let same = λ (key : ℕ). SameValues-grown c.in_ok-nodes.nodes c.reserve_exact.new.self reserves.rest_kept key ∙ copied key in
    let free = c.room.ensures ∙ sym (ap (λ treap. treap.room) c.self.view_is) in
    IsPlanted-copied nodes c.reserve_exact.new.self same _ _ c.self.invariant
    (fits-copied nodes c.reserve_exact.new.self same _ _ c.self.invariant _ free reserves.room)

pub returns : goal.returns
returns c =
    let nodes = c.self.inside.branches.nodes in
    let reserves = c.in_ok-reserve_exact.ensures in
    let copied = SameValues-clone _ nodes c.in_ok-nodes.nodes (λ x y is. is) c.in_ok-nodes.ensures.cases in
    let same = λ (key : ℕ). SameValues-grown c.in_ok-nodes.nodes c.reserve_exact.new.self reserves.rest_kept key ∙ copied key in
    let free = c.room.ensures ∙ sym (ap (λ treap. treap.room) c.self.view_is) in
    record {
      cases = seen-copied nodes c.reserve_exact.new.self same _ _ c.self.invariant
          (fits-copied nodes c.reserve_exact.new.self same _ _ c.self.invariant _ free reserves.room) ∙ c.self.view_is;
    }
