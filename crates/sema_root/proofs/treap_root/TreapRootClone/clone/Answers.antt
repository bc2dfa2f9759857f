use Rattle.std.proofs.Common.{ap, sym, subst, ◌∙◌}
use Rattle.sema_root.specs.Rooted.{shown, IsRooted}
use Rattle.sema_root.proofs.treap_root.TreapRootClone.clone.Goals as goal

pub invariant_of-result : goal.invariant_of-result
invariant_of-result c =
    let seats = c.self.inside.seats in
    subst (λ treap. IsRooted treap c.in_ok-lists.lists seats) (sym c.in_ok-treap.ensures.cases)
    (subst (λ lists. IsRooted c.self.inside.treap lists seats) (sym c.in_ok-lists.ensures.cases) c.self.invariant)

pub returns : goal.returns
returns c =
    let tree = c.self.inside.treap.tree in
    let seats = c.self.inside.seats in
    record {
      cases = ap (λ treap. shown c.in_ok-lists.lists treap.tree c.in_ok-tickets.tickets seats) c.in_ok-treap.ensures.cases
          ∙ ap (λ lists. shown lists tree c.in_ok-tickets.tickets seats) c.in_ok-lists.ensures.cases
          ∙ ap (λ tickets. shown c.self.inside.lists tree tickets seats) c.in_ok-tickets.ensures.cases
          ∙ c.self.view_is;
    }
