use Rattle.std.proofs.Common.{◌≡◌, if◌then◌else◌, ◌++◌, ◌∷◌, [], List, Bool, true, false, Some, All, is_ok, subst, sym, ◌∙◌}
use Rattle.std.proofs.lemmas.List.Elements.{All-pop, All-push}
use Rattle.running_tests.proofs.lists.crew.join_all.Goals as goal

-- as many as there is memory for
kept : {X : Type 0} (P : X → Type 0) (xs ys : List X) (x : X) (fits : Bool) → ys ≡ (if fits then xs ++ x ∷ [] else xs) → All P xs → P x → All P ys
kept P xs ys x true is all its = subst (All P) (sym is) (All-push P xs x all its)
kept P xs ys x false is all its = subst (All P) (sym is) all

pub loop-waiter-preserved : goal.loop-waiter-preserved
loop-waiter-preserved g c =
    let here = c.loop-waiter.invariant in
    let popped = All-pop (λ w. w.promise.list.now ≡ c.args.list.now) c.loop-waiter.waiters.items c.pop.new.self.items (Some c.in-Some.waiter)
    c.in-Some.ensures.items here.0 in (
      popped.0,
      kept (λ s. s.list ≡ c.args.list.now) c.loop-waiter.seats.items _ c.join.result (is_ok c.push-in-Some.result) c.push-in-Some.ensures.items here.1
          (c.join.ensures ∙ popped.1),
    )
