-- The seats of waits, as they are looked up in a root or a hand.
use Rattle.std.proofs.Common.{◌≡◌, List, [], ◌∷◌, map, refl, ap, ◌∙◌}
use Rattle.waiters.specs.declared.wait.Wait.{Wait}
use Rattle.waiters.specs.declared.wait.WaitId.{WaitId}
use Rattle.waiters.specs.Lists.{seats_of}

pub seats_of_ids : (waits : List Wait) (ids : List WaitId) → map (λ (wait : Wait). wait.id) waits ≡ ids
    → seats_of waits ≡ map (λ (wait : WaitId). wait.seat) ids
seats_of_ids waits ids is = all waits ∙ ap (map (λ (wait : WaitId). wait.seat)) is
  where
    all : (waits : List Wait) → seats_of waits ≡ map (λ (wait : WaitId). wait.seat) (map (λ (wait : Wait). wait.id) waits)
    all [] = refl
    all (w ∷ waits) = ap (λ l. w.id.seat ∷ l) (all waits)
