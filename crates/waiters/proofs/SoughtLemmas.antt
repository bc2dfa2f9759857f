-- What is left of a list without the wait that is sought: all where there is none, and else one wait less.
use Rattle.std.proofs.Common.{◌≡◌, ◌+◌, List, [], ◌∷◌, length, Bool, true, false, None, IsSome, refl, sym, ap, ◌∙◌, subst, arith}
use Rattle.waiters.specs.declared.wait.Wait.{Wait}
use Rattle.waiters.specs.Lists.{first_sought, without_sought}
use Rattle.waiters.proofs.WalkLemmas.{first-here, first-later, without-here, without-later}

module _ (is : Wait → Bool) where
  pub without-none : (waits : List Wait) → first_sought is waits ≡ None → without_sought is waits ≡ waits
  without-none [] none = refl
  without-none (wait ∷ rest) none = by (is wait) refl (without-none rest)
    where
      by : (here : Bool) → is wait ≡ here → (first_sought is rest ≡ None → without_sought is rest ≡ rest)
          → without_sought is (wait ∷ rest) ≡ wait ∷ rest
      by true e later = absurd (cc (none, first-here is wait rest e))
      by false e later = without-later is wait rest e ∙ ap (λ waits. wait ∷ waits) (later (sym (first-later is wait rest e) ∙ none))

  pub without-length : (waits : List Wait) → IsSome (first_sought is waits)
      → length (without_sought is waits) + 1 ≡ length waits
  without-length [] some = absurd (cc)
  without-length (wait ∷ rest) some = by (is wait) refl (without-length rest)
    where
      by : (here : Bool) → is wait ≡ here → (IsSome (first_sought is rest) → length (without_sought is rest) + 1 ≡ length rest)
          → length (without_sought is (wait ∷ rest)) + 1 ≡ length (wait ∷ rest)
      by true e later = omega (arith, ap length (without-here is wait rest e))
      by false e later =
          let shorter = later (subst IsSome (first-later is wait rest e) some) in
          omega (arith, ap length (without-later is wait rest e))
