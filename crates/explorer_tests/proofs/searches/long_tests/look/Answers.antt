use Rattle.std.proofs.Common.{ℕ, List, [], ◌∷◌, get_or, ap}
use Rattle.explorer_tests.proofs.searches.long_tests.look.Goals as goal

pub search-requires-clause-keys : goal.search-requires-clause-keys
search-requires-clause-keys g c = λ m n s t a b runs there. (
  (λ same. ap (λ (key : List ℕ). get_or key 0 0) same),
  (λ same. ap (λ (place : ℕ). place ∷ []) same),
)
