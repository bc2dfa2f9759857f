use Rattle.explorer_tests.proofs.searches.team_tests.turn.Goals as goal

pub search-requires-clause-keys : goal.search-requires-clause-keys
search-requires-clause-keys g c = λ m n s t a b runs there. (λ same. same, λ same. same)

pub search_by-requires-clause-keys : goal.search_by-requires-clause-keys
search_by-requires-clause-keys g c κs within = λ m n s t a b runs there. (λ same. same, λ same. same)
