use Rattle.explorer_tests.proofs.searches.team_tests.turn_all.Goals as goal

pub search_all-requires-clause-keys : goal.search_all-requires-clause-keys
search_all-requires-clause-keys g c = λ m n s t a b runs there. (λ same. same, λ same. same)

pub search_all_by-requires-clause-keys : goal.search_all_by-requires-clause-keys
search_all_by-requires-clause-keys g c κs within = λ m n s t a b runs there. (λ same. same, λ same. same)
