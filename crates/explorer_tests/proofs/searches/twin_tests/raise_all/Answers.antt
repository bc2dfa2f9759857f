use Rattle.std.specs.Prelude.{IsTrue, ⊤}
use Rattle.std.proofs.lemmas.Result.{IfOk-weaker}
use Rattle.search.specs.Alike.{IsCount, IsReached}
use Rattle.search.specs.Extent.{IsExtent}
use Rattle.explorer_tests.specs.Twins.{Pair, rules_of}
use Rattle.explorer_tests.specs.declared.searches.twin_tests.Twins.{Twins}
use Rattle.explorer_tests.proofs.Twins.{key_like, like_key, told_alike}
use Rattle.explorer_tests.proofs.searches.twin_tests.raise_all.Goals as goal

-- the two numbers of a machine
abbrev numbers_of : Twins → Pair
numbers_of twins = (twins.first, twins.second)

pub search_all-requires-clause-keys : goal.search_all-requires-clause-keys
search_all-requires-clause-keys c = λ m n s t a b runs there. (key_like _ _, like_key _ _)

pub returns-clause-counted : goal.returns-clause-counted
returns-clause-counted c =
    let start : Pair = (c.args.from, c.args.from) in
    IfOk-weaker c.search_all.result (λ told. IsExtent (λ twins. ⊤) numbers_of rules_of start told.extent)
    (λ told. IsTrue told.extent.complete → IsCount (IsReached rules_of start) told.extent.counted)
    (λ told it. it.counted_in_all (told_alike c.args.from (λ twins. ⊤) numbers_of)) c.search_all.ensures.extent
