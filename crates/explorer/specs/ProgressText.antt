-- What is told of a search while it runs.
use Rattle.std.specs.Prelude.{ℕ, List, ◌++◌, codes}
use Rattle.std.specs.Fmt.{decimal}
use Rattle.explorer.specs.declared.ticker.Progress.{Progress}

-- what is known where it is broken off: the most steps of schedules that all had their turn, how many classes of
-- worlds it has kept, and how many it may keep; and how long it took, and how many a second that is
abbrev pub progress_text : Progress → List ℕ
progress_text p =
    codes "none up to depth " ++ (decimal p.depth ++ (codes ", " ++ (decimal p.kept
    ++ (codes " worlds of at most " ++ (decimal p.most ++ (codes ", " ++ (decimal p.seconds
    ++ (codes " s, " ++ (decimal p.rate ++ codes " a second")))))))))
