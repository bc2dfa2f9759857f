use Rattle.running_tests.proofs.roots.both_tests.+walk.Given as goal

abbrev pub decreases-walk : goal.decreases-walk
decreases-walk l = l.levels
