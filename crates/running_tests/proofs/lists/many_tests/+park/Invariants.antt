use Rattle.running_tests.proofs.lists.many_tests.+park.Given as goal

abbrev pub decreases-park : goal.decreases-park
decreases-park g l = l.left
