use Rattle.running_tests.proofs.lists.many_tests.+all_of_so_many.Given as goal

abbrev pub decreases-all_of_so_many : goal.decreases-all_of_so_many
decreases-all_of_so_many g l = l.left
