use Rattle.explorer.proofs.cut.shown_answer_io.Goals as goal

pub returns-in-Some-clause-begun : goal.returns-in-Some-clause-begun
returns-in-Some-clause-begun g c = λ e. rw c.in-Some.is (c.cut_answer_io.ensures.begun e)
