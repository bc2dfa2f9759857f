use Rattle.step_outcomes.proofs.release.word_of.Goals as goal

pub returns-in-R9-clause-within : goal.returns-in-R9-clause-within
returns-in-R9-clause-within c counters seats there seat waiter = c.waiter.ensures.within seats seat waiter
