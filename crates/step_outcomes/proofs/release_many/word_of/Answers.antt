use Rattle.step_outcomes.proofs.release_many.word_of.Goals as goal

pub returns-in-M7-clause-within : goal.returns-in-M7-clause-within
returns-in-M7-clause-within c counters seats there seat waiter = c.waiter.ensures.within seats seat waiter
