use Rattle.std.proofs.Common.{refl}
use Rattle.explorer_answers.specs.declared.exit.Exit.TheVariants.{NothingBad, Refused}
use Rattle.explorer_answers.specs.Output.{no_memory}
use Rattle.explorer.proofs.streams.answer_io.Goals as goal

pub returns-in_err-write_all-in-Help-clause-begun : goal.returns-in_err-write_all-in-Help-clause-begun
returns-in_err-write_all-in-Help-clause-begun g c = λ e.
    rw c.in-Help.is (c.as_bytes.result.now, NothingBad, (c.as_bytes.ensures.value, refl), c.in_err-write_all-in-Help.ensures.begun)

pub returns-in_err-refuse_io-in-NoMemory-clause-begun : goal.returns-in_err-refuse_io-in-NoMemory-clause-begun
returns-in_err-refuse_io-in-NoMemory-clause-begun g c = λ e.
    rw c.in-NoMemory.is (no_memory, Refused, (refl, refl), c.in_err-refuse_io-in-NoMemory.ensures.begun)

pub returns-in-OfText-clause-whole : goal.returns-in-OfText-clause-whole
returns-in-OfText-clause-whole g c = rw c.in-OfText.is c.command_io.ensures.whole

pub returns-in-OfText-clause-begun : goal.returns-in-OfText-clause-begun
returns-in-OfText-clause-begun g c = λ e. rw c.in-OfText.is (c.command_io.ensures.begun e)

pub returns-in-Judge-clause-whole : goal.returns-in-Judge-clause-whole
returns-in-Judge-clause-whole g c = rw c.in-Judge.is c.judge_io.ensures.whole

pub returns-in-Judge-clause-begun : goal.returns-in-Judge-clause-begun
returns-in-Judge-clause-begun g c = λ e. rw c.in-Judge.is (c.judge_io.ensures.begun e)
