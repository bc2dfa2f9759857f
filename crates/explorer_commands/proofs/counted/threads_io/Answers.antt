use Rattle.std.proofs.Common.{inr}
use Rattle.explorer_answers.proofs.Telling.{all_tell, answers, begun_tells}
use Rattle.explorer_commands.specs.ThreadsText.{IsThreadsAnswer}
use Rattle.explorer_commands.proofs.counted.threads_io.Goals as goal

pub returns-clause-whole : goal.returns-clause-whole
returns-clause-whole g c =
    let answer = c.threads_answer in
    all_tell _ _ _ _ _ (answers (IsThreadsAnswer c.args.workers c.args.rounds) answer.result answer.ensures (λ text exit short. inr short))
    c.tell.ensures.whole

pub returns-clause-begun : goal.returns-clause-begun
returns-clause-begun g c =
    let answer = c.threads_answer in
    begun_tells _ _ _ _ _ (answers (IsThreadsAnswer c.args.workers c.args.rounds) answer.result answer.ensures (λ text exit short. inr short))
    c.tell.ensures.begun
