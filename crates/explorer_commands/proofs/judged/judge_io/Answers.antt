use Rattle.std.proofs.Common.{rules}
use Rattle.explorer_commands.specs.JudgeText.{IsJudgeInput}
use Rattle.explorer_answers.proofs.Telling.{all_reply, beginning_tells}
use Rattle.explorer_commands.proofs.Judging.{replies_judgement, tells_judgement}
use Rattle.explorer_commands.proofs.judged.judge_io.Goals as goal

pub returns-clause-whole : goal.returns-clause-whole
returns-clause-whole g c =
    let read : IsJudgeInput c.args.most (g.R.Source.contents c.args.reader.now) (g.R.Source.contents c.read_lines.new.reader) c.deref.result.now =
    search rules in
    all_reply _ _ _ _ _ _ (replies_judgement c.args.demands.now _ _ _ _ _ read c.judge_reply.ensures) c.tell_reply-2.ensures.whole c.tell_reply-2.ensures.aside

pub returns-clause-begun : goal.returns-clause-begun
returns-clause-begun g c = λ e.
    let read : IsJudgeInput c.args.most (g.R.Source.contents c.args.reader.now) (g.R.Source.contents c.read_lines.new.reader) c.deref.result.now =
    search rules in
    beginning_tells _ _ _ _ _ _ e (tells_judgement c.args.demands.now _ _ _ _ _ read c.judge_reply.ensures) c.tell_reply-2.ensures.begun
