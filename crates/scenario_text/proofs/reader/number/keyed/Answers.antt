use Rattle.std.proofs.Common.{Some}
use Rattle.scenario_text.proofs.Parts.{keyed_reads, stripped_front}
use Rattle.scenario_text.proofs.reader.number.keyed.Goals as goal

pub returns : goal.returns
returns c = keyed_reads c.args.most c.args.keyword.now c.in_ok-strip_prefix.field-0.now c.args.text.now c.number.result
    (stripped_front c.args.keyword.now c.args.text.now (Some c.in_ok-strip_prefix.field-0) c.in_ok-strip_prefix.ensures.cases) c.number.ensures
