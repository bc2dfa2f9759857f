use Rattle.std.proofs.Common.{Some, None, sym, ap, ◌∙◌, arith}
use Rattle.std.proofs.lemmas.Str.Pattern.{split_parts}
use Rattle.program_text.specs.Words.{without_comment}
use Rattle.program_text.proofs.Spelling.{comment_cut, comment_none}
use Rattle.program_text.proofs.reader.split.before_comment.Goals as goal

pub returns-in-Some : goal.returns-in-Some
returns-in-Some c =
    let s = split_parts 35 c.args.line.now (Some (c.in-Some.before, c.in-Some.field-0-1)) c.in-Some.ensures.cases (omega arith) in
    sym (ap without_comment s.0 ∙ comment_cut c.in-Some.before.now c.in-Some.field-0-1.now s.1)

pub returns-in-None : goal.returns-in-None
returns-in-None c = sym (comment_none c.args.line.now (split_parts 35 c.args.line.now None c.in-None.ensures.cases (omega arith)))
