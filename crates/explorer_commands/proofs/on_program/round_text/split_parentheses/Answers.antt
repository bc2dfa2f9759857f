use Rattle.std.proofs.Common.{ℕ, List, Some, None, [], ◌∷◌, ◌++◌, ap, ◌∙◌, arith}
use Rattle.std.proofs.lemmas.Str.Pattern.{split_after, split_parts, strip_suffix_char}
use Rattle.explorer_commands.proofs.Rounds.{each_free, free}
use Rattle.explorer_commands.proofs.on_program.round_text.split_parentheses.Goals as goal

pub returns-in-Some-strip_suffix : goal.returns-in-Some-strip_suffix
returns-in-Some-strip_suffix c =
    let s = split_parts 40 c.args.text.now (Some (c.in-Some.before, c.in-Some.behind)) c.in-Some.ensures.cases (omega arith) in
    let t = strip_suffix_char 41 c.in-Some.behind.now (Some c.in-Some-strip_suffix.inner) c.in-Some-strip_suffix.ensures.cases (omega arith) in
    (s.0 ∙ ap (λ (x : List ℕ). c.in-Some.before.now ++ 40 ∷ x) t, free c.in-Some.before.now s.1)

pub returns-in-None-strip_suffix : goal.returns-in-None-strip_suffix
returns-in-None-strip_suffix c = λ before inner is e.
    (let s = split_after 40 c.args.text.now before (inner ++ 41 ∷ []) (Some (c.in-Some.before, c.in-Some.behind)) c.in-Some.ensures.cases
    (omega arith) e (each_free before is) in
    strip_suffix_char 41 c.in-Some.behind.now None c.in-None-strip_suffix.ensures.cases (omega arith) inner s.1)

pub returns-in-None : goal.returns-in-None
returns-in-None c = λ before inner is e.
    split_after 40 c.args.text.now before (inner ++ 41 ∷ []) None c.in-None.ensures.cases (omega arith) e (each_free before is)
