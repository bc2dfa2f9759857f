use Rattle.std.proofs.Common.{List, ℕ, ◌++◌, Some, None, sym, ap, ◌∙◌, arith, rules}
use Rattle.std.proofs.lemmas.Str.Pattern.{split_parts}
use Rattle.program_text.specs.Words.{parts_of, not_empty, texts}
use Rattle.program_text.proofs.Spelling.{turn, last}
use Rattle.program_text.proofs.reader.split.split_words.Goals as goal

pub loop-word-preserved : goal.loop-word-preserved
loop-word-preserved c =
    let s = split_parts 32 c.loop-word.rest.now (Some (c.in-Some.word, c.in-Some.after)) c.in-Some.ensures.cases (omega arith) in (
      search rules,
      turn c.args.line.now c.loop-word.rest.now c.in-Some.word.now c.in-Some.after.now (texts c.loop-word.words.items) c.loop-word.invariant.1 s.0 s.1
          ∙ ap (λ (x : List (List ℕ)). x ++ not_empty (parts_of c.in-Some.after.now)) (sym c.in_ok-push_part.ensures),
    )

pub returns : goal.returns
returns c =
    c.in_ok-push_part-2.ensures
    ∙ sym (last c.args.line.now c.loop-word.rest.now (texts c.loop-word.words.items) c.loop-word.invariant.1
    (split_parts 32 c.loop-word.rest.now None c.in_default.ensures.cases (omega arith)))
