use Rattle.std.proofs.Common.{◌≡◌, ◌∙◌, ℕ, List, [], ◌∷◌, ◌++◌, ap, subst}
use Rattle.std.specs.Prelude.{string_bytes, codes}
use Rattle.std.specs.Fmt.{decimal}
use Rattle.explorer_answers.specs.JournalHelp.{line_help, wrong_text}
use Rattle.explorer_answers.proofs.journal.explain_journal.Goals as goal

pub returns : goal.returns
returns c =
    let P : List ℕ → Type 0 = λ wrong. string_bytes c.in_ok-told.told ≡ codes "line " ++ (decimal c.args.line ++ (codes ": " ++ (wrong ++ 10 ∷ []))) in
    let told : P (wrong_text c.wrong_with-wrong.result) = c.in_ok-told.ensures.ok in
    subst P (c.wrong_with-wrong.ensures ∙ ap line_help c.line_at.ensures) told
