-- What is wrong with one line.
use Rattle.std.proofs.Common.{◌≡◌, true, false, Option, Some, None, Err, Ok, inl, inr, refl, sym, subst}
use Rattle.std.specs.List.{list_all}
use Rattle.std.specs.Prelude.{ok_or}
use Rattle.scenario_text.specs.Causes.{is_printable}
use Rattle.scenario_text.specs.Phrases.{ReadsAs}
use Rattle.scenario_text.specs.Pieces.{Piece}
use Rattle.scenario_text.proofs.Parts.{found, only, none}
use Rattle.program_text.specs.declared.cause.ProgramCause.TheVariants.{Form}
use Rattle.program_text.specs.declared.lines.SpelledLine.{SpelledLine}
use Rattle.program_text.specs.Lines.{Says}
use Rattle.program_text.specs.Causes.{IsReadable}
use Rattle.program_text.specs.Answers.{IsOnlyRight, Judges}

formless : (p : Piece) → (p.ended ≡ false → ⊥) → list_all is_printable p.text ≡ true → ReadsAs (Says p.text) None → Judges p (Err Form)
formless p ended printable h = inr (ended, inr ((λ f. absurd cc), inl ((λ line q. none (Says p.text) line h q), refl)))

right : (p : Piece) (l : SpelledLine) → (p.ended ≡ false → ⊥) → list_all is_printable p.text ≡ true
    → ReadsAs (Says p.text) (Some l) → Judges p (Ok l)
right p l ended printable h =
    let s = found (Says p.text) l h in
    ((s, (ended, ((λ f. absurd cc), ((λ f. f l s), tt)))), (λ m. ((λ q. only (Says p.text) l m h q), (λ e. subst (Says p.text) (sym e) s))))

-- what is read, if anything is
pub judged : (p : Piece) (o : Option SpelledLine) → (p.ended ≡ false → ⊥) → list_all is_printable p.text ≡ true
    → ReadsAs (Says p.text) o → Judges p (ok_or o Form)
judged p None ended printable h = formless p ended printable h
judged p (Some l) ended printable h = right p l ended printable h

-- a line that is right can be read
pub readable : (p : Piece) (l : SpelledLine) → IsOnlyRight p l → IsReadable p
readable p l h = (h.0.1.0, h.0.1.1.0)
