-- What is wrong with one line behind those before it.
use Rattle.std.proofs.Common.{ℕ, Result, Ok, Err, inl, inr, sym}
use Rattle.scenario_text.specs.Pieces.{Piece}
use Rattle.program_text.specs.declared.lines.SpelledLine.{SpelledLine}
use Rattle.program_text.specs.Answers as alone
use Rattle.program_text.specs.declared.cause.ProgramCause.{ProgramCause}
use Rattle.program_text.specs.declared.cause.ProgramCause.TheVariants.{NoMemory}
use Rattle.program.specs.declared.draft.ProgramDraft.{ProgramDraft}
use Rattle.program.specs.Drafts.{next}
use Rattle.program.specs.Answers.{AnswersTo, Judges}

pub judged : (d : ProgramDraft) (n : ℕ) (p : Piece) (line : SpelledLine) (r : Result ProgramDraft ProgramCause) → alone.IsOnlyRight p line
    → AnswersTo (next d n line) r → Judges d n p r
judged d n p line (Ok e) h a = (line, h, sym a)
judged d n p line (Err NoMemory) h a = (h.0.1.0, h.0.1.1.0)
judged d n p line (Err c) h a = inr (line, h, sym a)

-- a line that is wrong by itself
pub misjudged : (d : ProgramDraft) (n : ℕ) (p : Piece) (c : ProgramCause) → alone.Judges p (Err c) → Judges d n p (Err c)
misjudged d n p NoMemory h = h
misjudged d n p c h = inl h
