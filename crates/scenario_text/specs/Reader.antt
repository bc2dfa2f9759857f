-- What the reader of a scenario's text answers.
use Rattle.std.specs.Prelude.{◌≡◌, ◌↔◌, ℕ, cond, List, Option, Some, None, Result, Ok, Err, []}
use Rattle.scenario_text.specs.declared.read_fault.Cause.{Cause}
use Rattle.scenario_text.specs.declared.read_fault.Cause.TheVariants.{Place, Range, TooMany, Undeclared}
use Rattle.scenario_text.specs.declared.read_fault.Cause.TheVariants.{Ticket, NoMemory}
use Rattle.scenario_text.specs.declared.read_fault.ReadFault.{ReadFault}
use Rattle.scenario_text.specs.declared.reader.line.Line as code
use Rattle.scenario_text.specs.Line.{Line, Spells}
use Rattle.scenario_text.specs.Phrases.{line_of}
use Rattle.scenario_text.specs.Pieces.{Piece, pieces}
use Rattle.scenario_text.specs.Causes.{IsFault, IsReadable, IsRight, is_misplaced, is_out_of_range}
use Rattle.scenario_text.specs.Causes.{is_too_many, is_undeclared, has_wrong_ticket}
use Rattle.scenario_text.specs.ScenarioText.{AreRight, IsRequestOf, IsFirstFault, IsFaultOf, IsReached}

-- x is the one thing of which P holds
abbrev pub IsOnly : {A : Type 0} → (A → Type 0) → A → Type 0
IsOnly {A} P x = (a : A) → P a ↔ (a ≡ x)

-- nothing is such that P holds of it
abbrev pub IsNone : {A : Type 0} → (A → Type 0) → Type 0
IsNone {A} P = (a : A) → P a → ⊥

-- ---- one line

-- causes 4 to 8 of a line that is spelled well
abbrev pub flaw_of : List Line → Line → Option Cause
flaw_of before line =
    cond (is_misplaced before line) (Some Place)
    (cond (is_out_of_range line) (Some Range)
    (cond (is_too_many before line) (Some TooMany)
    (cond (is_undeclared before line) (Some Undeclared)
    (cond (has_wrong_ticket line) (Some Ticket) None))))

-- the line is right, and the text spells no other
abbrev pub IsOnlyRight : List Line → Piece → Line → Type 0
IsOnlyRight before p line = IsRight before p line × IsOnly (Spells p.text) line

-- what the reader of one line answers
abbrev pub Judges : List Line → Piece → Result code.Line Cause → Type 0
Judges before p (Ok line) = IsOnlyRight before p (line_of line)
Judges before p (Err NoMemory) = IsReadable before p
Judges before p (Err cause) = IsFault before p cause

-- ---- the whole text

-- these are the text's lines, and are right: a fault can only stand behind them
pub record AreLinesOf (text : List ℕ) (lines : List Line) : Type 0 where
  pub right : IsOnly (AreRight [] (pieces text)) lines
  pub fault : (f : ReadFault) → IsFirstFault lines [] f ↔ IsFaultOf text f

-- a fault is the text's one fault, and the text has no request; want of memory names a line that was reached,
-- and is neither cut nor unprintable
abbrev pub IsReadFaultBy : List ℕ → ReadFault → Cause → Type 0
IsReadFaultBy text fault NoMemory = IsReached [] (pieces text) fault.line
IsReadFaultBy text fault cause = IsOnly (IsFaultOf text) fault × IsNone (IsRequestOf text)

abbrev pub IsReadFault : List ℕ → ReadFault → Type 0
IsReadFault text fault = IsReadFaultBy text fault fault.cause
