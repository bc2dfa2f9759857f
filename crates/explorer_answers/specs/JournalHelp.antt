-- What is said of a line of a journal.
use Rattle.std.specs.Prelude.{ℕ, ◌-◌, cond, ◌∷◌, [], ◌++◌, List, codes}
use Rattle.std.specs.Fmt.{decimal}
use Rattle.scenario_text.specs.Pieces.{pieces, text_at}
use Rattle.explorer_answers.specs.declared.journal.Wrong.{Wrong}
use Rattle.explorer_answers.specs.declared.journal.Wrong.TheVariants.{Return, NoForm}
use Rattle.explorer_answers.specs.Explained.{shown, ends_in_return}

-- what is wrong with a line of which this is shown, and what was expected
unfoldable pub form_text : List ℕ → List ℕ
form_text line =
    codes "no line is spelled \"" ++ line
    ++ (codes "\" here: counter N and list F come first, and then add C S, add C S many N, take C S, queue C S.T, "
    ++ (codes "queue C S.T lifo, leave C S.T R, withdraw C S.T, ticket L S, grant L UPTO S, forgo L N S, "
    ++ codes "each of a counter or list that is declared; a line feed ends each line"))

-- where it ends with a carriage return, that alone
abbrev pub return_text : List ℕ → List ℕ
return_text line = codes "\"" ++ line ++ codes "\" ends in CRLF: a line feed alone ends a line"

abbrev pub wrong_text : Wrong → List ℕ
wrong_text (Return line) = return_text line.now
wrong_text (NoForm line) = form_text line.now

-- what is wrong with the line
abbrev pub line_help : List ℕ → List ℕ
line_help line = cond (ends_in_return line) (return_text (shown line)) (form_text (shown line))

abbrev pub help_about : ℕ → List ℕ → List ℕ
help_about number line = codes "line " ++ (decimal number ++ (codes ": " ++ (line_help line ++ 10 ∷ [])))

-- the line's number, the line as far as it can be printed, and what was expected there
abbrev pub journal_help : List ℕ → ℕ → List ℕ
journal_help text number = help_about number (text_at (number - 1) (pieces text))

-- the line's number, and the line as far as it can be printed
abbrev pub line_shown : List ℕ → ℕ → List ℕ
line_shown text number =
    codes "line " ++ (decimal number
    ++ (codes ": " ++ (shown (text_at (number - 1) (pieces text)) ++ 10 ∷ [])))
