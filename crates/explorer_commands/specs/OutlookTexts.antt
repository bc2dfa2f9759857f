-- What is told of who may be passed over in a lock program, and how often.
use Rattle.std.specs.Prelude.{ℕ, List, [], ◌∷◌, ◌++◌, flat_map, slice_index_or, codes}
use Rattle.std.specs.Fmt.{decimal}
use Rattle.explorer_answers.specs.FoundText.{seats_text}
use Rattle.program_search.specs.declared.outlooks.Passes.{Passes}
use Rattle.program_search.specs.declared.outlooks.Passes.TheVariants.{Never, AtMost, Endless}
use Rattle.program_search.specs.declared.outlooks.SectionPasses.{SectionPasses}

-- what is bad, which has this text, and the text of the schedule that leads there
abbrev pub told_bad : List ℕ → List ℕ → List ℕ
told_bad kind schedule = codes "bad: " ++ (kind ++ (codes "\nschedule: " ++ (schedule ++ codes "\n")))

-- a schedule, and the round behind it
abbrev pub round_text : List ℕ → List ℕ → List ℕ
round_text [] round = codes "(" ++ seats_text round ++ codes ")"
round_text (seat ∷ seats) round = seats_text (seat ∷ seats) ++ codes " (" ++ seats_text round ++ codes ")"

abbrev pub starved_text : ℕ → List ℕ
starved_text seat = codes "starved, seat " ++ decimal seat

-- a line `passed` is broken
abbrev pub broken_text : ℕ → List ℕ
broken_text line = codes "passed, line " ++ decimal line

-- how often a seat is passed at most, which one, and the schedule by which it is
abbrev pub passes_text : Passes → List ℕ
passes_text Never = codes "never\n"
passes_text (AtMost count schedule seat) =
    codes "at most " ++ (decimal count ++ (codes ", seat " ++ (decimal seat
    ++ (codes "\nschedule: " ++ (seats_text schedule.items ++ codes "\n")))))
passes_text (Endless schedule round seat) =
    codes "without end, seat " ++ (decimal seat
    ++ (codes "\nschedule: " ++ (round_text schedule.items round.items ++ codes "\n")))

-- of a section, where sections have these names
abbrev pub section_text : List (List ℕ) → SectionPasses → List ℕ
section_text names told =
    codes "passed: " ++ (slice_index_or names told.section [] ++ (codes ", " ++ passes_text told.passes))

-- of each
abbrev pub sections_text : List (List ℕ) → List SectionPasses → List ℕ
sections_text names all = flat_map (section_text names) all
