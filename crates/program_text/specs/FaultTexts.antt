-- What the faults of a lock program's text print.
use Rattle.std.specs.Prelude.{ℕ, List, ◌++◌, codes}
use Rattle.std.specs.Fmt.{decimal}
use Rattle.program_text.specs.declared.cause.ProgramCause.{ProgramCause}
use Rattle.program_text.specs.declared.cause.ProgramCause.TheVariants.{Cut, Byte, Form, Place, Range, TooMany}
use Rattle.program_text.specs.declared.cause.ProgramCause.TheVariants.{Undeclared, Twice, Array, Label, End}
use Rattle.program_text.specs.declared.cause.ProgramCause.TheVariants.{NoMemory}
use Rattle.program_text.specs.declared.fault.ProgramFault.{ProgramFault}

abbrev pub cause_text : ProgramCause → List ℕ
cause_text Cut = codes "cut"
cause_text Byte = codes "byte"
cause_text Form = codes "form"
cause_text Place = codes "place"
cause_text Range = codes "range"
cause_text TooMany = codes "too many"
cause_text Undeclared = codes "undeclared"
cause_text Twice = codes "twice"
cause_text Array = codes "array"
cause_text Label = codes "label"
cause_text End = codes "end"
cause_text NoMemory = codes "no memory"

-- the line's number and the cause
abbrev pub fault_text : ProgramFault → List ℕ
fault_text fault = codes "line " ++ decimal fault.line ++ codes ": " ++ cause_text fault.cause
