-- What the faults of a scenario's text print.
use Rattle.std.specs.Prelude.{ℕ, List, ◌++◌, codes}
use Rattle.std.specs.Fmt.{decimal}
use Rattle.scenario_text.specs.declared.read_fault.Cause.{Cause}
use Rattle.scenario_text.specs.declared.read_fault.Cause.TheVariants.{Cut, Byte, Form, Place, Range, TooMany}
use Rattle.scenario_text.specs.declared.read_fault.Cause.TheVariants.{Undeclared, Ticket, End, NoMemory}
use Rattle.scenario_text.specs.declared.read_fault.ReadFault.{ReadFault}

abbrev pub cause_text : Cause → List ℕ
cause_text Cut = codes "cut"
cause_text Byte = codes "byte"
cause_text Form = codes "form"
cause_text Place = codes "place"
cause_text Range = codes "range"
cause_text TooMany = codes "too many"
cause_text Undeclared = codes "undeclared"
cause_text Ticket = codes "ticket"
cause_text End = codes "end"
cause_text NoMemory = codes "no memory"

-- the line's number and the cause
abbrev pub read_fault_text : ReadFault → List ℕ
read_fault_text fault = codes "line " ++ decimal fault.line ++ codes ": " ++ cause_text fault.cause
