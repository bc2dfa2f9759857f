use Rattle.std.proofs.Common.{◌≡◌, take}
use Rattle.std.specs.List.{AllByRecursion}
use Rattle.program_text.specs.Words.{texts, IsNameText}
use Rattle.program_text.proofs.reader.shape.read_names.Given as goal

abbrev pub invariant-loop-word : goal.invariant-loop-word
invariant-loop-word l = (l.names.items ≡ texts (take l.word-index l.words)) × AllByRecursion IsNameText l.names.items
