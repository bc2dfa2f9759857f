use Rattle.std.proofs.Common.{◌≢◌, ℕ, ◌<◌, get_or}
use Rattle.program_text.specs.Verb.{verb_text}
use Rattle.program_text.specs.declared.reader.verb.Verb.TheVariants as verb
use Rattle.program_text.proofs.reader.verb.find_verb.Given as goal

abbrev pub invariant-loop-verb : goal.invariant-loop-verb
invariant-loop-verb l = (k : ℕ) → k < l.verb-index → l.word ≢ verb_text (get_or l.verbs k verb.Const)
