use Rattle.std.proofs.Common.{None, length, sym, ◌∙◌, arith}
use Rattle.std.proofs.lemmas.Bool.{eqb-false}
use Rattle.std.proofs.lemmas.Str.Pattern.{strip_suffix_char}
use Rattle.explorer_commands.proofs.Rounds.{not_spaced}
use Rattle.explorer_commands.proofs.on_program.round_text.unspaced.Goals as goal

pub returns-in-None : goal.returns-in-None
returns-in-None c =
    not_spaced c.args.text.now (eqb-false (length c.args.text.now) 0 (sym c.is_empty.ensures ∙ c.if-is_empty.false))
    (strip_suffix_char 32 c.args.text.now None c.in-None.ensures.cases (omega arith))
