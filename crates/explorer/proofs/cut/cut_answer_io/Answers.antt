use Rattle.std.proofs.Common.{rules, refl, inr, Option, None, option_map, string_bytes}
use Rattle.explorer_answers.specs.declared.exit.Exit.TheVariants.{Refused}
use Rattle.explorer_answers.specs.Output.{no_memory}
use Rattle.explorer_answers.specs.Writing.{WritesBeginning}
use Rattle.explorer.specs.Invocation.{IsAnswerWithin}
use Rattle.explorer.proofs.cut.cut_answer_io.Goals as goal

pub returns-in_err-refuse_io-in-Err-Write-clause-begun : goal.returns-in_err-refuse_io-in-Err-Write-clause-begun
returns-in_err-refuse_io-in-Err-Write-clause-begun g c = λ e.
    (no_memory, Refused, (None, inr (refl, refl)), c.in_err-refuse_io-in-Err-Write.ensures.begun)

pub returns-in_err-refuse_io-in-Err-clause-begun : goal.returns-in_err-refuse_io-in-Err-clause-begun
returns-in_err-refuse_io-in-Err-clause-begun g c = λ e.
    (no_memory, Refused, (None, inr (refl, refl)), c.in_err-refuse_io-in-Err.ensures.begun)

pub returns-in_err-write_all-in-Ok-fit_tables-clause-begun : goal.returns-in_err-write_all-in-Ok-fit_tables-clause-begun
returns-in_err-write_all-in-Ok-fit_tables-clause-begun g c = λ e.
    let aside = option_map string_bytes c.in-Ok.told.aside in
    let is : IsAnswerWithin c.args.columns c.args.asked.now (g.R.Source.contents c.args.reader.now)
    (g.R.Source.contents c.answer_io.new.reader) aside c.in-Ok-fit_tables.fitted.text.items c.in-Ok.told.exit = search rules in
    let begun : WritesBeginning (g.O.Sink.contents c.args.out.now) (g.O.Sink.contents c.write_all.new.out)
    c.in-Ok-fit_tables.fitted.text.items = search rules in
    (c.in-Ok-fit_tables.fitted.text.items, c.in-Ok.told.exit, (aside, is), begun)
