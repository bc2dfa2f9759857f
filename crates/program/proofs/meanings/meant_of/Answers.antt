use Rattle.std.proofs.Common.{◌∙◌}
use Rattle.program.proofs.FallingThrough.{statement_is}
use Rattle.program.proofs.meanings.meant_of.Goals as goal

pub returns-in_default : goal.returns-in_default
returns-in_default c =
    let d = c.in_default in
    c.said_of.ensures
    ∙ statement_is c.args.names.now c.args.ended c.args.line (record {
      blank = d.not-Blank;
      const = d.not-Const;
      word = d.not-Word;
      counter = d.not-Counter;
      list = d.not-List;
      registers = d.not-Registers;
      section = d.not-Section;
      program = d.not-Program;
      seats = d.not-Seats;
      most = d.not-Most;
      apart = d.not-Apart;
      passed = d.not-Passed;
      finally = d.not-Finally;
    })
