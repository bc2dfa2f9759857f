-- What keeps the reader's own numbers small, whatever the lines are.
use Rattle.std.specs.Prelude.{⊤, ◌+◌, ◌≤◌, length}
use Rattle.std.specs.Option.{unwrap_or}
use Rattle.std.specs.List.{All}
use Rattle.program.specs.declared.draft.ProgramDraft.{ProgramDraft}
use Rattle.program.specs.declared.statement.Written.{Written}
use Rattle.program.specs.declared.meant.Meant.{Meant}
use Rattle.program.specs.declared.meant.Meant.TheVariants as meant
use Rattle.program.specs.Bounds.{AreNear}
use Rattle.program.specs.Codes.{IsClosed, JumpsByLabel, size_of, width}

pub record IsFitting (d : ProgramDraft) : Type 0 where
  pub near : AreNear d.names
  pub few_words : length d.words ≤ 32
  pub few_counters : length d.counters ≤ 32
  pub short : size_of d.codes d.body ≤ 255
  pub by_label : All (λ (w : Written). JumpsByLabel w.statement) d.body
  pub closed : All IsClosed d.codes

-- there is room for what a line means
abbrev pub FitsMeant : ProgramDraft → Meant → Type 0
FitsMeant d (meant.Words name members v) = length d.words + unwrap_or members 1 ≤ 32
FitsMeant d (meant.Counters name members v) = length d.counters + unwrap_or members 1 ≤ 32
FitsMeant d (meant.Statement s) = (size_of d.codes d.body + width d.codes s ≤ 255) × JumpsByLabel s
FitsMeant d m = ⊤
