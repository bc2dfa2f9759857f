-- What a draft declares and says is there, and few, and stays so with a line more.
use Rattle.std.proofs.Common.{◌≡◌, ℕ, ◌+◌, ◌^◌, ◌<◌, ◌≤◌, List, [], ◌∷◌, ◌++◌, length, Option, All, arith}
use Rattle.std.proofs.Common.{length-append, replicate, unwrap_or}
use Rattle.std.specs.Prelude.{⊤}
use Rattle.std.proofs.lemmas.List.{length-replicate}
use Rattle.std.proofs.lemmas.List.Elements.{All-nil, All-same, All-push, All-append, All-replicate, All-weaker}
use Rattle.program_code.specs.declared.program.CodeLine.{CodeLine}
use Rattle.program.specs.declared.names.Cells.{Cells}
use Rattle.program.specs.declared.stage.Stage.{Stage}
use Rattle.program.specs.declared.stage.Stage.TheVariants as stage
use Rattle.program.specs.declared.stage.LineGroup.{LineGroup}
use Rattle.program.specs.declared.stage.LineGroup.TheVariants as group
use Rattle.program.specs.declared.statement.Written.{Written}
use Rattle.program.specs.declared.meant.Meant.{Meant}
use Rattle.program.specs.declared.meant.Meant.TheVariants as meant
use Rattle.program.specs.declared.draft.ProgramDraft.{ProgramDraft}
use Rattle.program.specs.Codes.{code_of}
use Rattle.program.specs.Drafts.{no_lines, closed, closed_by, one_cells, with_meant, at_stage}
use Rattle.program.proofs.Naming.{sizes, Below, IsWithin, AreWithin, HasCells, IsStatement}
use Rattle.program.proofs.Lining.{IsLined, lined_code}

-- ---- what is there, and few

pub record IsFormed (d : ProgramDraft) : Type 0 where
  pub cells : HasCells d
  pub starts : All (λ (c : ℕ). c < 2 ^ 32) d.counters
  pub lists : length d.names.lists ≤ 4
  pub registers : length d.names.registers ≤ 8
  pub sections : length d.names.sections ≤ 8
  pub few_seats : length d.seats ≤ 16
  pub codes : All (IsLined (sizes d)) d.codes
  pub body : All (λ (w : Written). IsStatement (sizes d) w.statement) d.body
  pub seats : All (Below (length d.codes)) d.seats

-- before the first program there are no lines, and only the last program may be open
abbrev pub IsStaged : Stage → List (List CodeLine) → List Written → List (List ℕ) → Type 0
IsStaged stage.Declarations codes body programs = (codes ≡ []) × (body ≡ []) × (programs ≡ [])
IsStaged stage.Programs codes body programs = length programs ≡ length codes + 1
IsStaged stage.Seats codes body programs = length programs ≡ length codes
IsStaged stage.Properties codes body programs = ⊤

abbrev pub StandsAt : Stage → ProgramDraft → Type 0
StandsAt s d = IsStaged s d.codes d.body d.names.programs

-- ---- the start, and a program that ends

pub formed_none : IsFormed no_lines
formed_none = record {
  cells =
      record {
        words = All-nil (λ (c : Cells). IsWithin 0 c.span);
        counters = All-nil (λ (c : Cells). IsWithin 0 c.span);
      };
  starts = All-nil (λ (c : ℕ). c < 2 ^ 32);
  lists = omega arith;
  registers = omega arith;
  sections = omega arith;
  few_seats = omega arith;
  codes = All-nil (IsLined (sizes no_lines));
  body = All-nil (λ (w : Written). IsStatement (sizes no_lines) w.statement);
  seats = All-nil (Below 0);
}

formed_closed : (d : ProgramDraft) → IsFormed d → IsFormed (closed d)
formed_closed d k = record {
  cells = record { words = k.cells.words; counters = k.cells.counters };
  starts = k.starts;
  lists = k.lists;
  registers = k.registers;
  sections = k.sections;
  few_seats = k.few_seats;
  codes = All-push (IsLined (sizes d)) d.codes (code_of d.codes d.body) k.codes (lined_code (sizes d) d.codes d.body k.body k.codes);
  body = All-nil (λ (w : Written). IsStatement (sizes d) w.statement);
  seats =
      All-weaker (Below (length d.codes)) (Below (length (closed d).codes))
      (λ s lt. omega (arith, lt, length-append d.codes (code_of d.codes d.body ∷ []))) d.seats k.seats;
}

pub formed_closed_by : (behind : Stage) (line : LineGroup) (d : ProgramDraft) → IsFormed d → IsFormed (closed_by behind line d)
formed_closed_by stage.Programs group.Program d k = formed_closed d k
formed_closed_by stage.Programs group.Seats d k = formed_closed d k
formed_closed_by behind line d k = k

pub formed_stage : (d : ProgramDraft) (behind : Stage) → IsFormed d → IsFormed (at_stage d behind)
formed_stage d behind k = record {
  cells = record { words = k.cells.words; counters = k.cells.counters };
  starts = k.starts;
  lists = k.lists;
  registers = k.registers;
  sections = k.sections;
  few_seats = k.few_seats;
  codes = k.codes;
  body = k.body;
  seats = k.seats;
}

-- ---- what a line adds

-- there are no lines of programs
abbrev pub HasNone : ProgramDraft → Type 0
HasNone d = (d.codes ≡ []) × (d.body ≡ [])

-- what a line means is there, and there is room for it
abbrev pub IsMeant : ProgramDraft → Meant → Type 0
IsMeant d (meant.Words name members v) = HasNone d
IsMeant d (meant.Counters name members v) = HasNone d × (v < 2 ^ 32)
IsMeant d (meant.List name) = HasNone d × (length d.names.lists + 1 ≤ 4)
IsMeant d (meant.Registers names) = HasNone d × (length d.names.registers + length names ≤ 8)
IsMeant d (meant.Section name) = HasNone d × (length d.names.sections + 1 ≤ 8)
IsMeant d (meant.Seats count program) = (length d.seats + count ≤ 16) × (program < length d.codes)
IsMeant d (meant.Statement s) = IsStatement (sizes d) s
IsMeant d m = ⊤

-- the cells of a name more, behind the n that were there
more_cells : (n n' : ℕ) (cells : List Cells) (name : List ℕ) (members : Option ℕ) → n' ≡ n + unwrap_or members 1 → AreWithin n cells
    → AreWithin n' (cells ++ one_cells name n members ∷ [])
more_cells n n' cells name members is h =
    All-push (λ (c : Cells). IsWithin n' c.span) cells (one_cells name n members)
    (All-weaker (λ (c : Cells). IsWithin n c.span) (λ (c : Cells). IsWithin n' c.span) (λ c lt. omega (arith, lt, is)) cells h) (omega (arith, is))

longer : {A : Type 0} (xs : List A) (n : ℕ) (x : A) → length (xs ++ replicate n x) ≡ length xs + n
longer xs n x = omega (arith, length-append xs (replicate n x), length-replicate n x)

pub formed_with : (d : ProgramDraft) (line : ℕ) (m : Meant) → IsFormed d → IsMeant d m → IsFormed (with_meant d line m)
formed_with d line meant.Nothing k h = k
formed_with d line (meant.Constant name v) k h = record {
  cells = record { words = k.cells.words; counters = k.cells.counters };
  starts = k.starts;
  lists = k.lists;
  registers = k.registers;
  sections = k.sections;
  few_seats = k.few_seats;
  codes = k.codes;
  body = k.body;
  seats = k.seats;
}
formed_with d line (meant.Words name members v) k h =
    let e : ProgramDraft = with_meant d line (meant.Words name members v) in
    record {
      cells =
          record {
            words = more_cells (length d.words) (length e.words) d.names.words name members (longer d.words (unwrap_or members 1) v) k.cells.words;
            counters = k.cells.counters;
          };
      starts = k.starts;
      lists = k.lists;
      registers = k.registers;
      sections = k.sections;
      few_seats = k.few_seats;
      codes = All-same (IsLined (sizes e)) d.codes [] h.0 (All-nil (IsLined (sizes e)));
      body =
          All-same (λ (w : Written). IsStatement (sizes e) w.statement) d.body [] h.1
          (All-nil (λ (w : Written). IsStatement (sizes e) w.statement));
      seats = k.seats;
    }
formed_with d line (meant.Counters name members v) k h =
    let e : ProgramDraft = with_meant d line (meant.Counters name members v) in
    record {
      cells =
          record {
            words = k.cells.words;
            counters =
                more_cells (length d.counters) (length e.counters) d.names.counters name members (longer d.counters (unwrap_or members 1) v)
                k.cells.counters;
          };
      starts =
          All-append (λ (c : ℕ). c < 2 ^ 32) d.counters (replicate (unwrap_or members 1) v) k.starts
          (All-replicate (λ (c : ℕ). c < 2 ^ 32) (unwrap_or members 1) v h.1);
      lists = k.lists;
      registers = k.registers;
      sections = k.sections;
      few_seats = k.few_seats;
      codes = All-same (IsLined (sizes e)) d.codes [] h.0.0 (All-nil (IsLined (sizes e)));
      body =
          All-same (λ (w : Written). IsStatement (sizes e) w.statement) d.body [] h.0.1
          (All-nil (λ (w : Written). IsStatement (sizes e) w.statement));
      seats = k.seats;
    }
formed_with d line (meant.List name) k h =
    let e : ProgramDraft = with_meant d line (meant.List name) in
    record {
      cells = record { words = k.cells.words; counters = k.cells.counters };
      starts = k.starts;
      lists = omega (arith, h.1, length-append d.names.lists (name ∷ []));
      registers = k.registers;
      sections = k.sections;
      few_seats = k.few_seats;
      codes = All-same (IsLined (sizes e)) d.codes [] h.0.0 (All-nil (IsLined (sizes e)));
      body =
          All-same (λ (w : Written). IsStatement (sizes e) w.statement) d.body [] h.0.1
          (All-nil (λ (w : Written). IsStatement (sizes e) w.statement));
      seats = k.seats;
    }
formed_with d line (meant.Registers names) k h =
    let e : ProgramDraft = with_meant d line (meant.Registers names) in
    record {
      cells = record { words = k.cells.words; counters = k.cells.counters };
      starts = k.starts;
      lists = k.lists;
      registers = omega (arith, h.1, length-append d.names.registers names);
      sections = k.sections;
      few_seats = k.few_seats;
      codes = All-same (IsLined (sizes e)) d.codes [] h.0.0 (All-nil (IsLined (sizes e)));
      body =
          All-same (λ (w : Written). IsStatement (sizes e) w.statement) d.body [] h.0.1
          (All-nil (λ (w : Written). IsStatement (sizes e) w.statement));
      seats = k.seats;
    }
formed_with d line (meant.Section name) k h =
    let e : ProgramDraft = with_meant d line (meant.Section name) in
    record {
      cells = record { words = k.cells.words; counters = k.cells.counters };
      starts = k.starts;
      lists = k.lists;
      registers = k.registers;
      sections = omega (arith, h.1, length-append d.names.sections (name ∷ []));
      few_seats = k.few_seats;
      codes = All-same (IsLined (sizes e)) d.codes [] h.0.0 (All-nil (IsLined (sizes e)));
      body =
          All-same (λ (w : Written). IsStatement (sizes e) w.statement) d.body [] h.0.1
          (All-nil (λ (w : Written). IsStatement (sizes e) w.statement));
      seats = k.seats;
    }
formed_with d line (meant.Program name) k h = record {
  cells = record { words = k.cells.words; counters = k.cells.counters };
  starts = k.starts;
  lists = k.lists;
  registers = k.registers;
  sections = k.sections;
  few_seats = k.few_seats;
  codes = k.codes;
  body = k.body;
  seats = k.seats;
}
formed_with d line (meant.Seats count program) k h = record {
  cells = record { words = k.cells.words; counters = k.cells.counters };
  starts = k.starts;
  lists = k.lists;
  registers = k.registers;
  sections = k.sections;
  few_seats = omega (arith, h.0, longer d.seats count program);
  codes = k.codes;
  body = k.body;
  seats = All-append (Below (length d.codes)) d.seats (replicate count program) k.seats (All-replicate (Below (length d.codes)) count program h.1);
}
formed_with d line (meant.Property p) k h = record {
  cells = record { words = k.cells.words; counters = k.cells.counters };
  starts = k.starts;
  lists = k.lists;
  registers = k.registers;
  sections = k.sections;
  few_seats = k.few_seats;
  codes = k.codes;
  body = k.body;
  seats = k.seats;
}
formed_with d line (meant.Statement s) k h =
    let w : Written = record { line = line; statement = s } in
    record {
      cells = record { words = k.cells.words; counters = k.cells.counters };
      starts = k.starts;
      lists = k.lists;
      registers = k.registers;
      sections = k.sections;
      few_seats = k.few_seats;
      codes = k.codes;
      body = All-push (λ (v : Written). IsStatement (sizes d) v.statement) d.body w k.body h;
      seats = k.seats;
    }
