-- The reader's own numbers stay small, whatever the lines are.
use Rattle.std.proofs.Common.{◌≡◌, ℕ, ◌+◌, ◌≤◌, List, [], ◌∷◌, ◌++◌, length, Result, Ok, Err, sym, subst, arith, length-append}
use Rattle.std.specs.Prelude.{replicate, OnOk}
use Rattle.std.specs.Option.{unwrap_or}
use Rattle.std.proofs.lemmas.List.{length-replicate}
use Rattle.std.proofs.lemmas.List.Elements.{All-nil, All-push}
use Rattle.std.proofs.lemmas.List.Sums.{sum_by-append}
use Rattle.program.specs.declared.statement.Statement.{Statement}
use Rattle.program.specs.declared.statement.Written.{Written}
use Rattle.program.specs.declared.stage.Stage.{Stage}
use Rattle.program.specs.declared.stage.Stage.TheVariants as stage
use Rattle.program.specs.declared.stage.LineGroup.{LineGroup}
use Rattle.program.specs.declared.stage.LineGroup.TheVariants as group
use Rattle.program.specs.declared.meant.Meant.{Meant}
use Rattle.program.specs.declared.meant.Meant.TheVariants as meant
use Rattle.program.specs.declared.draft.ProgramDraft.{ProgramDraft}
use Rattle.program.specs.Bounds.{IsNear}
use Rattle.program.specs.Codes.{IsClosed, JumpsByLabel, code_of, width}
use Rattle.program.specs.Drafts.{no_lines, closed, closed_by, one_cells, with_meant, at_stage}
use Rattle.program.specs.Fitting.{IsFitting, FitsMeant}
use Rattle.program.proofs.Closing.{closed_code}

pub fits_none : IsFitting no_lines
fits_none = record {
  near = record { words = All-nil IsNear; counters = All-nil IsNear };
  few_words = omega arith;
  few_counters = omega arith;
  short = omega arith;
  by_label = All-nil (λ (w : Written). JumpsByLabel w.statement);
  closed = All-nil IsClosed;
}

pub fits_closed : (d : ProgramDraft) → IsFitting d → IsFitting (closed d)
fits_closed d k = record {
  near = k.near;
  few_words = k.few_words;
  few_counters = k.few_counters;
  short = omega arith;
  by_label = All-nil (λ (w : Written). JumpsByLabel w.statement);
  closed = All-push IsClosed d.codes (code_of d.codes d.body) k.closed (closed_code d.codes d.body k.short k.by_label k.closed);
}

pub fits_closed_by : (behind : Stage) (line : LineGroup) (d : ProgramDraft) → IsFitting d → IsFitting (closed_by behind line d)
fits_closed_by stage.Programs group.Program d k = fits_closed d k
fits_closed_by stage.Programs group.Seats d k = fits_closed d k
fits_closed_by behind line d k = k

more_items : {A : Type 0} (xs : List A) (n : ℕ) (x : A) → length xs + n ≤ 32 → length (xs ++ replicate n x) ≤ 32
more_items xs n x h = omega (arith, length-append xs (replicate n x), length-replicate n x)

pub fits_with : (d : ProgramDraft) (line : ℕ) (m : Meant) → IsFitting d → FitsMeant d m → IsFitting (with_meant d line m)
fits_with d line meant.Nothing k h = k
fits_with d line (meant.Constant name v) k h = record {
  near = record { words = k.near.words; counters = k.near.counters };
  few_words = k.few_words;
  few_counters = k.few_counters;
  short = k.short;
  by_label = k.by_label;
  closed = k.closed;
}
fits_with d line (meant.Words name members v) k h = record {
  near =
      record {
        words = All-push IsNear d.names.words (one_cells name (length d.words) members) k.near.words k.few_words;
        counters = k.near.counters;
      };
  few_words = more_items d.words (unwrap_or members 1) v h;
  few_counters = k.few_counters;
  short = k.short;
  by_label = k.by_label;
  closed = k.closed;
}
fits_with d line (meant.Counters name members v) k h = record {
  near =
      record {
        words = k.near.words;
        counters = All-push IsNear d.names.counters (one_cells name (length d.counters) members) k.near.counters k.few_counters;
      };
  few_words = k.few_words;
  few_counters = more_items d.counters (unwrap_or members 1) v h;
  short = k.short;
  by_label = k.by_label;
  closed = k.closed;
}
fits_with d line (meant.List name) k h = record {
  near = record { words = k.near.words; counters = k.near.counters };
  few_words = k.few_words;
  few_counters = k.few_counters;
  short = k.short;
  by_label = k.by_label;
  closed = k.closed;
}
fits_with d line (meant.Registers names) k h = record {
  near = record { words = k.near.words; counters = k.near.counters };
  few_words = k.few_words;
  few_counters = k.few_counters;
  short = k.short;
  by_label = k.by_label;
  closed = k.closed;
}
fits_with d line (meant.Section name) k h = record {
  near = record { words = k.near.words; counters = k.near.counters };
  few_words = k.few_words;
  few_counters = k.few_counters;
  short = k.short;
  by_label = k.by_label;
  closed = k.closed;
}
fits_with d line (meant.Program name) k h = record {
  near = record { words = k.near.words; counters = k.near.counters };
  few_words = k.few_words;
  few_counters = k.few_counters;
  short = k.short;
  by_label = k.by_label;
  closed = k.closed;
}
fits_with d line (meant.Seats count program) k h = record {
  near = k.near;
  few_words = k.few_words;
  few_counters = k.few_counters;
  short = k.short;
  by_label = k.by_label;
  closed = k.closed;
}
fits_with d line (meant.Property p) k h = record {
  near = k.near;
  few_words = k.few_words;
  few_counters = k.few_counters;
  short = k.short;
  by_label = k.by_label;
  closed = k.closed;
}
fits_with d line (meant.Statement s) k h =
    let w : Written = record { line = line; statement = s } in
    record {
      near = k.near;
      few_words = k.few_words;
      few_counters = k.few_counters;
      short = omega (arith, h.0, sum_by-append (λ (v : Written). width d.codes v.statement) d.body (w ∷ []));
      by_label = All-push (λ (v : Written). JumpsByLabel v.statement) d.body w k.by_label h.1;
      closed = k.closed;
    }

pub fits_stage : (d : ProgramDraft) (behind : Stage) → IsFitting d → IsFitting (at_stage d behind)
fits_stage d behind k = record {
  near = k.near;
  few_words = k.few_words;
  few_counters = k.few_counters;
  short = k.short;
  by_label = k.by_label;
  closed = k.closed;
}

pub fits_result : {A E : Type 0} (d e : ProgramDraft) (r : Result A E) → IsFitting d → OnOk r (e ≡ closed d) → OnOk r (IsFitting e)
fits_result d e (Ok a) k h = subst IsFitting (sym h) (fits_closed d k)
fits_result d e (Err c) k h = tt

pub fits_stated : {A E : Type 0} (d : ProgramDraft) (line : ℕ) (s : Statement) (body : List Written) (r : Result A E) → IsFitting d
    → FitsMeant d (meant.Statement s) → OnOk r (body ≡ d.body ++ (record { line = line; statement = s } ∷ []))
    → OnOk r (IsFitting (record d { body = body }))
fits_stated d line s body (Ok a) k h e =
    subst (λ (b : List Written). IsFitting (record d { body = b })) (sym e) (fits_with d line (meant.Statement s) k h)
fits_stated d line s body (Err c) k h e = tt
