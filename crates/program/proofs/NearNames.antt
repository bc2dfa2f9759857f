-- The words and counters of a name have small numbers.
use Rattle.std.proofs.Common.{ℕ, ◌≤◌, Bool, true, false, List, [], ◌∷◌, Option, Some, None, All, IfSome}
use Rattle.std.specs.Prelude.{cond}
use Rattle.std.specs.Option.{ok_or}
use Rattle.std.specs.Str.{bytes_eq}
use Rattle.std.proofs.lemmas.List.Elements.{All-head, All-tail}
use Rattle.program_text.specs.declared.cause.ProgramCause.TheVariants.{Undeclared}
use Rattle.program.specs.declared.names.Cells.{Cells}
use Rattle.program.specs.declared.names.CellSpan.{CellSpan}
use Rattle.program.specs.declared.names.DeclaredNames.{DeclaredNames}
use Rattle.program.specs.Bounds.{IsNear, AreNear, IsNearWhere}
use Rattle.program.specs.Meanings.{word_or, shared_of}
use Rattle.program.specs.Names.{span_of}

abbrev Near : Option CellSpan → Type 0
Near o = IfSome o (λ e. e.first ≤ 32)

near_span : (cells : List Cells) (name : List ℕ) → All IsNear cells → Near (span_of cells name)
near_span [] name h = tt
near_span (c ∷ cs) name h =
    elim (bytes_eq c.name name) as (λ (b : Bool). Near (cond b (Some c.span) (span_of cs name)))
    [ true ↦ All-head IsNear c cs h | false ↦ near_span cs name (All-tail IsNear c cs h) ]

near_or : (word counter : Option CellSpan) → Near word → Near counter → IsNearWhere (word_or word (ok_or counter Undeclared))
near_or (Some w) counter h k = h
near_or None (Some c) h k = k
near_or None None h k = tt

pub near_shared : (names : DeclaredNames) (name : List ℕ) → AreNear names → IsNearWhere (shared_of names name)
near_shared names name h =
    near_or (span_of names.words name) (span_of names.counters name) (near_span names.words name h.words) (near_span names.counters name h.counters)
