-- What a line means where it may stand is there, and there is room for it.
use Rattle.std.proofs.Common.{◌≡◌, ℕ, ◌+◌, ◌-◌, ◌^◌, ◌<◌, ◌≤◌, Bool, true, false, cond, ℤ, pos, negsuc, List, [], ◌∷◌}
use Rattle.std.proofs.Common.{◌++◌, length}
use Rattle.std.proofs.Common.{Result, Ok, Err, IfOk, refl, sym, ap, subst, arith, length-append, nat_lt, ◌==◌, ◌||◌, ltb-true}
use Rattle.std.specs.Prelude.{⊤}
use Rattle.program_text.specs.declared.words.Number.{Number}
use Rattle.program_text.specs.declared.words.Number.TheVariants.{Plus, Minus}
use Rattle.program_text.specs.declared.words.SpelledOperand.{SpelledOperand}
use Rattle.program_text.specs.declared.lines.SpelledLine.{SpelledLine}
use Rattle.program_text.specs.declared.lines.SpelledLine.TheVariants.{Blank, Const, Word, Counter, List as NotifyList, Registers, Section, Program, Seats, Most, Apart, Passed}
use Rattle.program_text.specs.declared.lines.SpelledLine.TheVariants.{Finally}
use Rattle.program_text.specs.declared.cause.ProgramCause.{ProgramCause}
use Rattle.program_text.specs.declared.cause.ProgramCause.TheVariants.{Range}
use Rattle.program.specs.declared.names.DeclaredNames.{DeclaredNames}
use Rattle.program.specs.declared.stage.Stage.{Stage}
use Rattle.program.specs.declared.stage.Stage.TheVariants as stage
use Rattle.program.specs.declared.stage.LineGroup.{LineGroup}
use Rattle.program.specs.declared.stage.LineGroup.TheVariants as group
use Rattle.program.specs.declared.meant.Meant.{Meant}
use Rattle.program.specs.declared.meant.Meant.TheVariants as meant
use Rattle.program.specs.declared.draft.ProgramDraft.{ProgramDraft}
use Rattle.program.specs.Causes.{both, map_ok}
use Rattle.program.specs.Codes.{code_of}
use Rattle.program.specs.Parts.{number_of, length_of, fixed_of, as_start, start_of, some_of, program_of}
use Rattle.program.specs.Places.{group_of, may_stand, stage_after}
use Rattle.program.specs.Limits.{seats_asked, is_over, is_too_many}
use Rattle.program.specs.Meanings.{property_of, meant_of}
use Rattle.program.specs.Statements.{statement_of}
use Rattle.program.specs.Drafts.{closed_by, with_meant}
use Rattle.program.proofs.Oks.{oks_any, oks_map, oks_both, oks_then}
use Rattle.program.proofs.Naming.{sizes, Below, number_within, IsStatement, statement_in}
use Rattle.program.proofs.Forming.{IsFormed, StandsAt, HasNone, IsMeant}
use Rattle.program.proofs.Rooms.{within, closes, stays_open}

-- ---- numbers that a line asks for

start_small : (z : ℤ) → IfOk (as_start z) (Below (2 ^ 32))
start_small (pos n) = by (nat_lt n (2 ^ 32)) refl
  where
    by : (b : Bool) → nat_lt n (2 ^ 32) ≡ b → (let r : Result ℕ ProgramCause = cond b (Ok n) (Err Range) in IfOk r (Below (2 ^ 32)))
    by true e = ltb-true n (2 ^ 32) e
    by false e = tt
start_small (negsuc n) = tt

start_in : (names : DeclaredNames) (v : SpelledOperand) → IfOk (start_of names v) (Below (2 ^ 32))
start_in names v =
    oks_then (λ _. ⊤) (Below (2 ^ 32)) (fixed_of names v) as_start (oks_any (λ _. ⊤) (fixed_of names v) (λ z. tt)) (λ z h. start_small z)

count_asked : (k : Number) → IfOk (some_of k) (λ c. c ≡ seats_asked k)
count_asked (Plus n) = by (n == 0 || nat_lt (2 ^ 63 - 1) n)
  where
    by : (b : Bool) → (let r : Result ℕ ProgramCause = cond b (Err Range) (Ok n) in IfOk r (λ c. c ≡ n))
    by true = tt
    by false = refl
count_asked (Minus n) = tt

-- ---- where a line of a group stands

-- a declaration stands before the first program
declares : (behind : Stage) (d : ProgramDraft) → may_stand behind group.Declaration ≡ true → StandsAt behind d
    → StandsAt stage.Declarations (closed_by behind group.Declaration d)
declares stage.Declarations d e h = h
declares stage.Programs d e h = absurd cc
declares stage.Seats d e h = absurd cc
declares stage.Properties d e h = absurd cc

none_there : (behind : Stage) (d : ProgramDraft) → may_stand behind group.Declaration ≡ true → StandsAt behind d → HasNone d
none_there stage.Declarations d e h = (h.0, h.1)
none_there stage.Programs d e h = absurd cc
none_there stage.Seats d e h = absurd cc
none_there stage.Properties d e h = absurd cc

-- so many programs have ended as have a name
abbrev AllEnded : ProgramDraft → Type 0
AllEnded d = length d.names.programs ≡ length d.codes

one_more : (d : ProgramDraft) → length d.names.programs ≡ length d.codes + 1 → length d.names.programs ≡ length (d.codes ++ code_of d.codes d.body ∷ [])
one_more d h = omega (arith, length-append d.codes (code_of d.codes d.body ∷ []))

heads : (behind : Stage) (d : ProgramDraft) → may_stand behind group.Program ≡ true → StandsAt behind d → AllEnded (closed_by behind group.Program d)
heads stage.Declarations d e h = omega (arith, ap length h.0, ap length h.2)
heads stage.Programs d e h = one_more d h
heads stage.Seats d e h = absurd cc
heads stage.Properties d e h = absurd cc

seated : (behind : Stage) (d : ProgramDraft) → may_stand behind group.Seats ≡ true → StandsAt behind d → AllEnded (closed_by behind group.Seats d)
seated stage.Declarations d e h = absurd cc
seated stage.Programs d e h = one_more d h
seated stage.Seats d e h = h
seated stage.Properties d e h = absurd cc

goes_on : (behind : Stage) (d : ProgramDraft) → may_stand behind group.Statement ≡ true → StandsAt behind d
    → StandsAt stage.Programs (closed_by behind group.Statement d)
goes_on stage.Declarations d e h = absurd cc
goes_on stage.Programs d e h = h
goes_on stage.Seats d e h = absurd cc
goes_on stage.Properties d e h = absurd cc

-- ---- what it means

opened : (behind : Stage) (k : LineGroup) (d : ProgramDraft) (r : Result Meant ProgramCause) → closes k ≡ false → IfOk r (IsMeant d)
    → IfOk r (IsMeant (closed_by behind k d))
opened behind k d r e h = subst (λ (x : ProgramDraft). IfOk r (IsMeant x)) (sym (stays_open behind k d e)) h

same_seats : (behind : Stage) (d : ProgramDraft) → (closed_by behind group.Seats d).seats ≡ d.seats
same_seats stage.Declarations d = refl
same_seats stage.Programs d = refl
same_seats stage.Seats d = refl
same_seats stage.Properties d = refl

same_programs : (behind : Stage) (d : ProgramDraft) → (closed_by behind group.Seats d).names.programs ≡ d.names.programs
same_programs stage.Declarations d = refl
same_programs stage.Programs d = refl
same_programs stage.Seats d = refl
same_programs stage.Properties d = refl

seats_in : (d e : ProgramDraft) (ended : ℕ) (k : Number) (name : List ℕ) → length d.names.programs ≡ length e.codes → length e.seats ≡ length d.seats
    → length d.seats ≤ 16 → is_over 16 (length d.seats) (seats_asked k) ≡ false
    → IfOk (meant_of d.names ended (Seats k name)) (IsMeant e)
seats_in d e ended k name programs seats few room =
    oks_map (λ (x : ℕ × ℕ). (x.0 ≡ seats_asked k) × (x.1 < length d.names.programs)) (IsMeant e) (λ x. meant.Seats x.0 x.1)
    (both (some_of k) (program_of d.names name))
    (oks_both (λ c. c ≡ seats_asked k) (Below (length d.names.programs)) (some_of k) (program_of d.names name) (count_asked k)
    (number_within d.names.programs name))
    (λ x h. (omega (arith, h.0, seats, within 16 (length d.seats) (seats_asked k) few room), omega (arith, h.1, programs)))

property_in : (d e : ProgramDraft) (line : SpelledLine) → IfOk (map_ok meant.Property (property_of d.names line)) (IsMeant e)
property_in d e line =
    oks_map (λ _. ⊤) (IsMeant e) meant.Property (property_of d.names line) (oks_any (λ _. ⊤) (property_of d.names line) (λ p. tt)) (λ p h. tt)

pub meant_in : (behind : Stage) (d : ProgramDraft) (line : SpelledLine) → may_stand behind (group_of line) ≡ true → StandsAt behind d → IsFormed d
    → is_too_many d line ≡ false → IfOk (meant_of d.names (length d.codes) line) (IsMeant (closed_by behind (group_of line) d))
meant_in behind d Blank e s k few = tt
meant_in behind d (Const name v) e s k few =
    oks_map (λ _. ⊤) (IsMeant (closed_by behind group.Declaration d)) (λ z. meant.Constant name z) (number_of v)
    (oks_any (λ _. ⊤) (number_of v) (λ z. tt)) (λ z h. tt)
meant_in behind d (Word w v) e s k few =
    opened behind group.Declaration d (meant_of d.names (length d.codes) (Word w v)) refl
    (oks_map (λ _. ⊤) (IsMeant d) (λ x. meant.Words w.name x.0 x.1) (both (length_of w.index) (fixed_of d.names v))
    (oks_any (λ _. ⊤) (both (length_of w.index) (fixed_of d.names v)) (λ x. tt)) (λ x h. none_there behind d e s))
meant_in behind d (Counter c v) e s k few =
    opened behind group.Declaration d (meant_of d.names (length d.codes) (Counter c v)) refl
    (oks_map (λ x. ⊤ × (x.1 < 2 ^ 32)) (IsMeant d) (λ x. meant.Counters c.name x.0 x.1) (both (length_of c.index) (start_of d.names v))
    (oks_both (λ _. ⊤) (Below (2 ^ 32)) (length_of c.index) (start_of d.names v) (oks_any (λ _. ⊤) (length_of c.index) (λ x. tt)) (start_in d.names v))
    (λ x h. (none_there behind d e s, h.1)))
meant_in behind d (NotifyList name) e s k few =
    opened behind group.Declaration d (Ok (meant.List name)) refl (none_there behind d e s, within 4 (length d.names.lists) 1 k.lists few)
meant_in behind d (Registers names) e s k few =
    opened behind group.Declaration d (Ok (meant.Registers names)) refl
    (none_there behind d e s, within 8 (length d.names.registers) (length names) k.registers few)
meant_in behind d (Section name) e s k few =
    opened behind group.Declaration d (Ok (meant.Section name)) refl (none_there behind d e s, within 8 (length d.names.sections) 1 k.sections few)
meant_in behind d (Program name) e s k few = tt
meant_in behind d (Seats n name) e s k few =
    seats_in d (closed_by behind group.Seats d) (length d.codes) n name
    (omega (arith, seated behind d e s, ap length (same_programs behind d))) (ap length (same_seats behind d)) k.few_seats few
meant_in behind d (Most a n) e s k few = property_in d (closed_by behind group.Property d) (Most a n)
meant_in behind d (Apart a b) e s k few = property_in d (closed_by behind group.Property d) (Apart a b)
meant_in behind d (Passed a n) e s k few = property_in d (closed_by behind group.Property d) (Passed a n)
meant_in behind d (Finally w r v) e s k few = property_in d (closed_by behind group.Property d) (Finally w r v)
meant_in behind d line e s k few =
    opened behind (group_of line) d (meant_of d.names (length d.codes) line) refl
    (oks_map (IsStatement (sizes d)) (IsMeant d) meant.Statement (statement_of d.names (length d.codes) line)
    (statement_in d (length d.codes) line k.cells) (λ t h. h))

-- ---- where the next line stands

abbrev pub Stands : Stage → ℕ → ProgramDraft → Meant → Type 0
Stands s number d m = StandsAt s (with_meant d number m)

pub staged_in : (behind : Stage) (d : ProgramDraft) (number : ℕ) (line : SpelledLine) → may_stand behind (group_of line) ≡ true → StandsAt behind d
    → IfOk (meant_of d.names (length d.codes) line) (Stands (stage_after behind (group_of line)) number (closed_by behind (group_of line) d))
staged_in behind d number Blank e s = subst (StandsAt behind) (sym (stays_open behind group.Blank d refl)) s
staged_in behind d number (Const name v) e s =
    oks_map (λ _. ⊤) (Stands stage.Declarations number (closed_by behind group.Declaration d)) (λ z. meant.Constant name z) (number_of v)
    (oks_any (λ _. ⊤) (number_of v) (λ z. tt)) (λ z h. declares behind d e s)
staged_in behind d number (Word w v) e s =
    oks_map (λ _. ⊤) (Stands stage.Declarations number (closed_by behind group.Declaration d)) (λ x. meant.Words w.name x.0 x.1)
    (both (length_of w.index) (fixed_of d.names v)) (oks_any (λ _. ⊤) (both (length_of w.index) (fixed_of d.names v)) (λ x. tt))
    (λ x h. declares behind d e s)
staged_in behind d number (Counter c v) e s =
    oks_map (λ _. ⊤) (Stands stage.Declarations number (closed_by behind group.Declaration d)) (λ x. meant.Counters c.name x.0 x.1)
    (both (length_of c.index) (start_of d.names v)) (oks_any (λ _. ⊤) (both (length_of c.index) (start_of d.names v)) (λ x. tt))
    (λ x h. declares behind d e s)
staged_in behind d number (NotifyList name) e s = declares behind d e s
staged_in behind d number (Registers names) e s = declares behind d e s
staged_in behind d number (Section name) e s = declares behind d e s
staged_in behind d number (Program name) e s =
    let c : ProgramDraft = closed_by behind group.Program d in
    omega (arith, heads behind d e s, length-append c.names.programs (name ∷ []))
staged_in behind d number (Seats n name) e s =
    oks_map (λ _. ⊤) (Stands stage.Seats number (closed_by behind group.Seats d)) (λ x. meant.Seats x.0 x.1) (both (some_of n) (program_of d.names name))
    (oks_any (λ _. ⊤) (both (some_of n) (program_of d.names name)) (λ x. tt)) (λ x h. seated behind d e s)
staged_in behind d number (Most a n) e s =
    oks_any (Stands stage.Properties number (closed_by behind group.Property d)) (meant_of d.names (length d.codes) (Most a n)) (λ m. tt)
staged_in behind d number (Apart a b) e s =
    oks_any (Stands stage.Properties number (closed_by behind group.Property d)) (meant_of d.names (length d.codes) (Apart a b)) (λ m. tt)
staged_in behind d number (Passed a n) e s =
    oks_any (Stands stage.Properties number (closed_by behind group.Property d)) (meant_of d.names (length d.codes) (Passed a n)) (λ m. tt)
staged_in behind d number (Finally w r v) e s =
    oks_any (Stands stage.Properties number (closed_by behind group.Property d)) (meant_of d.names (length d.codes) (Finally w r v)) (λ m. tt)
staged_in behind d number line e s =
    oks_map (λ _. ⊤) (Stands stage.Programs number (closed_by behind (group_of line) d)) meant.Statement (statement_of d.names (length d.codes) line)
    (oks_any (λ _. ⊤) (statement_of d.names (length d.codes) line) (λ t. tt)) (λ t h. goes_on behind d e s)
