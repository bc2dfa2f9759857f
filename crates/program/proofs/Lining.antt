-- The lines that are put together name only what is there, if each statement does.
use Rattle.std.proofs.Common.{◌≡◌, ℕ, ◌+◌, ◌≤◌, ◌<◌, List, [], ◌∷◌, length, map, All, sym, ap, subst, ◌∙◌, arith}
use Rattle.std.proofs.Common.{length-append, inl, inr, ◌⊎◌}
use Rattle.std.proofs.lemmas.Bool.{cases_lt}
use Rattle.std.specs.List.{fold}
use Rattle.std.proofs.lemmas.List.{get_or_past}
use Rattle.std.proofs.lemmas.List.Elements.{All-append, All-nil, All-cons, All-head, All-tail, All-map, All-get_or, All-weaker}
use Rattle.std.proofs.lemmas.List.Sums.{sum_by-append}
use Rattle.program_code.specs.declared.instruction.Instruction.{Instruction}
use Rattle.program_code.specs.declared.instruction.Instruction.TheVariants as code
use Rattle.program_code.specs.declared.program.CodeLine.{CodeLine}
use Rattle.program_code.specs.declared.program.Program.{Program}
use Rattle.program_code.specs.WellFormed.{IsLine}
use Rattle.program.specs.declared.statement.Statement.{Statement}
use Rattle.program.specs.declared.statement.Statement.TheVariants as says
use Rattle.program.specs.declared.statement.Written.{Written}
use Rattle.program.specs.Codes.{code_at, width, size_of, target_of, moved, put_in, lines_of, code_of}
use Rattle.program.proofs.Closing.{line_length, after_one, target_within}
use Rattle.program.proofs.Naming.{IsStatement}

-- lines of a program of so many lines
abbrev pub AreLines : Program → ℕ → List CodeLine → Type 0
AreLines p most lines = All (λ (c : CodeLine). IsLine p most c.instruction) lines

abbrev pub IsLined : Program → List CodeLine → Type 0
IsLined p lines = AreLines p (length lines) lines

-- ---- lines that stand behind others

moved_line : (p : Program) (at m n : ℕ) → at + m ≤ n → (i : Instruction) → IsLine p m i → IsLine p n (moved at i)
moved_line p at m n le (code.If e r f target) h = (h.0, h.1, omega (arith, h.2))
moved_line p at m n le (code.Goto target) h = omega arith
moved_line p at m n le (code.Load w r) h = h
moved_line p at m n le (code.Store w e) h = h
moved_line p at m n le (code.Swap w e o) h = h
moved_line p at m n le (code.Add w e o) h = h
moved_line p at m n le (code.Exchange w e f o) h = h
moved_line p at m n le (code.Await w r e o) h = h
moved_line p at m n le (code.Acquire c lifo) h = h
moved_line p at m n le (code.Release c s) h = h
moved_line p at m n le (code.Ticket l) h = h
moved_line p at m n le (code.Wait l) h = h
moved_line p at m n le (code.One l) h = h
moved_line p at m n le (code.All l) h = h
moved_line p at m n le (code.Park w e) h = h
moved_line p at m n le (code.Unpark w e) h = h
moved_line p at m n le (code.Out s) h = h
moved_line p at m n le (code.Let r e) h = h
moved_line p at m n le (code.Compute r e o f) h = h
moved_line p at m n le (code.In s) h = h
moved_line p at m n le (code.Ask s) h = h
moved_line p at m n le (code.Assert e r f) h = h
moved_line p at m n le code.Fail h = h

pub lined_at : (p : Program) (codes : List (List CodeLine)) (n : ℕ) → All (IsLined p) codes → IsLined p (code_at codes n)
lined_at p codes n h = by (cases_lt n (length codes))
  where
    by : (n < length codes) ⊎ (length codes ≤ n) → IsLined p (code_at codes n)
    by (inl lt) = All-get_or (IsLined p) codes n [] lt h
    by (inr past) = subst (IsLined p) (sym (get_or_past codes n [] past)) (All-nil (λ (c : CodeLine). IsLine p 0 c.instruction))

done_lines : (p : Program) (codes : List (List CodeLine)) (n at line most : ℕ) → All (IsLined p) codes → at + length (code_at codes n) ≤ most
    → AreLines p most (map (put_in at line) (code_at codes n))
done_lines p codes n at line most h le =
    All-map (λ (c : CodeLine). IsLine p most c.instruction) (put_in at line) (code_at codes n)
    (All-weaker (λ (c : CodeLine). IsLine p (length (code_at codes n)) c.instruction) (λ (c : CodeLine). IsLine p most (moved at c.instruction))
    (λ c w. moved_line p at (length (code_at codes n)) most le c.instruction w) (code_at codes n) (lined_at p codes n h))

-- ---- lines of statements

one_line : (p : Program) (most line : ℕ) (i : Instruction) → IsLine p most i
    → AreLines p most (record { line = line; within = []; instruction = i } ∷ [])
one_line p most line i h =
    All-cons (λ (c : CodeLine). IsLine p most c.instruction) (record { line = line; within = []; instruction = i }) [] h
    (All-nil (λ (c : CodeLine). IsLine p most c.instruction))

are_lines : (p : Program) (codes : List (List CodeLine)) (body : List Written) (at line most : ℕ) (s : Statement)
    → at + width codes s ≤ most → size_of codes body ≤ most
    → IsStatement p s → All (IsLined p) codes → AreLines p most (lines_of codes body at line s)
are_lines p codes body at line most (says.Plain i) le size h done = one_line p most line i (h most)
are_lines p codes body at line most (says.If e r f name) le size h done =
    one_line p most line (code.If e r f (target_of codes body name)) (h.0, h.1, omega (arith, target_within codes body name))
are_lines p codes body at line most (says.Goto name) le size h done =
    one_line p most line (code.Goto (target_of codes body name)) (omega (arith, target_within codes body name))
are_lines p codes body at line most (says.Label name) le size h done = All-nil (λ (c : CodeLine). IsLine p most c.instruction)
are_lines p codes body at line most (says.Do n) le size h done = done_lines p codes n at line most done le
are_lines p codes body at line most says.Return le size h done = one_line p most line (code.Goto (size_of codes body)) size

-- ---- lines of a body

abbrev wide : List (List CodeLine) → Written → ℕ
wide codes w = width codes w.statement

abbrev AreStatements : Program → List Written → Type 0
AreStatements p ws = All (λ (w : Written). IsStatement p w.statement) ws

-- lines that are put together so far, and those of the statements that follow
record Follows (p : Program) (codes : List (List CodeLine)) (out lines : List CodeLine) (ws : List Written) (most : ℕ) : Type 0 where
  length_is : length lines ≡ length out + size_of codes ws
  lined : AreLines p most lines

follows : (p : Program) (codes : List (List CodeLine)) (body : List Written) (most : ℕ) (out : List CodeLine) (ws : List Written)
    → length out + size_of codes ws ≤ most → size_of codes body ≤ most → AreStatements p ws → All (IsLined p) codes → AreLines p most out
    → Follows p codes out (fold (after_one codes body) out ws) ws most
follows p codes body most out [] le size good done h = record { length_is = omega arith; lined = h }
follows p codes body most out (w ∷ ws) le size good done h =
    let more : size_of codes (w ∷ ws) ≡ width codes w.statement + size_of codes ws = omega (arith, sum_by-append (wide codes) (w ∷ []) ws) in
    let long : length (after_one codes body out w) ≡ length out + width codes w.statement =
    length-append out (lines_of codes body (length out) w.line w.statement)
    ∙ ap (λ (n : ℕ). length out + n) (line_length codes body (length out) w.line w.statement) in
    let rest = follows p codes body most (after_one codes body out w) ws (omega arith) size
    (All-tail (λ (x : Written). IsStatement p x.statement) w ws good) done
    (All-append (λ (c : CodeLine). IsLine p most c.instruction) out (lines_of codes body (length out) w.line w.statement) h
    (are_lines p codes body (length out) w.line most w.statement (omega arith) size
    (All-head (λ (x : Written). IsStatement p x.statement) w ws good) done)) in
    record { length_is = omega (arith, rest.length_is); lined = rest.lined }

pub lined_code : (p : Program) (codes : List (List CodeLine)) (body : List Written) → AreStatements p body → All (IsLined p) codes
    → IsLined p (code_of codes body)
lined_code p codes body good done =
    let all = follows p codes body (size_of codes body) [] body (omega arith) (omega arith) good done
    (All-nil (λ (c : CodeLine). IsLine p (size_of codes body) c.instruction)) in
    let long : length (code_of codes body) ≡ size_of codes body = omega (arith, all.length_is) in
    subst (λ (n : ℕ). AreLines p n (code_of codes body)) (sym long) all.lined
