-- The lines that are put together: how many they are, and that they jump no further than behind the last.
use Rattle.std.proofs.Common.{◌≡◌, ℕ, ◌+◌, ◌-◌, ◌^◌, ◌≤◌, ◌<◌, List, [], ◌∷◌, ◌++◌, length, take, get_or, All, Some}
use Rattle.std.proofs.Common.{None, Option, refl, sym, ap, subst}
use Rattle.std.proofs.Common.{◌∙◌, arith}
use Rattle.std.proofs.Common.{length-append, inl, inr, ◌⊎◌}
use Rattle.std.proofs.lemmas.Bool.{cases_lt}
use Rattle.std.specs.List.{fold}
use Rattle.std.proofs.lemmas.List.{length-map, get_or_past}
use Rattle.std.proofs.lemmas.List.Elements.{All-append, All-nil, All-cons, All-head, All-tail, All-map, All-get_or, All-weaker}
use Rattle.std.proofs.lemmas.List.Sums.{sum_by-append, sum_by-take-le, sum_by_more_le}
use Rattle.program_code.specs.declared.instruction.Instruction.{Instruction}
use Rattle.program_code.specs.declared.instruction.Instruction.TheVariants as code
use Rattle.program_code.specs.declared.program.CodeLine.{CodeLine}
use Rattle.program.specs.declared.statement.Statement.{Statement}
use Rattle.program.specs.declared.statement.Statement.TheVariants as says
use Rattle.program.specs.declared.statement.Written.{Written}
use Rattle.program.specs.Codes.{code_at, width, size_of, label_at, before, target_of, moved, put_in, lines_of, code_of, IsTargetWithin}
use Rattle.program.specs.Codes.{IsClosed}
use Rattle.program.specs.Codes.{JumpsByLabel, CanPutIn}

-- ---- how many lines

pub line_length : (codes : List (List CodeLine)) (body : List Written) (at line : ℕ) (s : Statement)
    → length (lines_of codes body at line s) ≡ width codes s
line_length codes body at line (says.Plain i) = refl
line_length codes body at line (says.If e r f name) = refl
line_length codes body at line (says.Goto name) = refl
line_length codes body at line (says.Label name) = refl
line_length codes body at line (says.Do n) = length-map (code_at codes n) (put_in at line)
line_length codes body at line says.Return = refl

-- one statement more
abbrev pub after_one : List (List CodeLine) → List Written → List CodeLine → Written → List CodeLine
after_one codes body lines w = lines ++ lines_of codes body (length lines) w.line w.statement

abbrev wide : List (List CodeLine) → Written → ℕ
wide codes w = width codes w.statement

-- ---- where jumps go

pub target_within : (codes : List (List CodeLine)) (body : List Written) (name : List ℕ) → target_of codes body name ≤ size_of codes body
target_within codes body name = by (label_at body name)
  where
    by : (o : Option ℕ) → size_of codes (before o body) ≤ size_of codes body
    by None = omega arith
    by (Some label) = sum_by-take-le (wide codes) body label

further : (m n : ℕ) → m ≤ n → (i : Instruction) → IsTargetWithin m i → IsTargetWithin n i
further m n le (code.If e r f target) h = omega arith
further m n le (code.Goto target) h = omega arith
further m n le (code.Load w r) h = tt
further m n le (code.Store w e) h = tt
further m n le (code.Swap w e o) h = tt
further m n le (code.Add w e o) h = tt
further m n le (code.Exchange w e f o) h = tt
further m n le (code.Await w r e o) h = tt
further m n le (code.Acquire c lifo) h = tt
further m n le (code.Release c s) h = tt
further m n le (code.Ticket l) h = tt
further m n le (code.Wait l) h = tt
further m n le (code.One l) h = tt
further m n le (code.All l) h = tt
further m n le (code.Park w e) h = tt
further m n le (code.Unpark w e) h = tt
further m n le (code.Out s) h = tt
further m n le (code.Let r e) h = tt
further m n le (code.Compute r e o f) h = tt
further m n le (code.In s) h = tt
further m n le (code.Ask s) h = tt
further m n le (code.Assert e r f) h = tt
further m n le code.Fail h = tt

moved_within : (at m n : ℕ) → at + m ≤ n → (i : Instruction) → IsTargetWithin m i → IsTargetWithin n (moved at i)
moved_within at m n le (code.If e r f target) h = omega arith
moved_within at m n le (code.Goto target) h = omega arith
moved_within at m n le (code.Load w r) h = tt
moved_within at m n le (code.Store w e) h = tt
moved_within at m n le (code.Swap w e o) h = tt
moved_within at m n le (code.Add w e o) h = tt
moved_within at m n le (code.Exchange w e f o) h = tt
moved_within at m n le (code.Await w r e o) h = tt
moved_within at m n le (code.Acquire c lifo) h = tt
moved_within at m n le (code.Release c s) h = tt
moved_within at m n le (code.Ticket l) h = tt
moved_within at m n le (code.Wait l) h = tt
moved_within at m n le (code.One l) h = tt
moved_within at m n le (code.All l) h = tt
moved_within at m n le (code.Park w e) h = tt
moved_within at m n le (code.Unpark w e) h = tt
moved_within at m n le (code.Out s) h = tt
moved_within at m n le (code.Let r e) h = tt
moved_within at m n le (code.Compute r e o f) h = tt
moved_within at m n le (code.In s) h = tt
moved_within at m n le (code.Ask s) h = tt
moved_within at m n le (code.Assert e r f) h = tt
moved_within at m n le code.Fail h = tt

-- the program of a number is closed, whatever the number
closed_none : IsClosed []
closed_none = record { short = omega arith; jumps = All-nil (λ (c : CodeLine). IsTargetWithin 0 c.instruction) }

closed_at : (codes : List (List CodeLine)) (n : ℕ) → All IsClosed codes → IsClosed (code_at codes n)
closed_at codes n h = by (cases_lt n (length codes))
  where
    by : (n < length codes) ⊎ (length codes ≤ n) → IsClosed (code_at codes n)
    by (inl lt) = All-get_or IsClosed codes n [] lt h
    by (inr past) = subst IsClosed (sym (get_or_past codes n [] past)) closed_none

-- each line of it can stand behind so many
pub can_move : (codes : List (List CodeLine)) (n at most : ℕ) → All IsClosed codes → at + length (code_at codes n) ≤ most
    → All (λ (c : CodeLine). IsTargetWithin most (moved at c.instruction)) (code_at codes n)
can_move codes n at most h le =
    All-weaker (λ (c : CodeLine). IsTargetWithin (length (code_at codes n)) c.instruction)
    (λ (c : CodeLine). IsTargetWithin most (moved at c.instruction))
    (λ c w. moved_within at (length (code_at codes n)) most le c.instruction w) (code_at codes n) (closed_at codes n h).jumps

can_put_in : (codes : List (List CodeLine)) (at : ℕ) (s : Statement) → All IsClosed codes → at + width codes s ≤ 255 → CanPutIn codes at s
can_put_in codes at (says.Plain i) h le = tt
can_put_in codes at (says.If e r f name) h le = tt
can_put_in codes at (says.Goto name) h le = tt
can_put_in codes at (says.Label name) h le = tt
can_put_in codes at (says.Do n) h le = can_move codes n at (2 ^ 64 - 1) h (omega arith)
can_put_in codes at says.Return h le = tt

pub put_more : (codes : List (List CodeLine)) (body : List Written) (i at : ℕ) (w : Written) → i < length body
    → w ≡ get_or body i w → size_of codes body ≤ 255
    → at ≡ size_of codes (take i body) → All IsClosed codes → CanPutIn codes at w.statement
put_more codes body i at w lt e short is h =
    let same : wide codes w ≡ wide codes (get_or body i w) = ap (wide codes) e in
    can_put_in codes at w.statement h (omega (arith, sum_by_more_le (wide codes) body i w lt))

-- ---- no jump of a closed body goes further than behind its last line

abbrev Within : ℕ → List CodeLine → Type 0
Within most lines = All (λ (c : CodeLine). IsTargetWithin most c.instruction) lines

one_within : (most line : ℕ) (i : Instruction) → IsTargetWithin most i → Within most (record { line = line; within = []; instruction = i } ∷ [])
one_within most line i h =
    All-cons (λ (c : CodeLine). IsTargetWithin most c.instruction) (record { line = line; within = []; instruction = i }) [] h
    (All-nil (λ (c : CodeLine). IsTargetWithin most c.instruction))

lines_within : (codes : List (List CodeLine)) (body : List Written) (at line most : ℕ) (s : Statement)
    → at + width codes s ≤ most → size_of codes body ≤ most
    → JumpsByLabel s → All IsClosed codes → Within most (lines_of codes body at line s)
lines_within codes body at line most (says.Plain i) le size h closed = one_within most line i (further 0 most (omega arith) i h)
lines_within codes body at line most (says.If e r f name) le size h closed =
    one_within most line (code.If e r f (target_of codes body name)) (omega (arith, target_within codes body name))
lines_within codes body at line most (says.Goto name) le size h closed =
    one_within most line (code.Goto (target_of codes body name)) (omega (arith, target_within codes body name))
lines_within codes body at line most (says.Label name) le size h closed = All-nil (λ (c : CodeLine). IsTargetWithin most c.instruction)
lines_within codes body at line most (says.Do n) le size h closed =
    All-map (λ (c : CodeLine). IsTargetWithin most c.instruction) (put_in at line) (code_at codes n) (can_move codes n at most closed le)
lines_within codes body at line most says.Return le size h closed = one_within most line (code.Goto (size_of codes body)) size

-- lines that are put together so far, and those of the statements that follow
record Follows (codes : List (List CodeLine)) (out lines : List CodeLine) (ws : List Written) (most : ℕ) : Type 0 where
  length_is : length lines ≡ length out + size_of codes ws
  within : Within most lines

follows : (codes : List (List CodeLine)) (body : List Written) (most : ℕ) (out : List CodeLine) (ws : List Written) → length out + size_of codes ws ≤ most
    → size_of codes body ≤ most → All (λ (w : Written). JumpsByLabel w.statement) ws → All IsClosed codes → Within most out
    → Follows codes out (fold (after_one codes body) out ws) ws most
follows codes body most out [] le size jumps closed h = record { length_is = omega arith; within = h }
follows codes body most out (w ∷ ws) le size jumps closed h =
    let more : size_of codes (w ∷ ws) ≡ width codes w.statement + size_of codes ws = omega (arith, sum_by-append (wide codes) (w ∷ []) ws) in
    let long : length (after_one codes body out w) ≡ length out + width codes w.statement =
    length-append out (lines_of codes body (length out) w.line w.statement)
    ∙ ap (λ (n : ℕ). length out + n) (line_length codes body (length out) w.line w.statement) in
    let rest = follows codes body most (after_one codes body out w) ws (omega arith) size
    (All-tail (λ (w : Written). JumpsByLabel w.statement) w ws jumps) closed
    (All-append (λ (c : CodeLine). IsTargetWithin most c.instruction) out (lines_of codes body (length out) w.line w.statement) h
    (lines_within codes body (length out) w.line most w.statement (omega arith) size
    (All-head (λ (w : Written). JumpsByLabel w.statement) w ws jumps) closed)) in
    record { length_is = omega (arith, rest.length_is); within = rest.within }

pub closed_code : (codes : List (List CodeLine)) (body : List Written) → size_of codes body ≤ 255 → All (λ (w : Written). JumpsByLabel w.statement) body
    → All IsClosed codes → IsClosed (code_of codes body)
closed_code codes body short jumps closed =
    let all = follows codes body (size_of codes body) [] body (omega arith) (omega arith) jumps closed
    (All-nil (λ (c : CodeLine). IsTargetWithin (size_of codes body) c.instruction)) in
    let long : length (code_of codes body) ≡ size_of codes body = omega (arith, all.length_is) in
    record {
      short = omega arith;
      jumps = subst (λ (n : ℕ). Within n (code_of codes body)) (sym long) all.within;
    }
