-- A program that a text says is well formed, and has few of everything.
use Rattle.std.proofs.Common.{◌≡◌, ℕ, ◌+◌, ◌^◌, ◌<◌, ◌≤◌, List, [], ◌∷◌, length, Option, Some, None, Result, Ok, Err, IfOk, All}
use Rattle.std.proofs.Common.{slice_get, slice_index_or}
use Rattle.std.proofs.Common.{refl, subst, arith, inl, inr, ◌⊎◌}
use Rattle.std.proofs.lemmas.Bool.{cases_lt}
use Rattle.std.proofs.lemmas.List.{get_or_past}
use Rattle.std.proofs.lemmas.Option.{slice_get_within, get_or_from_slice_get}
use Rattle.scenario_text.specs.Reader.{IsOnly}
use Rattle.program_code.specs.declared.instruction.Instruction.{Instruction}
use Rattle.program_code.specs.declared.instruction.Instruction.TheVariants as code
use Rattle.program_code.specs.declared.operand.Operand.{Operand}
use Rattle.program_code.specs.declared.operand.Operand.TheVariants as operand
use Rattle.program_code.specs.declared.operand.CodePlace.{CodePlace}
use Rattle.program_code.specs.declared.operand.CodePlace.TheVariants.{Single, Member}
use Rattle.program_code.specs.declared.operand.Share.{Share}
use Rattle.program_code.specs.declared.operand.Share.TheVariants as share
use Rattle.program_code.specs.declared.program.Asked.{Asked}
use Rattle.program_code.specs.declared.program.CodeLine.{CodeLine}
use Rattle.program_code.specs.declared.program.Program.{Program}
use Rattle.program_code.specs.WellFormed.{IsOperand, IsPlace, IsShare, IsLine, IsWellFormed, IsFew}
use Rattle.program_text.specs.declared.fault.ProgramFault.{ProgramFault}
use Rattle.program.specs.declared.named_program.NamedProgram.{NamedProgram}
use Rattle.program.specs.declared.stage.LineGroup.TheVariants as group
use Rattle.program.specs.declared.draft.ProgramDraft.{ProgramDraft}
use Rattle.program.specs.Codes.{code_at}
use Rattle.program.specs.Drafts.{no_lines, closed_by, program_said, end_of}
use Rattle.program.specs.Fitting.{IsFitting}
use Rattle.program.specs.Text.{IsProgramOf}
use Rattle.program.proofs.Fits.{fits_closed_by}
use Rattle.program.proofs.Forming.{IsFormed, formed_closed_by}
use Rattle.program.proofs.Keeping.{IsKept, kept_none, kept_lines}
use Rattle.program.proofs.Lining.{lined_at}
use Rattle.program.proofs.Naming.{sizes, Below}

-- ---- what a line names is there, whatever the programs and the seats are

abbrev Running : Program → List (List CodeLine) → List ℕ → List Asked → Program
Running p codes seats properties = record p { codes = codes; seats = seats; properties = properties }

same_operand : (p : Program) (codes : List (List CodeLine)) (seats : List ℕ) (properties : List Asked) (e : Operand) → IsOperand p e
    → IsOperand (Running p codes seats properties) e
same_operand p codes seats properties (operand.Number v) h = tt
same_operand p codes seats properties operand.Me h = tt
same_operand p codes seats properties (operand.Register r) h = h

same_place : (p : Program) (codes : List (List CodeLine)) (seats : List ℕ) (properties : List Asked) (n : ℕ) (w : CodePlace) → IsPlace p n w
    → IsPlace (Running p codes seats properties) n w
same_place p codes seats properties n (Single w) h = h
same_place p codes seats properties n (Member first many e) h = (h.0, same_operand p codes seats properties e h.1)

same_share : (p : Program) (codes : List (List CodeLine)) (seats : List ℕ) (properties : List Asked) (s : Share) → IsShare p s
    → IsShare (Running p codes seats properties) s
same_share p codes seats properties share.One h = tt
same_share p codes seats properties share.Handoff h = tt
same_share p codes seats properties (share.Many e) h = same_operand p codes seats properties e h

same_line : (p : Program) (codes : List (List CodeLine)) (seats : List ℕ) (properties : List Asked) (n : ℕ) (i : Instruction) → IsLine p n i
    → IsLine (Running p codes seats properties) n i
same_line p codes seats properties n i h = by i h
  where
    operands : (e : Operand) → IsOperand p e → IsOperand (Running p codes seats properties) e
    operands e k = same_operand p codes seats properties e k

    words : (w : CodePlace) → IsPlace p (length p.words) w → IsPlace (Running p codes seats properties) (length p.words) w
    words w k = same_place p codes seats properties (length p.words) w k

    counters : (c : CodePlace) → IsPlace p (length p.counters) c → IsPlace (Running p codes seats properties) (length p.counters) c
    counters c k = same_place p codes seats properties (length p.counters) c k

    by : (j : Instruction) → IsLine p n j → IsLine (Running p codes seats properties) n j
    by (code.Load w r) k = (words w k.0, k.1)
    by (code.Store w e) k = (words w k.0, operands e k.1)
    by (code.Swap w e o) k = (words w k.0, operands e k.1, k.2)
    by (code.Add w e o) k = (words w k.0, operands e k.1, k.2)
    by (code.Exchange w e f o) k = (words w k.0, operands e k.1, operands f k.2, k.3)
    by (code.Await w r e o) k = (words w k.0, operands e k.1, k.2)
    by (code.Acquire c lifo) k = counters c k
    by (code.Release c s) k = (counters c k.0, same_share p codes seats properties s k.1)
    by (code.Ticket l) k = k
    by (code.Wait l) k = k
    by (code.One l) k = k
    by (code.All l) k = k
    by (code.Park w e) k = (words w k.0, operands e k.1)
    by (code.Unpark w e) k = (words w k.0, operands e k.1)
    by (code.Out s) k = k
    by (code.Let r e) k = (k.0, operands e k.1)
    by (code.Compute r e o f) k = (k.0, operands e k.1, operands f k.2)
    by (code.If e r f target) k = (operands e k.0, operands f k.1, k.2)
    by (code.Goto target) k = k
    by (code.In s) k = k
    by (code.Ask s) k = k
    by (code.Assert e r f) k = (operands e k.0, operands f k.1)
    by code.Fail k = tt

-- ---- what a draft says

at_place : {A : Type 0} (P : A → Type 0) (xs : List A) (n : ℕ) (x : A) → All P xs → slice_get xs n ≡ Some x → P x
at_place P xs n x h e = subst P (get_or_from_slice_get xs n x x e) (h n x (slice_get_within xs n x e))

said_is_formed : (d : ProgramDraft) → IsFormed d → IsWellFormed (program_said d).program
said_is_formed d k = record {
  codes =
      λ n. (λ at l e.
      same_line (sizes d) d.codes d.seats d.properties (length (code_at d.codes n)) l.instruction
      (at_place (λ (c : CodeLine). IsLine (sizes d) (length (code_at d.codes n)) c.instruction) (code_at d.codes n) at l
      (lined_at (sizes d) d.codes n k.codes) e));
  seats = λ i s e. at_place (Below (length d.codes)) d.seats i s k.seats e;
}

small_start : (starts : List ℕ) (c : ℕ) → All (λ (n : ℕ). n < 2 ^ 32) starts → slice_index_or starts c 0 < 2 ^ 32
small_start starts c h = by (cases_lt c (length starts))
  where
    by : (c < length starts) ⊎ (length starts ≤ c) → slice_index_or starts c 0 < 2 ^ 32
    by (inl lt) = h c 0 lt
    by (inr past) = omega (arith, get_or_past starts c 0 past)

said_is_few : (d : ProgramDraft) → IsFitting d → IsFormed d → IsFew (program_said d).program
said_is_few d f k = record {
  seats = omega (arith, k.few_seats);
  words = omega (arith, f.few_words);
  counters = omega (arith, f.few_counters);
  lists = omega (arith, k.lists);
  registers = k.registers;
  sections = k.sections;
  starts = λ c. small_start d.counters c k.starts;
}

-- ---- what a text says

said : (d : ProgramDraft) (number : ℕ) (lost : Option ℕ) (seats : List ℕ) (x : NamedProgram) → end_of d number lost seats ≡ Ok x → program_said d ≡ x
said d number (Some line) seats x h = absurd cc
said d number None [] x h = absurd cc
said d number None (s ∷ ss) x h = cc

abbrev IsSmallAndFormed : NamedProgram → Type 0
IsSmallAndFormed x = IsWellFormed x.program × IsFew x.program

program_of_text : (text : List ℕ) (x : NamedProgram) → IsProgramOf text x → IsSmallAndFormed x
program_of_text text x m =
    let k : IsKept m.draft = kept_lines m.lines no_lines m.draft 1 kept_none m.together in
    let e : ProgramDraft = closed_by m.draft.stage group.Seats m.draft in
    let f : IsFormed e = formed_closed_by m.draft.stage group.Seats m.draft k.formed in
    subst IsSmallAndFormed (said e (length m.lines + 1) e.lost e.seats x m.ends)
    (said_is_formed e f, said_is_few e (fits_closed_by m.draft.stage group.Seats m.draft k.fitting) f)

pub answer_is_formed : (text : List ℕ) (r : Result NamedProgram ProgramFault) → IfOk r (λ x. IsOnly (IsProgramOf text) x)
    → IfOk r (λ x. IsWellFormed x.program)
answer_is_formed text (Ok x) h = (program_of_text text x ((h x).1 refl)).0
answer_is_formed text (Err f) h = tt

pub answer_is_few : (text : List ℕ) (r : Result NamedProgram ProgramFault) → IfOk r (λ x. IsOnly (IsProgramOf text) x)
    → IfOk r (λ x. IsFew x.program)
answer_is_few text (Ok x) h = (program_of_text text x ((h x).1 refl)).1
answer_is_few text (Err f) h = tt
