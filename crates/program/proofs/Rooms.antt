-- Where nothing is too much, there is room for what a line means.
use Rattle.std.proofs.Common.{◌≡◌, ℕ, ◌+◌, ◌-◌, ◌≤◌, Bool, true, false, length, Some, None, Option, Result, Ok, Err, refl, sym, ap, subst}
use Rattle.std.proofs.Common.{arith}
use Rattle.std.specs.Prelude.{nat_lt, cond, ◌==◌, ◌||◌}
use Rattle.std.specs.Option.{unwrap_or}
use Rattle.std.proofs.lemmas.Bool.{ltb-false}
use Rattle.program_text.specs.declared.words.Number.TheVariants.{Plus, Minus}
use Rattle.program_text.specs.declared.words.SpelledOperand.{SpelledOperand}
use Rattle.program_text.specs.declared.words.SpelledOperand.TheVariants as text
use Rattle.program_text.specs.declared.lines.SpelledLine.{SpelledLine}
use Rattle.program_text.specs.declared.lines.SpelledLine.TheVariants.{Blank, Const, Word, Counter, List as NotifyList, Registers, Section, Program, Seats, Most, Apart, Passed}
use Rattle.program_text.specs.declared.lines.SpelledLine.TheVariants.{Finally, Load, Store, Swap, Add, Exchange, Await, Acquire, Release, Ticket, Wait, One}
use Rattle.program_text.specs.declared.lines.SpelledLine.TheVariants.{All as NotifyAll}
use Rattle.program_text.specs.declared.lines.SpelledLine.TheVariants.{Park, Unpark, Out, Let, Compute, If, Goto, Label, In, Ask, Assert, Fail, Do, Return}
use Rattle.program_code.specs.declared.instruction.Instruction.{Instruction}
use Rattle.program_code.specs.declared.instruction.Instruction.TheVariants as code
use Rattle.program_text.specs.declared.cause.ProgramCause.{ProgramCause}
use Rattle.program_text.specs.declared.cause.ProgramCause.TheVariants.{Undeclared}
use Rattle.program.specs.declared.names.DeclaredNames.{DeclaredNames}
use Rattle.program.specs.declared.statement.Statement.{Statement}
use Rattle.program.specs.declared.statement.Statement.TheVariants as says
use Rattle.program.specs.declared.meant.Meant.{Meant}
use Rattle.program.specs.declared.meant.Meant.TheVariants as meant
use Rattle.program.specs.declared.draft.ProgramDraft.{ProgramDraft}
use Rattle.program.specs.Causes.{both, map_ok, and_then, too_if}
use Rattle.program.specs.Parts.{number_of, some_of, length_of, fixed_of, start_of, list_of, register_of, section_of, program_of, operand_of, word_of}
use Rattle.program.specs.Parts.{counter_of, share_of}
use Rattle.program.specs.Statements.{ended_of, done_of, access_of, place_and_operand, two_of, seat_line, layer_line, access_line, statement_of}
use Rattle.program.specs.Meanings.{property_of, meant_of}
use Rattle.program.specs.Codes.{width, size_of, IsTargetWithin, JumpsByLabel}
use Rattle.program.specs.Limits.{cells_asked, lines_at, lines_asked, is_too_many}
use Rattle.program.specs.declared.stage.Stage.{Stage}
use Rattle.program.specs.declared.stage.Stage.TheVariants as stage
use Rattle.program.specs.declared.stage.LineGroup.{LineGroup}
use Rattle.program.specs.declared.stage.LineGroup.TheVariants as group
use Rattle.program.specs.Places.{group_of}
use Rattle.program.specs.Drafts.{closed_by}
use Rattle.program.specs.Fitting.{FitsMeant}

-- ---- answers that are none but one

pub too_none : {A : Type 0} (b : Bool) (c : ProgramCause) (r : Result A ProgramCause) (a : A) → too_if b c r ≡ Ok a → (b ≡ false) × (r ≡ Ok a)
too_none true c (Ok x) a e = absurd cc
too_none true c (Err d) a e = absurd cc
too_none false c r a e = (refl, e)

-- what holds of each answer that is made so holds of the answer
pub made : {A B : Type 0} (P : B → Type 0) (f : A → B) (r : Result A ProgramCause) (b : B) → ((a : A) → r ≡ Ok a → P (f a)) → map_ok f r ≡ Ok b → P b
made P f (Ok a) b h e = let is : f a ≡ b = cc in subst P is (h a refl)
made P f (Err c) b h e = absurd cc

pub simply : {B : Type 0} (P : B → Type 0) (a b : B) → P a → (let r : Result B ProgramCause = Ok a in r ≡ Ok b) → P b
simply P a b h e = let is : a ≡ b = cc in subst P is h

-- ---- jumps of a program's lines go to labels

abbrev Still : Instruction → Type 0
Still i = IsTargetWithin 0 i

still_seat : (names : DeclaredNames) (line : SpelledLine) (i : Instruction) → seat_line names line ≡ Ok i → Still i
still_seat names (Out s) i e = made Still code.Out (section_of names s) i (λ a h. tt) e
still_seat names (In s) i e = made Still code.In (section_of names s) i (λ a h. tt) e
still_seat names (Ask s) i e = made Still code.Ask (section_of names s) i (λ a h. tt) e
still_seat names (Let r f) i e = made Still (λ x. code.Let x.0 x.1) (both (register_of names r) (operand_of names f)) i (λ a h. tt) e
still_seat names (Compute r f op g) i e =
    made Still (λ x. code.Compute x.0 x.1.0 op x.1.1) (both (register_of names r) (two_of names f g)) i (λ a h. tt) e
still_seat names (Assert f rel g) i e = made Still (λ x. code.Assert x.0 rel x.1) (two_of names f g) i (λ a h. tt) e
still_seat names Fail i e = simply Still code.Fail i tt e
still_seat names line i e = absurd cc

still_layer : (names : DeclaredNames) (line : SpelledLine) (i : Instruction) → layer_line names line ≡ Ok i → Still i
still_layer names (Acquire c lifo) i e = made Still (λ x. code.Acquire x lifo) (counter_of names c) i (λ a h. tt) e
still_layer names (Release c s) i e = made Still (λ x. code.Release x.0 x.1) (both (counter_of names c) (share_of names s)) i (λ a h. tt) e
still_layer names (Ticket l) i e = made Still code.Ticket (list_of names l) i (λ a h. tt) e
still_layer names (Wait l) i e = made Still code.Wait (list_of names l) i (λ a h. tt) e
still_layer names (One l) i e = made Still code.One (list_of names l) i (λ a h. tt) e
still_layer names (NotifyAll l) i e = made Still code.All (list_of names l) i (λ a h. tt) e
still_layer names (Park w f) i e = made Still (λ x. code.Park x.0 x.1) (place_and_operand names w f) i (λ a h. tt) e
still_layer names (Unpark w f) i e = made Still (λ x. code.Unpark x.0 x.1) (place_and_operand names w f) i (λ a h. tt) e
still_layer names line i e = still_seat names line i e

still_access : (names : DeclaredNames) (line : SpelledLine) (i : Instruction) → access_line names line ≡ Ok i → Still i
still_access names (Load w r) i e = made Still (λ x. code.Load x.0 x.1) (both (word_of names w) (register_of names r)) i (λ a h. tt) e
still_access names (Store w f) i e = made Still (λ x. code.Store x.0 x.1) (place_and_operand names w f) i (λ a h. tt) e
still_access names (Swap w f o) i e = made Still (λ x. code.Swap x.0 x.1.0 x.1.1) (access_of names w f o) i (λ a h. tt) e
still_access names (Add w f o) i e = made Still (λ x. code.Add x.0 x.1.0 x.1.1) (access_of names w f o) i (λ a h. tt) e
still_access names (Exchange w f g o) i e =
    made Still (λ x. code.Exchange x.0.0 x.0.1.0 x.1 x.0.1.1) (both (access_of names w f o) (operand_of names g)) i (λ a h. tt) e
still_access names (Await w rel f o) i e = made Still (λ x. code.Await x.0 rel x.1.0 x.1.1) (access_of names w f o) i (λ a h. tt) e
still_access names line i e = still_layer names line i e

by_label : (names : DeclaredNames) (ended : ℕ) (line : SpelledLine) (s : Statement) → statement_of names ended line ≡ Ok s → JumpsByLabel s
by_label names ended (If f rel g a) s e = made JumpsByLabel (λ x. says.If x.0 rel x.1 a) (two_of names f g) s (λ a h. tt) e
by_label names ended (Goto a) s e = simply JumpsByLabel (says.Goto a) s tt e
by_label names ended (Label a) s e = simply JumpsByLabel (says.Label a) s tt e
by_label names ended (Do p) s e = made JumpsByLabel says.Do (done_of names ended p) s (λ a h. tt) e
by_label names ended Return s e = simply JumpsByLabel says.Return s tt e
by_label names ended line s e = made JumpsByLabel says.Plain (access_line names line) s (λ i h. still_access names line i h) e

-- ---- how many lines a statement is

abbrev wrap : {A : Type 0} → A → Result A ProgramCause
wrap a = Ok a

abbrev wrong : Result ℕ ProgramCause
wrong = Err Undeclared

below : (n k : ℕ) (b : Bool) → cond b (wrap n) wrong ≡ wrap k → wrap n ≡ wrap k
below n k true e = e
below n k false e = absurd cc

done_is : (ended k : ℕ) (r : Result ℕ ProgramCause) → and_then r (ended_of ended) ≡ Ok k → r ≡ Ok k
done_is ended k (Ok n) e = below n k (nat_lt n ended) e
done_is ended k (Err c) e = absurd cc

as_asked : (d : ProgramDraft) (line : SpelledLine) (s : Statement) → statement_of d.names (length d.codes) line ≡ Ok s → width d.codes s ≡ lines_asked d line
as_asked d (If f rel g a) s e =
    made (λ (t : Statement). width d.codes t ≡ 1) (λ x. says.If x.0 rel x.1 a) (two_of d.names f g) s (λ a h. refl) e
as_asked d (Goto a) s e = simply (λ (t : Statement). width d.codes t ≡ 1) (says.Goto a) s refl e
as_asked d (Label a) s e = simply (λ (t : Statement). width d.codes t ≡ 0) (says.Label a) s refl e
as_asked d (Do p) s e =
    made (λ (t : Statement). width d.codes t ≡ lines_at d.codes (program_of d.names p)) says.Do (done_of d.names (length d.codes) p) s
    (λ k h. sym (ap (λ (r : Result ℕ ProgramCause). lines_at d.codes r) (done_is (length d.codes) k (program_of d.names p) h))) e
as_asked d Return s e = simply (λ (t : Statement). width d.codes t ≡ 1) says.Return s refl e
as_asked d line s e = made (λ (t : Statement). width d.codes t ≡ 1) says.Plain (access_line d.names line) s (λ i h. refl) e

-- ---- room

pub neither : (a b : Bool) → (a || b) ≡ false → b ≡ false
neither true b e = absurd cc
neither false b e = e

pub within : (most used more : ℕ) → used ≤ most → nat_lt (most - used) more ≡ false → used + more ≤ most
within most used more le e = omega (arith, ltb-false (most - used) more e)

members_asked : (index : Option SpelledOperand) (members : Option ℕ) → length_of index ≡ Ok members → unwrap_or members 1 ≡ cells_asked index
members_asked None members e = simply (λ (o : Option ℕ). unwrap_or o 1 ≡ 1) None members refl e
members_asked (Some (text.Number (Plus n))) members e = fitting (n == 0 || nat_lt 16 n) e
  where
    fitting : (b : Bool) → cond b (length_of (Some text.Me)) (Ok (Some n)) ≡ Ok members → unwrap_or members 1 ≡ n
    fitting true f = absurd cc
    fitting false f = simply (λ (o : Option ℕ). unwrap_or o 1 ≡ n) (Some n) members refl f
members_asked (Some (text.Number (Minus n))) members e = absurd cc
members_asked (Some text.Me) members e = absurd cc
members_asked (Some (text.Name name)) members e = absurd cc

both_first : {A B : Type 0} (r : Result A ProgramCause) (s : Result B ProgramCause) (x : A × B) → both r s ≡ Ok x → r ≡ Ok x.0
both_first {A} {B} (Ok a) (Ok b) x e = ap (wrap {A = A}) (simply (λ (y : A × B). a ≡ y.0) (a, b) x refl e)
both_first (Ok a) (Err d) x e = absurd cc
both_first (Err c) (Ok b) x e = absurd cc
both_first (Err c) (Err d) x e = absurd cc

room : (d : ProgramDraft) (line : SpelledLine) (m : Meant) → length d.words ≤ 32 → length d.counters ≤ 32
    → size_of d.codes d.body ≤ 255 → is_too_many d line ≡ false
    → meant_of d.names (length d.codes) line ≡ Ok m → FitsMeant d m
room d Blank m words counters short few e = simply (FitsMeant d) meant.Nothing m tt e
room d (Const name v) m words counters short few e = made (FitsMeant d) (λ z. meant.Constant name z) (number_of v) m (λ a h. tt) e
room d (Word w v) m words counters short few e =
    made (FitsMeant d) (λ x. meant.Words w.name x.0 x.1) (both (length_of w.index) (fixed_of d.names v)) m
    (λ x h. let is : unwrap_or x.0 1 ≡ cells_asked w.index = members_asked w.index x.0 (both_first (length_of w.index) (fixed_of d.names v) x h) in
    omega (arith, within 32 (length d.words) (cells_asked w.index) words few)) e
room d (Counter w v) m words counters short few e =
    made (FitsMeant d) (λ x. meant.Counters w.name x.0 x.1) (both (length_of w.index) (start_of d.names v)) m
    (λ x h. let is : unwrap_or x.0 1 ≡ cells_asked w.index = members_asked w.index x.0 (both_first (length_of w.index) (start_of d.names v) x h) in
    omega (arith, counters, ltb-false (16 - length d.counters) (cells_asked w.index) few)) e
room d (NotifyList name) m words counters short few e = simply (FitsMeant d) (meant.List name) m tt e
room d (Registers names) m words counters short few e = simply (FitsMeant d) (meant.Registers names) m tt e
room d (Section name) m words counters short few e = simply (FitsMeant d) (meant.Section name) m tt e
room d (Program name) m words counters short few e = simply (FitsMeant d) (meant.Program name) m tt e
room d (Seats k name) m words counters short few e =
    made (FitsMeant d) (λ x. meant.Seats x.0 x.1) (both (some_of k) (program_of d.names name)) m (λ a h. tt) e
room d (Most s n) m words counters short few e = made (FitsMeant d) meant.Property (property_of d.names (Most s n)) m (λ a h. tt) e
room d (Apart s t) m words counters short few e = made (FitsMeant d) meant.Property (property_of d.names (Apart s t)) m (λ a h. tt) e
room d (Passed s n) m words counters short few e = made (FitsMeant d) meant.Property (property_of d.names (Passed s n)) m (λ a h. tt) e
room d (Finally w r v) m words counters short few e = made (FitsMeant d) meant.Property (property_of d.names (Finally w r v)) m (λ a h. tt) e
room d line m words counters short few e =
    made (FitsMeant d) meant.Statement (statement_of d.names (length d.codes) line) m
    (λ s h. (
      (let is : width d.codes s ≡ lines_asked d line = as_asked d line s h in
          let long : nat_lt (255 - size_of d.codes d.body) (lines_asked d line) ≡ false =
          neither (nat_lt (128 - length d.body) 1) (nat_lt (255 - size_of d.codes d.body) (lines_asked d line)) few in
          omega (arith, within 255 (size_of d.codes d.body) (lines_asked d line) short long)),
      by_label d.names (length d.codes) line s h,
    )) e

-- ---- room behind a program that ends

abbrev pub closes : LineGroup → Bool
closes group.Program = true
closes group.Seats = true
closes k = false

pub stays_open : (behind : Stage) (k : LineGroup) (d : ProgramDraft) → closes k ≡ false → closed_by behind k d ≡ d
stays_open behind group.Program d e = absurd cc
stays_open behind group.Seats d e = absurd cc
stays_open stage.Declarations k d e = refl
stays_open stage.Programs k d e = refl
stays_open stage.Seats k d e = refl
stays_open stage.Properties k d e = refl

pub room_closed : (behind : Stage) (d : ProgramDraft) (line : SpelledLine) (m : Meant) → length d.words ≤ 32
    → length d.counters ≤ 32 → size_of d.codes d.body ≤ 255
    → is_too_many d line ≡ false → meant_of d.names (length d.codes) line ≡ Ok m → FitsMeant (closed_by behind (group_of line) d) m
room_closed behind d (Program name) m words counters short few e = simply (FitsMeant (closed_by behind group.Program d)) (meant.Program name) m tt e
room_closed behind d (Seats k name) m words counters short few e =
    made (FitsMeant (closed_by behind group.Seats d)) (λ x. meant.Seats x.0 x.1) (both (some_of k) (program_of d.names name)) m (λ a h. tt) e
room_closed behind d line m words counters short few e =
    subst (λ (x : ProgramDraft). FitsMeant x m) (sym (stays_open behind (group_of line) d refl)) (room d line m words counters short few e)
