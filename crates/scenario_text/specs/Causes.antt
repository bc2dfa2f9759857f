-- What may be wrong with a line, as facts of the whole line and of the lines before it.
use Rattle.std.specs.Prelude.{⊤, ◌≡◌, ℕ, ◌==◌, Bool, true, false, nat_lt, not, ◌||◌, ◌&&◌, List, [], ◌∷◌}
use Rattle.std.specs.Prelude.{◌++◌, length, take, count_by, fold, cond, Option, Some, None, ◌⊎◌, ◌^◌, ◌-◌}
use Rattle.std.specs.List.{list_any, list_all}
use Rattle.scenario_text.specs.declared.reader.call.Change.TheVariants.{Up, Down}
use Rattle.scenario_text.specs.declared.reader.call.SpelledCall.{SpelledCall}
use Rattle.scenario_text.specs.declared.reader.call.SpelledCall.TheVariants.{Acquire, AcquireLifo, AcquireOrLeave, Release}
use Rattle.scenario_text.specs.declared.reader.call.SpelledCall.TheVariants.{ReleaseHandoff, ReleaseMany, Add}
use Rattle.scenario_text.specs.declared.reader.call.SpelledCall.TheVariants.{Wait, WaitOrLeave, One, All, GroupAdd}
use Rattle.scenario_text.specs.declared.reader.call.SpelledCall.TheVariants.{GroupWait, GroupWaitOrLeave}
use Rattle.scenario_text.specs.declared.read_fault.Cause.{Cause}
use Rattle.scenario_text.specs.declared.read_fault.Cause.TheVariants.{Cut, Byte, Form, Place, Range, TooMany}
use Rattle.scenario_text.specs.declared.read_fault.Cause.TheVariants.{Undeclared, Ticket, End, NoMemory}
use Rattle.scenario_text.specs.declared.reader.kind.LineKind.{LineKind}
use Rattle.scenario_text.specs.declared.reader.kind.LineKind.TheVariants.{Roots as RootsKind}
use Rattle.scenario_text.specs.declared.reader.kind.LineKind.TheVariants.{Counter as CounterKind}
use Rattle.scenario_text.specs.declared.reader.kind.LineKind.TheVariants.{NotifyList as ListKind}
use Rattle.scenario_text.specs.declared.reader.kind.LineKind.TheVariants.{Group as GroupKind}
use Rattle.scenario_text.specs.declared.reader.kind.LineKind.TheVariants.{Seat as SeatKind}
use Rattle.scenario_text.specs.declared.reader.kind.LineKind.TheVariants.{Property as PropertyKind}
use Rattle.scenario_text.specs.Line.{Line, Roots, Counter, NotifyList, Group, Seat, Settled, Value, NoMisuse, NoLost}
use Rattle.scenario_text.specs.Line.{Spells, skips, keeping}
use Rattle.scenario_text.specs.Pieces.{Piece}

-- ---- 2: a byte that can't be printed

abbrev pub is_printable : ℕ → Bool
is_printable byte = not (nat_lt byte 32) && not (nat_lt 126 byte)

-- ---- 4: where a line may stand

abbrev pub kind : Line → LineKind
kind (Roots n) = RootsKind
kind (Counter start) = CounterKind
kind (NotifyList first) = ListKind
kind Group = GroupKind
kind (Seat k calls) = SeatKind
kind Settled = PropertyKind
kind (Value c n) = PropertyKind
kind NoMisuse = PropertyKind
kind NoLost = PropertyKind

-- the order in which the kinds come
abbrev pub rank : LineKind → ℕ
rank RootsKind = 0
rank CounterKind = 1
rank ListKind = 2
rank GroupKind = 3
rank SeatKind = 4
rank PropertyKind = 5

-- how many of the lines are of this kind, and of later ones
abbrev pub count_of : LineKind → List Line → ℕ
count_of k lines = count_by (λ line. rank (kind line) == rank k) lines

abbrev pub count_later : LineKind → List Line → ℕ
count_later k lines = count_by (λ line. nat_lt (rank k) (rank (kind line))) lines

-- a property before any seat, or after a property
abbrev pub is_early_property : List Line → Bool
is_early_property lines = count_of SeatKind lines == 0 || nat_lt 0 (count_of PropertyKind lines)

-- a second `roots`, a seat that isn't the next one, a property too early or too late
abbrev pub is_out_of_turn : List Line → Line → Bool
is_out_of_turn lines (Roots n) = nat_lt 0 (count_of RootsKind lines)
is_out_of_turn lines (Seat k calls) = not (k == count_of SeatKind lines)
is_out_of_turn lines Settled = is_early_property lines
is_out_of_turn lines (Value c n) = is_early_property lines
is_out_of_turn lines NoMisuse = is_early_property lines
is_out_of_turn lines NoLost = is_early_property lines
is_out_of_turn lines line = false

abbrev pub is_misplaced : List Line → Line → Bool
is_misplaced lines line = nat_lt 0 (count_later (kind line) lines) || is_out_of_turn lines line

-- ---- 5: a number outside its range

-- 1 to 31 calls left out, where the text says how many
abbrev pub is_wide_skip : Option ℕ → Bool
is_wide_skip None = false
is_wide_skip (Some n) = nat_lt 31 n

-- units from 1 to 256, changes from -2 ^ 31 to 2 ^ 31 - 1
abbrev pub is_wide : SpelledCall → Bool
is_wide (AcquireOrLeave c lifo how) = is_wide_skip how.skips
is_wide (WaitOrLeave l how) = is_wide_skip how.skips
is_wide (GroupWaitOrLeave g skips) = is_wide_skip skips
is_wide (ReleaseMany c n) = n == 0 || nat_lt 256 n
is_wide (GroupAdd g (Up n)) = nat_lt (2 ^ 31 - 1) n
is_wide (GroupAdd g (Down n)) = nat_lt (2 ^ 31) n
is_wide call = false

-- 1 to 251 roots, tickets below 2 ^ 64, other numbers below 2 ^ 32
abbrev pub is_out_of_range : Line → Bool
is_out_of_range (Roots n) = n == 0 || nat_lt 251 n
is_out_of_range (Counter start) = nat_lt (2 ^ 32 - 1) start
is_out_of_range (NotifyList first) = nat_lt (2 ^ 64 - 1) first
is_out_of_range (Seat k calls) = list_any is_wide calls
is_out_of_range (Value c n) = nat_lt (2 ^ 32 - 1) n
is_out_of_range line = false

-- ---- 6: a counter, list, group or seat more than 16, or more than 32 calls

abbrev pub is_too_many : List Line → Line → Bool
is_too_many lines (Counter start) = nat_lt 15 (count_of CounterKind lines)
is_too_many lines (NotifyList first) = nat_lt 15 (count_of ListKind lines)
is_too_many lines Group = nat_lt 15 (count_of GroupKind lines)
is_too_many lines (Seat k calls) = nat_lt 15 (count_of SeatKind lines) || nat_lt 32 (length calls)
is_too_many lines line = false

-- ---- 7: the number of a counter, list or group that isn't declared

abbrev pub is_missing : List Line → LineKind → ℕ → Bool
is_missing lines k n = not (nat_lt n (count_of k lines))

abbrev pub names_missing : List Line → SpelledCall → Bool
names_missing lines (Acquire c) = is_missing lines CounterKind c
names_missing lines (AcquireLifo c) = is_missing lines CounterKind c
names_missing lines (AcquireOrLeave c lifo how) = is_missing lines CounterKind c
names_missing lines (Release c) = is_missing lines CounterKind c
names_missing lines (ReleaseHandoff c) = is_missing lines CounterKind c
names_missing lines (ReleaseMany c n) = is_missing lines CounterKind c
names_missing lines (Add l) = is_missing lines ListKind l
names_missing lines (Wait l) = is_missing lines ListKind l
names_missing lines (WaitOrLeave l how) = is_missing lines ListKind l
names_missing lines (One l) = is_missing lines ListKind l
names_missing lines (All l) = is_missing lines ListKind l
names_missing lines (GroupAdd g d) = is_missing lines GroupKind g
names_missing lines (GroupWait g) = is_missing lines GroupKind g
names_missing lines (GroupWaitOrLeave g skips) = is_missing lines GroupKind g

abbrev pub is_undeclared : List Line → Line → Bool
is_undeclared lines (Seat k calls) = list_any (names_missing lines) calls
is_undeclared lines (Value c n) = is_missing lines CounterKind c
is_undeclared lines line = false

-- ---- 8: a ticket that is held already, or a wait without one, or other tickets where calls are left out

-- whether the seat holds a ticket of the list l after one call more, and after calls
abbrev pub held_after : ℕ → Bool → SpelledCall → Bool
held_after l held (Add m) = held || m == l
held_after l held (Wait m) = held && not (m == l)
held_after l held (WaitOrLeave m how) = held && not (m == l)
held_after l held call = held

abbrev pub has_ticket : ℕ → List SpelledCall → Bool
has_ticket l calls = fold (held_after l) false calls

abbrev pub is_wrong_after : List SpelledCall → SpelledCall → Bool
is_wrong_after calls (Add l) = has_ticket l calls
is_wrong_after calls (Wait l) = not (has_ticket l calls)
is_wrong_after calls (WaitOrLeave l how) = not (has_ticket l calls)
is_wrong_after calls call = false

-- how many of the next calls are left out where the call is given up
abbrev pub skips_of : SpelledCall → ℕ
skips_of (AcquireOrLeave c lifo how) = skips how
skips_of (WaitOrLeave l how) = skips how
skips_of (GroupWaitOrLeave g n) = skips (keeping n)
skips_of call = 0

-- of the list l the seat holds a ticket before or after, and not both
abbrev pub differs_on : ℕ → List SpelledCall → List SpelledCall → Bool
differs_on l before after = cond (has_ticket l before) (not (has_ticket l after)) (has_ticket l after)

abbrev pub is_changed : List SpelledCall → List SpelledCall → SpelledCall → Bool
is_changed before after (Add l) = differs_on l before after
is_changed before after (Wait l) = differs_on l before after
is_changed before after (WaitOrLeave l how) = differs_on l before after
is_changed before after call = false

-- after these calls more the seat holds other tickets: of a list that one of them names
abbrev pub changes_tickets : List SpelledCall → List SpelledCall → Bool
changes_tickets before more = list_any (is_changed before (before ++ more)) more

-- one of the calls is wrong, these having been made before
abbrev pub misuses_ticket : List SpelledCall → List SpelledCall → Bool
misuses_ticket before [] = false
misuses_ticket before (c ∷ calls) =
    (is_wrong_after before c || changes_tickets (before ++ (c ∷ [])) (take (skips_of c) calls))
    || misuses_ticket (before ++ (c ∷ [])) calls

abbrev pub has_wrong_ticket : Line → Bool
has_wrong_ticket (Seat k calls) = misuses_ticket [] calls
has_wrong_ticket line = false

-- ---- which causes hold of a line

-- the text spells a line that passes the test
abbrev pub SpellsSome : List ℕ → (Line → Bool) → Type 0
SpellsSome text test = (line : Line) × Spells text line × (test line ≡ true)

-- 3 holds where no line is spelled; 9 and 10 are no causes of a line
abbrev pub Holds : List Line → Piece → Cause → Type 0
Holds before p Cut = p.ended ≡ false
Holds before p Byte = list_all is_printable p.text ≡ false
Holds before p Form = (line : Line) → Spells p.text line → ⊥
Holds before p Place = SpellsSome p.text (is_misplaced before)
Holds before p Range = SpellsSome p.text is_out_of_range
Holds before p TooMany = SpellsSome p.text (is_too_many before)
Holds before p Undeclared = SpellsSome p.text (is_undeclared before)
Holds before p Ticket = SpellsSome p.text has_wrong_ticket
Holds before p End = ⊥
Holds before p NoMemory = ⊥

-- causes 1 to 8, in their order
abbrev pub causes : List Cause
causes = Cut ∷ Byte ∷ Form ∷ Place ∷ Range ∷ TooMany ∷ Undeclared ∷ Ticket ∷ []

-- the cause is the first in the list of which P holds
abbrev pub IsFirst : (Cause → Type 0) → List Cause → Cause → Type 0
IsFirst P [] cause = ⊥
IsFirst P (d ∷ ds) cause = (P d × (cause ≡ d)) ⊎ ((P d → ⊥) × IsFirst P ds cause)

abbrev pub HoldsNone : (Cause → Type 0) → List Cause → Type 0
HoldsNone P [] = ⊤
HoldsNone P (d ∷ ds) = (P d → ⊥) × HoldsNone P ds

-- what is wrong with a line: the least cause that holds of it
abbrev pub IsFault : List Line → Piece → Cause → Type 0
IsFault before p cause = IsFirst (Holds before p) causes cause

-- it has its end, and each of its bytes can be printed
abbrev pub IsReadable : List Line → Piece → Type 0
IsReadable before p = (Holds before p Cut → ⊥) × (Holds before p Byte → ⊥)

-- nothing is wrong with it, and this is the line that it spells
abbrev pub IsRight : List Line → Piece → Line → Type 0
IsRight before p line = Spells p.text line × HoldsNone (Holds before p) causes
