-- What a right line passes: the tests of its numbers, of its place, of each of its calls, and of the tickets of its seat.
use Rattle.std.proofs.Common.{◌≡◌, ℕ, zero, suc, ◌<◌, ◌≤◌, ◌+◌, Bool, true, false, not, cond, List, [], ◌∷◌, ◌++◌, map, length, take, All}
use Rattle.std.proofs.Common.{Option, Some, None, IfSome, ◌⊎◌, inl, inr, refl, sym, ap, subst}
use Rattle.std.proofs.Common.{◌∙◌, append_assoc, arith}
use Rattle.std.specs.Prelude.{nat_lt, ◌==◌, ◌||◌, ◌&&◌, if◌then◌else◌, fold, slice_get}
use Rattle.std.specs.List.{list_any}
use Rattle.std.specs.Option.{unwrap_or}
use Rattle.std.proofs.lemmas.List.{append-nil, map-append, take-map}
use Rattle.std.proofs.lemmas.List.Elements.{All-nil, All-cons}
use Rattle.std.proofs.lemmas.List.Sums.{fold-append}
use Rattle.std.proofs.lemmas.Bool.{ltb-true, ltb-false}
use Rattle.std.proofs.lemmas.Bool.Decides.{nat_tests}
use Rattle.step_table.specs.declared.call.Call.{Call}
use Rattle.step_table.specs.declared.parts.Parts.{Parts}
use Rattle.scenario_text.specs.declared.reader.call.Change.{Change}
use Rattle.scenario_text.specs.declared.reader.call.Change.TheVariants.{Up, Down}
use Rattle.scenario_text.specs.declared.reader.call.SpelledCall.{SpelledCall}
use Rattle.scenario_text.specs.declared.reader.call.SpelledCall.TheVariants.{Acquire, AcquireLifo, AcquireOrLeave, Release, ReleaseHandoff, ReleaseMany, Add, Wait, WaitOrLeave, One}
use Rattle.scenario_text.specs.declared.reader.call.SpelledCall.TheVariants.{All as NotifyAll, GroupAdd, GroupWait, GroupWaitOrLeave}
use Rattle.scenario_text.specs.declared.reader.kind.LineKind.TheVariants.{Counter as CounterKind, NotifyList as ListKind, Group as GroupKind}
use Rattle.scenario_text.specs.Line.{Line, HasForm}
use Rattle.scenario_text.specs.Pieces.{Piece}
use Rattle.scenario_text.specs.Causes.{count_of, is_misplaced, is_out_of_range, is_too_many, is_undeclared, has_wrong_ticket, is_wide, is_wide_skip, names_missing}
use Rattle.scenario_text.specs.Causes.{held_after, has_ticket, is_wrong_after, skips_of, differs_on, is_changed, changes_tickets, misuses_ticket, IsRight}
use Rattle.scenario_text.specs.ScenarioText.{call_of}
use Rattle.scenario_text.specs.Fitting.{FitsChange, FitsCall}
use Rattle.step_table.specs.Scenario.{IsOfFewUnits, IsCallOn, holding_after, holds_ticket, IsTicketCall, AreTicketsKept, skips_of as left_out}

-- ---- tests that fail

-- no test fails a right line
pub record Passes (before : List Line) (line : Line) : Type 0 where
  pub form : HasForm line
  pub place : is_misplaced before line ≡ false
  pub range : is_out_of_range line ≡ false
  pub few : is_too_many before line ≡ false
  pub declared : is_undeclared before line ≡ false
  pub ticket : has_wrong_ticket line ≡ false

is_false : (b : Bool) → (b ≡ true → ⊥) → b ≡ false
is_false true h = absurd (h refl)
is_false false h = refl

pub passes : (before : List Line) (p : Piece) (line : Line) → IsRight before p line → Passes before line
passes before p line h = record {
  form = h.0.form;
  place = is_false (is_misplaced before line) (λ e. h.1.1.1.1.0 (line, h.0, e));
  range = is_false (is_out_of_range line) (λ e. h.1.1.1.1.1.0 (line, h.0, e));
  few = is_false (is_too_many before line) (λ e. h.1.1.1.1.1.1.0 (line, h.0, e));
  declared = is_false (is_undeclared before line) (λ e. h.1.1.1.1.1.1.1.0 (line, h.0, e));
  ticket = is_false (has_wrong_ticket line) (λ e. h.1.1.1.1.1.1.1.1.0 (line, h.0, e));
}

pub left : (a b : Bool) → (a || b) ≡ false → a ≡ false
left true b e = absurd cc
left false b e = refl

pub right : (a b : Bool) → (a || b) ≡ false → b ≡ false
right true b e = absurd cc
right false b e = e

is_true : (b : Bool) → not b ≡ false → b ≡ true
is_true true e = refl
is_true false e = absurd cc

pub at_most : (n k : ℕ) → nat_lt n k ≡ false → k ≤ n
at_most n k e = ltb-false n k e

pub there : (n k : ℕ) → not (nat_lt n k) ≡ false → n < k
there n k e = ltb-true n k (is_true (nat_lt n k) e)

-- of no element a test holds, so of each that which follows
pub all_of_none : {X Y : Type 0} (P : Y → Type 0) (f : X → Y) (t : X → Bool) → ((x : X) → t x ≡ false → P (f x)) → (xs : List X)
    → list_any t xs ≡ false → All P (map f xs)
all_of_none P f t to [] e = All-nil P
all_of_none P f t to (x ∷ xs) e = All-cons P (f x) (map f xs) (to x (left (t x) (list_any t xs) e)) (all_of_none P f t to xs (right (t x) (list_any t xs) e))

pub all_here : {X : Type 0} (P : X → Type 0) (t u : X → Bool) → ((x : X) → t x ≡ false → u x ≡ false → P x) → (xs : List X)
    → list_any t xs ≡ false → list_any u xs ≡ false → All P xs
all_here P t u to [] e f = All-nil P
all_here P t u to (x ∷ xs) e f =
    All-cons P x xs (to x (left (t x) (list_any t xs) e) (left (u x) (list_any u xs) f))
    (all_here P t u to xs (right (t x) (list_any t xs) e) (right (u x) (list_any u xs) f))

-- ---- one call

skips_few : (o : Option ℕ) → is_wide_skip o ≡ false → unwrap_or o 0 ≤ 31
skips_few None e = omega arith
skips_few (Some n) e = at_most 31 n e

pub few_units : (c : SpelledCall) → is_wide c ≡ false → IsOfFewUnits (call_of c)
few_units (ReleaseMany c n) e = (nat_some n (left (n == 0) (nat_lt 256 n) e), at_most 256 n (right (n == 0) (nat_lt 256 n) e))
  where
    nat_some : (n : ℕ) → (n == 0) ≡ false → 1 ≤ n
    nat_some n e = grind (arith, nat_tests)
few_units (Acquire c) e = tt
few_units (AcquireLifo c) e = tt
few_units (AcquireOrLeave c lifo how) e = skips_few how.skips e
few_units (WaitOrLeave l how) e = skips_few how.skips e
few_units (Release c) e = tt
few_units (ReleaseHandoff c) e = tt
few_units (Add l) e = tt
few_units (Wait l) e = tt
few_units (One l) e = tt
few_units (NotifyAll l) e = tt
few_units (GroupAdd g d) e = tt
few_units (GroupWait g) e = tt
few_units (GroupWaitOrLeave g skips) e = skips_few skips e

-- the parts have what the lines declare
pub record Declares (parts : Parts) (counters lists groups : ℕ) : Type 0 where
  pub starts : length parts.starts ≡ counters
  pub firsts : length parts.firsts ≡ lists
  pub groups_are : parts.groups ≡ groups

pub call_on : (lines : List Line) (parts : Parts) → Declares parts (count_of CounterKind lines) (count_of ListKind lines) (count_of GroupKind lines)
    → (c : SpelledCall) → names_missing lines c ≡ false → IsCallOn parts (call_of c)
call_on lines parts h (Acquire c) e = omega (arith, there c (count_of CounterKind lines) e)
call_on lines parts h (AcquireLifo c) e = omega (arith, there c (count_of CounterKind lines) e)
call_on lines parts h (AcquireOrLeave c lifo how) e = omega (arith, there c (count_of CounterKind lines) e)
call_on lines parts h (WaitOrLeave l how) e = omega (arith, there l (count_of ListKind lines) e)
call_on lines parts h (Release c) e = omega (arith, there c (count_of CounterKind lines) e)
call_on lines parts h (ReleaseHandoff c) e = omega (arith, there c (count_of CounterKind lines) e)
call_on lines parts h (ReleaseMany c n) e = omega (arith, there c (count_of CounterKind lines) e)
call_on lines parts h (Add l) e = omega (arith, there l (count_of ListKind lines) e)
call_on lines parts h (Wait l) e = omega (arith, there l (count_of ListKind lines) e)
call_on lines parts h (One l) e = omega (arith, there l (count_of ListKind lines) e)
call_on lines parts h (NotifyAll l) e = omega (arith, there l (count_of ListKind lines) e)
call_on lines parts h (GroupAdd g d) e = omega (arith, there g (count_of GroupKind lines) e)
call_on lines parts h (GroupWait g) e = omega (arith, there g (count_of GroupKind lines) e)
call_on lines parts h (GroupWaitOrLeave g skips) e = omega (arith, there g (count_of GroupKind lines) e)

fits_change : (g : ℕ) (d : Change) → is_wide (GroupAdd g d) ≡ false → FitsChange d
fits_change g (Up n) e = omega (arith, at_most 2147483647 n e)
fits_change g (Down n) e = omega (arith, at_most 2147483648 n e)

pub fits_call : (lines : List Line) → count_of CounterKind lines ≤ 16 → count_of ListKind lines ≤ 16 → count_of GroupKind lines ≤ 16
    → (c : SpelledCall) → is_wide c ≡ false → names_missing lines c ≡ false → FitsCall c
fits_call lines counters lists groups (Acquire c) w e = omega (arith, there c (count_of CounterKind lines) e)
fits_call lines counters lists groups (AcquireLifo c) w e = omega (arith, there c (count_of CounterKind lines) e)
fits_call lines counters lists groups (AcquireOrLeave c lifo how) w e =
    (omega (arith, there c (count_of CounterKind lines) e), omega (arith, skips_few how.skips w))
fits_call lines counters lists groups (WaitOrLeave l how) w e =
    (omega (arith, there l (count_of ListKind lines) e), omega (arith, skips_few how.skips w))
fits_call lines counters lists groups (Release c) w e = omega (arith, there c (count_of CounterKind lines) e)
fits_call lines counters lists groups (ReleaseHandoff c) w e = omega (arith, there c (count_of CounterKind lines) e)
fits_call lines counters lists groups (ReleaseMany c n) w e =
    (omega (arith, there c (count_of CounterKind lines) e), omega (arith, at_most 256 n (right (n == 0) (nat_lt 256 n) w)))
fits_call lines counters lists groups (Add l) w e = omega (arith, there l (count_of ListKind lines) e)
fits_call lines counters lists groups (Wait l) w e = omega (arith, there l (count_of ListKind lines) e)
fits_call lines counters lists groups (One l) w e = omega (arith, there l (count_of ListKind lines) e)
fits_call lines counters lists groups (NotifyAll l) w e = omega (arith, there l (count_of ListKind lines) e)
fits_call lines counters lists groups (GroupAdd g d) w e = (omega (arith, there g (count_of GroupKind lines) e), fits_change g d w)
fits_call lines counters lists groups (GroupWait g) w e = omega (arith, there g (count_of GroupKind lines) e)
fits_call lines counters lists groups (GroupWaitOrLeave g skips) w e =
    (omega (arith, there g (count_of GroupKind lines) e), omega (arith, skips_few skips w))

-- ---- tickets

takes : (t h : Bool) → (if t then true else h) ≡ (h || t)
takes true true = refl
takes true false = refl
takes false true = refl
takes false false = refl

spends : (t h : Bool) → (if t then false else h) ≡ (h && not t)
spends true true = refl
spends true false = refl
spends false true = refl
spends false false = refl

held_is : (l : ℕ) (held : Bool) (calls : List SpelledCall) → holding_after l held (map call_of calls) ≡ fold (held_after l) held calls
held_is l held [] = refl
held_is l held (Add m ∷ calls) = ap (λ (b : Bool). holding_after l b (map call_of calls)) (takes (m == l) held) ∙ held_is l (held || m == l) calls
held_is l held (Wait m ∷ calls) = ap (λ (b : Bool). holding_after l b (map call_of calls)) (spends (m == l) held) ∙ held_is l (held && not (m == l)) calls
held_is l held (WaitOrLeave m how ∷ calls) =
    ap (λ (b : Bool). holding_after l b (map call_of calls)) (spends (m == l) held) ∙ held_is l (held && not (m == l)) calls
held_is l held (AcquireOrLeave c lifo how ∷ calls) = held_is l held calls
held_is l held (Acquire c ∷ calls) = held_is l held calls
held_is l held (AcquireLifo c ∷ calls) = held_is l held calls
held_is l held (Release c ∷ calls) = held_is l held calls
held_is l held (ReleaseHandoff c ∷ calls) = held_is l held calls
held_is l held (ReleaseMany c n ∷ calls) = held_is l held calls
held_is l held (One m ∷ calls) = held_is l held calls
held_is l held (NotifyAll m ∷ calls) = held_is l held calls
held_is l held (GroupAdd g d ∷ calls) = held_is l held calls
held_is l held (GroupWait g ∷ calls) = held_is l held calls
held_is l held (GroupWaitOrLeave g skips ∷ calls) = held_is l held calls

ticket_call : (before : List SpelledCall) (c : SpelledCall) → is_wrong_after before c ≡ false → IsTicketCall (map call_of before) (call_of c)
ticket_call before (Add l) e = held_is l false before ∙ e
ticket_call before (Wait l) e = held_is l false before ∙ is_true (has_ticket l before) e
ticket_call before (WaitOrLeave l how) e = held_is l false before ∙ is_true (has_ticket l before) e
ticket_call before (AcquireOrLeave c lifo how) e = tt
ticket_call before (Acquire c) e = tt
ticket_call before (AcquireLifo c) e = tt
ticket_call before (Release c) e = tt
ticket_call before (ReleaseHandoff c) e = tt
ticket_call before (ReleaseMany c n) e = tt
ticket_call before (One l) e = tt
ticket_call before (NotifyAll l) e = tt
ticket_call before (GroupAdd g d) e = tt
ticket_call before (GroupWait g) e = tt
ticket_call before (GroupWaitOrLeave g skips) e = tt

-- ---- calls that are left out

is_or_not : (m l : ℕ) (t : Bool) → (m == l) ≡ t → (m ≡ l) ⊎ ((m == l) ≡ false)
is_or_not m l true e = inl (grind (arith, nat_tests))
is_or_not m l false e = inr e

same_held : (x y : Bool) → cond x (not y) y ≡ false → y ≡ x
same_held true true e = refl
same_held true false e = absurd cc
same_held false true e = absurd cc
same_held false false e = refl

still_taken : (h : Bool) → (h || false) ≡ h
still_taken true = refl
still_taken false = refl

still_unspent : (h : Bool) → (h && not false) ≡ h
still_unspent true = refl
still_unspent false = refl

-- of the list l the seat holds as much after as before, or the calls don't touch its tickets
abbrev Alike : ℕ → List SpelledCall → List SpelledCall → List SpelledCall → Type 0
Alike l before after calls = (has_ticket l after ≡ has_ticket l before) ⊎ ((held : Bool) → fold (held_after l) held calls ≡ held)

-- a call more that names the list m
names : (l m : ℕ) (before after calls : List SpelledCall) (next : Bool → Bool → Bool) → ((held : Bool) → next held false ≡ held)
    → differs_on m before after ≡ false → Alike l before after calls
    → (has_ticket l after ≡ has_ticket l before) ⊎ ((held : Bool) → fold (held_after l) (next held (m == l)) calls ≡ held)
names l m before after calls next still d (inl e) = inl e
names l m before after calls next still d (inr g) = elim (is_or_not m l (m == l) refl) [
  | inl e ↦ inl (subst (λ (k : ℕ). has_ticket k after ≡ has_ticket k before) e (same_held (has_ticket m before) (has_ticket m after) d))
  | inr f ↦ inr (λ held. ap (λ (t : Bool). fold (held_after l) (next held t) calls) f
      ∙ ap (λ (h : Bool). fold (held_after l) h calls) (still held) ∙ g held)
]

alike : (l : ℕ) (before after calls : List SpelledCall) → list_any (is_changed before after) calls ≡ false → Alike l before after calls
alike l before after [] e = inr (λ held. refl)
alike l before after (Add m ∷ calls) e =
    names l m before after calls (λ h t. h || t) still_taken (left (differs_on m before after) (list_any (is_changed before after) calls) e)
    (alike l before after calls (right (differs_on m before after) (list_any (is_changed before after) calls) e))
alike l before after (Wait m ∷ calls) e =
    names l m before after calls (λ h t. h && not t) still_unspent (left (differs_on m before after) (list_any (is_changed before after) calls) e)
    (alike l before after calls (right (differs_on m before after) (list_any (is_changed before after) calls) e))
alike l before after (WaitOrLeave m how ∷ calls) e =
    names l m before after calls (λ h t. h && not t) still_unspent (left (differs_on m before after) (list_any (is_changed before after) calls) e)
    (alike l before after calls (right (differs_on m before after) (list_any (is_changed before after) calls) e))
alike l before after (c ∷ calls) e = alike l before after calls e

kept_over : (l : ℕ) (before more : List SpelledCall) → changes_tickets before more ≡ false → has_ticket l (before ++ more) ≡ has_ticket l before
kept_over l before more e = elim (alike l before (before ++ more) more e) [
  | inl same ↦ same
  | inr g ↦ fold-append (held_after l) false before more ∙ g (has_ticket l before)
]

skips_same : (c : SpelledCall) → left_out (call_of c) ≡ skips_of c
skips_same (AcquireOrLeave c lifo how) = refl
skips_same (WaitOrLeave l how) = refl
skips_same (GroupWaitOrLeave g skips) = refl
skips_same c = refl

-- behind the calls before
joined : (before : List SpelledCall) (c : SpelledCall) (more : List Call)
    → map call_of (before ++ (c ∷ [])) ++ more ≡ map call_of before ++ (call_of c ∷ more)
joined before c more =
    ap (λ (xs : List Call). xs ++ more) (map-append call_of before (c ∷ [])) ∙ append_assoc (map call_of before) (call_of c ∷ []) more

kept_here : (l : ℕ) (before : List SpelledCall) (c : SpelledCall) (calls : List SpelledCall)
    → changes_tickets (before ++ (c ∷ [])) (take (skips_of c) calls) ≡ false
    → holds_ticket l (map call_of before ++ (call_of c ∷ take (left_out (call_of c)) (map call_of calls)))
    ≡ holds_ticket l (map call_of before ++ (call_of c ∷ []))
kept_here l before c calls e =
    let now = before ++ (c ∷ []) in
    let more = take (skips_of c) calls in
    let cut : map call_of more ≡ take (left_out (call_of c)) (map call_of calls)
    = sym (take-map call_of (skips_of c) calls) ∙ ap (λ (k : ℕ). take k (map call_of calls)) (sym (skips_same c)) in
    let whole : map call_of (now ++ more) ≡ map call_of before ++ (call_of c ∷ take (left_out (call_of c)) (map call_of calls))
    = map-append call_of now more ∙ joined before c (map call_of more) ∙ ap (λ (xs : List Call). map call_of before ++ (call_of c ∷ xs)) cut in
    ap (holds_ticket l) (sym whole) ∙ held_is l false (now ++ more) ∙ kept_over l now more e ∙ sym (held_is l false now)
    ∙ ap (holds_ticket l) (map-append call_of before (c ∷ []))

-- ---- call after call

abbrev IsKeptAt : List Call → List Call → ℕ → Call → Type 0
IsKeptAt before calls i call =
    IsTicketCall (before ++ take i calls) call
    × ((l : ℕ) → holds_ticket l (before ++ take (i + 1 + left_out call) calls) ≡ holds_ticket l (before ++ take (i + 1) calls))

later : (l : ℕ) (before calls : List Call) (j k m n : ℕ) → j ≡ suc m → k ≡ suc n
    → holds_ticket l (before ++ take (suc m) calls) ≡ holds_ticket l (before ++ take (suc n) calls)
    → holds_ticket l (before ++ take j calls) ≡ holds_ticket l (before ++ take k calls)
later l before calls j k m n e f h =
    ap (λ (x : ℕ). holds_ticket l (before ++ take x calls)) e ∙ h ∙ ap (λ (x : ℕ). holds_ticket l (before ++ take x calls)) (sym f)

each : {X : Type 0} (P Q : X → Type 0) (o : Option X) → ((x : X) → P x → Q x) → IfSome o P → IfSome o Q
each P Q None f h = tt
each P Q (Some x) f h = f x h

in_turn : (before calls : List SpelledCall) → misuses_ticket before calls ≡ false → (i : ℕ)
    → IfSome (slice_get (map call_of calls) i) (IsKeptAt (map call_of before) (map call_of calls) i)
in_turn before [] e i = tt
in_turn before (c ∷ calls) e zero =
    let wrong = is_wrong_after before c in
    let changes = changes_tickets (before ++ (c ∷ [])) (take (skips_of c) calls) in
    let now = left (wrong || changes) (misuses_ticket (before ++ (c ∷ [])) calls) e in (
      subst (λ (xs : List Call). IsTicketCall xs (call_of c)) (sym (append-nil (map call_of before))) (ticket_call before c (left wrong changes now)),
      (λ l. later l (map call_of before) (call_of c ∷ map call_of calls) (0 + 1 + left_out (call_of c)) (0 + 1) (left_out (call_of c)) 0
          (omega arith) (omega arith) (kept_here l before c calls (right wrong changes now))),
    )
in_turn before (c ∷ calls) e (suc i) =
    let wrong = is_wrong_after before c in
    let changes = changes_tickets (before ++ (c ∷ [])) (take (skips_of c) calls) in
    each (IsKeptAt (map call_of (before ++ (c ∷ []))) (map call_of calls) i) (IsKeptAt (map call_of before) (call_of c ∷ map call_of calls) (suc i))
    (slice_get (map call_of calls) i)
    (λ call k. (
      subst (λ (xs : List Call). IsTicketCall xs call) (joined before c (take i (map call_of calls))) k.0,
      (λ l. later l (map call_of before) (call_of c ∷ map call_of calls) (suc i + 1 + left_out call) (suc i + 1) (i + 1 + left_out call) (i + 1)
          (omega arith) (omega arith)
          (ap (holds_ticket l) (sym (joined before c (take (i + 1 + left_out call) (map call_of calls)))) ∙ k.1 l
          ∙ ap (holds_ticket l) (joined before c (take (i + 1) (map call_of calls))))),
    ))
    (in_turn (before ++ (c ∷ [])) calls (right (wrong || changes) (misuses_ticket (before ++ (c ∷ [])) calls) e) i)

pub tickets_kept : (calls : List SpelledCall) → misuses_ticket [] calls ≡ false → AreTicketsKept (map call_of calls)
tickets_kept calls e i = in_turn [] calls e i
