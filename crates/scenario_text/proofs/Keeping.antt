-- The parts that right lines ask for keep the limits, name what is declared, and keep tickets in turn.
use Rattle.std.proofs.Common.{◌≡◌, ℕ, ◌+◌, ◌<◌, ◌≤◌, false, cond, List, [], ◌∷◌, ◌++◌, map, length, All, Option, Some, None}
use Rattle.std.proofs.Common.{IfSome, refl, sym, subst}
use Rattle.std.proofs.Common.{append_assoc, arith}
use Rattle.std.specs.Prelude.{nat_lt, ◌==◌, ◌||◌}
use Rattle.std.proofs.lemmas.List.{append-nil, length-map, length_push}
use Rattle.std.proofs.lemmas.List.Elements.{All-push, All-weaker, All-nil}
use Rattle.std.proofs.lemmas.List.Sums.{fold_push}
use Rattle.std.proofs.lemmas.Bool.Decides.{nat_tests}
use Rattle.step_table.specs.declared.call.Call.{Call}
use Rattle.step_table.specs.declared.call.Call.TheVariants as core
use Rattle.step_table.specs.declared.parts.Parts.{Parts}
use Rattle.scenario_text.specs.declared.reader.call.SpelledCall.{SpelledCall}
use Rattle.scenario_text.specs.declared.request.Property.{Property}
use Rattle.scenario_text.specs.declared.request.Property.TheVariants as property
use Rattle.scenario_text.specs.declared.reader.kind.LineKind.{LineKind}
use Rattle.scenario_text.specs.declared.reader.kind.LineKind.TheVariants.{Counter as CounterKind, NotifyList as ListKind, Group as GroupKind, Seat as SeatKind}
use Rattle.scenario_text.specs.declared.reader.kind.LineKind.TheVariants.{Property as PropertyKind}
use Rattle.scenario_text.specs.Request.{IsAbout}
use Rattle.scenario_text.specs.Line.{Line, Roots, Counter, NotifyList, Group, Seat, Settled, Value, NoMisuse, NoLost}
use Rattle.scenario_text.specs.Pieces.{Piece, pieces}
use Rattle.scenario_text.specs.Causes.{kind, rank, count_of, is_wide, names_missing, is_early_property, count_later}
use Rattle.scenario_text.specs.Reader.{AreLinesOf}
use Rattle.scenario_text.specs.ScenarioText.{AreRight, call_of, with_line, with_property, parts_of, property_of, no_parts}
use Rattle.scenario_text.specs.Fitting.{FitsCall, FitsLine}
use Rattle.step_table.specs.Scenario.{IsOfFewUnits, IsScript, IsCallOn, IsWithinLimits, IsDeclared, AreTicketsKept, KeepsTickets}
use Rattle.scenario_text.proofs.Passing.{Passes, passes, left, right, at_most, there, all_of_none, all_here, few_units, Declares, call_on, fits_call}
use Rattle.scenario_text.proofs.Passing.{tickets_kept}

-- ---- more is declared

call_on_more : (p q : Parts) → length p.starts ≤ length q.starts → length p.firsts ≤ length q.firsts → p.groups ≤ q.groups
    → (c : Call) → IsCallOn p c → IsCallOn q c
call_on_more p q starts firsts groups (core.Acquire c lifo) h = omega arith
call_on_more p q starts firsts groups (core.AcquireOrLeave c lifo how) h = omega arith
call_on_more p q starts firsts groups (core.WaitOrLeave l how) h = omega arith
call_on_more p q starts firsts groups (core.Release c handoff) h = omega arith
call_on_more p q starts firsts groups (core.ReleaseMany c n) h = omega arith
call_on_more p q starts firsts groups (core.Add l) h = omega arith
call_on_more p q starts firsts groups (core.Wait l) h = omega arith
call_on_more p q starts firsts groups (core.One l) h = omega arith
call_on_more p q starts firsts groups (core.All l) h = omega arith
call_on_more p q starts firsts groups (core.GroupAdd g d) h = omega arith
call_on_more p q starts firsts groups (core.GroupWait g) h = omega arith
call_on_more p q starts firsts groups (core.GroupWaitOrLeave g skips) h = omega arith

declared_more : (p q : Parts) → length p.starts ≤ length q.starts → length p.firsts ≤ length q.firsts → p.groups ≤ q.groups
    → p.calls ≡ q.calls → IsDeclared p → IsDeclared q
declared_more p q starts firsts groups same h =
    subst (λ (calls : List (List Call)). All (All (IsCallOn q)) calls) same
    (All-weaker (All (IsCallOn p)) (All (IsCallOn q)) (λ cs all. All-weaker (IsCallOn p) (IsCallOn q) (call_on_more p q starts firsts groups) cs all)
    p.calls h)

-- ---- what right lines keep

-- of these counts of counters, lists, groups and seats, and these parts and property
pub record Keeps (parts : Parts) (property : Option Property) (counters lists groups seats : ℕ) : Type 0 where
  pub some_root : 0 < parts.roots
  pub roots : parts.roots ≤ 251
  pub declares : Declares parts counters lists groups
  pub counters_few : counters ≤ 16
  pub lists_few : lists ≤ 16
  pub groups_few : groups ≤ 16
  pub seats_are : length parts.calls ≡ seats
  pub seats_few : seats ≤ 16
  pub scripts : All IsScript parts.calls
  pub declared : IsDeclared parts
  pub tickets : KeepsTickets parts
  pub some_seat : IfSome property (λ p. 0 < seats)
  pub about : IfSome property (IsAbout parts)

abbrev pub Kept : List Line → Type 0
Kept lines =
    Keeps (parts_of lines) (property_of lines) (count_of CounterKind lines) (count_of ListKind lines) (count_of GroupKind lines) (count_of SeatKind lines)

pub kept_none : Kept []
kept_none = record {
  some_root = omega arith;
  roots = omega arith;
  declares = record { starts = refl; firsts = refl; groups_are = refl };
  counters_few = omega arith;
  lists_few = omega arith;
  groups_few = omega arith;
  seats_are = refl;
  seats_few = omega arith;
  scripts = All-nil IsScript;
  declared = All-nil (All (IsCallOn no_parts));
  tickets = All-nil AreTicketsKept;
  some_seat = tt;
  about = tt;
}

script : (lines : List Line) (k : ℕ) (calls : List SpelledCall) → Passes lines (Seat k calls) → IsScript (map call_of calls)
script lines k calls h =
    let m = length-map calls call_of in (
      omega (arith, h.form),
      omega (arith, at_most 32 (length calls) (right (nat_lt 15 (count_of SeatKind lines)) (nat_lt 32 (length calls)) h.few)),
      all_of_none IsOfFewUnits call_of is_wide few_units calls h.range,
    )

-- a property stands behind a seat
behind_seat : (lines : List Line) (l : Line) → (nat_lt 0 (count_later (kind l) lines) || is_early_property lines) ≡ false → 0 < count_of SeatKind lines
behind_seat lines l e =
    let early = right (nat_lt 0 (count_later (kind l) lines)) (is_early_property lines) e in
    some (count_of SeatKind lines) (left (count_of SeatKind lines == 0) (nat_lt 0 (count_of PropertyKind lines)) early)
  where
    some : (n : ℕ) → (n == 0) ≡ false → 0 < n
    some n e = grind (arith, nat_tests)

more_seats : (o : Option Property) (n : ℕ) → IfSome o (λ p. 0 < n) → IfSome o (λ p. 0 < n + 1)
more_seats None n h = tt
more_seats (Some p) n h = omega arith

-- a property is about more counters too
about_more : (p q : Parts) → length p.starts ≤ length q.starts → (o : Option Property) → IfSome o (IsAbout p) → IfSome o (IsAbout q)
about_more p q more None h = tt
about_more p q more (Some property.Settled) h = tt
about_more p q more (Some (property.Value c n)) h = omega arith
about_more p q more (Some property.NoMisuse) h = tt
about_more p q more (Some property.NoLost) h = tt

-- a line that changes the property alone
stays : (lines : List Line) (o : Option Property) → Kept lines → 0 < count_of SeatKind lines → IfSome o (IsAbout (parts_of lines))
    → Keeps (parts_of lines) o (count_of CounterKind lines + 0) (count_of ListKind lines + 0) (count_of GroupKind lines + 0) (count_of SeatKind lines + 0)
stays lines o k behind about = record {
  some_root = k.some_root;
  roots = k.roots;
  declares = record { starts = omega (arith, k.declares); firsts = omega (arith, k.declares); groups_are = omega (arith, k.declares) };
  counters_few = omega arith;
  lists_few = omega arith;
  groups_few = omega arith;
  seats_are = omega arith;
  seats_few = omega arith;
  scripts = k.scripts;
  declared = k.declared;
  tickets = k.tickets;
  some_seat = always o (count_of SeatKind lines + 0) (omega arith);
  about = about;
}
  where
    always : (o : Option Property) (n : ℕ) → 0 < n → IfSome o (λ p. 0 < n)
    always None n h = tt
    always (Some p) n h = h

-- one line more, in the counts that follow it
abbrev Next : List Line → Line → Type 0
Next lines l =
    Keeps (with_line (parts_of lines) l) (with_property (property_of lines) l) (count_of CounterKind lines + cond (rank (kind l) == rank CounterKind) 1 0)
    (count_of ListKind lines + cond (rank (kind l) == rank ListKind) 1 0) (count_of GroupKind lines + cond (rank (kind l) == rank GroupKind) 1 0)
    (count_of SeatKind lines + cond (rank (kind l) == rank SeatKind) 1 0)

next : (lines : List Line) (l : Line) → Kept lines → Passes lines l → Next lines l
next lines (Roots n) k h = record {
  some_root = some n (left (n == 0) (nat_lt 251 n) h.range);
  roots = at_most 251 n (right (n == 0) (nat_lt 251 n) h.range);
  declares = record { starts = omega (arith, k.declares); firsts = omega (arith, k.declares); groups_are = omega (arith, k.declares) };
  counters_few = omega arith;
  lists_few = omega arith;
  groups_few = omega arith;
  seats_are = omega arith;
  seats_few = omega arith;
  scripts = k.scripts;
  declared = declared_more (parts_of lines) (with_line (parts_of lines) (Roots n)) (omega arith) (omega arith) (omega arith) refl k.declared;
  tickets = k.tickets;
  some_seat = subst (λ (n : ℕ). IfSome (property_of lines) (λ p. 0 < n)) (omega arith) k.some_seat;
  about = about_more (parts_of lines) (with_line (parts_of lines) (Roots n)) (omega arith) (property_of lines) k.about;
}
  where
    some : (n : ℕ) → (n == 0) ≡ false → 0 < n
    some n e = grind (arith, nat_tests)
next lines (Counter start) k h = record {
  some_root = k.some_root;
  roots = k.roots;
  declares = record {
    starts = omega (arith, k.declares, length_push (parts_of lines).starts start);
    firsts = omega (arith, k.declares);
    groups_are = omega (arith, k.declares);
  };
  counters_few = omega (arith, at_most 15 (count_of CounterKind lines) h.few);
  lists_few = omega arith;
  groups_few = omega arith;
  seats_are = omega arith;
  seats_few = omega arith;
  scripts = k.scripts;
  declared = declared_more (parts_of lines) (with_line (parts_of lines) (Counter start)) (omega (arith, length_push (parts_of lines).starts start))
      (omega arith) (omega arith) refl k.declared;
  tickets = k.tickets;
  some_seat = subst (λ (n : ℕ). IfSome (property_of lines) (λ p. 0 < n)) (omega arith) k.some_seat;
  about =
      about_more (parts_of lines) (with_line (parts_of lines) (Counter start))
      (omega (arith, length_push (parts_of lines).starts start)) (property_of lines) k.about;
}
next lines (NotifyList first) k h = record {
  some_root = k.some_root;
  roots = k.roots;
  declares = record {
    starts = omega (arith, k.declares);
    firsts = omega (arith, k.declares, length_push (parts_of lines).firsts first);
    groups_are = omega (arith, k.declares);
  };
  counters_few = omega arith;
  lists_few = omega (arith, at_most 15 (count_of ListKind lines) h.few);
  groups_few = omega arith;
  seats_are = omega arith;
  seats_few = omega arith;
  scripts = k.scripts;
  declared = declared_more (parts_of lines) (with_line (parts_of lines) (NotifyList first)) (omega arith)
      (omega (arith, length_push (parts_of lines).firsts first)) (omega arith) refl k.declared;
  tickets = k.tickets;
  some_seat = subst (λ (n : ℕ). IfSome (property_of lines) (λ p. 0 < n)) (omega arith) k.some_seat;
  about = about_more (parts_of lines) (with_line (parts_of lines) (NotifyList first)) (omega arith) (property_of lines) k.about;
}
next lines Group k h = record {
  some_root = k.some_root;
  roots = k.roots;
  declares = record { starts = omega (arith, k.declares); firsts = omega (arith, k.declares); groups_are = omega (arith, k.declares) };
  counters_few = omega arith;
  lists_few = omega arith;
  groups_few = omega (arith, at_most 15 (count_of GroupKind lines) h.few);
  seats_are = omega arith;
  seats_few = omega arith;
  scripts = k.scripts;
  declared = declared_more (parts_of lines) (with_line (parts_of lines) Group) (omega arith) (omega arith) (omega arith) refl k.declared;
  tickets = k.tickets;
  some_seat = subst (λ (n : ℕ). IfSome (property_of lines) (λ p. 0 < n)) (omega arith) k.some_seat;
  about = about_more (parts_of lines) (with_line (parts_of lines) Group) (omega arith) (property_of lines) k.about;
}
next lines (Seat n calls) k h = record {
  some_root = k.some_root;
  roots = k.roots;
  declares = record { starts = omega (arith, k.declares); firsts = omega (arith, k.declares); groups_are = omega (arith, k.declares) };
  counters_few = omega arith;
  lists_few = omega arith;
  groups_few = omega arith;
  seats_are = omega (arith, length_push (parts_of lines).calls (map call_of calls));
  seats_few = omega (arith, at_most 15 (count_of SeatKind lines) (left (nat_lt 15 (count_of SeatKind lines)) (nat_lt 32 (length calls)) h.few));
  scripts = All-push IsScript (parts_of lines).calls (map call_of calls) k.scripts (script lines n calls h);
  declared = All-push (All (IsCallOn (parts_of lines))) (parts_of lines).calls (map call_of calls) k.declared
      (all_of_none (IsCallOn (parts_of lines)) call_of (names_missing lines) (call_on lines (parts_of lines) k.declares) calls h.declared);
  tickets = All-push AreTicketsKept (parts_of lines).calls (map call_of calls) k.tickets (tickets_kept calls h.ticket);
  some_seat = more_seats (property_of lines) (count_of SeatKind lines) k.some_seat;
  about = about_more (parts_of lines) (with_line (parts_of lines) (Seat n calls)) (omega arith) (property_of lines) k.about;
}
next lines Settled k h = stays lines (Some property.Settled) k (behind_seat lines Settled h.place) tt
next lines (Value c n) k h = stays lines (Some (property.Value c n)) k (behind_seat lines (Value c n) h.place)
    (omega (arith, k.declares, there c (count_of CounterKind lines) h.declared))
next lines NoMisuse k h = stays lines (Some property.NoMisuse) k (behind_seat lines NoMisuse h.place) tt
next lines NoLost k h = stays lines (Some property.NoLost) k (behind_seat lines NoLost h.place) tt

counted : (kinds : LineKind) (lines : List Line) (l : Line) → count_of kinds (lines ++ (l ∷ []))
    ≡ count_of kinds lines + cond (rank (kind l) == rank kinds) 1 0
counted kinds lines l = fold_push (λ (n : ℕ) (x : Line). n + cond (rank (kind x) == rank kinds) 1 0) 0 lines l

pub kept_more : (lines : List Line) (l : Line) → Kept lines → Passes lines l → Kept (lines ++ (l ∷ []))
kept_more lines l k h =
    rw (
      fold_push with_line no_parts lines l,
      fold_push with_property None lines l,
      counted CounterKind lines l,
      counted ListKind lines l,
      counted GroupKind lines l,
      counted SeatKind lines l,
    ) (next lines l k h)

-- the line's numbers fit
pub fits : (lines : List Line) (l : Line) → Kept lines → Passes lines l → FitsLine l
fits lines (Roots n) k h = omega (arith, at_most 251 n (right (n == 0) (nat_lt 251 n) h.range))
fits lines (Counter start) k h = omega (arith, at_most 4294967295 start h.range)
fits lines (NotifyList first) k h = omega (arith, at_most 18446744073709551615 first h.range)
fits lines Group k h = tt
fits lines (Seat n calls) k h =
    all_here FitsCall is_wide (names_missing lines) (fits_call lines k.counters_few k.lists_few k.groups_few) calls h.range h.declared
fits lines Settled k h = tt
fits lines (Value c n) k h = (omega (arith, k.counters_few, there c (count_of CounterKind lines) h.declared), omega (arith, at_most 4294967295 n h.range))
fits lines NoMisuse k h = tt
fits lines NoLost k h = tt

-- ---- a text's lines

kept_behind : (before : List Line) (ps : List Piece) (lines : List Line) → AreRight before ps lines → Kept before → Kept (before ++ lines)
kept_behind before [] [] r k = subst Kept (sym (append-nil before)) k
kept_behind before [] (l ∷ ls) r k = absurd r
kept_behind before (p ∷ ps) [] r k = absurd r
kept_behind before (p ∷ ps) (l ∷ ls) r k =
    subst Kept (append_assoc before (l ∷ []) ls) (kept_behind (before ++ (l ∷ [])) ps ls r.1 (kept_more before l k (passes before p l r.0)))

-- what they ask for makes a scenario, and names a counter that is there
pub record Makes (parts : Parts) (property : Property) : Type 0 where
  pub limits : IsWithinLimits parts
  pub declared : IsDeclared parts
  pub tickets : KeepsTickets parts
  pub about : IsAbout parts property

keeps_makes : (parts : Parts) (property : Property) (counters lists groups seats : ℕ)
    → Keeps parts (Some property) counters lists groups seats → Makes parts property
keeps_makes parts property counters lists groups seats k = record {
  limits =
      record {
        some_root = k.some_root;
        roots = k.roots;
        counters = omega (arith, k.declares, k.counters_few);
        lists = omega (arith, k.declares, k.lists_few);
        groups = omega (arith, k.declares, k.groups_few);
        some_seat = omega (arith, k.seats_are, k.some_seat);
        seats = omega (arith, k.seats_are, k.seats_few);
        scripts = k.scripts;
      };
  declared = k.declared;
  tickets = k.tickets;
  about = k.about;
}

pub makes : (text : List ℕ) (lines : List Line) (parts : Parts) (p : Property) → AreLinesOf text lines → parts ≡ parts_of lines
    → property_of lines ≡ Some p → Makes parts p
makes text lines parts p are same there =
    let counters = count_of CounterKind lines in
    let lists = count_of ListKind lines in
    let groups = count_of GroupKind lines in
    let seats = count_of SeatKind lines in
    let kept : Kept lines = kept_behind [] (pieces text) lines ((are.right lines).1 refl) kept_none in
    subst (λ (q : Parts). Makes q p) (sym same)
    (keeps_makes (parts_of lines) p counters lists groups seats
    (subst (λ (o : Option Property). Keeps (parts_of lines) o counters lists groups seats) there kept))
