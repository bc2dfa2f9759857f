-- Calls with a semicolon and a space between them.
use Rattle.std.proofs.Common.{◌≡◌, ◌≢◌, ℕ, zero, suc, ◌^◌, ◌<◌, Bool, true, false, cond, eqb, List, [], ◌∷◌, ◌++◌, length}
use Rattle.std.proofs.Common.{get_or, Option, Some, None, Bor, refl, sym}
use Rattle.std.proofs.Common.{ap, subst, ◌∙◌, append_assoc, eq-eqb, arith, inl, ◌⊎◌}
use Rattle.std.specs.Prelude.{codes}
use Rattle.std.specs.Fmt.{decimal}
use Rattle.std.proofs.lemmas.Bool.{eqb-true}
use Rattle.std.proofs.lemmas.Str.Pattern.{IsSplitOnceResult, split_after, split_parts}
use Rattle.scenario_text.specs.declared.reader.call.Change.{Change}
use Rattle.scenario_text.specs.declared.reader.call.Change.TheVariants.{Up, Down}
use Rattle.scenario_text.specs.declared.reader.call.SpelledCall.{SpelledCall}
use Rattle.scenario_text.specs.declared.reader.call.SpelledCall.TheVariants.{Acquire, AcquireLifo, AcquireOrLeave, WaitOrLeave, Release, ReleaseHandoff, ReleaseMany, Add, Wait, One, All}
use Rattle.scenario_text.specs.declared.reader.call.SpelledCall.TheVariants.{GroupAdd, GroupWait, GroupWaitOrLeave}
use Rattle.scenario_text.specs.declared.reader.call.SpelledGivingUp.{SpelledGivingUp}
use Rattle.step_table.specs.declared.call.Late.{Late}
use Rattle.step_table.specs.declared.call.Late.TheVariants.{Kept, GivenBack}
use Rattle.scenario_text.specs.Line.{IsShort, call_text, calls_text, change_text, IsShortChange}
use Rattle.scenario_text.specs.Line.{late_text, skips_text, giving_up_text, flag_text, IsShortSkips, IsShortGivingUp, keeping}
use Rattle.scenario_text.specs.Phrases.{ReadsAs, IsCall, AreCalls}
use Rattle.scenario_text.proofs.Parts.{nothing, one, found, only, none, lacks}

-- whether a byte stands in a text: it computes on the words of a line
abbrev pub has : ℕ → List ℕ → Bool
has b [] = false
has b (x ∷ xs) = cond (eqb x b) true (has b xs)

neither : (t : Bool) (m n : Bool) → cond t true m ≡ false → (m ≡ false → n ≡ false) → cond t true n ≡ false
neither true m n e h = e
neither false m n e h = h e

not_first : (t m : Bool) → cond t true m ≡ false → m ≡ false
not_first true m e = absurd cc
not_first false m e = e

is_first : (t m : Bool) → m ≡ true → cond t true m ≡ true
is_first true m e = refl
is_first false m e = e

has_append : (b : ℕ) (xs ys : List ℕ) → has b xs ≡ false → has b ys ≡ false → has b (xs ++ ys) ≡ false
has_append b [] ys p q = q
has_append b (x ∷ xs) ys p q = neither (eqb x b) (has b xs) (has b (xs ++ ys)) p (λ r. has_append b xs ys r q)

pub has_in : (b : ℕ) (xs ys : List ℕ) → has b (xs ++ (b ∷ ys)) ≡ true
has_in b [] ys = ap (λ (t : Bool). cond t true (has b ys)) (eq-eqb b b refl)
has_in b (x ∷ xs) ys = is_first (eqb x b) (has b (xs ++ (b ∷ ys))) (has_in b xs ys)

has_none : (b : ℕ) (xs : List ℕ) → has b xs ≡ false → (i : ℕ) → i < length xs → get_or xs i 0 ≢ b
has_none b [] p i lt e = absurd (omega arith)
has_none b (x ∷ xs) p zero lt e =
    let t : eqb x b ≡ true = eq-eqb x b e in let f : cond (eqb x b) true (has b xs) ≡ true = ap (λ (t : Bool). cond t true (has b xs)) t in absurd cc
has_none b (x ∷ xs) p (suc i) lt e = has_none b xs (not_first (eqb x b) (has b xs) p) i (omega arith) e

none_first : (x b : ℕ) (t m : Bool) → x ≢ b → eqb x b ≡ t → m ≡ false → cond t true m ≡ false
none_first x b true m n e f = absurd (n (eqb-true x b e))
none_first x b false m n e f = f

none_has : (b : ℕ) (xs : List ℕ) → ((i : ℕ) → i < length xs → get_or xs i 0 ≢ b) → has b xs ≡ false
none_has b [] h = refl
none_has b (x ∷ xs) h = none_first x b (eqb x b) (has b xs) (h 0 (omega arith)) refl (none_has b xs (λ i lt. h (suc i) (omega arith)))

pub number_has : (b n : ℕ) → n < 10 ^ 10 → 57 < b ⊎ b < 48 → has b (decimal n) ≡ false
number_has b n small out = none_has b (decimal n) (lacks n b (omega arith) out)

change_has : (d : Change) → IsShortChange d → has 59 (change_text d) ≡ false
change_has (Up n) h = number_has 59 n h (inl (omega arith))
change_has (Down n) h = number_has 59 n h.1 (inl (omega arith))

late_has : (l : Late) → has 59 (late_text l) ≡ false
late_has Kept = refl
late_has GivenBack = refl

skips_has : (o : Option ℕ) → IsShortSkips o → has 59 (skips_text o) ≡ false
skips_has None h = refl
skips_has (Some n) h = number_has 59 n h.1 (inl (omega arith))

way_has : (how : SpelledGivingUp) → IsShortGivingUp how → has 59 (giving_up_text how) ≡ false
way_has how h = has_append 59 (late_text how.late) (skips_text how.skips) (late_has how.late) (skips_has how.skips h)

flagged_has : (lifo : Bool) (how : SpelledGivingUp) → IsShortGivingUp how → has 59 (flag_text lifo ++ giving_up_text how) ≡ false
flagged_has true how h = way_has how h
flagged_has false how h = way_has how h

call_has : (c : SpelledCall) → IsShort c → has 59 (call_text c) ≡ false
call_has (Acquire n) h = number_has 59 n h (inl (omega arith))
call_has (AcquireLifo n) h = has_append 59 (decimal n) (codes " lifo") (number_has 59 n h (inl (omega arith))) refl
call_has (AcquireOrLeave n lifo how) h =
    has_append 59 (decimal n) (32 ∷ (flag_text lifo ++ giving_up_text how)) (number_has 59 n h.0 (inl (omega arith))) (flagged_has lifo how h.1)
call_has (Release n) h = number_has 59 n h (inl (omega arith))
call_has (ReleaseHandoff n) h = has_append 59 (decimal n) (codes " handoff") (number_has 59 n h (inl (omega arith))) refl
call_has (ReleaseMany n k) h =
    has_append 59 (decimal n) (codes " many " ++ decimal k) (number_has 59 n h.0 (inl (omega arith))) (number_has 59 k h.1 (inl (omega arith)))
call_has (Add n) h = number_has 59 n h (inl (omega arith))
call_has (Wait n) h = number_has 59 n h (inl (omega arith))
call_has (WaitOrLeave n how) h =
    has_append 59 (decimal n) (32 ∷ giving_up_text how) (number_has 59 n h.0 (inl (omega arith))) (way_has how h.1)
call_has (One n) h = number_has 59 n h (inl (omega arith))
call_has (All n) h = number_has 59 n h (inl (omega arith))
call_has (GroupAdd n d) h = has_append 59 (decimal n) (32 ∷ change_text d) (number_has 59 n h.0 (inl (omega arith))) (change_has d h.1)
call_has (GroupWait n) h = number_has 59 n h (inl (omega arith))
call_has (GroupWaitOrLeave n skips) h =
    has_append 59 (decimal n) (32 ∷ giving_up_text (keeping skips)) (number_has 59 n h.0 (inl (omega arith))) (way_has (keeping skips) h.1)

call_lacks : (c : SpelledCall) → IsShort c → (i : ℕ) → i < length (call_text c) → get_or (call_text c) i 0 ≢ 59
call_lacks c h = has_none 59 (call_text c) (call_has c h)

-- ---- one call more or the last

-- the calls of a text in which a semicolon stands
pub first_call : (rest : List ℕ) (x : Bor (List ℕ) × Bor (List ℕ)) → IsSplitOnceResult 59 rest (Some x)
    → (cs : List SpelledCall) → AreCalls rest cs
    → (c : SpelledCall) × (ds : List SpelledCall) × (cs ≡ c ∷ ds) × IsCall x.0.now c × (after : List ℕ)
    × (x.1.now ≡ 32 ∷ after) × AreCalls after ds
first_call rest x h [] p = absurd (omega (arith, p.some))
first_call rest x h (c ∷ []) p =
    let s = split_parts 59 rest (Some x) h (omega arith) in
    let e : has 59 rest ≡ true = ap (has 59) s.0 ∙ has_in 59 x.0.now x.1.now in
    let f : has 59 rest ≡ false = ap (has 59) p.spelled ∙ call_has c p.short.0 in absurd cc
first_call rest x h (c ∷ d ∷ ds) p =
    let s = split_after 59 rest (call_text c) (32 ∷ calls_text (d ∷ ds)) (Some x) h (omega arith) p.spelled (call_lacks c p.short.0) in (
      c,
      d ∷ ds,
      refl,
      record { short = p.short.0; spelled = s.0 },
      calls_text (d ∷ ds),
      s.1,
      record { some = omega arith; short = p.short.1; spelled = refl },
    )

pub more_calls : (rest first after : List ℕ) (c : SpelledCall) (ds : List SpelledCall) → rest ≡ first ++ (59 ∷ 32 ∷ after) → IsCall first c
    → AreCalls after ds → AreCalls rest (c ∷ ds)
more_calls rest first after c [] e p q = absurd (omega (arith, q.some))
more_calls rest first after c (d ∷ ds)
    e p q = record {
      some = omega arith;
      short = (p.short, q.short);
      spelled = e ∙ ap (λ (x : List ℕ). x ++ (59 ∷ 32 ∷ after)) p.spelled ∙ ap (λ (x : List ℕ). call_text c ++ (59 ∷ 32 ∷ x)) q.spelled;
    }

-- the calls of a text without one
pub last_call : (rest : List ℕ) → IsSplitOnceResult 59 rest None → (cs : List SpelledCall) → AreCalls rest cs
    → (c : SpelledCall) × (cs ≡ c ∷ []) × IsCall rest c
last_call rest h [] p = absurd (omega (arith, p.some))
last_call rest h (c ∷ []) p = (c, refl, record { short = p.short.0; spelled = p.spelled })
last_call rest h (c ∷ d ∷ ds) p =
    absurd (split_after 59 rest (call_text c) (32 ∷ calls_text (d ∷ ds)) None h (omega arith) p.spelled (call_lacks c p.short.0))

-- ---- the loop

-- the calls of the text are those in front, and then those of the rest
pub record SoFar (text rest : List ℕ) (front : List SpelledCall) : Type 0 where
  pub to : (cs : List SpelledCall) → AreCalls rest cs → AreCalls text (front ++ cs)
  pub from : (ds : List SpelledCall) → AreCalls text ds → (cs : List SpelledCall) × (ds ≡ front ++ cs) × AreCalls rest cs

pub begins : (text : List ℕ) → SoFar text text []
begins text = record { to = λ cs p. p; from = λ ds p. (ds, refl, p) }

pub turn : (text rest after : List ℕ) (front : List SpelledCall) (x : Bor (List ℕ) × Bor (List ℕ)) (c : SpelledCall) → SoFar text rest front
    → IsSplitOnceResult 59 rest (Some x) → ReadsAs (IsCall x.0.now) (Some c) → x.1.now ≡ 32 ∷ after
    → SoFar text after (front ++ (c ∷ []))
turn text rest after front x c so h reads e = record {
  to = λ cs p.
      let s = split_parts 59 rest (Some x) h (omega arith) in
      let q = so.to (c ∷ cs) (more_calls rest x.0.now after c cs
      (s.0 ∙ ap (λ (y : List ℕ). x.0.now ++ (59 ∷ y)) e) (found (IsCall x.0.now) c reads) p) in
      subst (AreCalls text) (sym (append_assoc front (c ∷ []) cs)) q;
  from = λ ds p.
      let g = so.from ds p in
      let f = first_call rest x h g.0 g.2 in
      let same : f.0 ≡ c = only (IsCall x.0.now) c f.0 reads f.3 in
      let tail : f.4 ≡ after = let k : 32 ∷ f.4 ≡ 32 ∷ after = sym f.5 ∙ e in cc in (
        f.1,
        g.1 ∙ ap (λ (y : List SpelledCall). front ++ y) (f.2 ∙ ap (λ (y : SpelledCall). y ∷ f.1) same) ∙ sym (append_assoc front (c ∷ []) f.1),
        subst (λ (y : List ℕ). AreCalls y f.1) tail f.6,
      );
}

pub no_first : (text rest : List ℕ) (front : List SpelledCall) (x : Bor (List ℕ) × Bor (List ℕ)) → SoFar text rest front
    → IsSplitOnceResult 59 rest (Some x) → ReadsAs (IsCall x.0.now) None → ReadsAs (AreCalls text) None
no_first text rest front x so h reads =
    nothing (AreCalls text) (λ ds p. let g = so.from ds p in let f = first_call rest x h g.0 g.2 in none (IsCall x.0.now) f.0 reads f.3)

pub no_space : (text rest : List ℕ) (front : List SpelledCall) (x : Bor (List ℕ) × Bor (List ℕ)) → SoFar text rest front
    → IsSplitOnceResult 59 rest (Some x) → ((after : List ℕ) → x.1.now ≢ 32 ∷ after) → ReadsAs (AreCalls text) None
no_space text rest front x so h other = nothing (AreCalls text) (λ ds p. let g = so.from ds p in let f = first_call rest x h g.0 g.2 in other f.4 f.5)

pub ends : (text rest : List ℕ) (front : List SpelledCall) (c : SpelledCall) → SoFar text rest front → IsSplitOnceResult 59 rest None
    → ReadsAs (IsCall rest) (Some c) → ReadsAs (AreCalls text) (Some (front ++ (c ∷ [])))
ends text rest front c so h reads = let f = found (IsCall rest) c reads in
    one (AreCalls text) (front ++ (c ∷ [])) (so.to (c ∷ []) (record { some = omega arith; short = (f.short, tt); spelled = f.spelled }))
    (λ ds p. let g = so.from ds p in let l = last_call rest h g.0 g.2 in
    g.1 ∙ ap (λ (y : List SpelledCall). front ++ y) (l.1 ∙ ap (λ (y : SpelledCall). y ∷ []) (only (IsCall rest) c l.0 reads l.2)))

pub no_last : (text rest : List ℕ) (front : List SpelledCall) → SoFar text rest front → IsSplitOnceResult 59 rest None
    → ReadsAs (IsCall rest) None → ReadsAs (AreCalls text) None
no_last text rest front so h reads =
    nothing (AreCalls text) (λ ds p. let g = so.from ds p in let l = last_call rest h g.0 g.2 in none (IsCall rest) l.0 reads l.2)
