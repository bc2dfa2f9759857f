-- Which line a text spells.
use Rattle.std.proofs.Common.{◌≡◌, ◌≢◌, ℕ, ◌+◌, ◌*◌, Bool, false, List, [], ◌∷◌, ◌++◌, get_or, Option, Some, None, Bor, sym, ap}
use Rattle.std.proofs.Common.{◌∙◌, arith, inl}
use Rattle.std.specs.Prelude.{codes}
use Rattle.std.specs.Option.{MatchOption}
use Rattle.std.specs.Fmt.{decimal}
use Rattle.std.proofs.lemmas.List.{append_cancel_left}
use Rattle.std.proofs.lemmas.Str.Pattern.{IsSplitOnceResult, split_after, split_parts}
use Rattle.std.specs.Str.{bytes_eq}
use Rattle.std.proofs.lemmas.Slice.Eq.{bytes_eq-Decides}
use Rattle.scenario_text.specs.declared.reader.call.SpelledCall.{SpelledCall}
use Rattle.scenario_text.specs.Line.{calls_text, Line, Roots, Counter, NotifyList, Group, Seat, Settled, Value, NoMisuse, NoLost, line_text, Spells}
use Rattle.scenario_text.specs.Phrases.{ReadsAs, IsNumber, IsKeyed, IsPair, AreCalls, IsSeat}
use Rattle.scenario_text.proofs.Parts.{nothing, one, found, only, none, lacks}

pub seat_split : (text rest : List ℕ) (r : Option (Bor (List ℕ) × Bor (List ℕ))) → text ≡ codes "seat " ++ rest → IsSplitOnceResult 58 rest r
    → (z : ℕ × List SpelledCall) → IsSeat text z
    → MatchOption r ⊥ (λ s. IsNumber 10 s.0.now z.0 × (s.1.now ≡ 32 ∷ calls_text z.1))
seat_split text rest None e h z p =
    split_after 58 rest (decimal z.0) (32 ∷ calls_text z.1) None h (omega arith) (append_cancel_left (codes "seat ") rest _ (sym e ∙ p.3))
    (lacks z.0 58 (omega (arith, p.0)) (inl (omega arith)))
seat_split text rest (Some x) e h z p =
    let s = split_after 58 rest (decimal z.0) (32 ∷ calls_text z.1) (Some x) h (omega arith) (append_cancel_left (codes "seat ") rest _ (sym e ∙ p.3))
    (lacks z.0 58 (omega (arith, p.0)) (inl (omega arith))) in
    ((p.0, s.0), s.1)

same_tail : (after more : List ℕ) (x : List ℕ) → x ≡ 32 ∷ after → x ≡ 32 ∷ more → after ≡ more
same_tail after more x e f = let k : 32 ∷ after ≡ 32 ∷ more = sym e ∙ f in cc

pub seat_made : (text rest after : List ℕ) (x : Bor (List ℕ) × Bor (List ℕ)) (n : ℕ) (cs : List SpelledCall) → text ≡ codes "seat " ++ rest
    → IsSplitOnceResult 58 rest (Some x) → ReadsAs (IsNumber 10 x.0.now) (Some n) → x.1.now ≡ 32 ∷ after → ReadsAs (AreCalls after) (Some cs)
    → ReadsAs (IsSeat text) (Some (n, cs))
seat_made text rest after x n cs e h first space reads =
    let p = split_parts 58 rest (Some x) h (omega arith) in
    let f = found (IsNumber 10 x.0.now) n first in
    let s = found (AreCalls after) cs reads in
    one (IsSeat text) (n, cs) (
      f.0,
      s.some,
      s.short,
      e ∙ ap (λ (y : List ℕ). codes "seat " ++ y)
          (p.0 ∙ ap (λ (y : List ℕ). y ++ (58 ∷ x.1.now)) f.1 ∙ ap (λ (y : List ℕ). decimal n ++ (58 ∷ y))
          (space ∙ ap (λ (y : List ℕ). 32 ∷ y) s.spelled)),
    )
    (λ z q. let t = seat_split text rest (Some x) e h z q in
    let is0 : z.0 ≡ n = only (IsNumber 10 x.0.now) n z.0 first t.0 in
    let is1 : z.1 ≡ cs = only (AreCalls after) cs z.1 reads
    (record { some = q.1; short = q.2; spelled = same_tail after (calls_text z.1) x.1.now space t.1 }) in
    (λ i. (is0 i, is1 i)))

pub seat_calls : (text rest after : List ℕ) (x : Bor (List ℕ) × Bor (List ℕ)) → text ≡ codes "seat " ++ rest → IsSplitOnceResult 58 rest (Some x)
    → x.1.now ≡ 32 ∷ after → ReadsAs (AreCalls after) None → ReadsAs (IsSeat text) None
seat_calls text rest after x e h space reads = nothing (IsSeat text) (λ z q. let t = seat_split text rest (Some x) e h z q in
    none (AreCalls after) z.1 reads (record { some = q.1; short = q.2; spelled = same_tail after (calls_text z.1) x.1.now space t.1 }))

-- the first and the third byte tell the lines apart
abbrev key : List ℕ → ℕ
key text = 256 * get_or text 0 0 + get_or text 2 0

pub roots_line : (text : List ℕ) (n : ℕ) → ReadsAs (IsKeyed 10 (codes "roots ") text) (Some n) → ReadsAs (Spells text) (Some (Roots n))
roots_line text n h = let f = found (IsKeyed 10 (codes "roots ") text) n h in one (Spells text) (Roots n) (record { form = f.0; spelled = f.1 }) is
  where
    is : (a : Line) → Spells text a → a ≡ Roots n
    is (Roots m) q = ap Roots (only (IsKeyed 10 (codes "roots ") text) n m h (q.form, q.spelled))
    is a q = let f = found (IsKeyed 10 (codes "roots ") text) n h in let e : text ≡ line_text (Roots n) = f.1 in
        absurd (omega (arith, ap key (sym e ∙ q.spelled)))

pub counter_line : (text : List ℕ) (n : ℕ) → ReadsAs (IsKeyed 10 (codes "counter ") text) (Some n) → ReadsAs (Spells text) (Some (Counter n))
counter_line text n h = let f = found (IsKeyed 10 (codes "counter ") text) n h in one (Spells text) (Counter n) (record { form = f.0; spelled = f.1 }) is
  where
    is : (a : Line) → Spells text a → a ≡ Counter n
    is (Counter m) q = ap Counter (only (IsKeyed 10 (codes "counter ") text) n m h (q.form, q.spelled))
    is a q = let f = found (IsKeyed 10 (codes "counter ") text) n h in let e : text ≡ line_text (Counter n) = f.1 in
        absurd (omega (arith, ap key (sym e ∙ q.spelled)))

pub list_line : (text : List ℕ) (n : ℕ) → ReadsAs (IsKeyed 20 (codes "list ") text) (Some n) → ReadsAs (Spells text) (Some (NotifyList n))
list_line text n h = let f = found (IsKeyed 20 (codes "list ") text) n h in one (Spells text) (NotifyList n) (record { form = f.0; spelled = f.1 }) is
  where
    is : (a : Line) → Spells text a → a ≡ NotifyList n
    is (NotifyList m) q = ap NotifyList (only (IsKeyed 20 (codes "list ") text) n m h (q.form, q.spelled))
    is a q = let f = found (IsKeyed 20 (codes "list ") text) n h in let e : text ≡ line_text (NotifyList n) = f.1 in
        absurd (omega (arith, ap key (sym e ∙ q.spelled)))

pub value_line : (text : List ℕ) (c n : ℕ) → ReadsAs (IsPair (codes "value ") [] text) (Some (c, n)) → ReadsAs (Spells text) (Some (Value c n))
value_line text c n h =
    let f = found (IsPair (codes "value ") [] text) (c, n) h in one (Spells text) (Value c n) (record { form = (f.0, f.1); spelled = f.2 }) is
  where
    is : (a : Line) → Spells text a → a ≡ Value c n
    is (Value b m) q = ap (λ (x : ℕ × ℕ). Value x.0 x.1) (only (IsPair (codes "value ") [] text) (c, n) (b, m) h (q.form.0, q.form.1, q.spelled))
    is a q = let f = found (IsPair (codes "value ") [] text) (c, n) h in let e : text ≡ line_text (Value c n) = f.2 in
        absurd (omega (arith, ap key (sym e ∙ q.spelled)))

pub seat_line : (text : List ℕ) (n : ℕ) (cs : List SpelledCall) → ReadsAs (IsSeat text) (Some (n, cs)) → ReadsAs (Spells text) (Some (Seat n cs))
seat_line text n cs h = let f = found (IsSeat text) (n, cs) h in one (Spells text) (Seat n cs) (record { form = (f.0, f.1, f.2); spelled = f.3 }) is
  where
    is : (a : Line) → Spells text a → a ≡ Seat n cs
    is (Seat m ds) q = ap (λ (x : ℕ × List SpelledCall). Seat x.0 x.1) (only (IsSeat text) (n, cs) (m, ds) h (q.form.0, q.form.1, q.form.2, q.spelled))
    is a q = let f = found (IsSeat text) (n, cs) h in let e : text ≡ line_text (Seat n cs) = f.3 in absurd (omega (arith, ap key (sym e ∙ q.spelled)))

pub no_line : (text : List ℕ) → ReadsAs (IsKeyed 10 (codes "roots ") text) None → ReadsAs (IsKeyed 10 (codes "counter ") text) None
    → ReadsAs (IsKeyed 20 (codes "list ") text) None → ReadsAs (IsPair (codes "value ") [] text) None
    → ReadsAs (IsSeat text) None → (text ≢ codes "group") → (text ≢ codes "settled") → (text ≢ codes "no-misuse") → (text ≢ codes "no-lost") → ReadsAs (Spells text) None
no_line text roots counter list value seat group settled misuse lost = nothing (Spells text) is
  where
    is : (a : Line) → Spells text a → ⊥
    is (Roots n) q = none (IsKeyed 10 (codes "roots ") text) n roots (q.form, q.spelled)
    is (Counter n) q = none (IsKeyed 10 (codes "counter ") text) n counter (q.form, q.spelled)
    is (NotifyList n) q = none (IsKeyed 20 (codes "list ") text) n list (q.form, q.spelled)
    is Group q = group q.spelled
    is (Seat k cs) q = none (IsSeat text) (k, cs) seat (q.form.0, q.form.1, q.form.2, q.spelled)
    is Settled q = settled q.spelled
    is (Value c n) q = none (IsPair (codes "value ") [] text) (c, n) value (q.form.0, q.form.1, q.spelled)
    is NoMisuse q = misuse q.spelled
    is NoLost q = lost q.spelled

pub differs : (r : Bool) (xs ys : List ℕ) → r ≡ bytes_eq xs ys → r ≡ false → xs ≢ ys
differs r xs ys e f g = let t = (bytes_eq-Decides xs ys).1 g in cc
