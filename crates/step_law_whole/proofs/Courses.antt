-- What holds of courses of any world: no more rows than the weight at their start and the costs; and rows lead to an end.
use Rattle.std.proofs.Common.{◌≡◌, ℕ, zero, suc, ◌+◌, ◌<◌, ◌≤◌, ◌⊎◌, Bool, true, false, IsTrue, inl, inr, refl, sym, ap, ◌∙◌}
use Rattle.std.proofs.Common.{arith}
use native.Mathlib.Decide.{ℕ_discrete}
use Rattle.step_law_whole.specs.Course.{Course, none, row, choice, Rows}

-- some of the first n seats can, or none of them
abbrev pub SomeCan : (ℕ → Bool) → ℕ → Type 0
SomeCan can n = (i : ℕ) × (i < n) × IsTrue (can i)

abbrev pub NoneCan : (ℕ → Bool) → ℕ → Type 0
NoneCan can n = (i : ℕ) → i < n → IsTrue (can i) → ⊥

pub look : (can : ℕ → Bool) (n : ℕ) → SomeCan can n ⊎ NoneCan can n
look can zero = inr (λ i less x. absurd (omega arith))
look can (suc n) = by (can n) refl (look can n)
  where
    last : can n ≡ false → NoneCan can n → NoneCan can (suc n)
    last not others i less x = at (ℕ_discrete i n)
      where
        at : Dec (i ≡ n) → ⊥
        at (yes e) = let both : true ≡ false = sym x ∙ ap can e ∙ not in cc
        at (no ne) = others i (omega arith) x

    by : (b : Bool) → can n ≡ b → SomeCan can n ⊎ NoneCan can n → SomeCan can (suc n) ⊎ NoneCan can (suc n)
    by b is (inl some) = inl (some.0, omega arith, some.2)
    by true is (inr others) = inl (n, omega arith, is)
    by false is (inr others) = inr (last is others)

-- a row, and then more
pub first : {World : Type 0} {Row : World → ℕ → World → Type 0} {Chosen : World → ℕ → ℕ → World → Type 0}
    {seats : ℕ} {s t u : World} {rows costs : ℕ}
    (i : ℕ) → i < seats → Row s i t → Course Row Chosen seats t rows costs u → Course Row Chosen seats s (suc rows) costs u
first i in_range x none = row i in_range none x
first i in_range x (row k there before y) = row k there (first i in_range x before) y
first i in_range x (choice k there before y) = choice k there (first i in_range x before) y

module _ {World : Type 0} (Row : World → ℕ → World → Type 0) (Chosen : World → ℕ → ℕ → World → Type 0) (seats : ℕ) where
  -- what each row and each choice keeps holds after a course
  pub course_keeps : (Rule : World → Type 0) → ((s t : World) (i : ℕ) → i < seats → Rule s → Row s i t → Rule t)
      → ((s t : World) (i cost : ℕ) → i < seats → Rule s → Chosen s i cost t → Rule t)
      → {s t : World} {rows costs : ℕ} → Course Row Chosen seats s rows costs t → Rule s → Rule t
  course_keeps Rule kept held none rule = rule
  course_keeps Rule kept held (row i in_range before x) rule = kept _ _ i in_range (course_keeps Rule kept held before rule) x
  course_keeps Rule kept held (choice i in_range before x) rule = held _ _ i _ in_range (course_keeps Rule kept held before rule) x

  -- what holds at its end, and before each row and each choice where it holds after it, holds all along the course
  pub course_within : (Has : World → Type 0) → ((s t : World) (i : ℕ) → Row s i t → Has t → Has s)
      → ((s t : World) (i cost : ℕ) → Chosen s i cost t → Has t → Has s)
      → {s t : World} {rows costs : ℕ} → Course Row Chosen seats s rows costs t → Has t
      → Course (λ s i t. Row s i t × Has s) Chosen seats s rows costs t
  course_within Has back held none has = none
  course_within Has back held (row i in_range before x) has =
      row i in_range (course_within Has back held before (back _ _ i x has)) (x, back _ _ i x has)
  course_within Has back held (choice i in_range before x) has =
      choice i in_range (course_within Has back held before (held _ _ i _ x has)) x

  module _ (Rule : World → Type 0) (weight : World → ℕ)
      (kept : (s t : World) (i : ℕ) → i < seats → Rule s → Row s i t → Rule t)
      (held : (s t : World) (i cost : ℕ) → i < seats → Rule s → Chosen s i cost t → Rule t)
      (lowered : (s t : World) (i : ℕ) → i < seats → Rule s → Row s i t → weight t < weight s)
      (raised : (s t : World) (i cost : ℕ) → i < seats → Rule s → Chosen s i cost t → weight t ≤ weight s + cost) where
    pub few_rows : {s t : World} {rows costs : ℕ} → Course Row Chosen seats s rows costs t → Rule s → rows + weight t ≤ weight s + costs
    few_rows none rule = omega arith
    few_rows (row i in_range before x) rule =
        let few = few_rows before rule in
        let less = lowered _ _ i in_range (course_keeps Rule kept held before rule) x in omega arith
    few_rows (choice i in_range before x) rule =
        let few = few_rows before rule in
        let more = raised _ _ i _ in_range (course_keeps Rule kept held before rule) x in omega arith

    -- rows lead on to a world in which no seat can run one, where it can be told which can
    module _ (can : World → ℕ → Bool) (next : World → ℕ → World)
        (runs : (s : World) (i : ℕ) → i < seats → Rule s → IsTrue (can s i) → Row s i (next s i)) where
      abbrev pub IsEnd : World → Type 0
      IsEnd s = NoneCan (can s) seats

      -- a world that rows lead to, and in which no seat can run one
      abbrev pub Ends : World → Type 0
      Ends s = (t : World) × (rows : ℕ) × Rows Row seats s rows t × (rows ≤ weight s) × Rule t × IsEnd t

      end_within : (bound : ℕ) (s : World) → Rule s → weight s < bound → Ends s
      end_within zero s rule few = absurd (omega arith)
      end_within (suc bound) s rule few = by (λ t held less. end_within bound t held less) (look (can s) seats)
        where
          by : ((t : World) → Rule t → weight t < bound → Ends t) → SomeCan (can s) seats ⊎ IsEnd s → Ends s
          by goes (inl some) =
              let x = runs s some.0 some.1 rule some.2 in
              let less = lowered s (next s some.0) some.0 some.1 rule x in
              let more = goes (next s some.0) (kept s (next s some.0) some.0 some.1 rule x) (omega arith) in
              let few = more.3 in (more.0, suc more.1, first some.0 some.1 x more.2, omega arith, more.4, more.5)
          by goes (inr ended) = (s, 0, none, omega arith, rule, ended)

      pub end_of : (s : World) → Rule s → Ends s
      end_of s rule = end_within (suc (weight s)) s rule (omega arith)
