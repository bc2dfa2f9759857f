-- Courses of a world: rows of its seats and choices of their callers, one after the other.
use Rattle.std.specs.Prelude.{ℕ, suc, ◌+◌, ◌<◌}

-- from s, by so many rows of the seats below `seats`, and by choices that cost so much together
pub data Course {World : Type 0} (Row : World → ℕ → World → Type 0) (Chosen : World → ℕ → ℕ → World → Type 0)
    (seats : ℕ) (s : World) : ℕ → ℕ → World → Type 0 where
  none : Course Row Chosen seats s 0 0 s
  row : {rows costs : ℕ} {t u : World} (i : ℕ) → i < seats → Course Row Chosen seats s rows costs t
      → Row t i u
      → Course Row Chosen seats s (suc rows) costs u
  choice : {rows costs cost : ℕ} {t u : World} (i : ℕ) → i < seats → Course Row Chosen seats s rows costs t
      → Chosen t i cost u → Course Row Chosen seats s rows (costs + cost) u

-- by rows alone
abbrev pub Rows : {World : Type 0} → (World → ℕ → World → Type 0) → ℕ → World → ℕ → World → Type 0
Rows Row seats s rows t = Course Row (λ s i cost t. ⊥) seats s rows 0 t
