-- What holds of an answer's value, where one there is.
use Rattle.std.proofs.Common.{◌≡◌, ℕ, ◌<◌, Bool, List, length, position, Option, Some, None, Result, Ok, Err, IfOk, IfSome, refl, subst, []}
use Rattle.std.proofs.lemmas.List.Quantifiers.{position-Some}
use Rattle.program_text.specs.declared.cause.ProgramCause.{ProgramCause}
use Rattle.program.specs.Causes.{both, map_ok, and_then}
use Rattle.program.specs.Names.{declared}

pub oks_any : {A : Type 0} (P : A → Type 0) (r : Result A ProgramCause) → ((a : A) → P a) → IfOk r P
oks_any P (Ok a) h = h a
oks_any P (Err c) h = tt

pub oks_map : {A B : Type 0} (Q : A → Type 0) (P : B → Type 0) (f : A → B) (r : Result A ProgramCause)
    → IfOk r Q → ((a : A) → Q a → P (f a)) → IfOk (map_ok f r) P
oks_map Q P f (Ok a) q h = h a q
oks_map Q P f (Err c) q h = tt

pub oks_both : {A B : Type 0} (P : A → Type 0) (Q : B → Type 0) (r : Result A ProgramCause) (s : Result B ProgramCause)
    → IfOk r P → IfOk s Q → IfOk (both r s) (λ x. P x.0 × Q x.1)
oks_both P Q (Ok a) (Ok b) p q = (p, q)
oks_both P Q (Ok a) (Err d) p q = tt
oks_both P Q (Err c) (Ok b) p q = tt
oks_both P Q (Err c) (Err d) p q = tt

pub oks_then : {A B : Type 0} (Q : A → Type 0) (P : B → Type 0) (r : Result A ProgramCause) (f : A → Result B ProgramCause)
    → IfOk r Q → ((a : A) → Q a → IfOk (f a) P) → IfOk (and_then r f) P
oks_then Q P (Ok a) f q h = h a q
oks_then Q P (Err c) f q h = tt

pub oks_at : {A : Type 0} (P : A → Type 0) (r : Result A ProgramCause) (a : A) → r ≡ Ok a → IfOk r P → P a
oks_at P (Ok b) a e h = let is : b ≡ a = cc in subst P is h
oks_at P (Err c) a e h = absurd cc

pub oks_declared : {A : Type 0} (P : A → Type 0) (o : Option A) → IfSome o P → IfOk (declared o) P
oks_declared P (Some a) h = h
oks_declared P None h = tt

-- a name that is found among the names
pub position_within : (test : List ℕ → Bool) (xs : List (List ℕ)) → IfSome (position test xs) (λ k. k < length xs)
position_within test xs = by (position test xs) refl
  where
    by : (o : Option ℕ) → position test xs ≡ o → IfSome o (λ k. k < length xs)
    by (Some k) e = (position-Some test xs k [] e).0
    by None e = tt
