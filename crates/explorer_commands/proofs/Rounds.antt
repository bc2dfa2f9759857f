-- A text with a round has one schedule before it, and one round.
use Rattle.std.proofs.Common.{◌≡◌, ◌≢◌, ◌<◌, ℕ, zero, suc, List, [], ◌∷◌, ◌++◌, length, get_or, refl, sym, ap, ◌∙◌, subst, arith, inr}
use Rattle.std.specs.Prelude.{Option, Some, None, MatchOption}
use Rattle.std.specs.List.{AllByRecursion}
use Rattle.std.specs.Fmt.{decimal}
use Rattle.std.proofs.lemmas.List.{append_cancel_right, length-append}
use Rattle.std.proofs.lemmas.Option.{none-some}
use Rattle.scenario_text.specs.ScheduleText.{SpellsSeats, IsShortNumber, schedule_text}
use Rattle.scenario_text.proofs.Parts.{lacks}
use Rattle.explorer_commands.specs.RoundText.{IsFree, SpellsRound, in_parentheses, spaced, with_round}

pub none_told : {A : Type 0} (D : Type 0) (C : A → Type 0) (o : Option A) → o ≡ None → MatchOption o D C → D
none_told D C None is told = told
none_told D C (Some x) is told = absurd (none-some x (sym is))

-- the same by places
pub free : (xs : List ℕ) → ((i : ℕ) → i < length xs → get_or xs i 0 ≢ 40) → IsFree xs
free [] each = tt
free (x ∷ xs) each = (each 0 (omega arith), free xs (λ i low. each (suc i) (omega (arith, low))))

pub each_free : (xs : List ℕ) → IsFree xs → (i : ℕ) → i < length xs → get_or xs i 0 ≢ 40
each_free [] all i low = absurd (omega (arith, low))
each_free (x ∷ xs) all zero low = all.0
each_free (x ∷ xs) all (suc i) low = each_free xs all.1 i (omega (arith, low))

free_append : (xs ys : List ℕ) → IsFree xs → IsFree ys → IsFree (xs ++ ys)
free_append [] ys one other = other
free_append (x ∷ xs) ys one other = (one.0, free_append xs ys one.1 other)

pub free_spaced : (xs : List ℕ) → IsFree xs → IsFree (spaced xs)
free_spaced [] all = tt
free_spaced (x ∷ xs) all = free_append (x ∷ xs) (32 ∷ []) all ((λ e. absurd (omega (arith, e))), tt)

number_free : (seat : ℕ) → IsShortNumber seat → IsFree (decimal seat)
number_free seat short = free (decimal seat) (lacks seat 40 (omega (arith, short)) (inr (omega arith)))

schedule_free : (seats : List ℕ) → AllByRecursion IsShortNumber seats → IsFree (schedule_text seats)
schedule_free [] short = tt
schedule_free (seat ∷ []) short = number_free seat short.0
schedule_free (seat ∷ next ∷ more) short =
    free_append (decimal seat) (32 ∷ schedule_text (next ∷ more)) (number_free seat short.0)
    ((λ e. absurd (omega (arith, e))), schedule_free (next ∷ more) short.1)

pub spelled_free : (text seats : List ℕ) → SpellsSeats text seats → IsFree text
spelled_free text seats is = subst IsFree (sym is.spelled) (schedule_free seats is.short)

-- one front stands before the first parenthesis
one_front : (xs us ys vs : List ℕ) → IsFree xs → IsFree us → xs ++ 40 ∷ ys ≡ us ++ 40 ∷ vs → (xs ≡ us) × (ys ≡ vs)
one_front [] [] ys vs one other e = (refl, cc)
one_front [] (u ∷ us) ys vs one other e = absurd (other.0 (cc))
one_front (x ∷ xs) [] ys vs one other e = absurd (one.0 (cc))
one_front (x ∷ xs) (u ∷ us) ys vs one other e =
    let rest = one_front xs us ys vs one.1 other.1 (cc) in let first : x ≡ u = cc in
    (ap (λ (w : ℕ). w ∷ xs) first ∙ ap (λ (w : List ℕ). u ∷ w) rest.0, rest.1)

pub one_inner : (text xs us ys vs : List ℕ) → IsFree xs → IsFree us → text ≡ in_parentheses xs ys → text ≡ in_parentheses us vs
    → (xs ≡ us) × (ys ≡ vs)
one_inner text xs us ys vs one other e f =
    let both = one_front xs us (ys ++ 41 ∷ []) (vs ++ 41 ∷ []) one other (sym e ∙ f) in
    (both.0, append_cancel_right ys vs (41 ∷ []) both.1)

-- of a text with a space behind it
pub spaced_empty : (text : List ℕ) → length text ≡ 0 → text ≡ spaced text
spaced_empty [] e = refl
spaced_empty (c ∷ text) e = absurd (omega (arith, e))

pub spaced_some : (text front : List ℕ) → (length front ≡ 0 → ⊥) → text ≡ front ++ 32 ∷ [] → text ≡ spaced front
spaced_some text [] some e = absurd (some refl)
spaced_some text (c ∷ front) some e = e

pub not_spaced : (text : List ℕ) → (length text ≡ 0 → ⊥) → ((front : List ℕ) → text ≢ front ++ 32 ∷ []) → (front : List ℕ) → text ≡ spaced front → ⊥
not_spaced text some never [] e = some (ap length e)
not_spaced text some never (c ∷ front) e = never (c ∷ front) e

pub not_blank : (text before : List ℕ) → length before ≡ 0 → text ≡ before ++ 32 ∷ [] → (front : List ℕ) → text ≡ spaced front → ⊥
not_blank text before none e [] f =
    let l = ap length (sym f ∙ e) in let m = length-append before (32 ∷ []) in absurd (omega (arith, l, m, none))
not_blank text before none e (c ∷ front) f =
    let l = ap length (sym f ∙ e) in let m = length-append before (32 ∷ []) in let n = length-append (c ∷ front) (32 ∷ []) in
    absurd (omega (arith, l, m, n, none))

pub spaced_one : (xs ys : List ℕ) → spaced xs ≡ spaced ys → xs ≡ ys
spaced_one [] [] e = refl
spaced_one [] (y ∷ ys) e = absurd cc
spaced_one (x ∷ xs) [] e = absurd cc
spaced_one (x ∷ xs) (y ∷ ys) e = append_cancel_right (x ∷ xs) (y ∷ ys) (32 ∷ []) e

-- a text that is told to have these parts has no others
module _ (text front inner : List ℕ) (told : text ≡ with_round front inner) (closed : IsFree (spaced front)) (schedule round : List ℕ)
    (is : SpellsRound text schedule round) where
  both : (spaced front ≡ spaced is.front) × (inner ≡ is.inner)
  both = one_inner text (spaced front) (spaced is.front) inner is.inner closed (free_spaced is.front (spelled_free is.front schedule is.schedule_is)) told
      is.spelled

  pub its_schedule : SpellsSeats front schedule
  its_schedule = subst (λ (x : List ℕ). SpellsSeats x schedule) (sym (spaced_one front is.front both.0)) is.schedule_is

  pub its_round : SpellsSeats inner round
  its_round = subst (λ (x : List ℕ). SpellsSeats x round) (sym both.1) is.round_is
