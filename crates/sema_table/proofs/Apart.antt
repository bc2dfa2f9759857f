-- Counters that lie a cache line apart.
use Rattle.std.proofs.Common.{◌≡◌, ℕ, zero, suc, ◌*◌, ◌/◌, ◌<◌, List, [], ◌∷◌, ◌++◌, length, slice_index, sym, refl, ap}
use Rattle.std.proofs.Common.{◌∙◌, subst, arith}
use Rattle.running_rows.specs.Strides.{RanRow}
use Rattle.running_rows.specs.Owing.{Owes}
use Rattle.step_table.specs.declared.place.Place.{Place}
use Rattle.sema_table.specs.declared.view.Setting.{Setting}
use Rattle.sema_table.specs.Setting.{apart}
use Rattle.sema_table.specs.Rows.{Me, SemaSeat, semaphore_rows}
use Rattle.sema_table.specs.Starts.{begin}
use Rattle.sema_table.proofs.Striding.{Ran}

-- the counter of its word
pub back : (i c : ℕ) → i ≡ 8 * c → i / 8 ≡ c
back i c e = omega (arith, e)

-- a row of the word's counter is one of the counter
pub run_of : (row : ℕ → Place) (i c : ℕ) → i ≡ 8 * c → (v : SemaSeat) (n : ℕ) (w : SemaSeat)
    → Ran (begin (row (i / 8))) v n w → Ran (begin (row c)) v n w
run_of row i c e v n w r = subst (λ k. Ran (begin (row k)) v n w) (back i c e) r

pub owes_of : (row : ℕ → Place) (i c : ℕ) → i ≡ 8 * c → (z : Setting) (m : Me) (f : ℕ → ℕ)
    → Owes semaphore_rows z m i f (λ n t. RanRow semaphore_rows (begin (row c)) m n t)
    → Owes semaphore_rows z m i f (λ n t. RanRow semaphore_rows (begin (row (i / 8))) m n t)
owes_of row i c e z m f a = subst (λ k. Owes semaphore_rows z m i f (λ n t. RanRow semaphore_rows (begin (row k)) m n t)) (sym (back i c e)) a

pub length_apart : (xs : List ℕ) → length (apart xs) ≡ 8 * length xs
length_apart [] = refl
length_apart (x ∷ xs) = let e = length_apart xs in omega (arith, e)

pub apart_append : (xs ys : List ℕ) → apart (xs ++ ys) ≡ apart xs ++ apart ys
apart_append [] ys = refl
apart_append (x ∷ xs) ys = ap (λ l. x ∷ 0 ∷ 0 ∷ 0 ∷ 0 ∷ 0 ∷ 0 ∷ 0 ∷ l) (apart_append xs ys)

pub at_apart : (xs ys : List ℕ) (c : ℕ) → c < length xs → slice_index (apart xs ++ ys) (8 * c) ≡ slice_index xs c
at_apart [] ys c h = absurd (omega arith)
at_apart (x ∷ xs) ys zero h = refl
at_apart (x ∷ xs) ys (suc c) h =
    let e : 8 * suc c ≡ suc (suc (suc (suc (suc (suc (suc (suc (8 * c)))))))) = omega arith in
    ap (slice_index (apart (x ∷ xs) ++ ys)) e ∙ at_apart xs ys c (omega arith)
