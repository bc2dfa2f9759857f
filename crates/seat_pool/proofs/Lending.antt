-- What a loan's pass tells of the seat that is lent on it.
use Rattle.std.proofs.Common.{◌≡◌, ℕ, Some, [], ◌∷◌, length, sym, ap, ◌∙◌, arith}
use Rattle.crossbeam_queue.specs.Fifo.{Held}
use Rattle.crossbeam_queue.specs.Passes.{Pass, view}
use Rattle.seat_pool.specs.declared.loans.Loans.{Loans}
use Rattle.seat_pool.specs.declared.loans.Loans.TheVariants.{Lent}
use Rattle.seat_pool.specs.Rule.{home_of, lent_to, HasRoom}
use Rattle.seat_pool.specs.Pools.{Lender, LoanModel, first_or_zero, loan_of, IsLent}
use Rattle.seat_pool.proofs.Keeping.{same_home}

module _ {T H : Type 0} (home : T → H) (number : T → ℕ) (rests : T → Type 0) (count : H → ℕ) where
  -- who gives the seat back has its number, and knows what it is of
  pub of_loan : (lender : Lender H) (x : T) (loan : LoanModel H) (p : Pass T (Loans H)) (h : H) (n : ℕ)
      → view p ≡ Lent h (n ∷ []) → loan_of count p ≡ loan → IsLent home number rests lender x loan
      → (view p ≡ Lent h (number x ∷ [])) × (home x ≡ h)
  of_loan lender x loan p h n is seen lent =
      let number_is : n ≡ number x =
      sym (ap (λ v. first_or_zero (lent_to v)) is) ∙ ap (λ (l : LoanModel H). l.number) (seen ∙ lent.loan_is) in
      let home_is : Some (home x) ≡ Some h =
      sym lent.home_is ∙ sym (ap (λ (l : LoanModel H). l.lender.home) (seen ∙ lent.loan_is)) ∙ ap home_of is in
      (is ∙ ap (λ m. Lent h (m ∷ [])) number_is, same_home (home x) h home_is)

-- where a seat is lent, the ring isn't full
pub some_place : {T H : Type 0} (count : H → ℕ) (places : ℕ) (v : Loans H) (h : H) (n : ℕ) → v ≡ Lent h (n ∷ [])
    → places ≡ count h → Held {T = T} places (HasRoom count v) → ⊥
some_place count places v h n is as_many held =
    let room = held.2.1 h (ap home_of is) in let one : length (lent_to v) ≡ 1 = ap (λ u. length (lent_to u)) is in
    let all = held.1 in omega arith
