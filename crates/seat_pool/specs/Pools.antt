-- What a caller sees of a pool, of who borrows from it, and of a loan.
use Rattle.std.specs.Prelude.{◌≡◌, ℕ, ◌<◌, Option, Some, None, List, [], ◌∷◌, length, All}
use mathlib.Core.Option.{some}
use lib.ListN.{get_elem?}
use Rattle.atomic_table.specs.Seated.{TableId}
use Rattle.crossbeam_queue.specs.Passes.{Pass, view}
use Rattle.seat_pool.specs.declared.loans.Loans.{Loans}
use Rattle.seat_pool.specs.declared.loans.Loans.TheVariants.{Lent}
use Rattle.seat_pool.specs.Rule.{home_of, lent_to}

-- a pool: its ring, by name, and how many seats it has places for
pub record PoolModel : Type 0 where
  pub id : TableId
  pub places : ℕ

-- who lends: the pool, and what its seats are of
pub record Lender (H : Type 0) : Type 0 where
  pub pool : PoolModel
  pub home : Option H

-- the right to give a seat back: to whom, and the seat's number
pub record LoanModel (H : Type 0) : Type 0 where
  pub lender : Lender H
  pub number : ℕ

abbrev pub first_or_zero : List ℕ → ℕ
first_or_zero [] = 0
first_or_zero (n ∷ l) = n

abbrev pub count_or_zero : {H : Type 0} → (H → ℕ) → Option H → ℕ
count_or_zero count None = 0
count_or_zero count (Some h) = count h

module _ {T H : Type 0} (count : H → ℕ) where
  -- what a pass knows
  abbrev pub lender_of : Pass T (Loans H) → Lender H
  lender_of p = record {
    pool = record { id = p.table_id; places = count_or_zero count (home_of (view p)) };
    home = home_of (view p);
  }

  abbrev pub loan_of : Pass T (Loans H) → LoanModel H
  loan_of p = record { lender = lender_of p; number = first_or_zero (lent_to (view p)) }

module _ {T H : Type 0} where
  -- no slot is out with the pass, and nothing is lent to it; or one seat is
  abbrev pub IsBorrower : Pass T (Loans H) → Type 0
  IsBorrower p = (p.me.1 ≡ []) × ((h : H) × (view p ≡ Lent h []))

  abbrev pub IsLoan : Pass T (Loans H) → Type 0
  IsLoan p = (p.me.1 ≡ []) × ((h : H) × (n : ℕ) × (view p ≡ Lent h (n ∷ [])))

module _ {T H : Type 0} (home : T → H) (number : T → ℕ) (rests : T → Type 0) where
  -- these are all seats of h, in the order of their numbers, and all rest
  pub record AreAllOf (count : H → ℕ) (h : H) (seats : List T) : Type 0 where
    pub own : All (λ x. (home x ≡ h) × rests x) seats
    pub in_order : (k : ℕ) (x : T) → get_elem? seats k ≡ some x → number x ≡ k
    pub all : length seats ≡ count h
    pub some_are : 0 < count h

  -- the seat x is lent, on this loan
  pub record IsLent (lender : Lender H) (x : T) (loan : LoanModel H) : Type 0 where
    pub home_is : lender.home ≡ Some (home x)
    pub loan_is : loan ≡ record { lender = lender; number = number x }
    pub rest : rests x
