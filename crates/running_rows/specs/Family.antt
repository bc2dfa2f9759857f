-- A family of rows: which worlds its words and records show, what a seat knows of them, and what a stride of
-- it is.
use Rattle.std.specs.Prelude.{◌≡◌, ℕ, Bool, List}
use mathlib.Core.Option.{Option}
use Rattle.step_table.specs.Path.{Watched, Sight, Stride}
use Rattle.running_rows.specs.declared.view.Seated.{Seated}
use Rattle.running_rows.specs.Futex.{Futex}

-- S lies in a slot, V is what a seat knows, T a stride as a view keeps it, K what the words were made with
pub record Family (S V T K : Type 0) : Type 1 where
  pub Key : Type 0
  pub World : Type 0
  pub Word : Type 0
  pub Value : Type 0
  pub Next : Type 0
  pub Stands : Type 0
  pub Entry : Type 0
  -- what they were made with, how many seats they have then, and of which words a seat is that knows this
  pub key : K → Key
  pub seats : Key → ℕ
  pub of : V → Key
  -- the rows, as the laws have them
  pub watched : Key → Watched World Word Value Next Stands Entry
  pub sight : V → Sight Stands Entry
  pub stride : T → Stride Word Value Stands Entry
  -- a number as the world has it, and the word as which a look at this address is told
  pub value : ℕ → Value
  pub word_at : Key → ℕ → Word
  -- what a seat knows that has run nothing, and what is known of no words
  pub fresh : Key → V
  pub nobody : V
  -- words and records at home show the world
  pub Shows : Key → World → List ℕ → List (Option S) → Type 0
  -- the seat may meet the world
  pub Knows : Key → Seated V T → World → Type 0
  -- the record of this slot is as a seat knows it that has just taken its lock
  pub IsHeld : V → ℕ → S → Type 0
  -- what else a stride tells: of the world, the seat, what it knew as it began, and what it knows
  pub Also : World → ℕ → V → T → V → Type 0
  -- the stride is a row that stored this number at this address
  pub HasStored : Key → T → ℕ → ℕ → Type 0
  -- the stride gave back the record that was taken last: the first of these slots, which the seat held
  pub HasGiven : T → List (ℕ × S) → Type 0
  -- where threads sleep in the kernel, and whether any does: the laws of sleepers are of such words
  pub IsFutex : Key → Futex → Type 0
  pub has_threads : Key → Bool
  -- a seat that knows this may store a grant, and leave it to another to wake who sleeps there
  pub MayPass : V → Type 0
  pub fresh_is : (k : Key) → of (fresh k) ≡ k
  pub nobody_is : seats (of nobody) ≡ 0
