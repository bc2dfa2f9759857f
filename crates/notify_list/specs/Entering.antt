-- What a wait has under the lock.
use Rattle.std.specs.Prelude.{◌≡◌, ℕ}
use Rattle.notify_list.specs.Seats.{ListModel, Token, list_of, IsHolding}
use Rattle.notify_list.specs.Walks.{Locked}

-- the seat, which held the ticket with this word, has taken the lock for its wait
pub record MayEnter (l : ListModel) (s : Token) (n word : ℕ) (t : Token) : Type 0 where
  pub holding : IsHolding s n word
  pub list_is : list_of s ≡ l
  pub locked : Locked s t
