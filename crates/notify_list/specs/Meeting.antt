-- What two seats have that met.
use Rattle.std.specs.Prelude.{◌≡◌, ◌≢◌, ℕ, [], ◌∷◌, ◌++◌}
use Rattle.step_table.specs.declared.list_place.ListWord.{ListWord}
use Rattle.step_table.specs.declared.list_place.ListWord.TheVariants.{Wait, Lock}
use Rattle.step_table.specs.Path.{GoesOn, looks}
use Rattle.step_law_lists.specs.ListLawful.{IsInReach}
use Rattle.step_law_lists.specs.ListPath.{ListStride, ListRan}
use Rattle.notify_list.specs.Seats.{SeatModel}

-- nothing but a look: the seat stands as it stood, and has seen all that was told up to the look, which read
-- n. That is a journal of which the laws speak
pub record LooksAt (s : SeatModel) (w : ListWord) (n : ℕ) (t : SeatModel) : Type 0 where
  pub same : t ≡ record s { sight = t.sight; strides = t.strides }
  pub stride : ListStride
  pub ran : ListRan s.list.setting.first s.list.setting.seats s.number s.sight stride t.sight
  pub did : stride.deed ≡ looks w
  pub read : stride.read ≡ n
  pub one : t.strides ≡ s.strides ++ stride ∷ []
  pub stays : t.sight.stands ≡ s.sight.stands
  pub later : GoesOn t.sight.seen s.sight.seen
  pub reach : IsInReach t.sight.seen

-- nothing but a look, which found the list's lock held
abbrev pub FindsHeld : SeatModel → SeatModel → Type 0
FindsHeld s t = (n : ℕ) × (n ≢ 0) × LooksAt s Lock n t

-- each of both seats looked at the wait word once, and found this number. They have seen one journal then,
-- and are two seats
pub record HasMet (one other one_now other_now : SeatModel) : Type 0 where
  pub number : ℕ
  pub one_looked : LooksAt one Wait number one_now
  pub other_looked : LooksAt other Wait number other_now
  pub same : one_now.sight.seen ≡ other_now.sight.seen
  pub two : one.number ≢ other.number
