-- The history: the strides of all seats, in the order in which they were gone.
use Rattle.std.specs.Prelude.{◌≡◌, ◌⊎◌, ℕ, ◌==◌, if◌then◌else◌, List, [], ◌∷◌, ◌++◌}
use Rattle.running_rows.specs.declared.view.Seated.{Seated}
use Rattle.running_rows.specs.Family.{Family}

-- a stride, and the seat that went it, by its number
pub record SeatStride (T : Type 0) : Type 0 where
  pub seat : ℕ
  pub stride : T

-- the strides of the seat i
abbrev pub strides_of : {T : Type 0} → ℕ → List (SeatStride T) → List T
strides_of i [] = []
strides_of i (m ∷ history) = if m.seat == i then m.stride ∷ strides_of i history else strides_of i history

module _ {S V T K : Type 0} (f : Family S V T K) where
  -- each stride saw all of the journal that was there, and told what came next; the last left this one
  abbrev pub Writes : List f.Entry → List (SeatStride T) → List f.Entry → Type 0
  Writes seen [] journal = journal ≡ seen
  Writes seen (m ∷ history) journal =
      ((f.stride m.stride).seen ≡ seen) × Writes (seen ++ (f.stride m.stride).told) history journal

  abbrev pub journal_of : f.Key → f.World → List f.Entry
  journal_of k world = (f.watched k).journal world

  -- the seat u, which is w now, went no stride, and the journal is as it was; or it went one, which saw all
  -- of the journal, and told what came next
  abbrev pub TellsOn : f.Key → f.World → f.World → Seated V T → Seated V T → Type 0
  TellsOn k world next u w =
      ((w.gone ≡ u.gone) × (journal_of k next ≡ journal_of k world))
      ⊎ ((p : T) × (w.gone ≡ u.gone ++ p ∷ []) × ((f.stride p).seen ≡ journal_of k world)
      × (journal_of k next ≡ journal_of k world ++ (f.stride p).told))
