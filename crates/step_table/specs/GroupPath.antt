-- Paths of a seat on the word of one wait group, which has no journal.
use Rattle.std.specs.Prelude.{◌≡◌, ℕ, false, List, []}
use Rattle.step_table.specs.declared.group_word.GroupWord.{GroupWord}
use Rattle.step_table.specs.declared.standing.GroupNext.{GroupNext}
use Rattle.step_table.specs.declared.standing.GroupNext.TheVariants.{Goes}
use Rattle.step_table.specs.declared.standing.GroupRow.{GroupRow}
use Rattle.step_table.specs.World.{put}
use Rattle.step_table.specs.EventOf.{EventOf, stays}
use Rattle.step_table.specs.Turn.{Rules}
use Rattle.step_table.specs.Group.{group_event, group_row}
use Rattle.step_table.specs.GroupBits.{IsGroupWord}
use Rattle.step_table.specs.Path.{Watched, Sight, Deed, runs, looks, Stride, ran_at, looked_at, Ran, Path}
use Rattle.step_table.specs.Path.{ArePaths}

-- the word of a group, and what each seat's last row led to
pub record GroupWorld : Type 0 where
  pub word : GroupWord
  pub nexts : ℕ → GroupNext

-- the event of the row to which a seat goes
abbrev pub next_event : GroupNext → EventOf (Unit {0}) GroupWord GroupNext
next_event (Goes row) = group_event tt row
next_event next = stays tt next

abbrev pub lone_rules : Rules GroupWorld (Unit {0}) GroupWord GroupNext
lone_rules = record {
  event_of = λ s i. next_event (s.nexts i);
  found = λ s g. s.word;
  after = λ s i g w next. record { word = w; nexts = put s.nexts i next };
}

abbrev pub GroupSight : Type 0
GroupSight = Sight GroupNext ⊥

abbrev pub GroupStride : Type 0
GroupStride = Stride (Unit {0}) GroupWord GroupNext ⊥

-- one group, whose word may be any of 64 bits
abbrev pub lone_group : Watched GroupWorld (Unit {0}) GroupWord GroupNext GroupNext ⊥
lone_group =
    record {
      rules = lone_rules;
      seat = λ s. s.nexts;
      journal = λ s. [];
      met = λ s. IsGroupWord s.word;
      own = λ i e. false;
    }

abbrev pub GroupRan : ℕ → GroupSight → GroupStride → GroupSight → Type 0
GroupRan = Ran lone_group

abbrev pub GroupPath : ℕ → GroupSight → List GroupStride → GroupSight → Type 0
GroupPath = Path lone_group

-- a seat that goes on so
abbrev pub going : GroupNext → GroupSight
going next = record { stands = next; seen = [] }

-- the row ran, and found this word
abbrev pub ran_row : GroupRow → GroupWord → GroupStride
ran_row row w = ran_at (Goes row) w [] []

-- this word was looked at by a seat that goes on so
abbrev pub looked : GroupNext → GroupWord → GroupStride
looked next w = looked_at tt next w []

-- a row leads on from what it read, and a look leads nowhere
abbrev pub GroupDid : GroupStride → GroupSight → Deed (Unit {0}) → Type 0
GroupDid p to runs = (row : GroupRow) × (p.stood ≡ Goes row) × (to.stands ≡ (group_row row p.read).1)
GroupDid p to (looks g) = to.stands ≡ p.stood

-- each row, whatever word of 64 bits it finds, is a stride, and so is each look; and there is no other stride
pub record TheGroupPaths : Type 0 where
  pub paths : ArePaths lone_group
  pub rows : (i : ℕ) (row : GroupRow) (w : GroupWord) → IsGroupWord w
      → GroupRan i (going (Goes row)) (ran_row row w) (going (group_row row w).1)
  pub looked : (i : ℕ) (next : GroupNext) (w : GroupWord) → IsGroupWord w
      → GroupRan i (going next) (looked next w) (going next)
  pub strides : (i : ℕ) (v w : GroupSight) (p : GroupStride) → GroupRan i v p w
      → IsGroupWord p.read × (p.stood ≡ v.stands) × GroupDid p w p.deed
