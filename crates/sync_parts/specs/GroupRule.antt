-- The rows of a state word: there is one history of them, each of which found the word that those before it
-- left, and each seat has run its own of them, call after call. Nobody but a seat runs any, and there are so
-- many seats at most.
use Rattle.std.specs.Prelude.{◌≡◌, ℕ, ◌<◌, true, false, refl, List, [], ◌∷◌, length, slice_index}
use Rattle.step_table.specs.declared.group_word.GroupWord.{GroupWord}
use Rattle.step_table.specs.declared.standing.GroupRow.{GroupRow}
use Rattle.step_table.specs.declared.standing.GroupRow.TheVariants.{G1, V1, V3, V4}
use Rattle.step_table.specs.declared.standing.GroupNext.{GroupNext}
use Rattle.step_table.specs.declared.standing.GroupNext.TheVariants.{Ends, Goes, Acquires, SleepsOn}
use Rattle.step_table.specs.declared.standing.Ending.{Ending}
use Rattle.step_table.specs.declared.standing.Ending.TheVariants.{NextCall}
use Rattle.step_table.specs.World.{put}
use Rattle.step_table.specs.Path.{Watched}
use Rattle.step_table.specs.Group.{empty_word, group_row}
use Rattle.step_table.specs.GroupBits.{word_in, IsGroupWord}
use Rattle.step_table.specs.GroupPath.{GroupStride, next_event, going, ran_row}
use Rattle.running_rows.specs.declared.view.Seated.{Seated}
use Rattle.running_rows.specs.Family.{Family}
use Rattle.running_rows.specs.History.{SeatStride, strides_of}
use Rattle.running_rows.specs.Rule.{In}
use Rattle.sync_parts.specs.declared.group_view.GroupKnown.{GroupKnown}
use Rattle.sync_parts.specs.declared.group_view.GroupStep.{GroupStep}
use Rattle.sync_parts.specs.GroupPlays.{given_up}

-- the first row of an add, and of a wait
abbrev pub IsFirst : GroupRow → Type 0
IsFirst (G1 d) = Unit {0}
IsFirst (V1 NextCall) = Unit {0}
IsFirst _ = ⊥

-- what comes of an acquire of a wait: its last look, or the first of its seat as that gives up
abbrev pub ComesOfAcquire : Ending → GroupRow → Type 0
ComesOfAcquire ending (V3 of) = of ≡ ending
ComesOfAcquire ending (V4 how) = how ≡ given_up
ComesOfAcquire ending _ = ⊥

-- which row may come: the one to which the last row led; one that comes of an acquire; where the sleep goes on the
-- last look of the wait; where no call is under way the first of another
abbrev pub Follows : GroupNext → GroupRow → Type 0
Follows (Goes next) row = row ≡ next
Follows (Acquires ending) row = ComesOfAcquire ending row
Follows (SleepsOn how) row = row ≡ V3 NextCall
Follows _ row = IsFirst row

-- rows of calls, one after the other, and what the last of them led to
abbrev pub AreCalls : GroupNext → List GroupStep → GroupNext → Type 0
AreCalls from [] to = to ≡ from
AreCalls from (p ∷ steps) to = Follows from p.row × AreCalls (group_row p.row p.found).1 steps to

-- each row found the word that the row before it left, and the last left this one
abbrev pub Leads : GroupWord → List (SeatStride GroupStep) → GroupWord → Type 0
Leads word [] left = left ≡ word
Leads word (m ∷ history) left =
    (m.stride.found ≡ word) × Leads (group_row m.stride.row m.stride.found).0 history left

-- a state word, where each seat goes, and all rows that ran, of which the rows know nothing
pub record GroupLife : Type 0 where
  pub word : GroupWord
  pub nexts : ℕ → GroupNext
  pub history : List (SeatStride GroupStep)

-- one group, whose word may be any of 64 bits
abbrev pub living_group : Watched GroupLife (Unit {0}) GroupWord GroupNext GroupNext ⊥
living_group = record {
  rules = record {
    event_of = λ s i. next_event (s.nexts i);
    found = λ s g. s.word;
    after = λ s i g w next. record s { word = w; nexts = put s.nexts i next };
  };
  seat = λ s. s.nexts;
  journal = λ s. [];
  met = λ s. IsGroupWord s.word;
  own = λ i e. false;
}

-- the word is what the history left, and all its rows are those of seats that are there
pub record ShowsLife (seats : ℕ) (s : GroupLife) (words : List ℕ) : Type 0 where
  pub word_is : word_in (slice_index words 0) ≡ s.word
  pub leads : Leads empty_word s.history s.word
  pub there : (m : SeatStride GroupStep) → In m s.history → m.seat < seats
  pub wide : 0 < length words

-- the seat's rows are those that it has gone, which are of calls
pub record HasRun (u : Seated GroupKnown GroupStep) (s : GroupLife) : Type 0 where
  pub own : strides_of u.number s.history ≡ u.gone
  pub calls : AreCalls Ends u.gone u.knows.next

-- the row led on from where the seat stood
pub record LedOn (v : GroupKnown) (p : GroupStep) (w : GroupKnown) : Type 0 where
  pub word : IsGroupWord p.found
  pub row : v.next ≡ Goes p.row
  pub next : w.next ≡ (group_row p.row p.found).1

abbrev pub idle : ℕ → GroupKnown
idle seats = record { seats = seats; next = Ends }

-- a row that ran, as a stride of the step table
abbrev pub stride_of : GroupStep → GroupStride
stride_of p = ran_row p.row p.found

abbrev pub group_rows : Family (Unit {0}) GroupKnown GroupStep ℕ
group_rows = record {
  Key = ℕ;
  World = GroupLife;
  Word = Unit {0};
  Value = GroupWord;
  Next = GroupNext;
  Stands = GroupNext;
  Entry = ⊥;
  key = λ seats. seats;
  seats = λ seats. seats;
  of = λ v. v.seats;
  watched = λ seats. living_group;
  sight = λ v. going v.next;
  stride = stride_of;
  value = word_in;
  word_at = λ seats i. tt;
  fresh = idle;
  nobody = idle 0;
  Shows = λ seats s words homes. ShowsLife seats s words;
  Knows = λ seats. HasRun;
  IsHeld = λ v slot y. ⊥;
  Also = λ s i. LedOn;
  HasStored = λ seats p i x. ⊥;
  HasGiven = λ p slots. ⊥;
  IsFutex = λ seats x. ⊥;
  has_threads = λ seats. true;
  MayPass = λ v. ⊥;
  fresh_is = λ seats. refl;
  nobody_is = refl;
}
