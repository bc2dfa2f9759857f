-- Paths of a seat of a notify list, and what their strides tell by what was read and seen.
use Rattle.std.specs.Prelude.{◌≡◌, ◌≢◌, ℕ, ◌<◌, Bool, eqb, IsTrue, List, [], ◌∷◌, map, Some, None}
use Rattle.step_table.specs.declared.list_place.ListEffect.{ListEffect}
use Rattle.step_table.specs.declared.list_place.ListEffect.TheVariants.{HandsOut, Grants, Forgoes}
use Rattle.step_table.specs.declared.list_place.ListPlace.{ListPlace}
use Rattle.step_table.specs.declared.list_place.ListPlace.TheVariants.{Rest, Adding}
use Rattle.step_table.specs.declared.list_place.ListWord.{ListWord}
use Rattle.step_table.specs.declared.list_place.ListWord.TheVariants.{Wait, Notify}
use Rattle.step_table.specs.declared.list_place.Ticket.{Ticket}
use Rattle.step_table.specs.Wrapping.{word_of}
use Rattle.step_table.specs.ListWorld.{Numbers, ListWords, ListSeat, ListEntry, Took, Granted, Forgone, ListWorld}
use Rattle.step_table.specs.ListWorld.{found, first_list}
use Rattle.step_table.specs.ListEvent.{ListNext}
use Rattle.step_table.specs.ListTable.{list_table}
use Rattle.step_law_lists.specs.ListLawful.{told, Follows, IsInReach}
use Rattle.step_table.specs.ListSteps.{list_rules, seat_after, effect_of, can_turn, turned, moved}
use Rattle.step_table.specs.ListSteps.{with_ticket, waiting, ListChoice, ListStep, IsListReached}
use Rattle.step_table.specs.Path.{Watched, Sight, Deed, runs, looks, Stride, OnlyLooked, sight, Meets, Ran}
use Rattle.step_table.specs.Path.{Path, row_in, ArePaths}

abbrev pub ListSight : Type 0
ListSight = Sight ListSeat ListEntry

abbrev pub ListStride : Type 0
ListStride = Stride ListWord ℕ ListSeat ListEntry

-- whether seat i told the entry
abbrev pub is_own : ℕ → ListEntry → Bool
is_own i (Took s) = eqb s i
is_own i (Granted upto s) = eqb s i
is_own i (Forgone n s) = eqb s i

-- a list, in the worlds that are reached from the word of its first ticket by so many seats
abbrev pub notify_list : ℕ → ℕ → Watched ListWorld ListWord ℕ ListNext ListSeat ListEntry
notify_list first seats =
    record {
      rules = list_rules;
      seat = λ s. s.seats;
      journal = λ s. s.journal;
      met = IsListReached first seats;
      own = is_own;
    }

abbrev pub ListRan : ℕ → ℕ → ℕ → ListSight → ListStride → ListSight → Type 0
ListRan first seats = Ran (notify_list first seats)

abbrev pub ListPath : ℕ → ℕ → ℕ → ListSight → List ListStride → ListSight → Type 0
ListPath first seats = Path (notify_list first seats)

-- the sight of a seat that has come to another place by its caller's choice, and of one that waits with the
-- ticket that it holds: a call's path begins there
abbrev pub placed : ListPlace → ListSight → ListSight
placed place v = record v { stands = record v.stands { place = place } }

abbrev pub with_its_ticket : ListSight → ListSight
with_its_ticket v = record v { stands = with_ticket v.stands v.stands.ticket }

-- how many tickets were handed out and passed, and which are gone, as the journal told before the stride
abbrev pub told_before : ListStride → Numbers
told_before p = told p.seen

-- the word of the row at which a seat stands, which is one whatever the words hold
abbrev pub word_of_row : ℕ → ListSeat → ListWord
word_of_row i seat = (list_table i seat (first_list 0).words).word

-- the word of a row that ran, or the one looked at
abbrev pub word_of_deed : ℕ → ListStride → Deed ListWord → ListWord
word_of_deed i p runs = word_of_row i p.stood
word_of_deed i p (looks w) = w

abbrev pub word_of_stride : ℕ → ListStride → ListWord
word_of_stride i p = word_of_deed i p p.deed

-- the entries that an effect of seat i tells: one or none
abbrev pub entries_of : ℕ → ListEffect → List ListEntry
entries_of i (HandsOut t) = Took i ∷ []
entries_of i (Grants upto) = Granted upto i ∷ []
entries_of i (Forgoes w) = Forgone w.id.turn i ∷ []
entries_of i _ = []

-- words that the journal tells: its numbers, and the words of those
pub record AreTold (first : ℕ) (seen : List ListEntry) (g : ListWords) : Type 0 where
  pub numbers : g.numbers ≡ told seen
  pub wait : g.wait ≡ word_of first (told seen).handed
  pub notify : g.notify ≡ word_of first (told seen).passed
  pub gone : g.gone ≡ map (word_of first) (told seen).gone

-- what followed the row at which seat i stood, where it found the words g
abbrev pub row_next : ListWords → ℕ → ListStride → ListNext
row_next g i p = (list_table i p.stood g).leads p.read

-- the stride ran a row: in words that were told, it could by what it read, told what the row tells, and led
-- where the row leads
pub record RanListRow (first i : ℕ) (p : ListStride) (to : ListSight) : Type 0 where
  pub words : ListWords
  pub are_told : AreTold first p.seen words
  pub read : p.read ≡ found words (list_table i p.stood words).word
  pub can : IsTrue ((list_table i p.stood words).can p.read)
  pub told : p.told ≡ entries_of i (row_next words i p).1
  pub leads : to.stands ≡ seat_after words (row_next words i p) p.stood

-- what the stride did
abbrev pub ListDid : ℕ → ℕ → ListStride → ListSight → Deed ListWord → Type 0
ListDid first i p to runs = RanListRow first i p to
ListDid first i p to (looks w) = OnlyLooked p to

-- the row of seat i in this world, as a stride
abbrev pub row_stride : ℕ → ℕ → ListWorld → ℕ → ListStride
row_stride first seats s i = row_in (notify_list first seats) s i (entries_of i (effect_of s i))

-- a seat may begin by its caller's choice, and run the row at which it stands; and whatever another seat
-- does, it may go on. Where what was seen is in reach, a stride read of the wait word the word of the number
-- handed out before it, of the notify word that of the number passed, and did what its row does, or nothing; what it
-- had seen is lawful, and of a seat that is there it ends as the seat sees a reached world
pub record TheListPaths : Type 0 where
  pub paths : (first seats : ℕ) → ArePaths (notify_list first seats)
  pub begins : (first seats : ℕ) (s : ListWorld) (i : ℕ) (v : ListSight) (place : ListPlace) → i < seats
      → Meets (notify_list first seats) s i v → ListChoice v.stands.place place
      → Meets (notify_list first seats) (moved s i place) i (placed place v)
  pub adds : (first seats : ℕ) (s : ListWorld) (i : ℕ) (v : ListSight) → i < seats
      → Meets (notify_list first seats) s i v
      → v.stands.place ≡ Rest → v.stands.ticket ≡ None
      → Meets (notify_list first seats) (moved s i Adding) i (placed Adding v)
  pub waits : (first seats : ℕ) (s : ListWorld) (i : ℕ) (v : ListSight) (t : Ticket) → i < seats
      → Meets (notify_list first seats) s i v → v.stands.place ≡ Rest → v.stands.ticket ≡ Some t
      → Meets (notify_list first seats) (waiting s i) i (with_its_ticket v)
  pub rows : (first seats : ℕ) (s : ListWorld) (i : ℕ) (v : ListSight) → Meets (notify_list first seats) s i v
      → IsTrue (can_turn s i)
      → ListRan first seats i v (row_stride first seats s i) (sight (notify_list first seats) (turned s i) i)
  pub others : (first seats : ℕ) (s t : ListWorld) (i j : ℕ) (v : ListSight) → i < seats → j ≢ i
      → ListStep s i t
      → Meets (notify_list first seats) s j v → Meets (notify_list first seats) t j v
  pub reads_wait : (first seats i : ℕ) (v w : ListSight) (p : ListStride) → IsInReach p.seen
      → ListRan first seats i v p w → word_of_stride i p ≡ Wait
      → p.read ≡ word_of first (told_before p).handed
  pub reads_notify : (first seats i : ℕ) (v w : ListSight) (p : ListStride) → IsInReach p.seen
      → ListRan first seats i v p w → word_of_stride i p ≡ Notify
      → p.read ≡ word_of first (told_before p).passed
  pub does : (first seats i : ℕ) (v w : ListSight) (p : ListStride) → IsInReach p.seen
      → ListRan first seats i v p w → ListDid first i p w p.deed
  pub lawful : (first seats i : ℕ) (v w : ListSight) (p : ListStride) → IsInReach p.seen
      → ListRan first seats i v p w → Follows p.seen
  pub ends : (first seats i : ℕ) (v w : ListSight) (p : ListStride) → i < seats → ListRan first seats i v p w
      → (t : ListWorld) × IsListReached first seats t × (w ≡ sight (notify_list first seats) t i)
