-- Which tickets are kept as live, and what becomes of them.
use Rattle.std.specs.Prelude.{◌≡◌, ℕ, ◌+◌, ◌<◌, ◌≤◌, ◌^◌, List, length, map}
use Rattle.step_table.specs.Counting.{on, among}
use Rattle.step_table.specs.Wrapping.{word_of}
use Rattle.step_law_lists.specs.ListInvariant.{IsRising}
use Rattle.notify_list.specs.declared.live.Live.{Live}

-- these are the live tickets from the first that is neither granted nor gone up to the end: the others between are
-- gone, and none after them is
pub record AreKept (first : ℕ) (y : Live) (passed : ℕ) (gone : List ℕ) : Type 0 where
  pub numbers : List ℕ
  pub end : ℕ
  pub words_are : y.words.items ≡ map (word_of first) numbers
  pub end_is : y.end ≡ word_of first end
  pub rising : IsRising numbers
  pub from : passed ≤ end
  pub below : (n : ℕ) → n < passed → among n numbers ≡ 0
  pub parted : (n : ℕ) → passed ≤ n → n < end → among n numbers + among n gone ≡ 1
  pub above : (n : ℕ) → end ≤ n → (among n numbers ≡ 0) × (among n gone ≡ 0)
  pub stays : among passed gone ≡ 0

-- and the end comes right after the last that is gone, if one is
pub record AreLive (first : ℕ) (y : Live) (passed : ℕ) (gone : List ℕ) : Type 0 where
  pub kept : AreKept first y passed gone
  pub last : (n : ℕ) → kept.end ≡ n + 1 → passed ≤ n → 0 < among n gone

-- the first ticket after the one that is passed which is neither granted nor gone
pub record IsNext (passed : ℕ) (gone : List ℕ) (next : ℕ) : Type 0 where
  pub after : passed < next
  pub between : (n : ℕ) → passed < n → n < next → 0 < among n gone
  pub left : among next gone ≡ 0

-- it is passed, and this is the word of the next
abbrev pub IsPassedBy : ℕ → ℕ → List ℕ → ℕ → Live → Type 0
IsPassedBy first passed gone word y =
    (next : ℕ) (left : List ℕ) → IsNext passed gone next → ((n : ℕ) → next ≤ n → among n left ≡ among n gone)
    → (word ≡ word_of first next) × AreLive first y next left

-- those that are gone are in order, come after the first that is neither, and are early
pub record AreEarly (passed : ℕ) (gone : List ℕ) : Type 0 where
  pub rising : IsRising gone
  pub after : (n : ℕ) → 0 < among n gone → passed < n
  pub early : (n : ℕ) → 0 < among n gone → n < 2 ^ 60

-- the ticket of number m, which has this word, is live, early, and not the first; and where it goes there are no
-- more live ones before it than this
pub record MayBeGone (first passed m : ℕ) (gone : List ℕ) (ticket room : ℕ) : Type 0 where
  pub gone_early : AreEarly passed gone
  pub ticket_is : ticket ≡ word_of first m
  pub after : passed < m
  pub early : m < 2 ^ 60
  pub stays : among m gone ≡ 0
  pub fits : m + 1 ≤ passed + room + length gone

-- it is gone
abbrev pub IsGoneBy : ℕ → ℕ → ℕ → List ℕ → Live → Type 0
IsGoneBy first passed m gone y =
    (more : List ℕ) → ((n : ℕ) → among n more ≡ among n gone + on n m 1) → AreLive first y passed more

-- all tickets below that of number upto, which has this word, may be passed
pub record MayAllPass (first passed upto : ℕ) (gone : List ℕ) (waited : ℕ) : Type 0 where
  pub gone_early : AreEarly passed gone
  pub waited_is : waited ≡ word_of first upto
  pub from : passed ≤ upto
  pub all : (n : ℕ) → 0 < among n gone → n < upto
  pub near : upto ≤ passed + 2 ^ 62

-- they are, and so many of them weren't gone
abbrev pub AllPassed : ℕ → ℕ → ℕ → List ℕ → ℕ → Live → Type 0
AllPassed first passed upto gone many y =
    (many + passed + length gone ≡ upto)
    × ((left : List ℕ) → ((n : ℕ) → among n left ≡ 0) → AreLive first y upto left)
