-- What the rows of the whole machine ask for holds in each sound state: no sum wraps, each word and list is stored, and what
-- a seat's call is on is there.
use Rattle.std.proofs.Common.{◌≡◌, ℕ, ◌+◌, ◌^◌, ◌<◌, ◌≤◌, List, [], ◌∷◌, IfSome, Option, Some, None, length, slice_get, refl}
use Rattle.std.proofs.Common.{sym, ap, ◌∙◌, subst, arith}
use Rattle.waiters.specs.declared.wait.WaitId.{WaitId}
use Rattle.step_rows.specs.declared.caller.Caller.{Caller}
use Rattle.step_table.specs.declared.place.AcquireRow.TheVariants.{A7, Parked}
use Rattle.step_table.specs.declared.place.ParkedRow.TheVariants.{D3}
use Rattle.step_table.specs.declared.place.Place.{Place}
use Rattle.step_table.specs.declared.place.ReleaseRow.TheVariants.{R5}
use Rattle.step_table.specs.declared.place.ManyRow.TheVariants.{M5}
use Rattle.step_table.specs.declared.place.Place.TheVariants.{Acquiring, Releasing, ReleasingMany}
use Rattle.step_table.specs.declared.standing.Standing.{Standing}
use Rattle.step_table.specs.declared.standing.Standing.TheVariants.{Rest, AtCounter, AtList, AtGroup}
use Rattle.step_table.specs.declared.word.Word.{Word}
use Rattle.step_table.specs.declared.word.Word.TheVariants.{Counter, Lock, Waiters, Grant}
use Rattle.step_table.specs.World.{Layout, SemaWorld, found, root_number}
use Rattle.step_law_semaphores.specs.Lawful.{added, IsGrantOf, AllBounded}
use Rattle.step_table.specs.Counting.{total, times, IsWithin}
use Rattle.step_law_semaphores.specs.Invariant.{Finds, asleep}
use Rattle.step_rows.specs.Stored.{Stored, HasRow, HasRowsOf, HasHand, MayMove, each, idle, stored_words, root_of, row_finds, row_event}
use Rattle.step_table.specs.ListWorld.{ListWorld}
use Rattle.step_rows.specs.ListStored.{HasListRow, CanStep}
use Rattle.step_rows.specs.Roots.{queued}
use Rattle.step_table.specs.Core.{counters_of}
use Rattle.step_law_whole.specs.CoreLaw.{IsStanding}
use Rattle.step_table.specs.Run.{layout}
use Rattle.step_law_alike.specs.declared.variant.Variant.{Variant}
use Rattle.step_law_alike.specs.declared.variant.Variant.TheVariants.{PlainLess}
use Rattle.step_law_semaphores.specs.WellFormed.{IsWellFormedWorld}
use Rattle.step_core.specs.WellFormed.{IsWellFormed, IsSoundBy}
use Rattle.step_core.specs.State.{State, IsSound, AsksFor, no_list, run_of}
use Rattle.step_table.proofs.Sums.{total_rest, total_has}
use Rattle.step_law_whole.proofs.RunEarly.{begun_few, all_begun_few, handed_few}
use Rattle.step_law_semaphores.proofs.Placing.{same_here}
use Rattle.step_rows.proofs.Rooting.{root_within}
use Rattle.step_law_semaphores.proofs.Bounding.{well_formed}
use Rattle.step_law_alike.proofs.ChangedBounding.{changed_bounded}
use Rattle.step_law_semaphores.proofs.Parking.{in_a_hand}
use Rattle.step_law_alike.proofs.ChangedLists.{well_formed_list}
use Rattle.step_core.proofs.ListRanges.{has_list_row}
use Rattle.step_table.proofs.SumsOfSums.{total_most}
use Rattle.step_law_semaphores.proofs.Resting.{asleep_most}

pub grant_most : (p : Place) (g : ℕ) → IsGrantOf p g → g ≤ 2
grant_most (Acquiring a (Parked turn D3)) g h = omega (arith, h)
grant_most (Acquiring a (Parked turn row)) g h = h
grant_most _ g h = omega arith

-- where each term is at most 1 and one is 0, the sum is less than the number of terms
pub total_fewer : (n : ℕ) (f : ℕ → ℕ) (i : ℕ) → i < n → ((k : ℕ) → f k ≤ 1) → f i ≡ 0 → total n f < n
total_fewer n f i h most none =
    let rest = total_rest n f (λ k. 1) i h most in let all = total_most n 1 (λ k. 1) (λ k h. omega arith) in omega arith

pub first_in_hand : (hand : List WaitId) (seats : ℕ) → ((w : WaitId) → 0 < times w hand → w.seat < seats)
    → IfSome (slice_get hand 0) (λ w. w.seat < seats)
first_in_hand [] seats all = tt
first_in_hand (w ∷ hand) seats all = all w (let here = same_here w in omega arith)

module _ (v : Variant) (m : State) (sound : IsWellFormed v m) where
  abbrev seats : ℕ
  seats = length m.parts.calls

  abbrev h : Stored
  h = m.machine.semaphores.stored

  abbrev callers : List Caller
  callers = m.machine.semaphores.callers

  abbrev rows_of : Layout
  rows_of = counters_of (layout m.parts)

  abbrev world : SemaWorld
  world = (run_of m).core.semaphores

  law : IsWellFormedWorld rows_of world
  law = sound.run.core.semaphores

  few_words : AllBounded rows_of world
  few_words = changed_bounded v rows_of world law sound.waiters

  -- all seats together have begun few calls, and so units are few
  pub few_units : added world.journal ≤ 2199023255552
  few_units = let begun = all_begun_few m.parts sound.scenario (run_of m) sound.run in let units = sound.run.units in omega arith

  -- no number in a word is near the end of its 64 bits
  word_small : (w : Word) → found (root_of h) (stored_words h) w + 2 ^ 32 < 2 ^ 64
  word_small (Counter c) = let most = few_words.0 c in let start = sound.starts c in let units = few_units in omega arith
  word_small (Lock c) = let most = (few_words.1 (root_of h c)).0 in omega arith
  word_small (Waiters c) =
      let most = (few_words.1 (root_of h c)).1 in let few = sound.scenario.limits.seats in omega arith
  word_small (Grant s) = let most = grant_most (world.seats s).place (each 0 h.grants s) (law.seats s).granted in omega arith

  -- the seat i
  module _ (i : ℕ) (here : i < seats) where
    abbrev hand : List WaitId
    hand = each [] h.hands i

    abbrev caller : Caller
    caller = each idle callers i

    -- lists and hands hold as many waits as seats are asleep
    in_lists : total rows_of.counters (λ c. length (each [] h.lists c)) ≡ queued h.lists
    in_lists = ap (λ n. total n (λ c. length (each [] h.lists c))) (sym sound.stored.lists)

    in_hands : total seats (λ k. length (each [] h.hands k)) ≡ queued h.hands
    in_hands = ap (λ n. total n (λ k. length (each [] h.hands k))) (sym sound.stored.hands)

    -- where there is a wait in the list of c, fewer are in hand than there are seats
    has_hand : (c : ℕ) → c < rows_of.counters → 0 < length (each [] h.lists c) → HasHand h
    has_hand c within some =
        let one = total_has rows_of.counters (λ c. length (each [] h.lists c)) c within in
        let most = total_most seats 1 (λ k. asleep (each idle callers k).place (each 0 h.grants k))
        (λ k there. asleep_most (each idle callers k).place (each 0 h.grants k)) in
        let counted = law.sleepers in
        let hands = in_hands in
        let grants = sound.stored.grants in omega arith

    -- a seat that is about to queue a wait isn't asleep, and one that is about to take one out has one to take
    within_at : (p : Place) → caller.place ≡ p → IsWithin rows_of.counters p
    within_at p is = subst (IsWithin rows_of.counters) is (law.seats i).within

    finds_at : (p : Place) → caller.place ≡ p → Finds i (each [] h.lists) p
    finds_at p is = subst (Finds i (each [] h.lists)) is (law.finds i here)

    may_move : (p : Place) → caller.place ≡ p → MayMove h p
    may_move (Acquiring a A7) is =
        let awake : asleep caller.place (each 0 h.grants i) ≡ 0 = ap (λ p. asleep p (each 0 h.grants i)) is in
        let few = total_fewer seats (λ k. asleep (each idle callers k).place (each 0 h.grants k)) i here
        (λ k. asleep_most (each idle callers k).place (each 0 h.grants k)) awake in
        let counted = law.sleepers in
        let lists = in_lists in
        let grants = sound.stored.grants in omega arith
    may_move (Releasing r R5) is = has_hand r.counter (within_at (Releasing r R5) is) (finds_at (Releasing r R5) is)
    may_move (ReleasingMany r M5) is = has_hand r.counter (within_at (ReleasingMany r M5) is).0 (finds_at (ReleasingMany r M5) is)
    may_move _ is = tt

    -- the root of each counter is stored
    rooted : (c : ℕ) → c < rows_of.counters → (words : ℕ) → words ≡ m.parts.roots + m.parts.groups → root_of h c < words
    rooted c within words all =
        subst (λ r. r < words) (λ j. root_number (sym sound.stored.own_is j) (sym sound.stored.roots_is j) c)
        (let there = root_within (length m.parts.starts) m.parts.groups m.parts.roots c (λ some. sound.scenario.limits.some_root) within in omega arith)

    rows : HasRowsOf h i caller.place (slice_get hand 0)
    rows =
        let s = sound.stored in
        let grants : length h.grants ≡ seats = s.grants in
        let there = here in
        record {
          within = subst (λ n. IsWithin n caller.place) (sym s.numbers) (law.seats i).within;
          lists = s.lists ∙ sym s.numbers;
          locks = λ c within. rooted c (let all = s.numbers in omega arith) (length h.locks) s.locks;
          waiters = λ c within. rooted c (let all = s.numbers in omega arith) (length h.waiters) s.waiters;
          seat = omega arith;
          hand = let hands = s.hands in omega arith;
          waiter = first_in_hand hand (length h.grants)
              (λ w in_it. let parked = (in_a_hand rows_of world law.placed i w there in_it).5 in omega arith);
          moves = may_move caller.place refl;
        }

    fits : row_finds i caller h hand + 2 ^ 32 < 2 ^ 64
    fits = word_small (row_event i caller h hand).word

    turn_fits : caller.turn + 1 < 2 ^ 64
    turn_fits =
        let most = few_words.2 i here in
        let units = few_units in
        let withdrawn = sound.leave.waits in
        let begun = all_begun_few m.parts sound.scenario (run_of m) sound.run in
        let few = sound.scenario.limits.seats in omega arith

    -- all that its row asks for of the semaphores
    pub has_row : HasRow m.machine.semaphores i
    has_row = record {
      there = let are = sound.machine.callers in let there = here in omega arith;
      rows = rows;
      fits = fits;
      turn = turn_fits;
    }

    -- and of a list
    pub can_step : (l : ℕ) → l < length m.parts.firsts → CanStep (each no_list m.machine.lists l) i
    can_step l there =
        let list : ListWorld = (run_of m).core.lists l in
        let handed = handed_few m.parts sound.scenario (run_of m) sound.run l in
        let gone = sound.leave.tickets l in
        let begun = total_most seats 32 (run_of m).begun (λ k h. begun_few m.parts sound.scenario (run_of m) sound.run k) in
        subst (λ n. HasListRow n list.words list.seats i) (sym (sound.machine.seats l there))
        (has_list_row ((layout m.parts).firsts l) seats i list here (sound.run.core.lists l (omega arith)) handed (omega arith)
        (let few = sound.scenario.limits.seats in omega arith))

    stands : (doing : Standing) → each Rest m.machine.standing i ≡ doing → IsStanding (layout m.parts) (run_of m).core i doing
    stands doing is = subst (IsStanding (layout m.parts) (run_of m).core i) is (sound.run.core.standing i)

    asks_at : (doing : Standing) → each Rest m.machine.standing i ≡ doing → AsksFor m.machine i doing
    asks_at (AtCounter after) is = has_row
    asks_at (AtList l ending) is =
        let there = (stands (AtList l ending) is).2 in (let are = sound.machine.lists in omega arith, can_step l there)
    asks_at (AtGroup g row) is =
        let there = (stands (AtGroup g row) is).1 in let are = sound.machine.groups in omega arith
    asks_at _ is = tt

-- all that a seat's row asks for
pub asks_for : (v : Variant) (m : State) → IsWellFormed v m → (i : ℕ) → i < length m.parts.calls
    → AsksFor m.machine i (each Rest m.machine.standing i)
asks_for v m sound i here = asks_at v m sound i here (each Rest m.machine.standing i) refl

-- what is true of the table's runs is well formed
pub well_formed_state : (m : State) → IsSound m → IsWellFormed PlainLess m
well_formed_state m sound = record {
  scenario = sound.scenario;
  starts = sound.starts;
  stored = sound.stored;
  machine = sound.machine;
  begun = sound.begun;
  run = record {
    core = record {
      semaphores = well_formed (counters_of (layout m.parts)) (run_of m).core.semaphores sound.run.core.semaphores;
      lists = λ l. well_formed_list ((layout m.parts).firsts l) (length m.parts.calls) ((run_of m).core.lists l) (sound.run.core.lists l);
      journals = sound.run.core.journals;
      standing = sound.run.core.standing;
    };
    begun = sound.run.begun;
    ended = sound.run.ended;
    tickets = sound.run.tickets;
    skipped = sound.run.skipped;
    words = sound.run.words;
    carried = sound.run.carried;
    units = sound.run.units;
    handed = sound.run.handed;
  };
  leave = sound.leave;
  waiters = sound.run.core.semaphores.waiters;
}

-- a change of the table for which each run by this table is well formed: the plain comparison changes no count of waits
abbrev pub change_in : Option Variant → Variant
change_in None = PlainLess
change_in (Some v) = v

pub well_formed_by : (table : Option Variant) (m : State) → IsSoundBy table m → IsWellFormed (change_in table) m
well_formed_by None m sound = well_formed_state m sound
well_formed_by (Some v) m well_formed = well_formed
