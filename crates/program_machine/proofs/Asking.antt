-- What rows of the sleeping layer ask for holds in the machine of each reached world: no sum wraps, each word and list is
-- stored, and what a seat's call is on is there. And so it does once a seat has begun the call of its line.
use Rattle.std.proofs.Common.{◌≡◌, ℕ, ◌+◌, ◌^◌, ◌<◌, ◌≤◌, List, [], Some, Ok, length, max, slice_get}
use Rattle.std.proofs.Common.{refl, sym, ap, ◌∙◌, subst, arith}
use Rattle.waiters.specs.declared.wait.WaitId.{WaitId}
use Rattle.program_code.specs.declared.instruction.Instruction.{Instruction}
use Rattle.program_code.specs.declared.program.Program.{Program}
use Rattle.program_machine.specs.Beginning.{MayRun, MayRunFirst}
use Rattle.program_code.specs.WellFormed.{IsFew}
use Rattle.program_machine.proofs.Showing.{IsLayer, machine_is, stored_is, has_seat, has_list_seat, may_call, layer_called}
use Rattle.program_steps.specs.Calls.{call_of}
use Rattle.program_code.specs.WellFormed.{IsLine}
use Rattle.program_steps.specs.World.{ProgramWorld, layer_of}
use Rattle.program_steps.proofs.Calling.{AllowedIf, may_begin}
use Rattle.program_steps.proofs.Staying.{StaysAt, IsStaying}
use Rattle.step_core.specs.State.{WholeMachine, no_list, core_of, IsMachineFor, HasSeatOn}
use Rattle.step_core.specs.State.{MayBegin, MayGoOn, MayGo, AsksFor}
use Rattle.step_core.proofs.ListRanges.{nothing_held, first_held}
use Rattle.step_core.proofs.Ranges.{grant_most, total_fewer, first_in_hand}
use Rattle.step_law_alike.proofs.ChangedLists.{well_formed_list}
use Rattle.step_law_lists.specs.ListInvariant.{HandFits}
use Rattle.step_law_lists.specs.ListLawful.{times as times_on_list}
use Rattle.step_law_lists.specs.ListWellFormed.{asleep_on_list, IsWellFormedList, StillReads}
use Rattle.step_law_lists.proofs.ListPlacing.{waiter_of}
use Rattle.step_law_lists.proofs.ListSleeping.{room}
use Rattle.step_law_semaphores.specs.Invariant.{IsInvariant, Finds, asleep}
use Rattle.step_law_semaphores.specs.Lawful.{AllBounded}
use Rattle.step_law_semaphores.proofs.Bounding.{bounded}
use Rattle.step_law_semaphores.proofs.Parking.{in_a_hand}
use Rattle.step_law_semaphores.proofs.Resting.{asleep_most}
use Rattle.step_law_whole.specs.CoreLaw.{IsCallBefore, IsStanding}
use Rattle.step_law_whole.specs.TheCore.{MayCall}
use Rattle.step_rows.specs.declared.caller.Caller.{Caller}
use Rattle.step_rows.specs.ListStored.{AsksAt, HasListRow, CanStep}
use Rattle.step_rows.specs.Roots.{queued}
use Rattle.step_rows.specs.Stored.{Stored, IsStoredFor, HasRow, HasRowsOf, HasHand, MayMove, each, idle, stored_words, root_of, row_event}
use Rattle.step_rows.proofs.Rooting.{root_within}
use Rattle.step_table.specs.declared.call.Call.{Call}
use Rattle.step_table.specs.declared.entry.Entry.{Entry}
use Rattle.step_table.specs.declared.list_place.AllRow.TheVariants.{L6, L7}
use Rattle.step_table.specs.declared.list_place.ListPlace.{ListPlace}
use Rattle.step_table.specs.declared.list_place.ListPlace.TheVariants.{Waiting, NotifyingAll}
use Rattle.step_table.specs.declared.list_place.WaitRow.TheVariants.{W2, W4, Parked}
use Rattle.step_table.specs.declared.list_place.ListParkedRow.TheVariants.{E3}
use Rattle.step_table.specs.declared.place.AcquireRow.TheVariants.{A7}
use Rattle.step_table.specs.declared.place.ManyRow.TheVariants.{M5}
use Rattle.step_table.specs.declared.place.Place.{Place}
use Rattle.step_table.specs.declared.place.Place.TheVariants.{Acquiring, Releasing, ReleasingMany}
use Rattle.step_table.specs.declared.place.ReleaseRow.TheVariants.{R5}
use Rattle.step_table.specs.declared.standing.After.{After}
use Rattle.step_table.specs.declared.standing.After.TheVariants.{Closes, LooksAgain, Releases}
use Rattle.step_table.specs.declared.standing.Standing.{Standing}
use Rattle.step_table.specs.declared.standing.Standing.TheVariants.{Rest, AtCounter, AtList, AtGroup}
use Rattle.step_table.specs.declared.word.Word.{Word}
use Rattle.step_table.specs.declared.word.Word.TheVariants.{Counter, Lock, Waiters, Grant}
use Rattle.step_table.specs.Core.{Core, counters_of}
use Rattle.step_table.specs.Counting.{total, IsWithin}
use Rattle.step_table.specs.ListWorld.{ListWorld}
use Rattle.step_table.specs.World.{Layout, SemaWorld, found, root_number}
use Rattle.step_table.proofs.Sums.{total_has}
use Rattle.step_table.proofs.SumsOfSums.{total_most}

-- the lists
module _ (seats i : ℕ) (s : ListWorld) (there : i < seats) (inv : IsWellFormedList 0 seats s) (few : s.words.numbers.handed ≤ 9223372036854775808)
    (none : s.words.numbers.gone ≡ []) (stays : StaysAt (s.seats i).place) where
  none_gone : length s.words.numbers.gone ≡ 0
  none_gone = ap (λ l. length l) none

  list_asks_at : (place : ListPlace) → (s.seats i).place ≡ place → AsksAt seats s.words s.seats (s.seats i) place
  list_asks_at (Waiting t W2) is = let le = inv.words.2 in omega arith
  list_asks_at (Waiting t W4) is = room seats s inv.placed i there (ap (λ p. asleep_on_list p (s.words.grants i)) is)
  list_asks_at (Waiting t (Parked (E3 v))) is = absurd (subst StaysAt is stays)
  list_asks_at (NotifyingAll h (L6 r)) is =
      let reads = subst (StillReads 0 s.words) is (inv.seats_known i there).reads in
      let most = reads.2 in let gone = none_gone in omega arith
  list_asks_at (NotifyingAll h (L7 n)) is =
      nothing_held (s.seats i).hand (subst (λ p. HandFits p (length (s.seats i).hand)) is (inv.seats_known i there).fits)
  list_asks_at _ is = tt

  -- all that the row of a seat asks for of a list
  has_list_row : HasListRow seats s.words s.seats i
  has_list_row = record {
    seat = there;
    handed = omega arith;
    passed = let le = inv.words.2 in let gone = none_gone in omega arith;
    waiter = first_held seats (s.seats i).hand
        (λ w some. let held = total_has seats (λ k. times_on_list w (s.seats k).hand) i there in (waiter_of seats s w inv.placed (omega arith)).2);
    asks = list_asks_at (s.seats i).place refl;
  }

module _ (p : Program) (few : IsFew p) (n : ℕ) (small : n ≤ 2 ^ 63) (h : WholeMachine) (journal : List Entry) (shows : IsLayer p n h journal)
    (i : ℕ) (there : i < length p.seats) where
  abbrev callers : List Caller
  callers = h.semaphores.callers

  abbrev rows_of : Layout
  rows_of = counters_of (layer_of p)

  abbrev layer : Core
  layer = core_of h journal

  abbrev world : SemaWorld
  world = layer.semaphores

  abbrev words : Stored
  words = h.semaphores.stored

  law : IsInvariant rows_of world
  law = shows.invariant.semaphores

  are : IsMachineFor (layer_of p) h
  are = machine_is p h shows.form

  so : IsStoredFor (length p.counters) 0 (max 1 (length p.counters)) (length p.seats) words
  so = stored_is p h shows.form

  bounds : AllBounded rows_of world
  bounds = bounded rows_of world law

  -- no number in a word is near the end of its 64 bits
  word_small : (w : Word) → found (root_of words) (stored_words words) w + 2 ^ 32 < 2 ^ 64
  word_small (Counter c) = let most = shows.counts.numbers c in omega arith
  word_small (Lock c) = let most = (bounds.1 (root_of words c)).0 in omega arith
  word_small (Waiters c) = let most = (bounds.1 (root_of words c)).1 in let seats = few.seats in omega arith
  word_small (Grant s) = let most = grant_most (world.seats s).place (each 0 words.grants s) (law.seats s).granted in omega arith

  abbrev hand : List WaitId
  hand = each [] words.hands i

  abbrev caller : Caller
  caller = each idle callers i

  -- lists and hands hold as many waits as seats are asleep
  in_lists : total rows_of.counters (λ c. length (each [] words.lists c)) ≡ queued words.lists
  in_lists = ap (λ n. total n (λ c. length (each [] words.lists c))) (sym so.lists)

  in_hands : total (length p.seats) (λ k. length (each [] words.hands k)) ≡ queued words.hands
  in_hands = ap (λ n. total n (λ k. length (each [] words.hands k))) (sym so.hands)

  -- where there is a wait in the list of c, fewer are in hand than there are seats
  has_hand : (c : ℕ) → c < rows_of.counters → 0 < length (each [] words.lists c) → HasHand words
  has_hand c within some =
      let one = total_has rows_of.counters (λ c. length (each [] words.lists c)) c within in
      let most = total_most (length p.seats) 1 (λ k. asleep (each idle callers k).place (each 0 words.grants k))
      (λ k there. asleep_most (each idle callers k).place (each 0 words.grants k)) in
      let counted = law.sleepers in
      let hands = in_hands in
      let grants = so.grants in omega arith

  within_at : (place : Place) → caller.place ≡ place → IsWithin rows_of.counters place
  within_at place is = subst (IsWithin rows_of.counters) is (law.seats i).within

  finds_at : (place : Place) → caller.place ≡ place → Finds i (each [] words.lists) place
  finds_at place is = subst (Finds i (each [] words.lists)) is (law.finds i there)

  -- a seat that is about to queue a wait isn't asleep, and one that is about to take one out has one to take
  may_move : (place : Place) → caller.place ≡ place → MayMove words place
  may_move (Acquiring a A7) is =
      let awake : asleep caller.place (each 0 words.grants i) ≡ 0 = ap (λ p. asleep p (each 0 words.grants i)) is in
      let fewer = total_fewer (length p.seats) (λ k. asleep (each idle callers k).place (each 0 words.grants k)) i there
      (λ k. asleep_most (each idle callers k).place (each 0 words.grants k)) awake in
      let counted = law.sleepers in
      let lists = in_lists in
      let grants = so.grants in omega arith
  may_move (Releasing r R5) is = has_hand r.counter (within_at (Releasing r R5) is) (finds_at (Releasing r R5) is)
  may_move (ReleasingMany r M5) is = has_hand r.counter (within_at (ReleasingMany r M5) is).0 (finds_at (ReleasingMany r M5) is)
  may_move _ is = tt

  -- the root of each counter is stored
  rooted : (c : ℕ) → c < rows_of.counters → (many : ℕ) → many ≡ max 1 (length p.counters) + 0 → root_of words c < many
  rooted c within many all =
      subst (λ r. r < many) (λ j. root_number (sym so.own_is j) (sym so.roots_is j) c)
      (let inside = root_within (length p.counters) 0 (max 1 (length p.counters)) c (λ some. omega arith) within in omega arith)

  rows : HasRowsOf words i caller.place (slice_get hand 0)
  rows =
      let grants : length words.grants ≡ length p.seats = so.grants in
      let here = there in
      record {
        within = subst (λ n. IsWithin n caller.place) (sym so.numbers) (law.seats i).within;
        lists = so.lists ∙ sym so.numbers;
        locks = λ c within. rooted c (let all = so.numbers in omega arith) (length words.locks) so.locks;
        waiters = λ c within. rooted c (let all = so.numbers in omega arith) (length words.waiters) so.waiters;
        seat = omega arith;
        hand = let hands = so.hands in omega arith;
        waiter = first_in_hand hand (length words.grants)
            (λ w in_it. let parked = (in_a_hand rows_of world law.placed i w there in_it).5 in omega arith);
        moves = may_move caller.place refl;
      }

  has_row : HasRow h.semaphores i
  has_row = record {
    there = let all = are.callers in let here = there in omega arith;
    rows = rows;
    fits = word_small (row_event i caller words hand).word;
    turn = let most = shows.counts.turns i in omega arith;
  }

  can_step : (l : ℕ) → l < p.lists → CanStep (each no_list h.lists l) i
  can_step l within =
      let list : ListWorld = layer.lists l in
      let handed : list.words.numbers.handed ≤ 9223372036854775808 = let few = shows.counts.handed l in omega arith in
      subst (λ n. HasListRow n list.words list.seats i) (sym (are.seats l within))
      (has_list_row (length p.seats) i list there (well_formed_list 0 (length p.seats) list (shows.invariant.lists l) handed) handed
      (shows.counts.gone l) (shows.stay.places l i))

  asks_at : (doing : Standing) → IsStanding (layer_of p) layer i doing → AsksFor h i doing
  asks_at (AtCounter after) is = has_row
  asks_at (AtList l ending) is = (let within = is.2 in let all = are.lists in omega arith, can_step l is.2)
  asks_at (AtGroup g row) is = absurd (let within = is.1 in omega arith)
  asks_at _ is = tt

  on_at : (doing : Standing) → IsStanding (layer_of p) layer i doing → HasSeatOn h i doing
  on_at (AtList l ending) is = has_list_seat p h shows.form l i is.2 there
  on_at _ is = tt

  go_on_at : (after : After) (place : Place) → IsCallBefore (layer_of p) after place → MayGoOn h after
  go_on_at (Closes ending) place is = tt
  go_on_at (LooksAgain g ending) place is = tt
  go_on_at (Releases g more) (Releasing r row) is = absurd (let within = is.2 in omega arith)
  go_on_at (Releases g more) _ is = absurd is

  go_at : (doing : Standing) → IsStanding (layer_of p) layer i doing → MayGo h doing
  go_at (AtCounter after) is = go_on_at after (world.seats i).place is.0
  go_at (AtGroup g row) is = absurd (let within = is.1 in omega arith)
  go_at _ is = tt

  pub may_run : MayRun h i
  may_run = record {
    at = (has_seat p h shows.form i there, on_at (each Rest h.standing i) (shows.invariant.standing i));
    asks = asks_at (each Rest h.standing i) (shows.invariant.standing i);
    goes = go_at (each Rest h.standing i) (shows.invariant.standing i);
  }

-- once seat i, which is at rest, has begun the call of its line
module _ (p : Program) (few : IsFew p) (n : ℕ) (small : n ≤ 2 ^ 63) (h : WholeMachine) (journal : List Entry) (shows : IsLayer p n h journal)
    (i : ℕ) (there : i < length p.seats) (rests : each Rest h.standing i ≡ Rest) where
  -- the first row of a call that the layer's seat may begin
  pub may_run_first : (call : Call) → MayCall (layer_of p) (core_of h journal) i call → IsStaying call → MayRunFirst h i call
  may_run_first call may staying k is =
      may_run p few n small k journal (layer_called p few n h journal shows i there rests call may staying k is) i there

  -- and of the call of a line of the program
  module _ (s : ProgramWorld) (same : s.layer ≡ core_of h journal) (lines : ℕ) (l : Instruction) (is : IsLine p lines l) (call : Call)
      (begins : call_of s i l ≡ Some (Ok call)) where
    allowed : AllowedIf p s i (Some (Ok call))
    allowed = subst (AllowedIf p s i) begins (may_begin p s i lines l is)

    pub line_may_call : MayCall (layer_of p) (core_of h journal) i call
    line_may_call = subst (λ (c : Core). MayCall (layer_of p) c i call) same allowed.0

    pub line_may_begin : MayBegin h i call
    line_may_begin = may_call p h shows.form (core_of h journal) i there call line_may_call

    pub line_may_run_first : MayRunFirst h i call
    line_may_run_first = may_run_first call line_may_call allowed.1
