-- Each call lets at most one ticket of a list go, by whatever table.
use Rattle.std.proofs.Common.{◌≡◌, ◌≢◌, ℕ, zero, suc, ◌+◌, ◌≤◌, Bool, true, false, ◌==◌, if◌then◌else◌, cond, nat_lt, List, [], ◌∷◌}
use Rattle.std.proofs.Common.{Option, Some, None, length, refl, sym, ap, ◌∙◌, subst, arith}
use Rattle.std.specs.Prelude.{min, slice_index_or}
use Rattle.waiters.specs.declared.wait.Wait.{Wait}
use Rattle.waiters.specs.Lists.{first_with}
use Rattle.step_table.specs.declared.call.Call.{Call}
use Rattle.step_table.specs.declared.call.Call.TheVariants.{Add, Wait as WaitCall, WaitOrLeave, One}
use Rattle.step_table.specs.declared.call.Call.TheVariants.{All as NotifyAll}
use Rattle.step_table.specs.declared.call.GivingUp.{GivingUp}
use Rattle.step_table.specs.declared.call.Late.{Late}
use Rattle.step_table.specs.declared.call.Late.TheVariants.{Kept, GivenBack}
use Rattle.step_table.specs.declared.list_place.AllRow.{AllRow}
use Rattle.step_table.specs.declared.list_place.AllRow.TheVariants.{L1, L2, L3, L4, L5, L6, L7, L8}
use Rattle.step_table.specs.declared.list_place.ListEffect.{ListEffect}
use Rattle.step_table.specs.declared.list_place.ListEffect.TheVariants.{Nothing, Grants, TakesOut, TakesAll, Forgoes}
use Rattle.step_table.specs.declared.list_place.ListPlace.{ListPlace}
use Rattle.step_table.specs.declared.list_place.ListPlace.TheVariants as on_list
use Rattle.step_table.specs.declared.list_place.ListPlace.TheVariants.{Adding, Waiting, NotifyingOne, NotifyingAll}
use Rattle.step_table.specs.declared.list_place.ListParkedRow.TheVariants.{P, E1, E2, E3, E5}
use Rattle.step_table.specs.declared.list_place.OneRow.{OneRow}
use Rattle.step_table.specs.declared.list_place.OneRow.TheVariants.{O1, O2, O3, O4, O5, O6, O7, O8, O9}
use Rattle.step_table.specs.declared.list_place.Ticket.{Ticket}
use Rattle.step_table.specs.declared.list_place.WaitRow.{WaitRow}
use Rattle.step_table.specs.declared.list_place.WaitRow.TheVariants.{W1, W2, W3, W4, E4, Parked}
use Rattle.step_table.specs.declared.place.AcquireRow.TheVariants.{A3, D4}
use Rattle.step_table.specs.declared.place.AcquireRow.TheVariants as sleeping
use Rattle.step_table.specs.declared.place.ParkedRow.TheVariants.{D3}
use Rattle.step_table.specs.declared.place.Place.{Place}
use Rattle.step_table.specs.declared.place.Place.TheVariants as on_counter
use Rattle.step_table.specs.declared.standing.After.{After}
use Rattle.step_table.specs.declared.standing.After.TheVariants.{Closes, LooksAgain, Releases}
use Rattle.step_table.specs.declared.standing.Ending.{Ending}
use Rattle.step_table.specs.declared.standing.Ending.TheVariants.{NextCall, MayGiveUp, GaveUp, GivesBack}
use Rattle.step_table.specs.declared.standing.GroupNext.{GroupNext}
use Rattle.step_table.specs.declared.standing.GroupNext.TheVariants as group
use Rattle.step_table.specs.declared.standing.Standing.{Standing}
use Rattle.step_table.specs.declared.standing.Standing.TheVariants.{Rest, AtCounter, AtList, AtGroup, Left, Failed}
use Rattle.step_table.specs.declared.group_word.GroupWord.{GroupWord}
use Rattle.step_table.specs.Group.{group_row}
use Rattle.step_table.specs.Wrapping.{minus}
use Rattle.step_table.specs.World.{put}
use Rattle.step_table.specs.ListWorld.{Numbers, ListWords, ListSeat, ListWorld, numbers_after, forgotten, with_gone, first_left}
use Rattle.step_table.specs.ListEvent.{ListNext, by_found, if_any}
use Rattle.step_table.specs.ListTable.{list_event_at}
use Rattle.step_table.specs.ListSteps as list
use Rattle.step_table.specs.Core.{CoreLayout, Core}
use Rattle.step_table.specs.CoreSteps.{stands, releases, calls, comes_late, ends_given_up, looks_again, goes_on, after_counter, leaving_list, gives_up_on_list}
use Rattle.step_table.specs.CoreSteps.{gives_up, may_give_up, may_give_up_on_list, after_list, after_group, list_row, on_list_row, on_counter_row}
use Rattle.step_table.specs.CoreSteps.{row_of_standing, core_turned, at_list, waits_on_list, counter_row, comes_late_on_list, ends_given_up_on_list, closes_on_list}
use Rattle.step_law_alike.specs.declared.variant.Variant.{Variant}
use Rattle.step_law_alike.specs.declared.variant.Variant.TheVariants.{PlainLess}
use Rattle.step_law_alike.specs.Changed.{changed_wait_row, changed_list_place, changed}
use Rattle.step_core.specs.State.{may_go}
use Rattle.step_core.proofs.Once.{Counts, IsOnce}
use Rattle.step_table.proofs.Skipping.{length_more}
use Rattle.step_table.proofs.Sums.{put_here, put_else}
use Rattle.step_law_whole.proofs.RunChanges.{at_each}

pub may_go_most : (p : ListPlace) → may_go p ≤ 1
may_go_most on_list.Rest = omega arith
may_go_most Adding = omega arith
may_go_most (Waiting t E4) = omega arith
may_go_most (Waiting t row) = omega arith
may_go_most (NotifyingOne h row) = omega arith
may_go_most (NotifyingAll h row) = omega arith

either : (b : Bool) (p q : ListPlace) (n : ℕ) → may_go p ≤ n → may_go q ≤ n → may_go (if b then p else q) ≤ n
either true p q n first second = first
either false p q n first second = second

-- no more tickets are gone than before
fewer : (before : ℕ → Bool) (gone : List ℕ) → length (forgotten before gone) ≤ length gone
fewer before [] = omega arith
fewer before (m ∷ gone) = by (before m) (fewer before gone)
  where
    by : (b : Bool) → length (forgotten before gone) ≤ length gone
        → length (cond b (forgotten before gone) (m ∷ forgotten before gone)) ≤ suc (length gone)
    by true rest = omega arith
    by false rest = omega arith

-- what a row does to the gone tickets, and to its seat's
module _ (n : Numbers) where
  abbrev gone_by : ListEffect → ℕ
  gone_by effect = length (numbers_after effect n).gone

  granted : (upto : ℕ) → gone_by (Grants upto) ≤ length n.gone
  granted upto = fewer (λ m. nat_lt m (first_left suc n.gone upto)) n.gone

  forgone : (w : Wait) → gone_by (Forgoes w) ≤ length n.gone + 1
  forgone w =
      let less = fewer (λ m. nat_lt m (first_left suc (with_gone nat_lt w.id.turn n.gone) n.passed)) (with_gone nat_lt w.id.turn n.gone) in
      let one = length_more nat_lt w.id.turn n.gone in omega arith

abbrev Goes : ListWords → ListPlace → ListNext → Type 0
Goes g p next = length (numbers_after next.1 g.numbers).gone + may_go next.0 ≤ length g.numbers.gone + may_go p

wait_goes : (i : ℕ) (seat : ListSeat) (g : ListWords) (t : Ticket) (row : WaitRow) (v : ℕ)
    → Goes g (Waiting t row) ((list_event_at i seat g (Waiting t row)).leads v)
wait_goes i seat g t W1 v = omega arith
wait_goes i seat g t W2 v = let most = may_go_most ((list_event_at i seat g (Waiting t W2)).leads v).0 in omega arith
wait_goes i seat g t W3 v = omega arith
wait_goes i seat g t W4 v = omega arith
wait_goes i seat g t E4 v = omega arith
wait_goes i seat g t (Parked P) v = omega arith
wait_goes i seat g t (Parked E1) v = let most = may_go_most ((list_event_at i seat g (Waiting t (Parked E1))).leads v).0 in omega arith
wait_goes i seat g t (Parked E2) v = omega arith
wait_goes i seat g t (Parked (E3 w)) v = let one = forgone g.numbers (Rattle.step_table.specs.ListTable.wait_for i t) in omega arith
wait_goes i seat g t (Parked E5) v = omega arith

one_goes : (i : ℕ) (seat : ListSeat) (g : ListWords) (h : ℕ) (row : OneRow) (v : ℕ)
    → Goes g (NotifyingOne h row) ((list_event_at i seat g (NotifyingOne h row)).leads v)
one_goes i seat g h O1 v = omega arith
one_goes i seat g h (O2 a) v = let none = either (a == v) on_list.Rest (NotifyingOne h O3) 0 (omega arith) (omega arith) in omega arith
one_goes i seat g h O3 v = omega arith
one_goes i seat g h O4 v = omega arith
one_goes i seat g h (O5 t) v = let none = either (v == t) (NotifyingOne h O6) (NotifyingOne h (O7 t)) 0 (omega arith) (omega arith) in omega arith
one_goes i seat g h O6 v = omega arith
one_goes i seat g h (O7 t) v = let less = granted g.numbers (g.numbers.passed + 1) in omega arith
one_goes i seat g h (O8 t) v = by (first_with t g.queue)
  where
    by : (w : Option Wait) → Goes g (NotifyingOne h (O8 t)) (by_found w (on_list.Rest, Nothing) (λ w. (NotifyingOne h O9, TakesOut t)))
    by None = omega arith
    by (Some w) = omega arith
one_goes i seat g h O9 v = omega arith

all_goes : (i : ℕ) (seat : ListSeat) (g : ListWords) (h : ℕ) (row : AllRow) (v : ℕ)
    → Goes g (NotifyingAll h row) ((list_event_at i seat g (NotifyingAll h row)).leads v)
all_goes i seat g h L1 v = omega arith
all_goes i seat g h (L2 a) v = let none = either (a == v) on_list.Rest (NotifyingAll h L3) 0 (omega arith) (omega arith) in omega arith
all_goes i seat g h L3 v = omega arith
all_goes i seat g h L4 v = omega arith
all_goes i seat g h (L5 t) v = omega arith
all_goes i seat g h (L6 r) v = by (r.notified == r.waited)
  where
    by : (b : Bool) → Goes g (NotifyingAll h (L6 r)) (NotifyingAll h (L7 (Rattle.std.specs.Prelude.◌-◌ (minus r.waited r.notified) (length g.gone))), if b then Nothing else Grants r.handed)
    by true = omega arith
    by false = let less = granted g.numbers r.handed in omega arith
all_goes i seat g h (L7 n) v = by g.queue
  where
    by : (queue : List Wait) → Goes g (NotifyingAll h (L7 n)) (if_any queue (NotifyingAll h L8) on_list.Rest, TakesAll)
    by [] = omega arith
    by (w ∷ queue) = omega arith
all_goes i seat g h L8 v =
    let none = either (nat_lt 1 (length seat.hand)) (NotifyingAll h L8) on_list.Rest 0 (omega arith) (omega arith) in omega arith

goes : (i : ℕ) (seat : ListSeat) (g : ListWords) (p : ListPlace) (v : ℕ) → Goes g p ((list_event_at i seat g p).leads v)
goes i seat g on_list.Rest v = omega arith
goes i seat g Adding v = omega arith
goes i seat g (Waiting t row) v = wait_goes i seat g t row v
goes i seat g (NotifyingOne h row) v = one_goes i seat g h row v
goes i seat g (NotifyingAll h row) v = all_goes i seat g h row v

-- seat i has changed, and n calls more let tickets go at most
record LetsGo (s t : ℕ → ListWorld) (i n : ℕ) : Type 0 where
  others : (l k : ℕ) → k ≢ i → may_go ((t l).seats k).place ≡ may_go ((s l).seats k).place
  here : (l : ℕ) → length (t l).words.numbers.gone + may_go ((t l).seats i).place
      ≤ length (s l).words.numbers.gone + may_go ((s l).seats i).place + n

none_goes : (s : ℕ → ListWorld) (i n : ℕ) → LetsGo s s i n
none_goes s i n = record { others = λ l k ne. refl; here = λ l. omega arith }

same_goes : (s t : ℕ → ListWorld) (i n : ℕ) → t ≡ s → LetsGo s t i n
same_goes s t i n same = subst (λ t. LetsGo s t i n) (sym same) (none_goes s i n)

then_goes : {s t u : ℕ → ListWorld} {i n k : ℕ} → LetsGo s t i n → LetsGo t u i k → LetsGo s u i (n + k)
then_goes a b = record {
  others = λ l k ne. b.others l k ne ∙ a.others l k ne;
  here = λ l. let x = a.here l in let y = b.here l in omega arith;
}

-- another world of the list l
module _ (s : ℕ → ListWorld) (i l n : ℕ) (w : ListWorld) where
  with_list : ((k : ℕ) → k ≢ i → may_go (w.seats k).place ≡ may_go ((s l).seats k).place)
      → length w.words.numbers.gone + may_go (w.seats i).place ≤ length (s l).words.numbers.gone + may_go ((s l).seats i).place + n
      → LetsGo s (put s l w) i n
  with_list others few = record {
    others = λ z k ne. at_each (λ z. may_go ((put s l w z).seats k).place ≡ may_go ((s z).seats k).place) l
        (ap (λ (w : ListWorld). may_go (w.seats k).place) (put_here s l w) ∙ others k ne)
        (λ z no. ap (λ (w : ListWorld). may_go (w.seats k).place) (put_else s l w z no)) z;
    here = at_each (λ z. length (put s l w z).words.numbers.gone + may_go ((put s l w z).seats i).place
        ≤ length (s z).words.numbers.gone + may_go ((s z).seats i).place + n) l
        (let a = ap (λ (w : ListWorld). length w.words.numbers.gone + may_go (w.seats i).place) (put_here s l w) in omega arith)
        (λ z no. let a = ap (λ (w : ListWorld). length w.words.numbers.gone + may_go (w.seats i).place) (put_else s l w z no) in omega arith);
  }

-- another seat i on the list l
seat_goes : (s : ℕ → ListWorld) (i l n : ℕ) (seat : ListSeat) → may_go seat.place ≤ may_go ((s l).seats i).place + n
    → LetsGo s (put s l (record (s l) { seats = put (s l).seats i seat })) i n
seat_goes s i l n seat few =
    with_list s i l n (record (s l) { seats = put (s l).seats i seat })
    (λ k ne. ap (λ (z : ListSeat). may_go z.place) (put_else (s l).seats i seat k ne))
    (let a = ap (λ (z : ListSeat). may_go z.place) (put_here (s l).seats i seat) in omega arith)

-- a row of seat i on the list l
row_goes : (s : ℕ → ListWorld) (i l : ℕ) → LetsGo s (put s l (list.turned (s l) i)) i 0
row_goes s i l =
    let w : ListWorld = s l in
    let next : ListNext = (list.event_of w i).leads (list.finds w i) in
    let seat : ListSeat = list.seat_after w.words next (w.seats i) in
    with_list s i l 0 (list.turned w i)
    (λ k ne. ap (λ (z : ListSeat). may_go z.place) (put_else w.seats i seat k ne))
    (let a = ap (λ (z : ListSeat). may_go z.place) (put_here w.seats i seat) in
    let b = goes i (w.seats i) w.words (w.seats i).place (list.finds w i) in omega arith)

-- what follows a row on a counter changes no list
module _ (m : CoreLayout) (s : Core) (i : ℕ) where
  releases_lists : (g n : ℕ) → (releases m s i g n).lists ≡ s.lists
  releases_lists g zero = refl
  releases_lists g (suc more) = refl

  late_lists : (c skips : ℕ) (late : Late) → (comes_late s i c skips late).lists ≡ s.lists
  late_lists c skips Kept = refl
  late_lists c skips GivenBack = refl

  given_up_lists : (how : GivingUp) (before : Place) → (ends_given_up s i how before).lists ≡ s.lists
  given_up_lists how (on_counter.Acquiring a D4) = refl
  given_up_lists how before = late_lists _ how.skips how.late

  looks_again_lists : (g : ℕ) (ending : Ending) (before : Place) → (looks_again s i g ending before).lists ≡ s.lists
  looks_again_lists g (GaveUp how) (on_counter.Acquiring a D4) = refl
  looks_again_lists g ending before = refl

  goes_on_lists : (after : After) (before : Place) → (goes_on m s i after before).lists ≡ s.lists
  goes_on_lists (Closes (GaveUp how)) before = given_up_lists how before
  goes_on_lists (LooksAgain g ending) before = looks_again_lists g ending before
  goes_on_lists (Releases g more) before = releases_lists g more
  goes_on_lists after before = refl

  counter_lists : (after : After) (before place : Place) → (after_counter m s i after before place).lists ≡ s.lists
  counter_lists after before on_counter.Rest = goes_on_lists after before
  counter_lists (Closes (GaveUp how)) before (on_counter.Acquiring a A3) = refl
  counter_lists (Closes (GaveUp how)) before (on_counter.Acquiring a row) = refl
  counter_lists (LooksAgain g (GaveUp how)) before (on_counter.Acquiring a (sleeping.Parked turn D3)) = refl
  counter_lists (LooksAgain g (GaveUp how)) before (on_counter.Acquiring a row) = refl
  counter_lists after before (on_counter.Acquiring a row) = refl
  counter_lists after before (on_counter.Releasing r row) = refl
  counter_lists after before (on_counter.ReleasingMany r row) = refl

  group_lists : (g : ℕ) (next : GroupNext) → (after_group m s i g next).lists ≡ s.lists
  group_lists g (group.Releases n) = releases_lists g n
  group_lists g next = refl

-- what follows a row on a list begins at most a notification
module _ (s : Core) (i l : ℕ) where
  notifies : (ending : Ending) → LetsGo s.lists (at_list s i l (NotifyingOne 0 O1) ending).lists i 0
  notifies ending = seat_goes s.lists i l 0 (record ((s.lists l).seats i) { place = NotifyingOne 0 O1 }) (omega arith)

  late_goes : (skips : ℕ) (late : Late) → LetsGo s.lists (comes_late_on_list s i l skips late).lists i 0
  late_goes skips Kept = none_goes s.lists i 0
  late_goes skips GivenBack = notifies (GivesBack skips)

  given_up_goes : (how : GivingUp) (before : ListPlace) → LetsGo s.lists (ends_given_up_on_list s i l how before).lists i 0
  given_up_goes how (Waiting t E4) = none_goes s.lists i 0
  given_up_goes how before = late_goes how.skips how.late

  closes_goes : (ending : Ending) (before : ListPlace) → LetsGo s.lists (closes_on_list s i l ending before).lists i 0
  closes_goes (GaveUp how) before = given_up_goes how before
  closes_goes ending before = none_goes s.lists i 0

  after_goes : (ending : Ending) (before place : ListPlace) → LetsGo s.lists (after_list s i l ending before place).lists i 0
  after_goes ending before on_list.Rest = closes_goes ending before
  after_goes ending before place = none_goes s.lists i 0

-- who gives up waits as before
leaving_goes : (p : ListPlace) → may_go (leaving_list p) ≤ may_go p
leaving_goes on_list.Rest = omega arith
leaving_goes Adding = omega arith
leaving_goes (Waiting t W1) = omega arith
leaving_goes (Waiting t (Parked row)) = omega arith
leaving_goes (Waiting t row) = omega arith
leaving_goes (NotifyingOne h row) = omega arith
leaving_goes (NotifyingAll h row) = omega arith

gives_up_goes : (s : Core) (i l : ℕ) (ending : Ending) → LetsGo s.lists (gives_up_on_list s i l ending).lists i 0
gives_up_goes s i l ending =
    let place : ListPlace = ((s.lists l).seats i).place in
    seat_goes s.lists i l 0 (record ((s.lists l).seats i) { place = leaving_list place }) (let less = leaving_goes place in omega arith)

list_row_goes : (s : Core) (i l : ℕ) (ending : Ending) → LetsGo s.lists (on_list_row s i l ending).lists i 0
list_row_goes s i l ending =
    let t : Core = list_row s i l in
    then_goes (row_goes s.lists i l) (after_goes t i l ending ((s.lists l).seats i).place ((t.lists l).seats i).place)

-- the row of a seat that does this
module _ (m : CoreLayout) (s : Core) (i : ℕ) where
  at_counter_goes : (after : After) (b : Bool)
      → LetsGo s.lists (if b then gives_up s i after else on_counter_row m s i after).lists i 0
  at_counter_goes after true = none_goes s.lists i 0
  at_counter_goes after false =
      let t : Core = counter_row m s i in
      same_goes s.lists (on_counter_row m s i after).lists i 0
      (counter_lists m t i after (s.semaphores.seats i).place (t.semaphores.seats i).place)

  at_list_goes : (l : ℕ) (ending : Ending) (b : Bool)
      → LetsGo s.lists (if b then gives_up_on_list s i l ending else on_list_row s i l ending).lists i 0
  at_list_goes l ending true = gives_up_goes s i l ending
  at_list_goes l ending false = list_row_goes s i l ending

  row_lets_go : (doing : Standing) → LetsGo s.lists (row_of_standing m s i doing).lists i 0
  row_lets_go Rest = none_goes s.lists i 0
  row_lets_go (AtCounter after) = at_counter_goes after (may_give_up s.semaphores i after)
  row_lets_go (AtList l ending) = at_list_goes l ending (may_give_up_on_list (s.lists l) i ending)
  row_lets_go (AtGroup g row) =
      let next : GroupWord × GroupNext = group_row row (s.groups g) in
      let t : Core = record s { groups = put s.groups g next.0 } in
      same_goes s.lists (after_group m t i g next.1).lists i 0 (group_lists m t i g next.1)
  row_lets_go (Left skips) = none_goes s.lists i 0
  row_lets_go (Failed misuse) = none_goes s.lists i 0

-- a call that begins may let its ticket go
module _ (s : Core) (i : ℕ) where
  placed_goes : (l : ℕ) (place : ListPlace) (ending : Ending) → LetsGo s.lists (at_list s i l place ending).lists i 1
  placed_goes l place ending =
      seat_goes s.lists i l 1 (record ((s.lists l).seats i) { place = place }) (let most = may_go_most place in omega arith)

  waits_goes : (l : ℕ) (ending : Ending) → LetsGo s.lists (waits_on_list s i l ending).lists i 1
  waits_goes l ending =
      let seat : ListSeat = list.with_ticket ((s.lists l).seats i) ((s.lists l).seats i).ticket in
      seat_goes s.lists i l 1 seat (let most = may_go_most seat.place in omega arith)

  call_goes : (call : Call) → LetsGo s.lists (calls s i call).lists i 1
  call_goes (Add l) = placed_goes l Adding NextCall
  call_goes (WaitCall l) = waits_goes l NextCall
  call_goes (WaitOrLeave l how) = waits_goes l (MayGiveUp how)
  call_goes (One l) = placed_goes l (NotifyingOne 0 O1) NextCall
  call_goes (NotifyAll l) = placed_goes l (NotifyingAll 0 L1) NextCall
  call_goes call = none_goes s.lists i 1

-- a changed table leads who waits to where it waits too
changed_row_goes : (v : Variant) (ticket notify : ℕ) (t : Ticket) (from next : WaitRow)
    → may_go (Waiting t (changed_wait_row v ticket notify from next)) ≡ may_go (Waiting t next)
changed_row_goes PlainLess ticket notify t W2 W3 = plainly_goes t (nat_lt ticket notify)
  where
    plainly_goes : (t : Ticket) (b : Bool) → may_go (Waiting t (if b then W3 else W4)) ≡ 1
    plainly_goes t true = refl
    plainly_goes t false = refl
changed_row_goes PlainLess ticket notify t W2 W4 = plainly_goes t (nat_lt ticket notify)
  where
    plainly_goes : (t : Ticket) (b : Bool) → may_go (Waiting t (if b then W3 else W4)) ≡ 1
    plainly_goes t true = refl
    plainly_goes t false = refl
changed_row_goes v ticket notify t from next = refl

changed_place_goes : (v : Variant) (notify : ℕ) (from next : ListPlace) → may_go (changed_list_place v notify from next) ≡ may_go next
changed_place_goes v notify (Waiting t from) (Waiting u next) = changed_row_goes v t.word notify u from next
changed_place_goes v notify from next = refl

changed_goes : (v : Variant) (s t : Core) (i : ℕ) (doing : Standing) → LetsGo t.lists (changed v s t i doing).lists i 0
changed_goes v s t i (AtList l ending) =
    let place : ListPlace = changed_list_place v (s.lists l).words.notify ((s.lists l).seats i).place ((t.lists l).seats i).place in
    seat_goes t.lists i l 0 (record ((t.lists l).seats i) { place = place })
    (let same = changed_place_goes v (s.lists l).words.notify ((s.lists l).seats i).place ((t.lists l).seats i).place in omega arith)
changed_goes v s t i doing = none_goes t.lists i 0

module _ (l : ℕ) where
  abbrev pub gone_in : Core → ℕ
  gone_in s = length (s.lists l).words.numbers.gone

  abbrev pub may_go_in : Core → ℕ → ℕ
  may_go_in s k = may_go ((s.lists l).seats k).place

  on_one : (s t : Core) (i n : ℕ) → LetsGo s.lists t.lists i n → Counts gone_in may_go_in s t i n
  on_one s t i n goes = record { others = goes.others l; here = goes.here l }

  pub goes_once : IsOnce gone_in may_go_in
  goes_once = record {
    row = λ m s i. on_one s (core_turned m s i) i 0 (row_lets_go m s i (s.standing i));
    call = λ s i call. on_one s (calls s i call) i 1 (call_goes s i call);
    rests = λ s i. on_one s (stands s i Rest) i 0 (none_goes s.lists i 0);
    leads = λ v s t i. on_one t (changed v s t i (s.standing i)) i 0 (changed_goes v s t i (s.standing i));
  }
