-- The weight of the whole where one seat goes elsewhere, and where it begins a call.
use Rattle.std.proofs.Common.{◌≡◌, ◌≢◌, ℕ, zero, suc, ◌+◌, ◌*◌, ◌<◌, ◌≤◌, false, length, refl, ap, ap₂, suc-mul, arith}
use Rattle.step_table.specs.declared.call.Call.{Call}
use Rattle.step_table.specs.declared.call.Late.{Late}
use Rattle.step_table.specs.declared.call.GivingUp.{GivingUp}
use Rattle.step_table.specs.declared.call.Call.TheVariants.{Acquire, Release, ReleaseMany, Add, Wait, One, All, GroupAdd, GroupWait, AcquireOrLeave, WaitOrLeave, GroupWaitOrLeave}
use Rattle.step_table.specs.declared.group_word.GroupWord.{GroupWord}
use Rattle.step_table.specs.declared.list_place.AllRow.TheVariants.{L1}
use Rattle.step_table.specs.declared.list_place.ListPlace.{ListPlace}
use Rattle.step_table.specs.declared.list_place.ListPlace.TheVariants.{Adding, Waiting, NotifyingOne, NotifyingAll}
use Rattle.step_table.specs.declared.list_place.ListPlace.TheVariants as on_list_place
use Rattle.step_table.specs.declared.list_place.WaitRow.TheVariants.{E4}
use Rattle.step_table.specs.declared.list_place.OneRow.TheVariants.{O1}
use Rattle.step_table.specs.declared.place.Place.{Place}
use Rattle.step_table.specs.declared.place.Place.TheVariants as on_counter
use Rattle.step_table.specs.declared.place.Place.TheVariants.{Acquiring, Releasing, ReleasingMany}
use Rattle.step_table.specs.declared.place.AcquireRow.TheVariants.{A1, D4}
use Rattle.step_table.specs.declared.place.ReleaseRow.TheVariants.{R1}
use Rattle.step_table.specs.declared.place.ManyRow.TheVariants.{M1}
use Rattle.step_table.specs.declared.standing.After.{After}
use Rattle.step_table.specs.declared.standing.After.TheVariants.{Closes, LooksAgain, Releases}
use Rattle.step_table.specs.declared.standing.Ending.{Ending}
use Rattle.step_table.specs.declared.standing.Ending.TheVariants.{NextCall, MayGiveUp, GaveUp, GivesBack}
use Rattle.step_table.specs.declared.standing.GroupRow.TheVariants.{G1, V1, V3}
use Rattle.step_table.specs.declared.standing.Standing.{Standing}
use Rattle.step_table.specs.declared.standing.Standing.TheVariants.{Rest, AtCounter, AtList, AtGroup, Left}
use Rattle.step_table.specs.World.{SeatState, SemaWorld, put}
use Rattle.step_table.specs.ListWorld.{ListSeat, ListWorld}
use Rattle.step_table.specs.ListSteps.{with_ticket}
use Rattle.step_table.specs.Core.{CoreLayout, semaphore, Core}
use Rattle.step_table.specs.CoreSteps.{stands, at_counter, releases, goes_on, calls, comes_late, ends_given_up, comes_late_on_list, closes_on_list, looks_again}
use Rattle.step_table.specs.Counting.{counter_at, total}
use Rattle.step_table.specs.Steps.{moved}
use Rattle.step_table.proofs.Sums.{owned, put_here, put_else, total_change}
use Rattle.step_law_whole.specs.SemaWeight.{place_weight, stale}
use Rattle.step_law_whole.specs.ListWeight.{list_weight}
use Rattle.step_law_whole.specs.CoreWeight.{releases_weight, beside_weight, core_weight, call_cost, late_weight, ending_on_list_weight, late_on_list_weight}
use Rattle.step_law_whole.proofs.SeatSums.{put_most}
use Rattle.step_law_whole.proofs.SemaWeights.{handing_cost}
use Rattle.step_law_whole.proofs.ListWeights.{list_weighs, with_its}
use Rattle.step_table.specs.declared.call.Late.TheVariants.{Kept, GivenBack}

module _ (m : CoreLayout) (i : ℕ) (in_range : i < m.seats) where
  -- what a seat that does this, at this place, weighs while the groups' words are these
  abbrev pub stands_at : (ℕ → GroupWord) → Standing → Place → ℕ
  stands_at groups standing place = beside_weight m.seats groups standing place

  -- what seat i weighs so
  abbrev pub beside : Core → ℕ
  beside s = stands_at s.groups (s.standing i) (s.semaphores.seats i).place

  -- where no other seat moves, the sum changes by what this one weighs
  pub beside_change : (groups : ℕ → GroupWord) (standing after : ℕ → Standing) (seats moved_to : ℕ → SeatState)
      → ((k : ℕ) → k ≢ i → after k ≡ standing k) → ((k : ℕ) → k ≢ i → moved_to k ≡ seats k)
      → total m.seats (λ k. stands_at groups (after k) (moved_to k).place) + stands_at groups (standing i) (seats i).place
      ≡ total m.seats (λ k. stands_at groups (standing k) (seats k).place) + stands_at groups (after i) (moved_to i).place
  beside_change groups standing after seats moved_to same stay =
      total_change m.seats (λ k. stands_at groups (standing k) (seats k).place) (λ k. stands_at groups (after k) (moved_to k).place) i in_range
      (λ k ne. ap₂ (λ st (z : SeatState). stands_at groups st z.place) (same k ne) (stay k ne))

  pub stands_weight : (s : Core) (standing : Standing)
      → core_weight m (stands s i standing) + beside s ≡ core_weight m s + stands_at s.groups standing (s.semaphores.seats i).place
  stands_weight s standing =
      let all = beside_change s.groups s.standing (put s.standing i standing) s.semaphores.seats s.semaphores.seats (put_else s.standing i standing) (λ k ne. refl) in
      let here = ap (λ st. stands_at s.groups st (s.semaphores.seats i).place) (put_here s.standing i standing) in omega arith

  -- what seat i weighs on counters at this place
  abbrev pub on_counters : SemaWorld → Place → ℕ
  on_counters s place = place_weight m.seats place (length (s.seats i).hand) (s.words.grants i) + stale s.words.numbers place

  pub at_counter_weight : (s : Core) (place : Place) (after : After)
      → core_weight m (at_counter s i place after) + on_counters s.semaphores (s.semaphores.seats i).place + beside s
      ≡ core_weight m s + on_counters s.semaphores place + stands_at s.groups (AtCounter after) place
  at_counter_weight s place after =
      let t : SemaWorld = s.semaphores in
      let seats = owned (λ k seat grant. place_weight m.seats seat.place (length seat.hand) grant + stale t.words.numbers seat.place) m.seats t.seats
      t.words.grants t.words.grants i (record (t.seats i) { place = place }) in_range (λ k ne. refl) in
      let z : SeatState = record (t.seats i) { place = place } in
      let all = beside_change s.groups s.standing (put s.standing i (AtCounter after)) t.seats (put t.seats i z) (put_else s.standing i (AtCounter after))
      (put_else t.seats i z) in
      let here = ap₂ (λ st (z : SeatState). stands_at s.groups st z.place) (put_here s.standing i (AtCounter after)) (put_here t.seats i z) in omega arith

  pub releases_weigh : (s : Core) (g count : ℕ) → (s.semaphores.seats i).place ≡ on_counter.Rest
      → core_weight m (releases m s i g count) + beside s ≡ core_weight m s + releases_weight m.seats count
  releases_weigh s g zero rests = let all = stands_weight s Rest in omega arith
  releases_weigh s g (suc more) rests =
      let all = at_counter_weight s (Releasing (record { counter = semaphore m g; handoff = false }) R1) (Releases g more) in
      let none = ap (on_counters s.semaphores) rests in
      let one_more : suc more * (2 * m.seats + 11) ≡ more * (2 * m.seats + 11) + (2 * m.seats + 11) = suc-mul more (2 * m.seats + 11) in omega arith

  -- a choice on counters, which seat i makes
  pub moved_weight : (s : Core) (place : Place)
      → core_weight m (record s { semaphores = moved s.semaphores i place }) + on_counters s.semaphores (s.semaphores.seats i).place + beside s
      ≡ core_weight m s + on_counters s.semaphores place + stands_at s.groups (s.standing i) place
  moved_weight s place =
      let t : SemaWorld = s.semaphores in
      let seats = owned (λ k seat grant. place_weight m.seats seat.place (length seat.hand) grant + stale t.words.numbers seat.place) m.seats t.seats
      t.words.grants t.words.grants i (record (t.seats i) { place = place }) in_range (λ k ne. refl) in
      let z : SeatState = record (t.seats i) { place = place } in
      let all = beside_change s.groups s.standing s.standing t.seats (put t.seats i z) (λ k ne. refl) (put_else t.seats i z) in
      let here = ap (λ (z : SeatState). stands_at s.groups (s.standing i) z.place) (put_here t.seats i z) in omega arith

  -- a unit that comes late was weighed before, if it is given back
  late_weighs : (s : Core) (c skips : ℕ) (late : Late) → beside s ≡ late_weight m.seats late
      → (s.semaphores.seats i).place ≡ on_counter.Rest → core_weight m (comes_late s i c skips late) ≤ core_weight m s
  late_weighs s c skips Kept before rests = let all = stands_weight s Rest in omega arith
  late_weighs s c skips GivenBack before rests =
      let all = at_counter_weight s (Releasing (record { counter = c; handoff = false }) R1) (Closes (GivesBack skips)) in
      let none = ap (on_counters s.semaphores) rests in omega arith

  ends_weight : (s : Core) (how : GivingUp) (before : Place) → s.standing i ≡ AtCounter (Closes (GaveUp how))
      → (s.semaphores.seats i).place ≡ on_counter.Rest → core_weight m (ends_given_up s i how before) ≤ core_weight m s
  ends_weight s how (Acquiring a D4) at rests = let all = stands_weight s (Left how.skips) in omega arith
  ends_weight s how before at rests =
      late_weighs s (counter_at before) how.skips how.late (let weighed = ap (λ st. stands_at s.groups st (s.semaphores.seats i).place) at in omega arith) rests

  looks_weight : (s : Core) (g : ℕ) (ending : Ending) (before : Place) → s.standing i ≡ AtCounter (LooksAgain g ending)
      → (s.semaphores.seats i).place ≡ on_counter.Rest → core_weight m (looks_again s i g ending before) ≤ core_weight m s
  looks_weight s g (GaveUp how) (Acquiring a D4) at rests = let all = stands_weight s (Left how.skips) in omega arith
  looks_weight s g ending p at rests =
      let all = stands_weight s (AtGroup g (V3 ending)) in let before = ap (λ st. stands_at s.groups st (s.semaphores.seats i).place) at in omega arith

  -- what comes after a call on a counter was weighed before
  pub goes_on_weight : (s : Core) (after : After) (before : Place) → s.standing i ≡ AtCounter after
      → (s.semaphores.seats i).place ≡ on_counter.Rest → core_weight m (goes_on m s i after before) ≤ core_weight m s
  goes_on_weight s (Closes (MayGiveUp how)) p at rests = let all = stands_weight s Rest in omega arith
  goes_on_weight s (Closes (GaveUp how)) p at rests = ends_weight s how p at rests
  goes_on_weight s (Closes (GivesBack skips)) p at rests = let all = stands_weight s (Left skips) in omega arith
  goes_on_weight s (Closes NextCall) p at rests =
      let all = stands_weight s Rest in let before = ap (λ st. stands_at s.groups st (s.semaphores.seats i).place) at in omega arith
  goes_on_weight s (LooksAgain g ending) p at rests = looks_weight s g ending p at rests
  goes_on_weight s (Releases g more) p at rests =
      let all = releases_weigh s g more rests in let before = ap (λ st. stands_at s.groups st (s.semaphores.seats i).place) at in omega arith

  -- a call on the list l, at a rest or in another call on it
  pub on_list : (s : Core) (l : ℕ) (ending : Ending) (seat : ListSeat) (cost : ℕ)
      → list_weighs seat ((s.lists l).words.grants i) ≤ list_weighs ((s.lists l).seats i) ((s.lists l).words.grants i) + cost
      → let t : ListWorld = record (s.lists l) { seats = put (s.lists l).seats i seat } in
      core_weight m (stands (record s { lists = put s.lists l t }) i (AtList l ending)) + beside s
      ≤ core_weight m s + cost + ending_on_list_weight ending
  on_list s l ending seat cost most =
      let w : ListWorld = s.lists l in
      let t : ListWorld = record w { seats = put w.seats i seat } in
      let one = owned (λ k seat grant. list_weighs seat grant) m.seats w.seats w.words.grants w.words.grants i seat in_range (λ k ne. refl) in
      let lists = put_most m.lists (list_weight m.seats) s.lists l t cost (omega arith) in
      let all = stands_weight (record s { lists = put s.lists l t }) (AtList l ending) in omega arith

  -- a grant that comes late was weighed before, if it is given back
  late_on_list_weighs : (s : Core) (l skips : ℕ) (late : Late) → beside s ≡ late_on_list_weight late
      → ((s.lists l).seats i).place ≡ on_list_place.Rest → core_weight m (comes_late_on_list s i l skips late) ≤ core_weight m s
  late_on_list_weighs s l skips Kept before rests = let all = stands_weight s Rest in omega arith
  late_on_list_weighs s l skips GivenBack before rests =
      let all = on_list s l (GivesBack skips) (record ((s.lists l).seats i) { place = NotifyingOne 0 O1 }) 7 (omega arith) in omega arith

  -- what comes after a call on a list was weighed before
  pub closes_weight : (s : Core) (l : ℕ) (ending : Ending) (before : ListPlace) → s.standing i ≡ AtList l ending
      → ((s.lists l).seats i).place ≡ on_list_place.Rest → core_weight m (closes_on_list s i l ending before) ≤ core_weight m s
  closes_weight s l NextCall p at rests = let all = stands_weight s Rest in let before = ap (λ st. stands_at s.groups st (s.semaphores.seats i).place) at in omega arith
  closes_weight s l (MayGiveUp how) p at rests = let all = stands_weight s Rest in omega arith
  closes_weight s l (GaveUp how) (Waiting t E4) at rests = let all = stands_weight s (Left how.skips) in omega arith
  closes_weight s l (GaveUp how) p at rests =
      late_on_list_weighs s l how.skips how.late (let weighed = ap (λ st. stands_at s.groups st (s.semaphores.seats i).place) at in omega arith) rests
  closes_weight s l (GivesBack skips) p at rests = let all = stands_weight s (Left skips) in omega arith

  -- a call raises the weight by its cost at most
  pub calls_raise : (s : Core) (call : Call) → core_weight m (calls s i call) ≤ core_weight m s + call_cost m.seats call
  calls_raise s (Acquire c lifo) =
      let all = at_counter_weight s (Acquiring (record { counter = c; lifo = lifo }) A1) (Closes NextCall) in omega arith
  calls_raise s (AcquireOrLeave c lifo how) =
      let all = at_counter_weight s (Acquiring (record { counter = c; lifo = lifo }) A1) (Closes (MayGiveUp how)) in omega arith
  calls_raise s (Release c handoff) =
      let all = at_counter_weight s (Releasing (record { counter = c; handoff = handoff }) R1) (Closes NextCall) in
      let same = handing_cost m.seats handoff (omega arith) in omega arith
  calls_raise s (ReleaseMany c n) =
      let all = at_counter_weight s (ReleasingMany (record { counter = c; units = n }) M1) (Closes NextCall) in omega arith
  calls_raise s (Add l) = let all = on_list s l NextCall (record ((s.lists l).seats i) { place = Adding }) 1 (omega arith) in omega arith
  calls_raise s (Wait l) =
      let all = on_list s l NextCall (with_ticket ((s.lists l).seats i) ((s.lists l).seats i).ticket) 5
      (with_its ((s.lists l).seats i) ((s.lists l).seats i).ticket ((s.lists l).words.grants i)) in omega arith
  calls_raise s (WaitOrLeave l how) =
      let all = on_list s l (MayGiveUp how) (with_ticket ((s.lists l).seats i) ((s.lists l).seats i).ticket) 5
      (with_its ((s.lists l).seats i) ((s.lists l).seats i).ticket ((s.lists l).words.grants i)) in omega arith
  calls_raise s (One l) = let all = on_list s l NextCall (record ((s.lists l).seats i) { place = NotifyingOne 0 O1 }) 7 (omega arith) in omega arith
  calls_raise s (All l) = let all = on_list s l NextCall (record ((s.lists l).seats i) { place = NotifyingAll 0 L1 }) 7 (omega arith) in omega arith
  calls_raise s (GroupAdd g d) = let all = stands_weight s (AtGroup g (G1 d)) in omega arith
  calls_raise s (GroupWait g) = let all = stands_weight s (AtGroup g (V1 NextCall)) in omega arith
  calls_raise s (GroupWaitOrLeave g skips) =
      let all = stands_weight s (AtGroup g (V1 (MayGiveUp (record { late = Kept; skips = skips })))) in omega arith
