-- Each row of the whole lowers its weight.
use Rattle.std.proofs.Common.{◌≡◌, ℕ, ◌+◌, ◌<◌, ◌≤◌, ◌&&◌, ◌||◌, if◌then◌else◌, Bool, true}
use Rattle.std.proofs.Common.{false, IsTrue}
use Rattle.std.proofs.Common.{refl, sym, ap, subst, arith, ◌∙◌, ap₂, length}
use Rattle.step_table.specs.declared.list_place.ListPlace.{ListPlace}
use Rattle.step_table.specs.declared.list_place.ListPlace.TheVariants as on_list
use Rattle.step_table.specs.declared.list_place.ListParkedRow.TheVariants as parked
use Rattle.step_table.specs.declared.list_place.WaitRow.TheVariants as wait_row
use Rattle.step_table.specs.declared.place.Place.{Place}
use Rattle.step_table.specs.declared.place.Place.TheVariants as on_counter
use Rattle.step_table.specs.declared.place.Place.TheVariants.{Acquiring}
use Rattle.step_table.specs.declared.place.AcquireRow.TheVariants.{A3, Parked}
use Rattle.step_table.specs.declared.standing.After.{After}
use Rattle.step_table.specs.declared.standing.After.TheVariants.{Closes, LooksAgain}
use Rattle.step_table.specs.declared.standing.Ending.{Ending}
use Rattle.step_table.specs.declared.standing.Ending.TheVariants.{MayGiveUp, GaveUp}
use Rattle.step_table.specs.declared.standing.GroupRow.TheVariants.{V4}
use Rattle.step_table.specs.declared.standing.Standing.{Standing}
use Rattle.step_table.specs.declared.standing.Standing.TheVariants.{AtCounter, AtList, AtGroup, Left}
use Rattle.step_table.specs.World.{put, SeatState, seat_after}
use Rattle.step_table.specs.Steps.{can_turn, turned, moved, event_of, finds, turn}
use Rattle.step_table.specs.Counting.{total}
use Rattle.step_table.specs.ListSteps as list
use Rattle.step_table.specs.Group.{group_row}
use Rattle.step_table.specs.Core.{CoreLayout, counters_of, Core}
use Rattle.step_table.specs.CoreSteps.{after_counter, after_list, counter_row, list_row, row_of_standing, core_turned, can_run}
use Rattle.step_table.specs.CoreSteps.{may_give_up, gives_up, on_counter_row, is_asleep, leaving}
use Rattle.step_table.specs.CoreSteps.{may_give_up_on_list, gives_up_on_list, on_list_row, is_asleep_on_list, leaving_list, stands}
use Rattle.step_table.proofs.Sums.{put_here, put_else, owned}
use Rattle.step_law_whole.specs.CoreLaw.{IsStanding, IsCoreInvariant, AllInReach, IsCallBefore}
use Rattle.step_law_lists.proofs.ListKeeping.{list_reached}
use Rattle.step_law_whole.specs.ListWeight.{list_weight, list_place_weight}
use Rattle.step_law_whole.specs.CoreWeight.{core_weight, counts_on, WaitsCounted, looking_weight, beside_weight}
use Rattle.step_law_whole.proofs.SeatSums.{all_but, put_change}
use Rattle.step_law_semaphores.proofs.Promises.{kept as sema_kept}
use Rattle.step_law_whole.proofs.GroupUnits as units
use Rattle.step_law_whole.proofs.SemaWeights as semaphores
use Rattle.step_law_whole.proofs.ListWeights as lists
use Rattle.step_law_whole.proofs.CoreWeights.{stands_at, stands_weight, on_counters, at_counter_weight, goes_on_weight, moved_weight, on_list, closes_weight, beside, beside_change}
use Rattle.step_table.specs.declared.place.ParkedRow.TheVariants.{P, D2, D3}
use Rattle.step_law_whole.specs.SemaWeight.{asleep_weight, place_weight, stale, weight}
use Rattle.step_law_whole.proofs.GroupBeside.{leads_beside, unset}
use Rattle.step_law_whole.proofs.CoreRows.{IsNoD2, no_d2}
use Rattle.step_table.specs.declared.call.GivingUp.{GivingUp}
use Rattle.step_table.specs.declared.place.Acquire.{Acquire}
use Rattle.step_law_whole.proofs.GroupSeats.{gone}
use Rattle.step_law_whole.proofs.LeaverRows.{LeaverRow, looks, withdraws, leaves, remains, leaver_row}
use Rattle.step_law_whole.proofs.GroupFalling.{counts_one, group_falls, group_turned}
use Rattle.step_law_semaphores.specs.Invariant.{IsInvariant}
use Rattle.step_law_semaphores.specs.Lawful.{IsGrantOf}

module _ (m : CoreLayout) (i : ℕ) (in_range : i < m.seats) where
  looking_most : (st : Standing) (p : Place) → looking_weight st p ≤ 1
  looking_most (AtCounter (LooksAgain g (GaveUp how))) (Acquiring a (Parked u D2)) = omega arith
  looking_most _ _ = omega arith

  looks_no_more : (st : Standing) (p : Place) → IsNoD2 p → looking_weight st p ≡ 0
  looks_no_more (AtCounter (LooksAgain g (GaveUp how))) (Acquiring a (Parked u D2)) never = absurd never
  looks_no_more _ _ never = refl

  module _ (s : Core) (inv : IsCoreInvariant m s) (reach : AllInReach s) (counted : WaitsCounted m s) where
    -- a row on a counter
    counter_turned : (after : After) → s.standing i ≡ AtCounter after → IsCallBefore m after (s.semaphores.seats i).place
        → IsTrue (can_turn m.root s.semaphores i) → core_weight m (on_counter_row m s i after) < core_weight m s
    counter_turned after at is can = by after at is (s.semaphores.seats i).place refl (t.semaphores.seats i).place refl
      where
        t : Core
        t = counter_row m s i

        z : SeatState
        z =
            let e = event_of s.semaphores i in let v = finds m.root s.semaphores i in seat_after (e.leads v).1 (e.leads v).0 (s.semaphores.seats i)

        -- what the seat weighs beside it
        beside_now : total m.seats (λ k. beside_weight m.seats s.groups (s.standing k) (t.semaphores.seats k).place)
            + beside m i in_range s ≡ total m.seats (λ k. beside_weight m.seats s.groups (s.standing k) (s.semaphores.seats k).place)
            + stands_at m i in_range s.groups (s.standing i) (t.semaphores.seats i).place
        beside_now =
            beside_change m i in_range s.groups s.standing s.standing s.semaphores.seats (put s.semaphores.seats i z) (λ k ne. refl)
            (put_else s.semaphores.seats i z)

        less : core_weight m t < core_weight m s
        less =
            let falls = semaphores.lowered (counters_of m) s.semaphores (turned m.root s.semaphores i) i in_range inv.semaphores
            (record { can = can; is = refl }) in
            let change = beside_now in
            let looks : looking_weight (s.standing i) (t.semaphores.seats i).place ≡ 0
            = looks_no_more (s.standing i) (t.semaphores.seats i).place
            (subst IsNoD2 (sym (ap (λ (z : SeatState). z.place) (put_here s.semaphores.seats i z)))
            (no_d2 i (s.semaphores.seats i) s.semaphores.words.lists (finds m.root s.semaphores i) (s.semaphores.seats i).place)) in omega arith

        -- the weight of the counters where a row changes no number and no grant
        only_moved : t.semaphores.words.numbers ≡ s.semaphores.words.numbers → t.semaphores.words.grants ≡ s.semaphores.words.grants
            → weight (counters_of m) t.semaphores + on_counters m i in_range s.semaphores (s.semaphores.seats i).place
            ≡ weight (counters_of m) s.semaphores
            + (place_weight m.seats z.place (length z.hand) (t.semaphores.words.grants i) + stale s.semaphores.words.numbers z.place)
        only_moved numbers grants =
            ap (λ numbers. total m.seats (λ k. place_weight m.seats (t.semaphores.seats k).place (length (t.semaphores.seats k).hand)
            (t.semaphores.words.grants k) + stale numbers (t.semaphores.seats k).place)
            + on_counters m i in_range s.semaphores (s.semaphores.seats i).place) numbers
            ∙ owned (λ k seat grant. place_weight m.seats seat.place (length seat.hand) grant + stale s.semaphores.words.numbers seat.place) m.seats
            s.semaphores.seats s.semaphores.words.grants t.semaphores.words.grants i z in_range (λ k ne. ap (λ (f : ℕ → ℕ). f k) grants)

        -- a wait that gave up goes to its group's word
        goes_to_look : (g : ℕ) (how : GivingUp) → s.standing i ≡ AtCounter (LooksAgain g (GaveUp how)) → (a : Acquire) (u : ℕ)
            → (t.semaphores.seats i).place ≡ Acquiring a (Parked u D3) → (b : Acquire) (v : ℕ) → (s.semaphores.seats i).place ≡ Acquiring b (Parked v D2)
            → core_weight m (stands t i (AtGroup g (V4 how))) < core_weight m s
        goes_to_look g how stand a u here b v stood =
            let numbers : t.semaphores.words.numbers ≡ s.semaphores.words.numbers
            = ap (λ p. (units.after m.root i (s.semaphores.seats i) s.semaphores.words p).numbers) stood in
            let grants : t.semaphores.words.grants ≡ s.semaphores.words.grants
            = ap (λ p. (units.after m.root i (s.semaphores.seats i) s.semaphores.words p).grants) stood in
            let kept : IsInvariant (counters_of m) t.semaphores
            = sema_kept (counters_of m) s.semaphores t.semaphores i in_range inv.semaphores (turn (record { can = can; is = refl })) in
            let unset : t.semaphores.words.grants i ≡ 0
            = let none = subst (λ p. IsGrantOf p (t.semaphores.words.grants i)) here (kept.seats i).granted in omega arith in
            let asleep = ap (asleep_weight m.seats) unset in
            let slept = ap (λ (f : ℕ → ℕ). asleep_weight m.seats (f i)) grants in
            let moved_on = only_moved numbers grants in
            let was = ap (on_counters m i in_range s.semaphores) stood in
            let place_now = sym (ap (λ (z : SeatState). z.place) (put_here s.semaphores.seats i z)) ∙ here in
            let is = ap (λ p. place_weight m.seats p (length z.hand) (t.semaphores.words.grants i) + stale s.semaphores.words.numbers p) place_now in
            let change = beside_now in
            let beside_before = ap₂ (λ st p. stands_at m i in_range s.groups st p) stand stood in
            let beside_after = ap₂ (λ st p. stands_at m i in_range s.groups st p) stand here in
            let all = stands_weight m i in_range t (AtGroup g (V4 how)) in omega arith

        comes_from : (g : ℕ) (how : GivingUp) → s.standing i ≡ AtCounter (LooksAgain g (GaveUp how)) → (a : Acquire) (u : ℕ)
            → (t.semaphores.seats i).place ≡ Acquiring a (Parked u D3) → (before : Place) → (s.semaphores.seats i).place ≡ before
            → IsCallBefore m (LooksAgain g (GaveUp how)) before → core_weight m (stands t i (AtGroup g (V4 how))) < core_weight m s
        comes_from g how stand a u here before stood is = by (leaver_row m g how i (s.semaphores.seats i) s.semaphores.words before is) stood led_to
          where
            led_to : units.place_after m.root i (s.semaphores.seats i) s.semaphores.words before ≡ Acquiring a (Parked u D3)
            led_to =
                sym (ap (λ (z : SeatState). z.place) (put_here s.semaphores.seats i z)
                ∙ ap (units.place_after m.root i (s.semaphores.seats i) s.semaphores.words) stood) ∙ here

            by : {p q : Place} → LeaverRow p q → (s.semaphores.seats i).place ≡ p → q ≡ Acquiring a (Parked u D3)
                → core_weight m (stands t i (AtGroup g (V4 how))) < core_weight m s
            by (looks {a = b} {u = v}) stood led = goes_to_look g how stand a u here b v stood
            by (withdraws {a = b}) stood led = absurd cc
            by leaves stood led = absurd cc
            by (remains {q = q} begins goes) stood led = absurd (let e = ap gone led in omega arith)

        by : (after : After) → s.standing i ≡ AtCounter after → IsCallBefore m after (s.semaphores.seats i).place → (before : Place)
            → (s.semaphores.seats i).place ≡ before → (p : Place)
            → (t.semaphores.seats i).place ≡ p → core_weight m (after_counter m t i after before p) < core_weight m s
        by after at is before stood on_counter.Rest here = let same = goes_on_weight m i in_range t after before at here in let l = less in omega arith
        by (Closes (GaveUp how)) at is before stood (on_counter.Acquiring a A3) here =
            let moves = moved_weight m i in_range t on_counter.Rest in
            let all = stands_weight m i in_range (record t { semaphores = moved t.semaphores i on_counter.Rest }) (Left how.skips) in
            let weighed = ap (λ st. stands_at m i in_range s.groups st (t.semaphores.seats i).place) at in
            let after = ap (λ st. stands_at m i in_range s.groups st on_counter.Rest) at in
            let l = less in omega arith
        by (LooksAgain g (GaveUp how)) at is before stood (on_counter.Acquiring a (Parked u D3)) here =
            comes_from g how at a u here before stood (subst (IsCallBefore m (LooksAgain g (GaveUp how))) stood is)
        by after at is before stood p here = less

    leaves_more : (p : Place) (b : Bool) → is_asleep p && b ≡ true
        → on_counters m i in_range s.semaphores (leaving p) ≡ on_counters m i in_range s.semaphores p + 2
    leaves_more (on_counter.Acquiring a (Parked t P)) b may = omega arith
    leaves_more p b may = absurd cc

    -- the seat gives up
    given_up_weighs : (after : After) → s.standing i ≡ AtCounter after → may_give_up s.semaphores i after ≡ true
        → core_weight m (gives_up s i after) < core_weight m s
    given_up_weighs (Closes (MayGiveUp how)) at may =
        let p = (s.semaphores.seats i).place in
        let all = at_counter_weight m i in_range s (leaving p) (Closes (GaveUp how)) in
        let before = ap (λ st. stands_at m i in_range s.groups st p) at in
        let more = leaves_more p _ may in omega arith
    given_up_weighs (LooksAgain g (MayGiveUp how)) at may =
        let p = (s.semaphores.seats i).place in
        let all = at_counter_weight m i in_range s (leaving p) (LooksAgain g (GaveUp how)) in
        let before = ap (λ st. stands_at m i in_range s.groups st p) at in
        let looks = looking_most (AtCounter (LooksAgain g (GaveUp how))) (leaving p) in
        let more = leaves_more p _ may in omega arith
    given_up_weighs _ at may = absurd cc

    -- a row on a list
    list_turned : (l : ℕ) (ending : Ending) → s.standing i ≡ AtList l ending → l < m.lists → IsTrue (list.can_turn (s.lists l) i)
        → core_weight m (on_list_row s i l ending) < core_weight m s
    list_turned l ending at there can = by ((s.lists l).seats i).place ((t.lists l).seats i).place refl
      where
        t : Core
        t = list_row s i l

        less : core_weight m t < core_weight m s
        less =
            let falls = lists.lowered (m.firsts l) m.seats (s.lists l) (list.turned (s.lists l) i) i in_range
            (list_reached (m.firsts l) m.seats (s.lists l) (reach l) (inv.lists l)) (record { can = can; is = refl }) in
            let all = put_change m.lists (list_weight m.seats) s.lists l (list.turned (s.lists l) i) there in omega arith

        by : (before p : ListPlace) → ((t.lists l).seats i).place ≡ p → core_weight m (after_list t i l ending before p) < core_weight m s
        by before on_list.Rest here = let same = closes_weight m i in_range t l ending before at here in let falls = less in omega arith
        by before p here = less

    -- the seat gives up
    given_up_on_list : (l : ℕ) (ending : Ending) → s.standing i ≡ AtList l ending → may_give_up_on_list (s.lists l) i ending ≡ true
        → core_weight m (gives_up_on_list s i l ending) < core_weight m s
    given_up_on_list l (MayGiveUp how) at may =
        let p : ListPlace = ((s.lists l).seats i).place in
        let more = leaves_more p ((s.lists l).words.grants i) _ may in
        let all = on_list m i in_range s l (GaveUp how) (record ((s.lists l).seats i) { place = leaving_list p }) 2 (omega arith) in
        let before = ap (λ st. stands_at m i in_range s.groups st (s.semaphores.seats i).place) at in omega arith
      where
        leaves_more : (p : ListPlace) (grant : ℕ) (b : Bool) → is_asleep_on_list p && b ≡ true
            → list_place_weight (leaving_list p) grant ≡ list_place_weight p grant + 2
        leaves_more (on_list.Waiting t (wait_row.Parked parked.P)) grant b may = omega arith
        leaves_more p grant b may = absurd cc
    given_up_on_list l _ at may = absurd cc

    row_lowers : (standing : Standing) → s.standing i ≡ standing → IsStanding m s i standing → IsTrue (can_run m s i standing)
        → core_weight m (row_of_standing m s i standing) < core_weight m s
    row_lowers (AtCounter after) at is can = by (may_give_up s.semaphores i after) refl can
      where
        by : (b : Bool) → may_give_up s.semaphores i after ≡ b → IsTrue (b || can_turn m.root s.semaphores i)
            → core_weight m (if b then gives_up s i after else on_counter_row m s i after) < core_weight m s
        by true may can = given_up_weighs after at may
        by false may can = counter_turned after at is.0 can
    row_lowers (AtList l ending) at is can = by (may_give_up_on_list (s.lists l) i ending) refl can
      where
        by : (b : Bool) → may_give_up_on_list (s.lists l) i ending ≡ b → IsTrue (b || list.can_turn (s.lists l) i)
            → core_weight m (if b then gives_up_on_list s i l ending else on_list_row s i l ending) < core_weight m s
        by true may can = given_up_on_list l ending at may
        by false may can = list_turned l ending at is.2 can
    row_lowers (AtGroup g row) at is can =
        let p = (s.semaphores.seats i).place in
        let all = all_but m.seats 1 (λ k. counts_on g (s.standing k) (s.semaphores.seats k).place) i in_range
        (λ k h. counts_one g (s.standing k) (s.semaphores.seats k).place) in
        let own = ap (λ st. counts_on g st p) at in
        let count = counted g in
        group_turned m i in_range s g row at (group_row row (s.groups g)).0 (group_row row (s.groups g)).1 (leads_beside m g row (s.groups g) p is.0)
        (unset m g row p (s.semaphores.words.grants i) is.0 (inv.semaphores.seats i).granted)
        (group_falls m.seats g s.groups (omega arith) row p (omega arith))
    row_lowers _ at is can = absurd cc

pub core_lowered : (m : CoreLayout) (s : Core) (i : ℕ) → i < m.seats → AllInReach s → IsCoreInvariant m s → WaitsCounted m s
    → IsTrue (can_run m s i (s.standing i)) → core_weight m (core_turned m s i) < core_weight m s
core_lowered m s i in_range reach inv counted can = row_lowers m i in_range s inv reach counted (s.standing i) refl (inv.standing i) can
