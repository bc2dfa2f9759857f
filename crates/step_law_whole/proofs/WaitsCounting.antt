-- No word of a group counts more waits than there are seats whose wait was counted and hasn't ended, those that failed among them.
use Rattle.std.proofs.Common.{◌≡◌, ℕ, zero, suc, ◌<◌, ◌≤◌, if◌then◌else◌, Bool, true, false}
use Rattle.std.proofs.Common.{refl, sym, ap, subst, inl, inr, arith, ◌&&◌, ap₂, ◌∙◌}
use native.Mathlib.Decide.{ℕ_discrete}
use Rattle.step_table.specs.declared.call.Call.{Call}
use Rattle.step_table.specs.declared.call.Late.{Late}
use Rattle.step_table.specs.declared.call.GivingUp.{GivingUp}
use Rattle.step_table.specs.declared.call.Call.TheVariants.{Acquire, Release, ReleaseMany, Add, Wait, One, All, GroupAdd, GroupWait, AcquireOrLeave, WaitOrLeave, GroupWaitOrLeave}
use Rattle.step_table.specs.declared.group_word.GroupWord.{GroupWord}
use Rattle.step_table.specs.declared.list_place.ListPlace.{ListPlace}
use Rattle.step_table.specs.declared.list_place.ListPlace.TheVariants as on_list
use Rattle.step_table.specs.declared.list_place.WaitRow.TheVariants.{E4}
use Rattle.step_table.specs.declared.place.Place.{Place}
use Rattle.step_table.specs.declared.place.Place.TheVariants as on_counter
use Rattle.step_table.specs.declared.place.Place.TheVariants.{Releasing}
use Rattle.step_table.specs.declared.place.ReleaseRow.TheVariants.{R1}
use Rattle.step_table.specs.declared.standing.After.{After}
use Rattle.step_table.specs.declared.standing.After.TheVariants.{Closes, LooksAgain, Releases}
use Rattle.step_table.specs.declared.standing.Ending.{Ending}
use Rattle.step_table.specs.declared.standing.Ending.TheVariants.{NextCall, MayGiveUp, GaveUp, GivesBack}
use Rattle.step_table.specs.declared.standing.GroupNext.{GroupNext}
use Rattle.step_table.specs.declared.standing.GroupRow.{GroupRow}
use Rattle.step_table.specs.declared.standing.GroupRow.TheVariants.{V3, V4}
use Rattle.step_table.specs.declared.standing.Standing.{Standing}
use Rattle.step_table.specs.declared.standing.Standing.TheVariants.{Rest, AtCounter, AtList, AtGroup, Failed, Left}
use Rattle.step_table.specs.World.{put, SeatState}
use Rattle.step_table.specs.Counting.{on, total, counter_at}
use Rattle.step_table.specs.Group.{group_row}
use Rattle.step_table.specs.Core.{CoreLayout, Core, first_core, semaphore}
use Rattle.step_table.specs.CoreSteps.{calls, after_counter, after_list, after_group, counter_row, list_row, row_of_standing, core_turned}
use Rattle.step_table.specs.CoreSteps.{comes_late_on_list, closes_on_list, may_give_up_on_list, gives_up_on_list, on_list_row}
use Rattle.step_table.specs.CoreSteps.{comes_late, ends_given_up, may_give_up, gives_up, given_up, on_counter_row, stands, closes, releases, at_counter, leaving, is_asleep}
use Rattle.step_table.proofs.Sums.{put_here, put_else, total_change}
use Rattle.step_law_whole.specs.CoreWeight.{counts_on, WaitsCounted}
use Rattle.step_law_whole.proofs.GroupUnits as units
use Rattle.step_table.specs.declared.call.Late.TheVariants.{Kept, GivenBack}
use Rattle.step_table.specs.declared.place.AcquireRow.TheVariants.{A3, D4, Parked}
use Rattle.step_table.specs.declared.place.ParkedRow.TheVariants.{P, D3}
use Rattle.step_table.specs.Steps.{moved}
use Rattle.step_law_whole.specs.CoreLaw.{IsCallBefore, IsBesideGroup, IsStanding}
use Rattle.step_law_whole.specs.Misused.{has_left}
use Rattle.step_law_whole.proofs.GroupSeats.{gone, StillElse}
use Rattle.step_law_whole.proofs.GroupAfter.{IsNoLeaver}
use Rattle.step_law_whole.proofs.GroupLeads.{place_of, standing_of, groups_same, place_is, standing_is, still_else}
use Rattle.step_law_whole.proofs.LeaverRows.{LeaverRow, looks, withdraws, leaves, remains, leaver_row}
use Rattle.step_law_whole.proofs.WaitsFitting.{Fits, row_fits, elsewhere, counts_most, not_left, IsOffGroups, count_of}
use Rattle.step_law_whole.proofs.GroupSteps.{call_words}

module _ (m : CoreLayout) (i : ℕ) (in_range : i < m.seats) where
  -- a step of seat i
  goes : (s t : Core) → StillElse i s t → WaitsCounted m s
      → ((g : ℕ) → Fits (count_of g s i) (count_of g t i) (s.groups g).waits (t.groups g).waits) → WaitsCounted m t
  goes s t still counted fits g = by (fits g)
    where
      by : Fits (count_of g s i) (count_of g t i) (s.groups g).waits (t.groups g).waits → (t.groups g).waits ≤ total m.seats (λ k. count_of g t k)
      by (inl none) = omega arith
      by (inr most) =
          let all = total_change m.seats (λ k. count_of g s k) (λ k. count_of g t k) i in_range (λ k ne. ap₂ (counts_on g) (still k ne).1 (still k ne).0) in
          let before = counted g in omega arith

  -- where it counts no less, and the words stay
  stays : (s t : Core) → StillElse i s t → t.groups ≡ s.groups → WaitsCounted m s → ((g : ℕ) → count_of g s i ≤ count_of g t i) → WaitsCounted m t
  stays s t still words counted most =
      goes s t still counted (λ g. inr (let x = most g in let same = ap (λ (f : ℕ → GroupWord). (f g).waits) words in omega arith))

  stands_else : (s : Core) (st : Standing) → StillElse i s (stands s i st)
  stands_else s st k ne = (refl, put_else s.standing i st k ne)

  at_counter_else : (s : Core) (q : Place) (after : After) → StillElse i s (at_counter s i q after)
  at_counter_else s q after k ne = (
    ap (λ (z : SeatState). z.place) (put_else s.semaphores.seats i (record (s.semaphores.seats i) { place = q }) k ne),
    put_else s.standing i (AtCounter after) k ne,
  )

  -- who counts on no group may go anywhere
  uncounted : (s t : Core) → StillElse i s t → t.groups ≡ s.groups → ((g : ℕ) → count_of g s i ≡ 0) → WaitsCounted m s → WaitsCounted m t
  uncounted s t still words none counted = stays s t still words counted (λ g. let before = none g in omega arith)

  uncounted_stands : (s : Core) (st : Standing) → ((g : ℕ) → count_of g s i ≡ 0) → WaitsCounted m s → WaitsCounted m (stands s i st)
  uncounted_stands s st none counted = uncounted s (stands s i st) (stands_else s st) refl none counted

  uncounted_goes : (s : Core) (q : Place) (after : After) → ((g : ℕ) → count_of g s i ≡ 0) → WaitsCounted m s
      → WaitsCounted m (at_counter s i q after)
  uncounted_goes s q after none counted = uncounted s (at_counter s i q after) (at_counter_else s q after) refl none counted

  late_counted : (s : Core) (c skips : ℕ) (late : Late) → ((g : ℕ) → count_of g s i ≡ 0) → WaitsCounted m s
      → WaitsCounted m (comes_late s i c skips late)
  late_counted s c skips Kept none counted = uncounted_stands s Rest none counted
  late_counted s c skips GivenBack none counted =
      uncounted_goes s (Releasing (record { counter = c; handoff = false }) R1) (Closes (GivesBack skips)) none counted

  ends_counted : (s : Core) (how : GivingUp) (before : Place) → ((g : ℕ) → count_of g s i ≡ 0) → WaitsCounted m s
      → WaitsCounted m (ends_given_up s i how before)
  ends_counted s how (on_counter.Acquiring a D4) none counted = uncounted_stands s (Left how.skips) none counted
  ends_counted s how before none counted = late_counted s (counter_at before) how.skips how.late none counted

  closes_counted : (s : Core) (ending : Ending) (before : Place) → ((g : ℕ) → count_of g s i ≡ 0) → WaitsCounted m s
      → WaitsCounted m (closes s i ending before)
  closes_counted s NextCall p none counted = uncounted_stands s Rest none counted
  closes_counted s (MayGiveUp how) p none counted = uncounted_stands s Rest none counted
  closes_counted s (GaveUp how) p none counted = ends_counted s how p none counted
  closes_counted s (GivesBack skips) p none counted = uncounted_stands s (Left skips) none counted

  releases_counted : (s : Core) (h more : ℕ) → ((g : ℕ) → count_of g s i ≡ 0) → WaitsCounted m s → WaitsCounted m (releases m s i h more)
  releases_counted s h zero none counted = uncounted_stands s Rest none counted
  releases_counted s h (suc more) none counted =
      uncounted_goes s (Releasing (record { counter = semaphore m h; handoff = false }) R1) (Releases h more) none counted

  -- after a call that is on no group
  off_counted : (s : Core) (after : After) (before p : Place) → IsOffGroups after → s.standing i ≡ AtCounter after → WaitsCounted m s
      → WaitsCounted m (after_counter m s i after before p)
  off_counted s (Closes ending) before on_counter.Rest off at counted =
      closes_counted s ending before (λ g. ap (λ st. counts_on g st (s.semaphores.seats i).place) at) counted
  off_counted s (Releases h more) before on_counter.Rest off at counted =
      releases_counted s h more (λ g. ap (λ st. counts_on g st (s.semaphores.seats i).place) at) counted
  off_counted s (Closes (GaveUp how)) before (on_counter.Acquiring a A3) off at counted =
      uncounted s (stands (record s { semaphores = moved s.semaphores i on_counter.Rest }) i (Left how.skips)) (λ k ne. (
        ap (λ (z : SeatState). z.place) (put_else s.semaphores.seats i (record (s.semaphores.seats i) { place = on_counter.Rest }) k ne),
        put_else s.standing i (Left how.skips) k ne,
      )) refl (λ g. ap (λ st. counts_on g st (s.semaphores.seats i).place) at) counted
  off_counted s (LooksAgain h ending) before p off at counted = absurd off
  off_counted s after before p off at counted = counted

  -- who was on a list counts on no group
  off_groups : (s t : Core) (l : ℕ) (ending : Ending) → s.standing i ≡ AtList l ending → StillElse i s t → t.groups ≡ s.groups
      → WaitsCounted m s → WaitsCounted m t
  off_groups s t l ending at still words counted =
      uncounted s t still words (λ g. ap (λ st. counts_on g st (s.semaphores.seats i).place) at) counted

  late_on_list_counted : (s : Core) (l : ℕ) (ending : Ending) (skips : ℕ) (late : Late) → s.standing i ≡ AtList l ending
      → WaitsCounted m s → WaitsCounted m (comes_late_on_list s i l skips late)
  late_on_list_counted s l ending skips Kept at counted = off_groups s (stands s i Rest) l ending at (stands_else s Rest) refl counted
  late_on_list_counted s l ending skips GivenBack at counted =
      off_groups s (comes_late_on_list s i l skips GivenBack) l ending at (λ k ne. (refl, put_else s.standing i (AtList l (GivesBack skips)) k ne)) refl counted

  closes_on_list_counted : (s : Core) (l : ℕ) (ending : Ending) (before : ListPlace) → s.standing i ≡ AtList l ending → WaitsCounted m s
      → WaitsCounted m (closes_on_list s i l ending before)
  closes_on_list_counted s l NextCall p at counted = off_groups s (stands s i Rest) l NextCall at (stands_else s Rest) refl counted
  closes_on_list_counted s l (MayGiveUp how) p at counted = off_groups s (stands s i Rest) l (MayGiveUp how) at (stands_else s Rest) refl counted
  closes_on_list_counted s l (GaveUp how) (on_list.Waiting t E4) at counted =
      off_groups s (stands s i (Left how.skips)) l (GaveUp how) at (stands_else s (Left how.skips)) refl counted
  closes_on_list_counted s l (GaveUp how) p at counted = late_on_list_counted s l (GaveUp how) how.skips how.late at counted
  closes_on_list_counted s l (GivesBack skips) p at counted = off_groups s (stands s i (Left skips)) l (GivesBack skips) at (stands_else s (Left skips)) refl counted

  after_list_counted : (s : Core) (l : ℕ) (ending : Ending) (before p : ListPlace) → s.standing i ≡ AtList l ending → WaitsCounted m s
      → WaitsCounted m (after_list s i l ending before p)
  after_list_counted s l ending before on_list.Rest at counted = closes_on_list_counted s l ending before at counted
  after_list_counted s l ending before p at counted = counted

  group_counted : (s : Core) (g : ℕ) (row : GroupRow) → s.standing i ≡ AtGroup g row → IsBesideGroup m g row (s.semaphores.seats i).place
      → WaitsCounted m s
      → let next : GroupWord × GroupNext = group_row row (s.groups g) in
      WaitsCounted m (after_group m (record s { groups = put s.groups g next.0 }) i g next.1)
  group_counted s g row at beside counted = goes s t (still_else m between i g next.1) counted (λ h. subst (Has h) (sym words) (fits h))
    where
      next : GroupWord × GroupNext
      next = group_row row (s.groups g)

      p : Place
      p = (s.semaphores.seats i).place

      between : Core
      between = record s { groups = put s.groups g next.0 }

      t : Core
      t = after_group m between i g next.1

      words : t.groups ≡ put s.groups g next.0
      words = groups_same m between i g next.1

      Has : ℕ → (ℕ → GroupWord) → Type 0
      Has h groups = Fits (count_of h s i) (count_of h t i) (s.groups h).waits (groups h).waits

      led : (h : ℕ) → count_of h t i ≡ counts_on h (standing_of g next.1) (place_of m g p next.1)
      led h = ap₂ (counts_on h) (standing_is m between i g next.1) (place_is m between i g next.1)

      fits : (h : ℕ) → Has h (put s.groups g next.0)
      fits h = rw (ap (λ st. counts_on h st p) at, led h) (by (ℕ_discrete h g))
        where
          Now : ℕ → GroupWord → Type 0
          Now h w = Fits (counts_on h (AtGroup g row) p) (counts_on h (standing_of g next.1) (place_of m g p next.1)) (s.groups h).waits w.waits

          by : Dec (h ≡ g) → Now h (put s.groups g next.0 h)
          by (yes e) = subst (λ h. Now h (put s.groups g next.0 h)) (sym e) (rw (put_here s.groups g next.0) (row_fits m g (s.groups g) p row beside))
          by (no ne) = rw (put_else s.groups g next.0 h ne) (inr (let most = elsewhere m g (s.groups g) p h row (counts_on h (standing_of g next.1) (place_of m g p next.1)) ne in omega arith))

  -- a row on a counter, and what comes after it
  module _ (s : Core) (counted : WaitsCounted m s) where
    abbrev row : Core
    row = counter_row m s i

    abbrev led_from : Place → Place
    led_from p = units.place_after m.root i (s.semaphores.seats i) s.semaphores.words p

    row_else : StillElse i s row
    row_else k ne = (ap (λ (z : SeatState). z.place) (put_else s.semaphores.seats i _ k ne), refl)

    now : (p : Place) → (s.semaphores.seats i).place ≡ p → (row.semaphores.seats i).place ≡ led_from p
    now p at = ap (λ (z : SeatState). z.place) (put_here s.semaphores.seats i _) ∙ ap led_from at

    row_stays : ((g : ℕ) → count_of g s i ≤ count_of g row i) → WaitsCounted m row
    row_stays most = stays s row row_else refl counted most

    then_stands : (st : Standing) → ((g : ℕ) → count_of g s i ≤ counts_on g st (row.semaphores.seats i).place) → WaitsCounted m (stands row i st)
    then_stands st most =
        stays s (stands row i st) (λ k ne. ((row_else k ne).0, put_else s.standing i st k ne)) refl counted
        (λ g. let x = most g in let here = ap (λ st. counts_on g st (row.semaphores.seats i).place) (put_here s.standing i st) in omega arith)

    -- a wait on a group counts wherever it stands, but where it has left
    module _ (h : ℕ) (ending : Ending) (stand : s.standing i ≡ AtCounter (LooksAgain h ending)) where
      abbrev after : After
      after = LooksAgain h ending

      was : (g : ℕ) (p : Place) → (s.semaphores.seats i).place ≡ p → count_of g s i ≡ counts_on g (AtCounter after) p
      was g p at = ap₂ (counts_on g) stand at

      is_now : (g : ℕ) (q : Place) → (row.semaphores.seats i).place ≡ q → count_of g row i ≡ counts_on g (AtCounter after) q
      is_now g q at = ap₂ (counts_on g) stand at

      at_most : (g : ℕ) → count_of g s i ≤ on h g 1
      at_most g = let same = was g (s.semaphores.seats i).place refl in let most = counts_most g h ending (s.semaphores.seats i).place in omega arith

      looks_again : WaitsCounted m (stands row i (AtGroup h (V3 ending)))
      looks_again = then_stands (AtGroup h (V3 ending)) at_most

      still_counts : (q : Place) → (row.semaphores.seats i).place ≡ q → has_left ending q ≡ false → WaitsCounted m row
      still_counts q at stays =
          row_stays
          (λ g. let most = at_most g in let here = is_now g q at in let whole = ap (λ b. if b then 0 else on h g 1) stays in omega arith)

    -- one that doesn't give up
    looker : (h : ℕ) (ending : Ending) → s.standing i ≡ AtCounter (LooksAgain h ending) → IsNoLeaver (LooksAgain h ending)
        → ((p : Place) → has_left ending p ≡ false) → (p q : Place) → (row.semaphores.seats i).place ≡ q
        → WaitsCounted m (after_counter m row i (LooksAgain h ending) p q)
    looker h NextCall stand one never p on_counter.Rest at = looks_again h NextCall stand
    looker h (MayGiveUp how) stand one never p on_counter.Rest at = looks_again h (MayGiveUp how) stand
    looker h (GivesBack skips) stand one never p on_counter.Rest at = looks_again h (GivesBack skips) stand
    looker h (GaveUp how) stand one never p q at = absurd one
    looker h ending stand one never p q at = still_counts h ending stand q at (never q)

    -- one that has given up
    module _ (h : ℕ) (how : GivingUp) (stand : s.standing i ≡ AtCounter (LooksAgain h (GaveUp how))) where
      abbrev gave_up : After
      gave_up = LooksAgain h (GaveUp how)

      abbrev Has : Place → Place → Type 0
      Has p q = WaitsCounted m (after_counter m row i gave_up p q)

      finish : (p q : Place) → gone p ≡ 0 → gone q ≡ 0 → (row.semaphores.seats i).place ≡ q → Has p q
      finish (on_counter.Acquiring a D4) on_counter.Rest stood goes at = absurd (omega arith)
      finish _ on_counter.Rest stood goes at = looks_again h (GaveUp how) stand
      finish p (on_counter.Acquiring a (Parked u D3)) stood goes at = absurd (omega arith)
      finish p q stood goes at = still_counts h (GaveUp how) stand q at (not_left how q goes)

      uncounted_at : (p : Place) → (s.semaphores.seats i).place ≡ p → has_left (GaveUp how) p ≡ true → (g : ℕ) → count_of g s i ≡ 0
      uncounted_at p at left g = was h (GaveUp how) stand g p at ∙ ap (λ b. if b then 0 else on h g 1) left

      leaver : {p q : Place} → LeaverRow p q → (s.semaphores.seats i).place ≡ p → led_from p ≡ q → Has p q
      leaver looks at leads = then_stands (AtGroup h (V4 how)) (at_most h (GaveUp how) stand)
      leaver (withdraws {a = a} {u = u}) at leads =
          row_stays (λ g. let none = uncounted_at (on_counter.Acquiring a (Parked u D3)) at refl g in omega arith)
      leaver (leaves {a = a}) at leads =
          then_stands (Left how.skips) (λ g. let none = uncounted_at (on_counter.Acquiring a D4) at refl g in omega arith)
      leaver (remains {p = p} {q = q} stood goes) at leads = finish p q stood goes (now p at ∙ leads)

      leaver_counted : IsCallBefore m gave_up (s.semaphores.seats i).place → WaitsCounted m (on_counter_row m s i gave_up)
      leaver_counted is =
          let p = (s.semaphores.seats i).place in
          subst (Has p) (sym (now p refl)) (leaver (leaver_row m h how i (s.semaphores.seats i) s.semaphores.words p is) refl refl)

    by_after : (after : After) → s.standing i ≡ AtCounter after → IsCallBefore m after (s.semaphores.seats i).place
        → WaitsCounted m (on_counter_row m s i after)
    by_after (LooksAgain h (GaveUp how)) stand is = leaver_counted h how stand is
    by_after (LooksAgain h NextCall) stand is = looker h NextCall stand tt (λ p. refl) (s.semaphores.seats i).place (row.semaphores.seats i).place refl
    by_after (LooksAgain h (MayGiveUp how)) stand is = looker h (MayGiveUp how) stand tt (λ p. refl) (s.semaphores.seats i).place (row.semaphores.seats i).place refl
    by_after (LooksAgain h (GivesBack skips)) stand is = looker h (GivesBack skips) stand tt (λ p. refl) (s.semaphores.seats i).place (row.semaphores.seats i).place refl
    by_after (Closes ending) stand is =
        off_counted row (Closes ending) (s.semaphores.seats i).place (row.semaphores.seats i).place tt stand (row_stays (λ g. let none = ap (λ st. counts_on g st (s.semaphores.seats i).place) stand in omega arith))
    by_after (Releases h more) stand is =
        off_counted row (Releases h more) (s.semaphores.seats i).place (row.semaphores.seats i).place tt stand (row_stays (λ g. let none = ap (λ st. counts_on g st (s.semaphores.seats i).place) stand in omega arith))

  -- who gives up counts as before
  gives_up_counted : (s : Core) (after : After) → s.standing i ≡ AtCounter after → may_give_up s.semaphores i after ≡ true → WaitsCounted m s
      → WaitsCounted m (gives_up s i after)
  gives_up_counted s (Closes ending) at may counted =
      uncounted_goes s (leaving (s.semaphores.seats i).place) (Closes (given_up ending))
      (λ g. ap (λ st. counts_on g st (s.semaphores.seats i).place) at) counted
  gives_up_counted s (LooksAgain h (MayGiveUp how)) at may counted =
      stays s (at_counter s i q (LooksAgain h (GaveUp how))) (at_counter_else s q (LooksAgain h (GaveUp how))) refl counted
      (λ g. let before = ap (λ st. counts_on g st (s.semaphores.seats i).place) at in
      let here : counts_on g (put s.standing i (AtCounter (LooksAgain h (GaveUp how))) i) ((moved s.semaphores i q).seats i).place ≡ on h g 1
      = ap₂ (counts_on g) (put_here s.standing i (AtCounter (LooksAgain h (GaveUp how))))
      (ap (λ (z : SeatState). z.place) (put_here s.semaphores.seats i (record (s.semaphores.seats i) { place = q })))
      ∙ leaves (s.semaphores.seats i).place _ g may in omega arith)
    where
      q : Place
      q = leaving (s.semaphores.seats i).place

      leaves : (p : Place) (b : Bool) (g : ℕ) → is_asleep p && b ≡ true → counts_on g (AtCounter (LooksAgain h (GaveUp how))) (leaving p) ≡ on h g 1
      leaves (on_counter.Acquiring a (Parked u P)) b g may = refl
      leaves p b g may = absurd cc
  gives_up_counted s _ at may counted = absurd cc

  row_counted : (s : Core) (standing : Standing) → s.standing i ≡ standing → IsStanding m s i standing → WaitsCounted m s
      → WaitsCounted m (row_of_standing m s i standing)
  row_counted s Rest at is counted = counted
  row_counted s (AtCounter after) at is counted = by (may_give_up s.semaphores i after) refl
    where
      by : (b : Bool) → may_give_up s.semaphores i after ≡ b → WaitsCounted m (if b then gives_up s i after else on_counter_row m s i after)
      by true may = gives_up_counted s after at may counted
      by false may = by_after s counted after at is.0
  row_counted s (AtList l ending) at is counted = by (may_give_up_on_list (s.lists l) i ending)
    where
      by : (b : Bool) → WaitsCounted m (if b then gives_up_on_list s i l ending else on_list_row s i l ending)
      by true = off_groups s (gives_up_on_list s i l ending) l ending at (λ k ne. (refl, put_else s.standing i (AtList l (given_up ending)) k ne)) refl counted
      by false =
          after_list_counted (list_row s i l) l ending ((s.lists l).seats i).place (((list_row s i l).lists l).seats i).place at counted
  row_counted s (AtGroup g row) at is counted = group_counted s g row at is.0 counted
  row_counted s (Left skips) at is counted = counted
  row_counted s (Failed misuse) at is counted = counted

  -- and so does a call that the seat begins at rest
  pub calls_counted : (s : Core) (call : Call) → s.standing i ≡ Rest → WaitsCounted m s → WaitsCounted m (calls s i call)
  calls_counted s call rests counted = uncounted s (calls s i call) (still call) (words call) none counted
    where
      none : (g : ℕ) → count_of g s i ≡ 0
      none g = ap (λ st. counts_on g st (s.semaphores.seats i).place) rests

      still : (call : Call) → StillElse i s (calls s i call)
      still (Acquire c lifo) = at_counter_else s _ (Closes NextCall)
      still (AcquireOrLeave c lifo how) = at_counter_else s _ (Closes (MayGiveUp how))
      still (Release c handoff) = at_counter_else s _ (Closes NextCall)
      still (ReleaseMany c n) = at_counter_else s _ (Closes NextCall)
      still (Add l) = λ k ne. (refl, put_else s.standing i _ k ne)
      still (Wait l) = λ k ne. (refl, put_else s.standing i _ k ne)
      still (WaitOrLeave l how) = λ k ne. (refl, put_else s.standing i _ k ne)
      still (One l) = λ k ne. (refl, put_else s.standing i _ k ne)
      still (All l) = λ k ne. (refl, put_else s.standing i _ k ne)
      still (GroupAdd g d) = λ k ne. (refl, put_else s.standing i _ k ne)
      still (GroupWait g) = λ k ne. (refl, put_else s.standing i _ k ne)
      still (GroupWaitOrLeave g skips) = λ k ne. (refl, put_else s.standing i _ k ne)

      words : (call : Call) → (calls s i call).groups ≡ s.groups
      words call = call_words s i call

pub left_counted : (m : CoreLayout) (i : ℕ) → i < m.seats → (s : Core) (skips : ℕ) → s.standing i ≡ Left skips → WaitsCounted m s
    → WaitsCounted m (stands s i Rest)
left_counted m i in_range s skips at counted =
    uncounted_stands m i in_range s Rest (λ g. ap (λ st. counts_on g st (s.semaphores.seats i).place) at) counted

pub rows_counted : (m : CoreLayout) (s : Core) (i : ℕ) → i < m.seats → IsStanding m s i (s.standing i) → WaitsCounted m s
    → WaitsCounted m (core_turned m s i)
rows_counted m s i in_range stand counted = row_counted m i in_range s (s.standing i) refl stand counted

pub first_counted : (m : CoreLayout) → WaitsCounted m (first_core m)
first_counted m g = omega arith
