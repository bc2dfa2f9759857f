-- A seat that stands at L6 along a schedule ran L5 in its course, and no other row since; and so each step of a schedule grants
-- the least ungranted ticket alone, or all that were handed out when its L5 read.
use Rattle.std.proofs.Common.{◌≡◌, ◌≢◌, ℕ, zero, suc, ◌<◌, ◌⊎◌, IsTrue, Bool, true, false, ◌&&◌, ◌||◌, if◌then◌else◌, List, [], ◌∷◌, ◌++◌, Option, Some, None}
use Rattle.std.proofs.Common.{length, refl, sym, ap, ◌∙◌, subst, inl}
use Rattle.std.proofs.Common.{inr, append_assoc, append-nil, arith}
use Rattle.std.proofs.lemmas.List.Elements.{All-nil, All-push}
use native.Mathlib.Decide.{ℕ_discrete}
use Rattle.step_table.specs.declared.call.Call.{Call}
use Rattle.step_table.specs.declared.call.Call.TheVariants.{Acquire, Release, ReleaseMany, Add, Wait, One, GroupAdd, GroupWait, AcquireOrLeave, WaitOrLeave, GroupWaitOrLeave}
use Rattle.step_table.specs.declared.call.Call.TheVariants as call
use Rattle.step_table.specs.declared.list_place.AllRow.TheVariants.{L1, L5, L6}
use Rattle.step_table.specs.declared.list_place.ListPlace.{ListPlace}
use Rattle.step_table.specs.declared.list_place.ListPlace.TheVariants.{Adding, NotifyingOne, NotifyingAll}
use Rattle.step_table.specs.declared.list_place.ListPlace.TheVariants as on_list
use Rattle.step_table.specs.declared.list_place.ListParkedRow.TheVariants as parked
use Rattle.step_table.specs.declared.list_place.WaitRow.TheVariants as wait_row
use Rattle.step_table.specs.declared.list_place.OneRow.TheVariants.{O1}
use Rattle.step_table.specs.declared.list_place.Reach.{Reach}
use Rattle.step_table.specs.declared.list_place.Ticket.{Ticket}
use Rattle.step_table.specs.declared.parts.Parts.{Parts}
use Rattle.step_table.specs.declared.standing.Ending.{Ending}
use Rattle.step_table.specs.declared.standing.Ending.TheVariants.{MayGiveUp}
use Rattle.step_table.specs.declared.standing.Standing.{Standing}
use Rattle.step_table.specs.declared.standing.Standing.TheVariants.{Rest, AtCounter, AtList, AtGroup, Failed, Left}
use Rattle.step_table.specs.World.{put}
use Rattle.step_table.specs.ListWorld.{ListSeat, ListWords, ListWorld}
use Rattle.step_table.specs.ListSteps.{with_ticket}
use Rattle.step_table.specs.ListSteps as list
use Rattle.step_law_lists.specs.ListLawful.{told, holds}
use Rattle.step_table.specs.Core.{CoreLayout, Core, first_core}
use Rattle.step_table.specs.CoreSteps.{calls, can_run, list_row, row_of_standing, core_turned}
use Rattle.step_table.specs.CoreSteps.{may_give_up_on_list, gives_up_on_list, on_list_row, is_asleep_on_list, leaving_list}
use Rattle.step_law_whole.specs.CoreLaw.{IsStanding, IsOffList}
use Rattle.step_table.specs.Run.{Run, layout, begun, call_of, all_begun, start, continued, stepped, refusal, refusal_of, after_all, reached, AllRunFrom, AllRun}
use Rattle.step_table.specs.Run.{left_out}
use Rattle.step_law_whole.specs.RunInvariant.{CarriesWord, IsSoundRun, IsScenario}
use Rattle.step_law_whole.specs.RunGrants.{IsOnList, told_of, HasReadIn, StepGrants, EachStepGrantsLeast}
use Rattle.step_table.proofs.Sums.{put_here, put_else, put_at, total_has}
use Rattle.step_law_whole.proofs.CoreKeeping.{rows_keep}
use Rattle.step_law_lists.proofs.ListCases.{step_of}
use Rattle.step_law_lists.proofs.ListGranting.{read_step}
use Rattle.step_law_lists.proofs.ListLawfulness.{handed_told}
use Rattle.step_law_whole.proofs.RunCalls.{calls_else}
use Rattle.step_law_whole.proofs.RunEarly.{list_kept_so}
use Rattle.step_law_whole.proofs.RunChanges.{with_seat}
use Rattle.step_law_whole.proofs.RunGranting.{step_grants}
use Rattle.step_law_whole.proofs.RunGroups.{group_lists}
use Rattle.step_law_whole.proofs.RunRows.{row_is, at_counter_lists}
use Rattle.step_law_whole.proofs.RunSound.{is_started, is_stepped}
use Rattle.step_law_whole.proofs.RunStepping.{can_run_at, is_there}
use Rattle.step_law_whole.proofs.RunTickets.{AreListsAfter, after_list_lists}

-- a seat put on a list
seat_else : (s : Core) (i z : ℕ) (seat : ListSeat) (l k : ℕ) → k ≢ i → ((with_seat s i z seat).lists l).seats k ≡ (s.lists l).seats k
seat_else s i z seat l k ne =
    put_at (λ l w. w.seats k ≡ (s.lists l).seats k) s.lists z (record (s.lists z) { seats = put (s.lists z).seats i seat }) l
    (put_else (s.lists z).seats i seat k ne) (λ far. refl)

seat_words : (s : Core) (i z : ℕ) (seat : ListSeat) (l : ℕ) → ((with_seat s i z seat).lists l).words ≡ (s.lists l).words
seat_words s i z seat l =
    put_at (λ l w. w.words ≡ (s.lists l).words) s.lists z (record (s.lists z) { seats = put (s.lists z).seats i seat }) l refl (λ far. refl)

-- a call that begins changes no other seat and no word of a list
calls_seats : (s : Core) (i : ℕ) (c : Call) (l k : ℕ) → k ≢ i → ((calls s i c).lists l).seats k ≡ (s.lists l).seats k
calls_seats s i (Add n) l k ne = seat_else s i n _ l k ne
calls_seats s i (Wait n) l k ne = seat_else s i n _ l k ne
calls_seats s i (WaitOrLeave n how) l k ne = seat_else s i n _ l k ne
calls_seats s i (One n) l k ne = seat_else s i n _ l k ne
calls_seats s i (call.All n) l k ne = seat_else s i n _ l k ne
calls_seats s i (Acquire c lifo) l k ne = refl
calls_seats s i (AcquireOrLeave c lifo how) l k ne = refl
calls_seats s i (Release c handoff) l k ne = refl
calls_seats s i (ReleaseMany c n) l k ne = refl
calls_seats s i (GroupAdd g d) l k ne = refl
calls_seats s i (GroupWait g) l k ne = refl
calls_seats s i (GroupWaitOrLeave g skips) l k ne = refl

calls_words : (s : Core) (i : ℕ) (c : Call) (l : ℕ) → ((calls s i c).lists l).words ≡ (s.lists l).words
calls_words s i (Add n) l = seat_words s i n _ l
calls_words s i (Wait n) l = seat_words s i n _ l
calls_words s i (WaitOrLeave n how) l = seat_words s i n _ l
calls_words s i (One n) l = seat_words s i n _ l
calls_words s i (call.All n) l = seat_words s i n _ l
calls_words s i (Acquire c lifo) l = refl
calls_words s i (AcquireOrLeave c lifo how) l = refl
calls_words s i (Release c handoff) l = refl
calls_words s i (ReleaseMany c n) l = refl
calls_words s i (GroupAdd g d) l = refl
calls_words s i (GroupWait g) l = refl
calls_words s i (GroupWaitOrLeave g skips) l = refl

-- the place is none at L6
abbrev IsNoL6 : ListPlace → Type 0
IsNoL6 p = (h : ℕ) (r : Reach) → p ≡ NotifyingAll h (L6 r) → ⊥

-- a seat that is off all lists but one, and at no L6 there
seat_at : (s : Core) (i z : ℕ) → ((l : ℕ) → l ≢ z → IsOffList s i l) → (seat : ListSeat) → IsNoL6 seat.place
    → (l : ℕ) → IsNoL6 (((with_seat s i z seat).lists l).seats i).place
seat_at s i z off seat awake l =
    put_at (λ l w. (h : ℕ) (r : Reach) → (w.seats i).place ≡ NotifyingAll h (L6 r) → ⊥) s.lists z
    (record (s.lists z) { seats = put (s.lists z).seats i seat }) l
    (λ h r is. awake h r (ap (λ (z : ListSeat). z.place) (sym (put_here (s.lists z).seats i seat)) ∙ is))
    (λ far h r is. let rests = off l far in absurd cc)

-- who gives up goes to no L6
leaves_at : (p : ListPlace) (b : Bool) → is_asleep_on_list p && b ≡ true → IsNoL6 (leaving_list p)
leaves_at (on_list.Waiting t (wait_row.Parked parked.P)) b may = λ h r is. cc
leaves_at p b may = absurd cc

-- a seat that is off all lists begins a call at no L6
module _ (s : Core) (i : ℕ) (off : (l : ℕ) → IsOffList s i l) where
  seat_begins : (z : ℕ) (seat : ListSeat) → IsNoL6 seat.place → (l : ℕ) → IsNoL6 (((with_seat s i z seat).lists l).seats i).place
  seat_begins z seat awake l = seat_at s i z (λ l far. off l) seat awake l

  waits_begins : (z : ListSeat) (ticket : Option Ticket) → z.place ≡ on_list.Rest → IsNoL6 (with_ticket z ticket).place
  waits_begins z None rests h r is = cc
  waits_begins z (Some t) rests h r is = cc

  rests_at : (l : ℕ) → IsNoL6 ((s.lists l).seats i).place
  rests_at l h r is = let rests = off l in cc

  calls_begin : (c : Call) (l : ℕ) → IsNoL6 (((calls s i c).lists l).seats i).place
  calls_begin (Add n) l = seat_begins n (record ((s.lists n).seats i) { place = Adding }) (λ h r is. cc) l
  calls_begin (Wait n) l =
      seat_begins n (with_ticket ((s.lists n).seats i) ((s.lists n).seats i).ticket)
      (waits_begins ((s.lists n).seats i) ((s.lists n).seats i).ticket (off n)) l
  calls_begin (WaitOrLeave n how) l =
      seat_begins n (with_ticket ((s.lists n).seats i) ((s.lists n).seats i).ticket)
      (waits_begins ((s.lists n).seats i) ((s.lists n).seats i).ticket (off n)) l
  calls_begin (One n) l = seat_begins n (record ((s.lists n).seats i) { place = NotifyingOne 0 O1 }) (λ h r is. cc) l
  calls_begin (call.All n) l = seat_begins n (record ((s.lists n).seats i) { place = NotifyingAll 0 L1 }) (λ h r is. cc) l
  calls_begin (Acquire c lifo) l = rests_at l
  calls_begin (AcquireOrLeave c lifo how) l = rests_at l
  calls_begin (Release c handoff) l = rests_at l
  calls_begin (ReleaseMany c n) l = rests_at l
  calls_begin (GroupAdd g d) l = rests_at l
  calls_begin (GroupWait g) l = rests_at l
  calls_begin (GroupWaitOrLeave g skips) l = rests_at l

-- a step of seat i of a sound run
module _ (parts : Parts) (scenario : IsScenario parts) (run : Run) (sound : IsSoundRun parts run) (i : ℕ)
    (free : refusal parts run i ≡ None) where
  abbrev s : Core
  s = run.core

  abbrev m : CoreLayout
  m = layout parts

  abbrev t : Core
  t = core_turned m s i

  there : (i < length parts.calls) × (refusal_of m s i (s.standing i) ≡ None)
  there = is_there i (length parts.calls) (refusal_of m s i (s.standing i)) free

  can : IsTrue (can_run m s i (s.standing i))
  can = can_run_at m s i (s.standing i) there.1

  -- after its row another seat stands where it stood
  turned_else : (k l : ℕ) (p : ListPlace) → k ≢ i → IsOnList t k l p → IsOnList s k l p
  turned_else k l p ne on =
      let row = row_is m s i (record { seat = sound.core.semaphores.seats i; finds = sound.core.semaphores.finds i there.0 })
      (sound.core.standing i) sound.words (sound.carried i) can in
      ((on.0.0, sym (row.changes.standing k ne) ∙ on.0.1), ap (λ (z : ListSeat). z.place) (sym (row.changes.seats l k ne)) ∙ on.1)

  -- and where it stands at L6 itself, that was its L5
  abbrev HasReadNow : ℕ → ℕ → Reach → Type 0
  HasReadNow l h r = IsOnList s i l (NotifyingAll h (L5 r.notified)) × (r.handed ≡ (s.lists l).words.numbers.handed)

  turned_here : (l h : ℕ) (r : Reach) → ((t.lists l).seats i).place ≡ NotifyingAll h (L6 r) → HasReadNow l h r
  turned_here l h r is = by (s.standing i) refl (sound.core.standing i) can is
    where
      -- it was off the list
      was_off : (lists : ℕ → ListWorld) → lists ≡ s.lists → IsOffList s i l
          → ((lists l).seats i).place ≡ NotifyingAll h (L6 r) → HasReadNow l h r
      was_off lists same off is =
          let before = ap (λ (lists : ℕ → ListWorld). ((lists l).seats i).place) same in absurd cc

      on_it : (n : ℕ) (ending : Ending) → s.standing i ≡ AtList n ending → IsStanding m s i (AtList n ending)
          → IsTrue (list.can_turn (s.lists n) i) → Dec (l ≡ n)
          → ((put s.lists n (list.turned (s.lists n) i) l).seats i).place ≡ NotifyingAll h (L6 r) → HasReadNow l h r
      on_it n ending at stand can (yes e) is =
          let w : ListWorld = s.lists n in
          let mine = (list_kept_so parts scenario run sound n).seats_known i there.0 in
          let at_n : ((put s.lists n (list.turned w i) n).seats i).place ≡ NotifyingAll h (L6 r)
          = ap (λ l. ((put s.lists n (list.turned w i) l).seats i).place) (sym e) ∙ is in
          let here : ((list.turned w i).seats i).place ≡ NotifyingAll h (L6 r)
          = ap (λ (w : ListWorld). (w.seats i).place) (sym (put_here s.lists n (list.turned w i))) ∙ at_n in
          let read =
          read_step w i (list.turned w i) (step_of w (list.turned w i) i mine.fits mine.only (list.turn (record { can = can; is = refl }))) h r here in
          (((ending, at ∙ ap (λ n. AtList n ending) (sym e)), ap (λ l. ((s.lists l).seats i).place) e ∙ read.0), read.1 ∙ ap (λ l. (s.lists l).words.numbers.handed) (sym e))
      on_it n ending at stand can (no ne) is =
          let same = ap (λ (w : ListWorld). (w.seats i).place) (put_else s.lists n (list.turned (s.lists n) i) l ne) in
          let off = stand.3 l ne in absurd cc

      by : (standing : Standing) → s.standing i ≡ standing → IsStanding m s i standing → IsTrue (can_run m s i standing)
          → (((row_of_standing m s i standing).lists l).seats i).place ≡ NotifyingAll h (L6 r) → HasReadNow l h r
      by (AtList n ending) at stand can is = either (may_give_up_on_list (s.lists n) i ending) refl can is
        where
          -- after its row a call has ended, or a notification of one begins
          landed : (u : Core) → AreListsAfter (list_row s i n) i n u → IsTrue (list.can_turn (s.lists n) i)
              → ((u.lists l).seats i).place ≡ NotifyingAll h (L6 r) → HasReadNow l h r
          landed u (inl same) can is =
              on_it n ending at stand can (ℕ_discrete l n) (ap (λ (lists : ℕ → ListWorld). ((lists l).seats i).place) (sym same) ∙ is)
          landed u (inr (rests, begins)) can is =
              absurd (seat_at (list_row s i n) i n
              (λ l far. ap (λ (w : ListWorld). (w.seats i).place) (put_else s.lists n (list.turned (s.lists n) i) l far) ∙ stand.3 l far)
              _ (λ h r e. cc) l h r (ap (λ (lists : ℕ → ListWorld). ((lists l).seats i).place) (sym begins) ∙ is))

          either : (b : Bool) → may_give_up_on_list (s.lists n) i ending ≡ b → IsTrue (b || list.can_turn (s.lists n) i)
              → (((if b then gives_up_on_list s i n ending else on_list_row s i n ending).lists l).seats i).place ≡ NotifyingAll h (L6 r)
              → HasReadNow l h r
          either true may can is = absurd (gives ending may l h r is)
            where
              gives : (ending : Ending) → may_give_up_on_list (s.lists n) i ending ≡ true
                  → (l : ℕ) → IsNoL6 (((gives_up_on_list s i n ending).lists l).seats i).place
              gives (MayGiveUp how) may = seat_at s i n stand.3 _ (leaves_at ((s.lists n).seats i).place _ may)
              gives _ may = absurd cc
          either false stays can is =
              landed (on_list_row s i n ending)
              (after_list_lists (list_row s i n) i n ending ((s.lists n).seats i).place (((list_row s i n).lists n).seats i).place refl) can is
      by (AtCounter after) at stand can is =
          was_off (row_of_standing m s i (AtCounter after)).lists (at_counter_lists m s i after) (stand.1 l) is
      by (AtGroup g row) at stand can is =
          was_off (row_of_standing m s i (AtGroup g row)).lists
          (group_lists m s i g row sound.words at (subst CarriesWord at (sound.carried i)) stand.0) (stand.2 l) is
      by Rest at stand can is = absurd cc
      by (Left skips) at stand can is = absurd cc
      by (Failed misuse) at stand can is = absurd cc

  -- the call that it may begin then is none at L6
  began : (u : Run) (call : Option Call) → ((l : ℕ) → IsOffList u.core i l) → (k l h : ℕ) (r : Reach)
      → IsOnList (begun u i call).core k l (NotifyingAll h (L6 r)) → IsOnList u.core k l (NotifyingAll h (L6 r))
  began u None off k l h r on = on
  began u (Some c) off k l h r on = by (ℕ_discrete k i)
    where
      by : Dec (k ≡ i) → IsOnList u.core k l (NotifyingAll h (L6 r))
      by (yes e) = absurd (none h r (ap (λ k. (((calls u.core i c).lists l).seats k).place) (sym e) ∙ on.1))
        where
          none : (h : ℕ) (r : Reach) → (((calls u.core i c).lists l).seats i).place ≡ NotifyingAll h (L6 r) → ⊥
          none = calls_begin u.core i off c l
      by (no ne) = ((on.0.0, sym (calls_else u.core i c k ne) ∙ on.0.1), ap (λ (z : ListSeat). z.place) (sym (calls_seats u.core i c l k ne)) ∙ on.1)

  -- how it stands after its row
  stands_after : (standing : Standing) → t.standing i ≡ standing → IsStanding m t i standing
  stands_after standing at = subst (IsStanding m t i) at ((rows_keep m s i there.0 sound.core can).standing i)

  -- and where it has given up its call
  left_went : (skips : ℕ) → t.standing i ≡ Left skips → (k l h : ℕ) (r : Reach)
      → IsOnList (continued parts (record run { core = t }) i (Left skips)).core k l (NotifyingAll h (L6 r)) → IsOnList t k l (NotifyingAll h (L6 r))
  left_went skips at k l h r on = by (ℕ_discrete k i)
    where
      next : Run
      next = left_out parts (record run { core = t }) i skips

      there_now : IsOnList next.core k l (NotifyingAll h (L6 r))
      there_now = began next (call_of parts i (next.begun i)) (stands_after (Left skips) at).1 k l h r on

      by : Dec (k ≡ i) → IsOnList t k l (NotifyingAll h (L6 r))
      by (yes e) = absurd (let rests : Rest ≡ AtList l there_now.0.0 = sym (put_here t.standing i Rest) ∙ ap next.core.standing (sym e) ∙ there_now.0.1 in cc)
      by (no ne) = ((there_now.0.0, sym (put_else t.standing i Rest k ne) ∙ there_now.0.1), there_now.1)

  went_on : (standing : Standing) → t.standing i ≡ standing → (k l h : ℕ) (r : Reach)
      → IsOnList (continued parts (record run { core = t }) i standing).core k l (NotifyingAll h (L6 r)) → IsOnList t k l (NotifyingAll h (L6 r))
  went_on Rest at k l h r on = began (record run { core = t }) (call_of parts i (run.begun i)) (stands_after Rest at).1 k l h r on
  went_on (AtCounter after) at k l h r on = on
  went_on (AtList n ending) at k l h r on = on
  went_on (AtGroup g row) at k l h r on = on
  went_on (Left skips) at k l h r on = left_went skips at k l h r on
  went_on (Failed misuse) at k l h r on = on

  -- after the step, a seat that stands at L6 stood there, or is i, which has just read
  pub reads_on : (k l h : ℕ) (r : Reach) → IsOnList (stepped parts run i).core k l (NotifyingAll h (L6 r))
      → ((k ≢ i) × IsOnList s k l (NotifyingAll h (L6 r)))
      ⊎ ((k ≡ i) × IsOnList s i l (NotifyingAll h (L5 r.notified)) × (r.handed ≡ (told_of l s.journal).handed))
  reads_on k l h r on = by (ℕ_discrete k i)
    where
      after : IsOnList t k l (NotifyingAll h (L6 r))
      after = went_on (t.standing i) refl k l h r on

      by : Dec (k ≡ i) → ((k ≢ i) × IsOnList s k l (NotifyingAll h (L6 r)))
          ⊎ ((k ≡ i) × IsOnList s i l (NotifyingAll h (L5 r.notified)) × (r.handed ≡ (told_of l s.journal).handed))
      by (no ne) = inl (ne, turned_else k l (NotifyingAll h (L6 r)) ne after)
      by (yes e) =
          let read = turned_here l h r (ap (λ k. ((t.lists l).seats k).place) (sym e) ∙ after.1) in
          let inv = list_kept_so parts scenario run sound l in
          inr (
            e,
            read.0,
            read.1 ∙ handed_told (m.firsts l) (length parts.calls) (s.lists l) inv
                ∙ ap (λ journal. (told journal).handed) (sound.core.journals.lists l),
          )

-- the run after one step more
pub after_one_more : (parts : Parts) (run : Run) (schedule : List ℕ) (i : ℕ)
    → after_all parts run (schedule ++ i ∷ []) ≡ stepped parts (after_all parts run schedule) i
after_one_more parts run [] i = refl
after_one_more parts run (k ∷ schedule) i = after_one_more parts (stepped parts run k) schedule i

-- at the start nobody stands at L6, since no lock is held
begins_words : (run : Run) (i : ℕ) (call : Option Call) (l : ℕ) → ((begun run i call).core.lists l).words ≡ (run.core.lists l).words
begins_words run i None l = refl
begins_words run i (Some c) l = calls_words run.core i c l

start_words : (parts : Parts) (run : Run) (n l : ℕ) → ((all_begun parts run n).core.lists l).words ≡ (run.core.lists l).words
start_words parts run zero l = refl
start_words parts run (suc n) l = begins_words (all_begun parts run n) n (call_of parts n 0) l ∙ start_words parts run n l

module _ (parts : Parts) (scenario : IsScenario parts) where
  none_at_start : (k l h : ℕ) (r : Reach) → k < length parts.calls → IsOnList (start parts).core k l (NotifyingAll h (L6 r)) → ⊥
  none_at_start k l h r there on =
      let s : ListWorld = (start parts).core.lists l in
      let inv = list_kept_so parts scenario (start parts) (is_started parts scenario) l in
      let free = ap (λ (g : ListWords). g.lock) (start_words parts (record { core = first_core (layout parts); begun = λ s. 0 }) (length parts.calls) l) in
      let held = total_has (length parts.calls) (λ k. holds (s.seats k).place) k there in
      let here = ap holds on.1 in
      let lock = inv.lock.0 in omega arith

  -- what holds after a schedule
  abbrev ReadAfter : List ℕ → Type 0
  ReadAfter schedule =
      (k l h : ℕ) (r : Reach) → k < length parts.calls → IsOnList (reached parts schedule).core k l (NotifyingAll h (L6 r))
      → HasReadIn parts schedule k l h r

  read_more : (schedule : List ℕ) (i : ℕ) → IsSoundRun parts (reached parts schedule) → refusal parts (reached parts schedule) i ≡ None
      → ReadAfter schedule → ReadAfter (schedule ++ i ∷ [])
  read_more schedule i sound free before k l h r there on =
      by (reads_on parts scenario (reached parts schedule) sound i free k l h r
      (subst (λ (run : Run). IsOnList run.core k l (NotifyingAll h (L6 r))) (after_one_more parts (start parts) schedule i) on))
    where
      by : ((k ≢ i) × IsOnList (reached parts schedule).core k l (NotifyingAll h (L6 r)))
          ⊎ ((k ≡ i) × IsOnList (reached parts schedule).core i l (NotifyingAll h (L5 r.notified))
          × (r.handed ≡ (told_of l (reached parts schedule).core.journal).handed))
          → HasReadIn parts (schedule ++ i ∷ []) k l h r
      by (inl is) =
          let read = before k l h r there is.1 in record {
            before = read.before;
            after = read.after ++ i ∷ [];
            is = ap (λ schedule. schedule ++ i ∷ []) read.is ∙ append_assoc read.before (k ∷ read.after) (i ∷ []);
            alone = All-push (λ j. j ≢ k) read.after i read.alone (λ e. is.0 (sym e));
            stood = read.stood;
            handed = read.handed;
          }
      by (inr is) = record {
        before = schedule;
        after = [];
        is = ap (λ k. schedule ++ k ∷ []) (sym is.0);
        alone = All-nil (λ j. j ≢ k);
        stood = subst (λ k. IsOnList (reached parts schedule).core k l (NotifyingAll h (L5 r.notified))) (sym is.0) is.1;
        handed = is.2;
      }

  -- what a step grants after a schedule
  abbrev GrantsAfter : List ℕ → ℕ → Type 0
  GrantsAfter schedule i =
      StepGrants (layout parts) (reached parts schedule).core (reached parts (schedule ++ i ∷ [])).core i
      × ((l h : ℕ) (r : Reach) → IsOnList (reached parts schedule).core i l (NotifyingAll h (L6 r)) → HasReadIn parts schedule i l h r)

  grants_after : (schedule : List ℕ) (i : ℕ) → IsSoundRun parts (reached parts schedule) → refusal parts (reached parts schedule) i ≡ None
      → ReadAfter schedule → GrantsAfter schedule i
  grants_after schedule i sound free read =
      let run : Run = reached parts schedule in
      let there = is_there i (length parts.calls) (refusal_of (layout parts) run.core i (run.core.standing i)) free in (
        subst (λ (next : Run). StepGrants (layout parts) (reached parts schedule).core next.core i) (sym (after_one_more parts (start parts) schedule i))
            (step_grants parts scenario (reached parts schedule) sound i free),
        (λ l h r on. read i l h r there.0 on),
      )

  nothing_in : (before after : List ℕ) (i : ℕ) → [] ≡ before ++ i ∷ after → ⊥
  nothing_in [] after i is = cc
  nothing_in (k ∷ before) after i is = cc

  -- each step of the rest, from what a schedule has led to
  along : (past rest : List ℕ) → IsSoundRun parts (reached parts past) → ReadAfter past → AllRunFrom parts (reached parts past) rest
      → (before after : List ℕ) (i : ℕ) → rest ≡ before ++ i ∷ after → GrantsAfter (past ++ before) i
  along past [] sound read runs before after i is = absurd (nothing_in before after i is)
  along past (j ∷ rest) sound read runs [] after i is =
      let first : j ≡ i = cc in
      subst (λ schedule. GrantsAfter schedule i) (sym (append-nil past))
      (subst (GrantsAfter past) first (grants_after past j sound runs.0 read))
  along past (j ∷ rest) sound read runs (b ∷ before) after i is =
      let first : j ≡ b = cc in
      let others : rest ≡ before ++ i ∷ after = cc in
      let next = after_one_more parts (start parts) past j in
      let later : GrantsAfter ((past ++ j ∷ []) ++ before) i =
      along (past ++ j ∷ []) rest (subst (IsSoundRun parts) (sym next) (is_stepped parts (reached parts past) j scenario sound runs.0))
      (read_more past j sound runs.0 read) (subst (λ run. AllRunFrom parts run rest) (sym next) runs.1) before after i others in
      subst (λ schedule. GrantsAfter schedule i) (append_assoc past (j ∷ []) before ∙ ap (λ j. past ++ j ∷ before) first) later

  pub each_step_grants : (schedule : List ℕ) → AllRun parts schedule → EachStepGrantsLeast parts schedule
  each_step_grants schedule runs before after i is =
      along [] schedule (is_started parts scenario) (λ k l h r there on. absurd (none_at_start k l h r there on)) runs before after i is
