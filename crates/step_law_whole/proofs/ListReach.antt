-- While few tickets of a list were handed out its journal is in reach; and where a journal is in reach after a row or a call, it
-- was before.
use Rattle.std.proofs.Common.{◌≡◌, ℕ, IsTrue, List, Bool, true, false, if◌then◌else◌, ◌||◌, refl, sym, ap, ◌∙◌, subst, inl, inr}
use native.Mathlib.Decide.{ℕ_discrete}
use Rattle.step_table.specs.declared.call.Call.{Call}
use Rattle.step_table.specs.declared.call.Call.TheVariants.{Acquire, Release, ReleaseMany, Add, Wait, One, All, GroupAdd, GroupWait, AcquireOrLeave, WaitOrLeave, GroupWaitOrLeave}
use Rattle.step_table.specs.declared.list_place.ListEffect.{ListEffect}
use Rattle.step_table.specs.declared.list_place.ListEffect.TheVariants.{HandsOut, Grants, Forgoes}
use Rattle.step_table.specs.declared.standing.Ending.{Ending}
use Rattle.step_table.specs.declared.standing.Standing.{Standing}
use Rattle.step_table.specs.declared.standing.Standing.TheVariants.{Rest, AtCounter, AtList, AtGroup, Failed, Left}
use Rattle.step_table.specs.World.{put}
use Rattle.step_table.specs.Group.{group_row}
use Rattle.step_table.specs.ListWorld.{ListEntry, Took, Granted, Forgone, ListSeat, ListWorld, first_list, journal_after, numbers_after}
use Rattle.step_table.specs.ListSteps.{Leads, none, more, ListStep, turn, choose, add, wait, effect_of}
use Rattle.step_table.specs.ListSteps as list
use Rattle.step_law_lists.specs.ListLawful.{told, IsInReach}
use Rattle.step_law_lists.proofs.ListJournals.{told_more}
use Rattle.step_law_lists.proofs.ListKeeping.{reach_back}
use Rattle.step_table.specs.Core.{CoreLayout, Core}
use Rattle.step_table.specs.CoreSteps.{calls, can_run, list_row, row_of_standing, core_turned, may_give_up_on_list, gives_up_on_list, on_list_row}
use Rattle.step_table.proofs.Sums.{put_here, put_else, put_at}
use Rattle.step_law_whole.specs.CoreLaw.{AllInReach}
use Rattle.step_law_whole.proofs.RunChanges.{with_seat}
use Rattle.step_law_whole.proofs.RunGroups.{after_group_lists}
use Rattle.step_law_whole.proofs.RunRows.{at_counter_lists}
use Rattle.step_law_whole.proofs.RunTickets.{AreListsAfter, after_list_lists}

-- the numbers beside a list's words are those that its journal tells
told_after : (i : ℕ) (e : ListEffect) (j : List ListEntry) → told (journal_after i e j) ≡ numbers_after e (told j)
told_after i (HandsOut t) j = told_more j (Took i)
told_after i (Grants upto) j = told_more j (Granted upto i)
told_after i (Forgoes w) j = told_more j (Forgone w.id.turn i)
told_after i _ j = refl

abbrev AreTold : ListWorld → Type 0
AreTold s = s.words.numbers ≡ told s.journal

step_told : (s : ListWorld) (i : ℕ) {t : ListWorld} → ListStep s i t → AreTold s → AreTold t
step_told s i (turn x) is = subst AreTold (sym x.is) (ap (numbers_after (effect_of s i)) is ∙ sym (told_after i (effect_of s i) s.journal))
step_told s i (choose choice) is = is
step_told s i (add rests free) is = is
step_told s i (wait rests held) is = is

pub numbers_told : (first seats : ℕ) {s : ListWorld} → Leads seats (first_list first) s → AreTold s
numbers_told first seats none = refl
numbers_told first seats (more {t = t} i there led listed) = step_told t i listed (numbers_told first seats led)

-- another seat i on a list tells nothing
seat_journals : (s : Core) (i z : ℕ) (seat : ListSeat) (l : ℕ) → ((with_seat s i z seat).lists l).journal ≡ (s.lists l).journal
seat_journals s i z seat l =
    put_at (λ l w. w.journal ≡ (s.lists l).journal) s.lists z (record (s.lists z) { seats = put (s.lists z).seats i seat }) l refl (λ far. refl)

after_journals : (s : Core) (i n : ℕ) (t : Core) → AreListsAfter s i n t → (l : ℕ) → (t.lists l).journal ≡ (s.lists l).journal
after_journals s i n t (inl same) l = ap (λ (lists : ℕ → ListWorld). (lists l).journal) same
after_journals s i n t (inr (rests, is)) l =
    ap (λ (lists : ℕ → ListWorld). (lists l).journal) is ∙ seat_journals s i n _ l

pub call_journals : (s : Core) (i : ℕ) (call : Call) (l : ℕ) → ((calls s i call).lists l).journal ≡ (s.lists l).journal
call_journals s i (Acquire c lifo) l = refl
call_journals s i (AcquireOrLeave c lifo how) l = refl
call_journals s i (Release c handoff) l = refl
call_journals s i (ReleaseMany c n) l = refl
call_journals s i (Add z) l = seat_journals s i z _ l
call_journals s i (Wait z) l = seat_journals s i z _ l
call_journals s i (WaitOrLeave z how) l = seat_journals s i z _ l
call_journals s i (One z) l = seat_journals s i z _ l
call_journals s i (All z) l = seat_journals s i z _ l
call_journals s i (GroupAdd g d) l = refl
call_journals s i (GroupWait g) l = refl
call_journals s i (GroupWaitOrLeave g skips) l = refl

-- a row of seat i
module _ (m : CoreLayout) (s : Core) (i : ℕ) where
  on_list_before : (n : ℕ) (ending : Ending) → IsTrue (list.can_turn (s.lists n) i) → (l : ℕ)
      → IsInReach ((on_list_row s i n ending).lists l).journal → IsInReach (s.lists l).journal
  on_list_before n ending can l reach = back (ℕ_discrete l n)
    where
      t : Core
      t = list_row s i n

      at_row : IsInReach (put s.lists n (list.turned (s.lists n) i) l).journal
      at_row =
          subst IsInReach
          (after_journals t i n (on_list_row s i n ending)
          (after_list_lists t i n ending ((s.lists n).seats i).place ((t.lists n).seats i).place refl) l) reach

      back : Dec (l ≡ n) → IsInReach (s.lists l).journal
      back (yes e) =
          subst (λ l. IsInReach (s.lists l).journal) (sym e)
          (reach_back (s.lists n) i (turn (record { can = can; is = refl }))
          (subst (λ (w : ListWorld). IsInReach w.journal) (put_here s.lists n (list.turned (s.lists n) i))
          (subst (λ l. IsInReach (put s.lists n (list.turned (s.lists n) i) l).journal) e at_row)))
      back (no ne) = subst (λ (w : ListWorld). IsInReach w.journal) (put_else s.lists n (list.turned (s.lists n) i) l ne) at_row

  standing_before : (standing : Standing) → IsTrue (can_run m s i standing) → AllInReach (row_of_standing m s i standing) → AllInReach s
  standing_before Rest can reach = reach
  standing_before (AtCounter after) can reach =
      subst (λ (lists : ℕ → ListWorld). (l : ℕ) → IsInReach (lists l).journal) (at_counter_lists m s i after) reach
  standing_before (AtList n ending) can reach = λ l. by (may_give_up_on_list (s.lists n) i ending) can l (reach l)
    where
      by : (b : Bool) → IsTrue (b || list.can_turn (s.lists n) i) → (l : ℕ)
          → IsInReach ((if b then gives_up_on_list s i n ending else on_list_row s i n ending).lists l).journal → IsInReach (s.lists l).journal
      by true can l reach = subst IsInReach (seat_journals s i n _ l) reach
      by false can l reach = on_list_before n ending can l reach
  standing_before (AtGroup g row) can reach =
      subst (λ (lists : ℕ → ListWorld). (l : ℕ) → IsInReach (lists l).journal)
      (after_group_lists m (record s { groups = put s.groups g (group_row row (s.groups g)).0 }) i g (group_row row (s.groups g)).1) reach
  standing_before (Left skips) can reach = reach
  standing_before (Failed misuse) can reach = reach

  -- where the journals are in reach after it, they were before
  pub row_before : IsTrue (can_run m s i (s.standing i)) → AllInReach (core_turned m s i) → AllInReach s
  row_before can reach = standing_before (s.standing i) can reach
