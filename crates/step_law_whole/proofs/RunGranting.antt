-- A step of a run grants the least ungranted ticket alone, or all that were handed out when its L5 read the wait word.
use Rattle.std.proofs.Common.{◌≡◌, ◌≢◌, ℕ, ◌+◌, ◌<◌, ◌⊎◌, ◌==◌, ◌&&◌, if◌then◌else◌, Bool, true, false, eqb, List, []}
use Rattle.std.proofs.Common.{◌∷◌, ◌++◌, Option, Some, None, length}
use Rattle.std.proofs.Common.{length-append, refl, sym, ap, ◌∙◌, inl, inr, arith}
use Rattle.std.proofs.lemmas.Bool.Decides.{eqb_tells}
use Rattle.std.proofs.lemmas.List.{append_cancel_left}
use native.Mathlib.Decide.{ℕ_discrete}
use Rattle.step_table.specs.declared.call.Call.{Call}
use Rattle.step_table.specs.declared.effect.Effect.{Effect}
use Rattle.step_table.specs.declared.effect.Effect.TheVariants as effect
use Rattle.step_table.specs.declared.entry.Entry.{Entry}
use Rattle.step_table.specs.declared.entry.Entry.TheVariants.{Ticket, Grant, Forgo}
use Rattle.step_table.specs.declared.list_place.AllRow.TheVariants.{L6}
use Rattle.step_table.specs.declared.list_place.ListEffect.{ListEffect}
use Rattle.step_table.specs.declared.list_place.ListEffect.TheVariants.{Nothing, HandsOut, Grants, Forgoes}
use Rattle.step_table.specs.declared.list_place.ListPlace.{ListPlace}
use Rattle.step_table.specs.declared.list_place.ListPlace.TheVariants.{NotifyingOne, NotifyingAll}
use Rattle.step_table.specs.declared.list_place.OneRow.TheVariants.{O7}
use Rattle.step_table.specs.declared.list_place.Reach.{Reach}
use Rattle.step_table.specs.declared.parts.Parts.{Parts}
use Rattle.step_table.specs.declared.standing.Ending.{Ending}
use Rattle.step_table.specs.declared.standing.Ending.TheVariants.{MayGiveUp}
use Rattle.step_table.specs.declared.standing.Standing.{Standing}
use Rattle.step_table.specs.declared.standing.Standing.TheVariants.{Rest, AtCounter, AtList, AtGroup, Failed, Left}
use Rattle.step_table.specs.World.{journal_after}
use Rattle.step_table.specs.Steps.{event_of, finds}
use Rattle.step_table.specs.Event.{Next}
use Rattle.step_table.specs.Wrapping.{word_of}
use Rattle.step_table.specs.ListWorld.{ListWorld, found}
use Rattle.step_table.specs.ListEvent.{ListEvent}
use Rattle.step_table.specs.ListTable.{list_event_at}
use Rattle.step_table.specs.ListSteps as list
use Rattle.step_law_lists.specs.ListLawful.{told}
use Rattle.step_law_lists.specs.ListInvariant.{Knows, IsListInvariant}
use Rattle.step_table.specs.Core.{CoreLayout, Core, journal_after_list}
use Rattle.step_table.specs.CoreSteps.{counter_row, list_row, row_of_standing, core_turned, may_give_up, gives_up, on_counter_row}
use Rattle.step_table.specs.CoreSteps.{may_give_up_on_list, gives_up_on_list, on_list_row, is_asleep_on_list}
use Rattle.step_table.specs.Run.{Run, layout, begun, call_of, continued, stepped, refusal, refusal_of, left_out}
use Rattle.step_law_whole.specs.RunInvariant.{IsSoundRun, IsScenario}
use Rattle.step_law_whole.specs.RunGrants.{IsOnList, told_of, StepGrants}
use Rattle.step_law_whole.proofs.CoreJournals.{IsOfCounters}
use Rattle.step_law_whole.proofs.CoreRows.{leads_on}
use Rattle.step_law_lists.proofs.ListCalling.{list_least}
use Rattle.step_law_lists.proofs.ListKeeping.{facts_of}
use Rattle.step_law_lists.proofs.ListLawfulness.{passed_told, known_at}
use Rattle.step_law_lists.proofs.ListReading.{equal_words}
use Rattle.step_law_whole.proofs.Naming.{after_counter_tells, after_list_tells, after_group_tells, calls_tell}
use Rattle.step_law_whole.proofs.RunEarly.{in_reach, list_kept_so}
use Rattle.step_law_whole.proofs.RunStepping.{is_there}

-- a call that begins where another has ended tells nothing
begun_tells : (run : Run) (i : ℕ) (call : Option Call) → (begun run i call).core.journal ≡ run.core.journal
begun_tells run i None = refl
begun_tells run i (Some call) = calls_tell run.core i call

continued_tells : (parts : Parts) (run : Run) (i : ℕ) (standing : Standing) → (continued parts run i standing).core.journal ≡ run.core.journal
continued_tells parts run i Rest = begun_tells run i (call_of parts i (run.begun i))
continued_tells parts run i (AtCounter after) = refl
continued_tells parts run i (AtList l ending) = refl
continued_tells parts run i (AtGroup g row) = refl
continued_tells parts run i (Left skips) = begun_tells (left_out parts run i skips) i _
continued_tells parts run i (Failed misuse) = refl

-- the effect of the row at this place
abbrev effect_at : ListWorld → ℕ → ListPlace → ListEffect
effect_at w i p = let e : ListEvent = list_event_at i (w.seats i) w.words p in (e.leads (found w.words e.word)).1

-- a journal that grows by a grant
no_more : (j : List Entry) (e : Entry) → j ≡ j ++ e ∷ [] → ⊥
no_more j e is = let longer = ap length is in let sum = length-append j (e ∷ []) in absurd (omega arith)

same_entry : (j : List Entry) (x e : Entry) → j ++ x ∷ [] ≡ j ++ e ∷ [] → x ≡ e
same_entry j x e is = let same = append_cancel_left j (x ∷ []) (e ∷ []) is in cc

-- no row on a counter tells of a grant
none_of_counters : (e : Effect) (j : List Entry) (l upto k : ℕ) → IsOfCounters e → journal_after e j ≡ j ++ Grant l upto k ∷ [] → ⊥
none_of_counters (effect.Tells x) j l upto k named is = by x named (same_entry j x (Grant l upto k) is)
  where
    by : (x : Entry) → IsOfCounters (effect.Tells x) → x ≡ Grant l upto k → ⊥
    by (Ticket n s) named same = named
    by (Grant n up s) named same = named
    by (Forgo n m s) named same = named
    by _ named same = cc
none_of_counters _ j l upto k named is = no_more j (Grant l upto k) is

-- and one on a list only by its effect
one_of_list : (e : ListEffect) (j : List Entry) (n i l upto k : ℕ) → journal_after_list n i e j ≡ j ++ Grant l upto k ∷ []
    → (n ≡ l) × (k ≡ i) × (e ≡ Grants upto)
one_of_list (HandsOut t) j n i l upto k is = let same = same_entry j (Ticket n i) (Grant l upto k) is in absurd cc
one_of_list (Grants up) j n i l upto k is =
    let same = same_entry j (Grant n up i) (Grant l upto k) is in
    let number : up ≡ upto = cc in let seat : i ≡ k = cc in (cc, sym seat, ap Grants number)
one_of_list (Forgoes w) j n i l upto k is = let same = same_entry j (Forgo n w.id.turn i) (Grant l upto k) is in absurd cc
one_of_list _ j n i l upto k is = absurd (no_more j (Grant l upto k) is)

module _ (parts : Parts) (scenario : IsScenario parts) (run : Run) (sound : IsSoundRun parts run) (i : ℕ)
    (free : refusal parts run i ≡ None) where
  abbrev s : Core
  s = run.core

  abbrev t : Core
  t = (stepped parts run i).core

  abbrev m : CoreLayout
  m = layout parts

  there : i < length parts.calls
  there = (is_there i (length parts.calls) (refusal_of m s i (s.standing i)) free).0

  invariant : (l : ℕ) → IsListInvariant (m.firsts l) (length parts.calls) (s.lists l)
  invariant l = list_kept_so parts scenario run sound l

  -- the journal after the row of this standing
  tells : (standing : Standing) → s.standing i ≡ standing → t.journal ≡ (row_of_standing m s i standing).journal
  tells standing at =
      continued_tells parts (record run { core = core_turned m s i }) i ((core_turned m s i).standing i)
      ∙ ap (λ standing. (row_of_standing m s i standing).journal) at

  tells_on : (l : ℕ) (ending : Ending) → s.standing i ≡ AtList l ending → may_give_up_on_list (s.lists l) i ending ≡ false
      → t.journal ≡ journal_after_list l i (effect_at (s.lists l) i ((s.lists l).seats i).place) s.journal
  tells_on l ending at stays =
      tells (AtList l ending) at
      ∙ ap (λ (b : Bool). (if b then gives_up_on_list s i l ending else on_list_row s i l ending).journal) stays
      ∙ after_list_tells (list_row s i l) i l ending ((s.lists l).seats i).place (((list_row s i l).lists l).seats i).place

  -- who doesn't sleep gives up nothing
  awake : (l : ℕ) (p : ListPlace) → IsOnList s i l p → is_asleep_on_list p ≡ false
      → t.journal ≡ journal_after_list l i (effect_at (s.lists l) i p) s.journal
  awake l p on wakes =
      tells_on l on.0.0 on.0.1 (stays on.0.0) ∙ ap (λ p. journal_after_list l i (effect_at (s.lists l) i p) s.journal) on.1
    where
      stays : (ending : Ending) → may_give_up_on_list (s.lists l) i ending ≡ false
      stays (MayGiveUp how) =
          ap (λ (p : ListPlace). is_asleep_on_list p && ((s.lists l).words.grants i == 0)) on.1
          ∙ ap (λ (b : Bool). b && ((s.lists l).words.grants i == 0)) wakes
      stays _ = refl

  passed_is : (l : ℕ) → (s.lists l).words.numbers.passed ≡ (told_of l s.journal).passed
  passed_is l =
      passed_told (m.firsts l) (length parts.calls) (s.lists l) (invariant l)
      ∙ ap (λ journal. (told journal).passed) (sound.core.journals.lists l)

  -- with this effect of the row at this place
  tells_by : (l : ℕ) (p : ListPlace) (e : ListEffect) → IsOnList s i l p → is_asleep_on_list p ≡ false → effect_at (s.lists l) i p ≡ e
      → t.journal ≡ journal_after_list l i e s.journal
  tells_by l p e on wakes is = awake l p on wakes ∙ ap (λ e. journal_after_list l i e s.journal) is

  grants_one : (l h n : ℕ) → IsOnList s i l (NotifyingOne h (O7 n))
      → (n ≡ word_of (m.firsts l) (told_of l s.journal).passed)
      × (t.journal ≡ s.journal ++ Grant l ((told_of l s.journal).passed + 1) i ∷ [])
  grants_one l h n on =
      let knows = known_at (m.firsts l) (length parts.calls) (s.lists l) i (invariant l) there (NotifyingOne h (O7 n)) on.1 in (
        knows.0 ∙ (invariant l).words.1 ∙ ap (word_of (m.firsts l)) (passed_is l),
        tells_by l (NotifyingOne h (O7 n)) (Grants ((s.lists l).words.numbers.passed + 1)) on refl refl
            ∙ ap (λ g. s.journal ++ Grant l (g + 1) i ∷ []) (passed_is l),
      )

  grants_all : (l h : ℕ) (r : Reach) → IsOnList s i l (NotifyingAll h (L6 r))
      → ((r.notified ≡ r.waited) × (r.handed ≡ (told_of l s.journal).passed) × (t.journal ≡ s.journal))
      ⊎ ((r.notified ≢ r.waited) × ((told_of l s.journal).passed < r.handed) × (t.journal ≡ s.journal ++ Grant l r.handed i ∷ []))
  grants_all l h r on = by (eqb_tells r.notified r.waited)
    where
      first : ℕ
      first = m.firsts l

      knows : Knows first (s.lists l).words i (NotifyingAll h (L6 r)) ((s.lists l).seats i).late
      knows = known_at first (length parts.calls) (s.lists l) i (invariant l) there (NotifyingAll h (L6 r)) on.1

      by : ((eqb r.notified r.waited ≡ true) × (r.notified ≡ r.waited)) ⊎ ((eqb r.notified r.waited ≡ false) × (r.notified ≢ r.waited))
          → ((r.notified ≡ r.waited) × (r.handed ≡ (told_of l s.journal).passed) × (t.journal ≡ s.journal))
          ⊎ ((r.notified ≢ r.waited) × ((told_of l s.journal).passed < r.handed) × (t.journal ≡ s.journal ++ Grant l r.handed i ∷ []))
      by (inl same) =
          let all_granted =
          equal_words first (s.lists l).words (facts_of first (length parts.calls) (s.lists l) (in_reach parts scenario run sound l) (invariant l))
          r.waited r.handed knows.1 knows.3 (sym same.1 ∙ knows.0) in
          let least = knows.2 in
          let is = passed_is l in
          inl (
            same.1,
            omega arith,
            tells_by l (NotifyingAll h (L6 r)) Nothing on refl (ap (λ (b : Bool). if b then Nothing else Grants r.handed) same.0),
          )
      by (inr other) =
          inr (
            other.1,
            some (ℕ_discrete (s.lists l).words.numbers.passed r.handed),
            tells_by l (NotifyingAll h (L6 r)) (Grants r.handed) on refl (ap (λ (b : Bool). if b then Nothing else Grants r.handed) other.0),
          )
        where
          some : Dec ((s.lists l).words.numbers.passed ≡ r.handed) → (told_of l s.journal).passed < r.handed
          some (yes same) =
              absurd (other.1 (knows.0 ∙ (invariant l).words.1 ∙ ap (word_of first) same ∙ sym knows.1))
          some (no ne) = let least = knows.2 in let is = passed_is l in omega arith

  grants_only : (l upto k : ℕ) → t.journal ≡ s.journal ++ Grant l upto k ∷ []
      → (k ≡ i)
      × (((h n : ℕ) × IsOnList s i l (NotifyingOne h (O7 n))) ⊎ ((h : ℕ) × (r : Reach) × IsOnList s i l (NotifyingAll h (L6 r))))
  grants_only l upto k is = by (s.standing i) refl
    where
      Answer : Type 0
      Answer =
          (k ≡ i)
          × (((h n : ℕ) × IsOnList s i l (NotifyingOne h (O7 n))) ⊎ ((h : ℕ) × (r : Reach) × IsOnList s i l (NotifyingAll h (L6 r))))

      on_list : (ending : Ending) → s.standing i ≡ AtList l ending → k ≡ i → list.effect_of (s.lists l) i ≡ Grants upto → Answer
      on_list ending at seat grants = (seat, place (list_least (m.firsts l) (length parts.calls) i (s.lists l) there (invariant l) upto grants))
        where
          place : ((h : ℕ) × (n : ℕ) × (((s.lists l).seats i).place ≡ NotifyingOne h (O7 n))
              × (upto ≡ (told (s.lists l).journal).passed + 1) × (n ≡ word_of (m.firsts l) (told (s.lists l).journal).passed))
              ⊎ ((h : ℕ) × (r : Reach) × (((s.lists l).seats i).place ≡ NotifyingAll h (L6 r)) × (upto ≡ r.handed))
              → ((h n : ℕ) × IsOnList s i l (NotifyingOne h (O7 n))) ⊎ ((h : ℕ) × (r : Reach) × IsOnList s i l (NotifyingAll h (L6 r)))
          place (inl is) = inl (is.0, is.1, ((ending, at), is.2))
          place (inr is) = inr (is.0, is.1, ((ending, at), is.2))

      by : (standing : Standing) → s.standing i ≡ standing → Answer
      by (AtList n ending) at = either (may_give_up_on_list (s.lists n) i ending) refl
        where
          either : (b : Bool) → may_give_up_on_list (s.lists n) i ending ≡ b → Answer
          either true gives =
              absurd (no_more s.journal (Grant l upto k)
              (sym (tells (AtList n ending) at
              ∙ ap (λ (b : Bool). (if b then gives_up_on_list s i n ending else on_list_row s i n ending).journal) gives) ∙ is))
          either false stays =
              let grown = one_of_list (list.effect_of (s.lists n) i) s.journal n i l upto k (sym (tells_on n ending at stays) ∙ is) in
              on_list ending (at ∙ ap (λ n. AtList n ending) grown.0) grown.1 (ap (λ n. list.effect_of (s.lists n) i) (sym grown.0) ∙ grown.2)
      by (AtCounter after) at = absurd (either (may_give_up s.semaphores i after) (tells (AtCounter after) at))
        where
          either : (b : Bool) → t.journal ≡ (if b then gives_up s i after else on_counter_row m s i after).journal → ⊥
          either true same = no_more s.journal (Grant l upto k) (sym same ∙ is)
          either false same =
              let row : Core = counter_row m s i in
              let next : Next = (event_of s.semaphores i).leads (finds m.root s.semaphores i) in
              none_of_counters next.1 s.journal l upto k
              (leads_on i (s.semaphores.seats i) s.semaphores.words.lists (finds m.root s.semaphores i) (s.semaphores.seats i).place).1
              (sym (same ∙ after_counter_tells m row i after (s.semaphores.seats i).place (row.semaphores.seats i).place) ∙ is)
      by (AtGroup g row) at =
          absurd (no_more s.journal (Grant l upto k) (sym (tells (AtGroup g row) at ∙ after_group_tells m _ i g _) ∙ is))
      by Rest at = absurd (no_more s.journal (Grant l upto k) (sym (tells Rest at) ∙ is))
      by (Left skips) at = absurd (no_more s.journal (Grant l upto k) (sym (tells (Left skips) at) ∙ is))
      by (Failed misuse) at = absurd (no_more s.journal (Grant l upto k) (sym (tells (Failed misuse) at) ∙ is))

  pub step_grants : StepGrants m s t i
  step_grants = record { one = grants_one; all = grants_all; only = grants_only }
