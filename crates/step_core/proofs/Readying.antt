-- Whether the row of a seat can run, and why it can't, by what its part answers.
use Rattle.std.proofs.Common.{◌≡◌, ℕ, ◌<◌, Bool, true, false, ◌||◌, IsTrue, [], ◌↔◌, Some, None, Result, Ok, Err, IfOk, length, get_or, refl, sym, ap, ◌∙◌, subst}
use Rattle.std.specs.Prelude.{IfErr, is_ok}
use Rattle.step_table.specs.declared.list_place.ListWord.{ListWord}
use Rattle.step_table.specs.declared.list_place.ListWord.TheVariants as on_list
use Rattle.step_table.specs.declared.refusal.StepRefused.{StepRefused}
use Rattle.step_table.specs.declared.standing.After.{After}
use Rattle.step_table.specs.declared.standing.After.TheVariants.{Closes, LooksAgain, Releases}
use Rattle.step_table.specs.declared.standing.Ending.{Ending}
use Rattle.step_table.specs.declared.standing.Ending.TheVariants.{NextCall, MayGiveUp, GaveUp, GivesBack}
use Rattle.step_table.specs.declared.standing.Standing.TheVariants.{Rest, AtCounter, AtList}
use Rattle.step_table.specs.declared.word.Word.{Word}
use Rattle.step_table.specs.declared.word.Word.TheVariants as on_counter
use Rattle.step_table.specs.Steps.{finds}
use Rattle.step_table.specs.ListSteps as list
use Rattle.step_table.specs.Core.{CoreLayout}
use Rattle.step_table.specs.CoreSteps.{can_run}
use Rattle.step_table.specs.Run.{refusal_of, unless, refused_at, list_refused_at}
use Rattle.step_rows.specs.declared.ready.Ready.{Ready}
use Rattle.step_rows.specs.declared.ready.ListReady.{ListReady}
use Rattle.step_rows.specs.Stored.{each, event_in, finds_in, world_of, refused_by, IsReadyFor}
use Rattle.step_rows.specs.ListStored.{StoredList, IsListReady, IsListRefusedBy, list_refused_by}
use Rattle.step_rows.specs.ListStored as stored_list
use Rattle.step_core.specs.declared.turn.Turn.TheVariants.{OnCounter, GivesUp, OnList, GivesUpOnList}
use Rattle.step_core.specs.State.{WholeMachine, IsMachineFor, IsRefusal, IsReady, IsReadyAt, core_of, no_list, gives_up_in, gives_up_on_list_in}
use Rattle.step_core.specs.State.{is_given_up_in_sleep}
use Rattle.step_core.proofs.Changing.{is_list}
use Rattle.step_core.proofs.RunningRows.{same_test, same_list_test}

same_refused : (w : Word) → refused_at w ≡ refused_by w
same_refused (on_counter.Lock c) = refl
same_refused _ = refl

same_list_refused : (w : ListWord) → list_refused_at w ≡ list_refused_by w
same_list_refused on_list.Lock = refl
same_list_refused _ = refl

unless_not : (b : Bool) (cause : StepRefused) → (IsTrue b → ⊥) → unless b cause ≡ Some cause
unless_not true cause never = absurd (never refl)
unless_not false cause never = refl

module _ (h : WholeMachine) (i : ℕ) (after : After) (at : each Rest h.standing i ≡ AtCounter after) where
  abbrev can : Bool
  can = (event_in h.semaphores i).can (finds_in h.semaphores i)

  abbrev cause : StepRefused
  cause = refused_by (event_in h.semaphores i).word

  refused_so : (b : Bool) → gives_up_in h i after ≡ b → IsRefusal h i (unless (b || can) cause)
  refused_so b gives m shape journal =
      (λ j. refusal_of m (core_of h journal) i (at j))
      ∙ (λ j. unless ((same_test h h i after m journal ∙ gives) j || (event_in h.semaphores i).can (finds (sym shape.root j) (world_of h.semaphores []) i))
      (same_refused (event_in h.semaphores i).word j))

  pub gives_up_ready : gives_up_in h i after ≡ true → IsReady h i (GivesUp after)
  gives_up_ready gives = subst (λ x. IsReadyAt h i x (GivesUp after)) (sym at) (refl, gives)

  pub gives_up_can : gives_up_in h i after ≡ true → IsRefusal h i None
  gives_up_can gives = refused_so true gives

  pub counter_ready : gives_up_in h i after ≡ false → (ready : Ready) → IsReadyFor h.semaphores i ready → IsTrue can
      → IsReady h i (OnCounter after ready)
  counter_ready stays ready is ok = subst (λ x. IsReadyAt h i x (OnCounter after ready)) (sym at) (refl, is, ok, stays)

  pub counter_can : gives_up_in h i after ≡ false → IsTrue can → IsRefusal h i None
  counter_can stays ok = subst (λ b. IsRefusal h i (unless b cause)) ok (refused_so false stays)

  pub counter_cannot : gives_up_in h i after ≡ false → (IsTrue can → ⊥) → (told : StepRefused) → told ≡ cause → IsRefusal h i (Some told)
  counter_cannot stays never told is =
      subst (λ x. IsRefusal h i (Some x)) (sym is) (subst (IsRefusal h i) (unless_not can cause never) (refused_so false stays))

module _ (h : WholeMachine) (i l : ℕ) (ending : Ending) (at : each Rest h.standing i ≡ AtList l ending) where
  abbrev can_on_list : Bool
  can_on_list = list.can_turn (stored_list.world_of (each no_list h.lists l) []) i

  abbrev list_cause : StepRefused
  list_cause = list_refused_by (list.event_of (stored_list.world_of (each no_list h.lists l) []) i).word

  list_refused_so : (b : Bool) → gives_up_on_list_in h l i ending ≡ b → IsRefusal h i (unless (b || can_on_list) list_cause)
  list_refused_so b gives m shape journal =
      (λ j. refusal_of m (core_of h journal) i (at j))
      ∙ (λ j. unless ((same_list_test h h i l ending journal ∙ gives) j || can_on_list)
      (same_list_refused (list.event_of (stored_list.world_of (each no_list h.lists l) []) i).word j))

  pub list_gives_up_ready : l < length h.lists → gives_up_on_list_in h l i ending ≡ true → IsReady h i (GivesUpOnList l ending)
  list_gives_up_ready there gives = subst (λ x. IsReadyAt h i x (GivesUpOnList l ending)) (sym at) (refl, refl, there, gives)

  pub list_gives_up_can : gives_up_on_list_in h l i ending ≡ true → IsRefusal h i None
  list_gives_up_can gives = list_refused_so true gives

  pub list_ready : l < length h.lists → gives_up_on_list_in h l i ending ≡ false → (ready : ListReady)
      → IsListReady (each no_list h.lists l) i ready → IsReady h i (OnList l ending ready)
  list_ready there stays ready is = subst (λ x. IsReadyAt h i x (OnList l ending ready)) (sym at) (refl, refl, there, is, stays)

  pub list_can : gives_up_on_list_in h l i ending ≡ false → (ready : ListReady) → IsListReady (each no_list h.lists l) i ready → IsRefusal h i None
  list_can stays ready is = subst (λ b. IsRefusal h i (unless b list_cause)) is.does.can (list_refused_so false stays)

  pub list_cannot : gives_up_on_list_in h l i ending ≡ false → (told : StepRefused) → IsListRefusedBy told (each no_list h.lists l) i
      → IsRefusal h i (Some told)
  list_cannot stays told refused =
      subst (λ x. IsRefusal h i (Some x)) (sym refused.is)
      (subst (IsRefusal h i) (unless_not can_on_list list_cause refused.cannot) (list_refused_so false stays))

-- the list that was read is the one that is shown
pub list_shown : (h shows : WholeMachine) → h ≡ shows → (l n : ℕ) → n ≡ l → l < length shows.lists → (was : StoredList)
    → was ≡ get_or h.lists n was → was ≡ each no_list shows.lists l
list_shown h shows same l n number there was at =
    (is_list h shows same l n number there was at).1 ∙ ap (λ (z : WholeMachine). each no_list z.lists l) same

-- a call that may not give up doesn't
pub never_gives_up : (h : WholeMachine) (i : ℕ) (after : After) → is_given_up_in_sleep after ≡ false → gives_up_in h i after ≡ false
never_gives_up h i (Closes (MayGiveUp how)) never = absurd cc
never_gives_up h i (LooksAgain g (MayGiveUp how)) never = absurd cc
never_gives_up h i (Closes NextCall) never = refl
never_gives_up h i (Closes (GaveUp how)) never = refl
never_gives_up h i (Closes (GivesBack skips)) never = refl
never_gives_up h i (LooksAgain g NextCall) never = refl
never_gives_up h i (LooksAgain g (GaveUp how)) never = refl
never_gives_up h i (LooksAgain g (GivesBack skips)) never = refl
never_gives_up h i (Releases g more) never = refl

-- whether a row can run
module _ (h : WholeMachine) (i : ℕ) (after : After) (at : each Rest h.standing i ≡ AtCounter after) where
  pub counter_enabled : (b : Bool) → gives_up_in h i after ≡ b → (answer : Bool)
      → IsTrue answer ↔ IsTrue (b || (event_in h.semaphores i).can (finds_in h.semaphores i))
      → (m : CoreLayout) → IsMachineFor m h → IsTrue answer ↔ IsTrue (can_run m (core_of h []) i (each Rest h.standing i))
  counter_enabled b gives answer is m shape =
      let same : can_run m (core_of h []) i (each Rest h.standing i) ≡ (b || (event_in h.semaphores i).can (finds_in h.semaphores i))
      = (λ j. can_run m (core_of h []) i (at j))
      ∙ (λ j. (same_test h h i after m [] ∙ gives) j || (event_in h.semaphores i).can (finds (sym shape.root j) (world_of h.semaphores []) i)) in
      subst (λ x. IsTrue answer ↔ IsTrue x) (sym same) is

module _ (h : WholeMachine) (i l : ℕ) (ending : Ending) (at : each Rest h.standing i ≡ AtList l ending) where
  pub list_enabled : (b : Bool) → gives_up_on_list_in h l i ending ≡ b → (answer : Bool)
      → IsTrue answer ↔ IsTrue (b || list.can_turn (stored_list.world_of (each no_list h.lists l) []) i)
      → (m : CoreLayout) → IsMachineFor m h → IsTrue answer ↔ IsTrue (can_run m (core_of h []) i (each Rest h.standing i))
  list_enabled b gives answer is m shape =
      let same : can_run m (core_of h []) i (each Rest h.standing i) ≡ (b || list.can_turn (stored_list.world_of (each no_list h.lists l) []) i)
      = (λ j. can_run m (core_of h []) i (at j))
      ∙ (λ j. (same_list_test h h i l ending [] ∙ gives) j || list.can_turn (stored_list.world_of (each no_list h.lists l) []) i) in
      subst (λ x. IsTrue answer ↔ IsTrue x) (sym same) is

pub ready_tells : (l : StoredList) (i : ℕ) (r : Result ListReady StepRefused) → IfOk r (λ ready. IsListReady l i ready)
    → IfErr r (λ cause. IsListRefusedBy cause l i) → (b : Bool) → b ≡ is_ok r → IsTrue b ↔ IsTrue (list.can_turn (stored_list.world_of l []) i)
ready_tells l i (Ok ready) ok why b is = ((λ t. ok.does.can), (λ t. is))
ready_tells l i (Err cause) ok why b is = ((λ t. let wrong = sym t ∙ is in absurd cc), (λ can. absurd (why.cannot can)))
