-- What is asked for of a seat of a moment, whichever table it steps by, and what the machine answers for it.
use Rattle.std.proofs.Common.{◌≡◌, ℕ, ◌<◌, [], Option, Some, None, cond, length, refl, ap}
use Rattle.std.proofs.Common.{sym, ◌∙◌, subst, arith}
use Rattle.std.proofs.Common.{IsTrue, ◌↔◌, Bool, true, false}
use Rattle.std.proofs.lemmas.Bool.{lt-ltb}
use Rattle.step_table.specs.declared.place.Place.{Place}
use Rattle.step_table.specs.declared.place.Place.TheVariants.{Releasing}
use Rattle.step_table.specs.declared.refusal.StepRefused.{StepRefused}
use Rattle.step_table.specs.declared.refusal.StepRefused.TheVariants.{NoSuchSeat}
use Rattle.step_table.specs.declared.standing.After.{After}
use Rattle.step_table.specs.declared.standing.After.TheVariants.{Closes, LooksAgain, Releases}
use Rattle.step_table.specs.declared.standing.Standing.{Standing}
use Rattle.step_table.specs.declared.standing.Standing.TheVariants.{Rest, AtCounter, AtList, AtGroup, Failed, Left}
use Rattle.step_rows.specs.Stored.{each}
use Rattle.step_law_whole.specs.CoreLaw.{IsCallBefore, IsStanding}
use Rattle.step_table.specs.Core.{CoreLayout, Core}
use Rattle.step_table.specs.CoreSteps.{can_run}
use Rattle.step_table.specs.Run.{layout, unless, refusal_of, refusal}
use Rattle.step_core.specs.WellFormed.{IsWellFormed, HasPast}
use Rattle.step_core.specs.State.{Moment, State, HasSeat, HasSeatOn, HasGroup, MayGoOn, AsksFor, IsMachineFor, IsRefusal, core_of, run_of}
use Rattle.step_core.specs.State.{run_at, telling}
use Rattle.step_core.proofs.Ranges.{asks_for, change_in, well_formed_by}

-- a cause is told exactly where the row can't run
unless_none : (b : Bool) (cause : StepRefused) → IsTrue b ↔ (unless b cause ≡ None)
unless_none true cause = ((λ t. refl), (λ e. refl))
unless_none false cause = ((λ f. absurd cc), (λ e. absurd cc))

refused_none : (m : CoreLayout) (s : Core) (i : ℕ) (doing : Standing) → IsTrue (can_run m s i doing) ↔ (refusal_of m s i doing ≡ None)
refused_none m s i (Left skips) = ((λ f. absurd cc), (λ e. absurd cc))
refused_none m s i Rest = ((λ f. absurd cc), (λ e. absurd cc))
refused_none m s i (AtCounter after) = unless_none _ _
refused_none m s i (AtList l ending) = unless_none _ _
refused_none m s i (AtGroup g row) = ((λ t. refl), (λ e. refl))
refused_none m s i (Failed misuse) = ((λ f. absurd cc), (λ e. absurd cc))

-- a seat of a moment
module _ (m : Moment) (past : HasPast m) (i : ℕ) (there : i < length m.parts.calls) where
  abbrev behind : State
  behind = telling m past.0

  law : IsWellFormed (change_in m.table) behind
  law = well_formed_by m.table behind past.1

  pub has_seat : HasSeat m.machine i
  has_seat = (let h = there in let a = law.machine.callers in omega arith, let h = there in let a = law.machine.standing in omega arith)

  pub asks : AsksFor m.machine i (each Rest m.machine.standing i)
  asks = asks_for (change_in m.table) behind law i there

  seat_on : (doing : Standing) → IsStanding (layout m.parts) (run_of behind).core i doing → HasSeatOn m.machine i doing
  seat_on (AtList l ending) is = (
    let a = law.machine.lists in let h = is.2 in omega arith,
    let h = there in let a = law.machine.seats l is.2 in omega arith,
  )
  seat_on _ is = tt

  has_group : (g : ℕ) → g < m.parts.groups → HasGroup m.machine g
  has_group g within =
      let own = law.stored.own_is in
      let counters = law.scenario.limits.counters in
      let groups = law.scenario.limits.groups in omega arith

  may_go_on : (after : After) (place : Place) → IsCallBefore (layout m.parts) after place → MayGoOn m.machine after
  may_go_on (Closes ending) place is = tt
  may_go_on (LooksAgain g ending) place is = tt
  may_go_on (Releases g more) (Releasing r row) is = has_group g is.2
  may_go_on (Releases g more) _ is = absurd is

  here : refusal m.parts (run_at m) i ≡ refusal_of (layout m.parts) (run_at m).core i ((run_at m).core.standing i)
  here =
      ap (λ b. cond b (refusal_of (layout m.parts) (run_at m).core i ((run_at m).core.standing i)) (Some NoSuchSeat))
      (lt-ltb i (length m.parts.calls) there)

  -- what the machine answers is what the run says
  says : (cause : Option StepRefused) → IsRefusal m.machine i cause → refusal m.parts (run_at m) i ≡ cause
  says cause is = here ∙ is (layout m.parts) law.machine []

  module _ (shows : Moment) (same : m ≡ shows) where
    pub said : (cause : Option StepRefused) → IsRefusal m.machine i cause → refusal shows.parts (run_at shows) i ≡ cause
    said cause is = subst (λ (n : Moment). refusal n.parts (run_at n) i ≡ cause) same (says cause is)

    pub whether_enabled : (answer : Bool)
        → ((l : CoreLayout) → IsMachineFor l m.machine
        → IsTrue answer ↔ IsTrue (can_run l (core_of m.machine []) i (each Rest m.machine.standing i)))
        → IsTrue answer ↔ (refusal shows.parts (run_at shows) i ≡ None)
    whether_enabled answer is =
        let can = is (layout m.parts) law.machine in
        let none = refused_none (layout m.parts) (run_at m).core i ((run_at m).core.standing i) in
        subst (λ (n : Moment). IsTrue answer ↔ (refusal n.parts (run_at n) i ≡ None)) same
        (subst (λ r. IsTrue answer ↔ (r ≡ None)) (sym here) ((λ t. none.0 (can.0 t)), (λ e. can.1 (none.1 e))))
