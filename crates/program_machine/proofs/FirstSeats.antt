-- Seats that go on from their first lines one by one, and the machine that is sound when all have.
use Rattle.std.proofs.Common.{◌≡◌, ℕ, ℤ, pos, ◌+◌, ◌<◌, List, [], length, refl, sym, ap, ◌∙◌, subst, arith}
use native.Mathlib.Decide.{ℕ_discrete}
use Rattle.program_code.specs.declared.program.CodeLine.{CodeLine}
use Rattle.program_code.specs.declared.program.Program.{Program}
use Rattle.program_code.specs.WellFormed.{IsWellFormed, IsFew}
use Rattle.program_machine.specs.Layer.{parts_of}
use Rattle.program_machine.specs.Shared.{world_of}
use Rattle.program_machine.specs.Sound.{IsSound}
use Rattle.program_machine.specs.Starting.{HaveStarted}
use Rattle.program_rows.specs.Settling.{HasStarted}
use Rattle.program_rows.specs.Starting.{IsFirst}
use Rattle.program_rows.specs.Stored.{Stored, seats_of}
use Rattle.program_steps.specs.Going.{GoesOn}
use Rattle.program_steps.specs.Steps.{IsStart, start}
use Rattle.program_steps.specs.World.{ProgramSeat, layer_of, code_of, new_seat}
use Rattle.step_core.specs.Key.{HasForm}
use Rattle.step_core.specs.State.{WholeMachine, core_of}
use Rattle.step_rows.specs.Stored.{each}
use Rattle.step_table.specs.Core.{first_core}

module _ (p : Program) where
  pub none_started : (words : List ℤ) (n : ℕ) (own : Stored) → IsFirst words n own → words ≡ p.words → n ≡ length p.seats
      → HaveStarted p 0 own
  none_started words n own first words_are seats_are = record {
    started = λ i below. absurd (omega arith);
    others = λ i from. ap (λ f. f i) first.seats_are;
    words = first.words_are ∙ words_are;
    sleepers = first.sleepers;
    grants = first.grants;
    count = first.count ∙ seats_are;
    there = first.there;
  }

  pub one_started : (k : ℕ) (own next : Stored) → HaveStarted p k own → (code : List CodeLine) → code ≡ code_of p k
      → HasStarted code k own next → HaveStarted p (k + 1) next
  one_started k own next so code is one = record {
    started = λ i below. by i below (ℕ_discrete i k);
    others = λ i from. one.rest.others i (λ e. absurd (omega arith)) ∙ so.others i (omega arith);
    words = one.rest.words ∙ so.words;
    sleepers = one.rest.sleepers ∙ so.sleepers;
    grants = one.rest.grants ∙ so.grants;
    count = one.rest.size.seats ∙ so.count;
    there = one.rest.size.there so.there;
  }
    where
      here : GoesOn (code_of p k) k new_seat 0 (seats_of next.seats k)
      here = subst (λ (q : ProgramSeat). GoesOn (code_of p k) k q 0 (seats_of next.seats k)) (so.others k (omega arith))
          (subst (λ lines. GoesOn lines k (seats_of own.seats k) 0 (seats_of next.seats k)) is one.seat)

      by : (i : ℕ) → i < k + 1 → Dec (i ≡ k) → GoesOn (code_of p i) i new_seat 0 (seats_of next.seats i)
      by i below (yes e) = subst (λ j. GoesOn (code_of p j) j new_seat 0 (seats_of next.seats j)) (sym e) here
      by i below (no ne) = subst (λ (q : ProgramSeat). GoesOn (code_of p i) i new_seat 0 q) (sym (one.rest.others i ne)) (so.started i (omega arith))

  module _ (layer : WholeMachine) (own : Stored) (all : HaveStarted p (length p.seats) own)
      (first : core_of layer [] ≡ first_core (layer_of p)) where
    pub start_is : IsStart p (world_of (record { layer = layer; own = own }) [])
    start_is = record {
      seats = all.started;
      others = all.others;
      words = ap (each (pos 0)) all.words;
      layer = first;
      sleepers = all.sleepers;
      grants = all.grants;
    }

    pub first_sound : IsWellFormed p → IsFew p → HasForm (parts_of p) layer → IsSound p 0 (record { layer = layer; own = own })
    first_sound formed few form = record {
      formed = formed;
      few = few;
      form = form;
      words = ap length all.words;
      seats = all.count;
      there = all.there;
      small = omega arith;
      past = record { journal = []; schedule = []; reached = start start_is; count = refl };
    }
