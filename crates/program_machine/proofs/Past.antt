-- A machine that was sound before a step is sound after it: the schedule that led there is one step longer.
use Rattle.std.proofs.Common.{◌≡◌, ℕ, ◌+◌, ◌<◌, [], ◌∷◌, ◌++◌, length, refl, ap, ◌∙◌, subst, ◌^◌, arith}
use Rattle.std.proofs.lemmas.List.{length-append}
use Rattle.program_code.specs.declared.program.Program.{Program}
use Rattle.program_machine.specs.Layer.{parts_of}
use Rattle.program_machine.specs.Moment.{ProgramMoment, HasMoved}
use Rattle.program_machine.specs.Shared.{Shared}
use Rattle.program_machine.specs.Sound.{IsSound, HasStepped}
use Rattle.program_machine.proofs.Showing.{form_after}
use Rattle.program_steps.specs.Steps.{step}

module _ (p : Program) (n : ℕ) (s : Shared) (i : ℕ) (t : Shared) (sound : IsSound p n s) (few : n < 2 ^ 63) (there : i < length p.seats)
    (stepped : HasStepped p s i t) where
  pub sound_after : IsSound p (n + 1) t
  sound_after = record {
    formed = sound.formed;
    few = sound.few;
    form = form_after (parts_of p) s.layer t.layer stepped.size.layer sound.form;
    words = stepped.size.own.words ∙ sound.words;
    seats = stepped.size.own.seats ∙ sound.seats;
    there = stepped.size.own.there sound.there;
    small = omega arith;
    past = record {
      journal = (stepped.step sound.past.journal).0;
      schedule = sound.past.schedule ++ i ∷ [];
      reached = step i there sound.past.reached (stepped.step sound.past.journal).1;
      count = length-append sound.past.schedule (i ∷ []) ∙ ap (λ k. k + 1) sound.past.count;
    };
  }

-- the step as a caller sees it
pub moved : (h m : ProgramMoment) → h ≡ m → (i : ℕ) (t : Shared) → HasStepped h.program h.shared i t
    → HasMoved m i (record { program = h.program; shared = t; steps = h.steps + 1 })
moved h m same i t stepped = subst (λ q. HasMoved q i (record { program = h.program; shared = t; steps = h.steps + 1 })) same (record {
  program = refl;
  step = stepped.step;
  steps = refl;
})
