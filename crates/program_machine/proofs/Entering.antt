-- What is told of a seat that goes on after its row is told of its step.
use Rattle.std.proofs.Common.{◌≡◌, ℕ, Bool, false, List, IsTrue, sym, ap, ◌∙◌}
use Rattle.std.proofs.lemmas.Option.{same_Some}
use Rattle.program_code.specs.declared.program.CodeLine.{CodeLine}
use Rattle.program_code.specs.declared.program.Program.{Program}
use Rattle.program_machine.specs.Entered.{AreEntered}
use Rattle.program_machine.specs.Shared.{Shared, world_of}
use Rattle.program_machine.specs.Sound.{HasRun}
use Rattle.program_rows.specs.Stored.{seats_of}
use Rattle.program_steps.specs.declared.stand.Then.{Then}
use Rattle.program_steps.specs.Entering.{EntersBy, comes_into_then}
use Rattle.program_steps.specs.Steps.{Did, at}
use Rattle.program_steps.specs.World.{code_of}
use Rattle.step_rows.specs.Stored.{each}
use Rattle.step_table.specs.declared.entry.Entry.{Entry}

module _ (p : Program) (s : Shared) (i : ℕ) (mid : Shared) (then : Then) (ran : HasRun p s i mid then) (code : List CodeLine)
    (code_is : code ≡ code_of p i) (n : ℕ) (line_at : n ≡ at (seats_of s.own.seats i).stand) (entered : List Bool)
    (told : (k : ℕ) → each false entered k ≡ comes_into_then code i (seats_of mid.own.seats i) n then k) where
  told_there : (k : ℕ) → each false entered k
      ≡ comes_into_then (code_of p i) i (seats_of mid.own.seats i) (at (seats_of s.own.seats i).stand) then k
  told_there k =
      told k ∙ ap (λ lines. comes_into_then lines i (seats_of mid.own.seats i) n then k) code_is
      ∙ ap (λ m. comes_into_then (code_of p i) i (seats_of mid.own.seats i) m then k) line_at

  module _ (journal : List Entry) (k : ℕ) where
    abbrev did : Did
    did = record { world = world_of mid (ran.row journal).0; next = then }

    enters : IsTrue (each false entered k) → EntersBy p (world_of s journal) i k
    enters is = record { did = did; is = (ran.row journal).1; into = sym (told_there k) ∙ is }

    enters_so : EntersBy p (world_of s journal) i k → IsTrue (each false entered k)
    enters_so by =
        told_there k
        ∙ ap (λ (d : Did). comes_into_then (code_of p i) i (d.world.seats i) (at (seats_of s.own.seats i).stand) d.next k)
        (same_Some did by.did (sym (ran.row journal).1 ∙ by.is))
        ∙ by.into

  pub are_entered : AreEntered p s i entered
  are_entered journal k = (enters journal k, enters_so journal k)
