-- The line of a step, of what was read before it and after it.
use Rattle.std.proofs.Common.{◌≡◌, ℕ, ◌<◌, List, Option, Some, None, length, set, get_or, length-set, refl, sym, ap, ◌∙◌, subst, arith}
use Rattle.std.proofs.lemmas.List.{get_or_default}
use Rattle.step_table.specs.declared.call.Call.{Call}
use Rattle.step_table.specs.declared.entry.Entry.{Entry}
use Rattle.step_table.specs.declared.parts.Parts.{Parts}
use Rattle.step_table.specs.declared.phase.Phase.{Phase}
use Rattle.step_core.specs.declared.found.WordFound.{WordFound}
use Rattle.step_table.specs.World.{put}
use Rattle.step_table.specs.Row.{phase_in}
use Rattle.step_table.specs.Run.{refusal}
use Rattle.step_rows.specs.Stored.{each}
use Rattle.step_core.specs.Finding.{found_by}
use Rattle.step_core.specs.Stepping.{Steps}
use Rattle.step_core.specs.State.{Moment, run_at}
use Rattle.step_core.proofs.Moving.{seat_free}
use Rattle.step_rows.proofs.Storing.{each_set}
use Rattle.scenario_replay.specs.StepLine.{call_begun, HasTold}

-- the line of a step, as the code has read it
module _ (r s : Moment) (told : List ℕ) (i n was begun : ℕ) (before after : Moment) (scenario : Parts) (row : Phase) (found : WordFound)
    (call : Option Call) (at : before ≡ r) (number : n ≡ i) (counted : length told ≡ length r.parts.calls)
    (free : refusal before.parts (run_at before) i ≡ None) where
  seat_there : n < length told
  seat_there =
      let here : i < length before.parts.calls = seat_free before.parts (run_at before) i free in
      let calls : length before.parts.calls ≡ length r.parts.calls = ap (λ (m : Moment). length m.parts.calls) at in
      omega arith

  pub has_told : found_by before.parts (run_at before) i ≡ Some found → row ≡ phase_in (run_at before).core i
      → begun ≡ (run_at before).begun i → scenario ≡ before.parts → was ≡ get_or told n was → call ≡ call_begun scenario i was begun
      → (entry : Option Entry) → Steps r i s entry → after ≡ s
      → HasTold r told i s (set told n begun) (record { seat = i; row = row; found = found; call = call; entry = entry; after = after })
  has_told finds stands has of_it reads begins entry steps shows =
      let begun_is : begun ≡ (run_at r).begun i = has ∙ ap (λ (m : Moment). (run_at m).begun i) at in
      let was_is : was ≡ each 0 told i
      = reads ∙ sym (get_or_default told n 0 was seat_there) ∙ ap (λ k. get_or told k 0) number in
      record {
        steps = steps;
        count = length-set told n begun;
        told_now = each_set 0 told n begun seat_there ∙ (λ j. put (each 0 told) (number j) (begun_is j));
        seat = refl;
        enabled = subst (λ (m : Moment). refusal m.parts (run_at m) i ≡ None) at free;
        row = stands ∙ ap (λ (m : Moment). phase_in (run_at m).core i) at;
        found = subst (λ (m : Moment). found_by m.parts (run_at m) i ≡ Some found) at finds;
        call = begins ∙ (λ j. call_begun ((of_it ∙ ap (λ (m : Moment). m.parts) at) j) i (was_is j) (begun_is j));
        after = shows;
      }
