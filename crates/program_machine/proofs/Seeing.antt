-- What a look at a seat's row asks of the layer: in each sound moment the seat is there, on the list of its call too, and while
-- the machine can step its row may be asked for.
use Rattle.std.proofs.Common.{ℕ, ◌^◌, ◌<◌, length, refl, arith}
use Rattle.program_code.specs.declared.program.Program.{Program}
use Rattle.program_machine.specs.Shared.{Shared, world_of}
use Rattle.program_machine.specs.Sound.{IsSound}
use Rattle.program_machine.proofs.Asking.{may_run}
use Rattle.program_machine.proofs.Showing.{IsLayer, layer_reached, stored_is, has_seat, has_list_seat}
use Rattle.step_core.specs.State.{HasSeatOn, HasSeatAt, AsksFor}
use Rattle.step_law_whole.specs.CoreLaw.{IsStanding}
use Rattle.step_rows.specs.Stored.{each}
use Rattle.step_core.specs.State.{core_of}
use Rattle.program_steps.specs.World.{layer_of}
use Rattle.step_table.specs.declared.standing.Standing.{Standing}
use Rattle.step_table.specs.declared.standing.Standing.TheVariants.{Rest, AtList}

module _ (p : Program) (n : ℕ) (s : Shared) (sound : IsSound p n s) (i : ℕ) (there : i < length p.seats) where
  shows : IsLayer p (length sound.past.schedule) s.layer sound.past.journal
  shows = layer_reached p sound.few sound.formed sound.few.starts sound.past.schedule (world_of s sound.past.journal) sound.past.reached
      s.layer sound.past.journal sound.form refl

  on_at : (doing : Standing) → IsStanding (layer_of p) (core_of s.layer sound.past.journal) i doing → HasSeatOn s.layer i doing
  on_at (AtList l ending) is = has_list_seat p s.layer sound.form l i is.2 there
  on_at _ is = tt

  pub seat_at : HasSeatAt s.layer i
  seat_at = (has_seat p s.layer sound.form i there, on_at (each Rest s.layer.standing i) (shows.invariant.standing i))

  pub grant_there : i < length s.layer.semaphores.stored.grants
  grant_there = let same = (stored_is p s.layer sound.form).grants in omega (arith, same, there)

  pub asks_at : n < 2 ^ 63 → AsksFor s.layer i (each Rest s.layer.standing i)
  asks_at small = (may_run p sound.few (length sound.past.schedule) (let same = sound.past.count in omega arith) s.layer sound.past.journal shows
      i there).asks
