-- Rows of a seat that stands in a call of the layer or sleeps on a word; and a row with what comes after it is a step.
use Rattle.std.proofs.Common.{◌≡◌, ℕ, ◌+◌, ◌<◌, List}
use Rattle.std.proofs.Common.{length, pos, refl, ap, ◌∙◌, subst}
use Rattle.program_code.specs.declared.program.Program.{Program}
use Rattle.program_machine.specs.LayerRows.{HasLayerRow, HasNoLayerRow, as_it_is}
use Rattle.program_machine.specs.Shared.{Shared, world_of}
use Rattle.program_machine.specs.Sound.{CanGoOn, HasRun, HasNoRow, HasStepped}
use Rattle.program_machine.proofs.Standing.{IsThere, Kept, row_kept, stands_there}
use Rattle.program_rows.specs.Settling.{HasSettled, IsSeatAfterIn}
use Rattle.program_code.specs.declared.program.CodeLine.{CodeLine}
use Rattle.program_steps.specs.Going.{GoesOn}
use Rattle.program_machine.proofs.Showing.{machine_is}
use Rattle.program_rows.specs.Rows.{Does, wakes_at}
use Rattle.program_rows.specs.Stored.{Stored, seats_of}
use Rattle.program_rows.proofs.Storing.{same_size}
use Rattle.program_steps.specs.declared.stand.Stand.TheVariants.{Within, Asleep, FailedAt}
use Rattle.program_steps.specs.declared.stand.Then.{Then}
use Rattle.program_steps.specs.declared.stand.Then.TheVariants.{OnFromNext, Stands, Fails}
use Rattle.program_steps.specs.Steps.{row_at, at, IsSeatAfter}
use Rattle.program_steps.specs.World.{ProgramWorld, ProgramSeat, layer_of, code_of}
use Rattle.step_core.specs.State.{WholeMachine, AreSameSize, core_of}
use Rattle.step_rows.specs.Stored.{each}
use Rattle.step_table.specs.declared.entry.Entry.{Entry}
use Rattle.program_machine.proofs.Lines.{alike_self}

-- seat i of what is stored, which can go on
module _ (p : Program) (s : Shared) (i : ℕ) (can : CanGoOn p s i) where
  abbrev world : ProgramWorld
  world = world_of s can.sound.past.journal

  -- it stands within a call of the layer
  module _ (n : ℕ) (within : (seats_of s.own.seats i).stand ≡ Within n) where
    pub within_there : n < length (code_of p i)
    within_there = subst (IsThere (code_of p i)) within (stands_there p can.sound.past.schedule world can.sound.past.reached i can.there)

    pub within_ran : (k : WholeMachine) (then : Then) → HasLayerRow s.layer i n as_it_is k then → AreSameSize s.layer k
        → HasRun p s i (record { layer = k; own = s.own }) then
    within_ran k then row alike = record {
      row = λ journal. let got = row (layer_of p) (machine_is p s.layer can.sound.form) journal in
          (got.0, ap (row_at p (world_of s journal) i) within ∙ got.1 (world_of s journal));
      size = record { layer = alike; own = same_size s.own };
    }

    pub within_refused : HasNoLayerRow s.layer i n as_it_is → HasNoRow p s i
    within_refused can_not journal =
        ap (row_at p (world_of s journal) i) within ∙ can_not (layer_of p) (machine_is p s.layer can.sound.form) journal (world_of s journal)

  -- it sleeps on a word
  module _ (n : ℕ) (asleep : (seats_of s.own.seats i).stand ≡ Asleep n) where
    pub asleep_there : n < length (code_of p i)
    asleep_there = subst (IsThere (code_of p i)) asleep (stands_there p can.sound.past.schedule world can.sound.past.reached i can.there)

    pub asleep_ran : (t : Stored) (then : Then) → Does (wakes_at i) s.own t then → HasRun p s i (record { layer = s.layer; own = t }) then
    asleep_ran t then does = record {
      row = λ journal. (journal, ap (row_at p (world_of s journal) i) asleep ∙ does.did (core_of s.layer journal));
      size = record { layer = alike_self s.layer; own = does.size };
    }

  -- a row and what comes after it are a step
  module _ (mid : Shared) (then : Then) (ran : HasRun p s i mid then) (code : List CodeLine) (code_is : code ≡ code_of p i) (n : ℕ)
      (line_at : n ≡ at (seats_of s.own.seats i).stand) (own : Stored) (settled : HasSettled code i n then mid.own own) where
    seat_after : (then : Then) (q t : ProgramSeat) → IsSeatAfterIn code i n q then t → IsSeatAfter p i (at (seats_of s.own.seats i).stand) q then t
    seat_after OnFromNext q t is =
        subst (λ k. GoesOn (code_of p i) i q (k + 1) t) line_at (subst (λ lines. GoesOn lines i q (n + 1) t) code_is is)
    seat_after (Stands stand) q t is = is
    seat_after (Fails why) q t is = is ∙ ap (λ k. record q { stand = FailedAt k why }) line_at

    kept_by_row : (journal : List Entry) → Kept p (world_of s journal) i (record { world = world_of mid (ran.row journal).0; next = then })
    kept_by_row journal = row_kept p (world_of s journal) i (seats_of s.own.seats i).stand
        (stands_there p can.sound.past.schedule world can.sound.past.reached i can.there) _ (ran.row journal).1

    pub stepped : HasStepped p s i (record { layer = mid.layer; own = own })
    stepped = record {
      step = λ journal. (
        (ran.row journal).0,
        record {
          did = record { world = world_of mid (ran.row journal).0; next = then };
          is = (ran.row journal).1;
          seat = seat_after then (seats_of mid.own.seats i) (seats_of own.seats i) settled.seat;
          others = λ k ne. settled.rest.others k ne ∙ (kept_by_row journal).others k ne;
          words = ap (each (pos 0)) settled.rest.words;
          layer = refl;
          sleepers = settled.rest.sleepers;
          grants = settled.rest.grants;
        },
      );
      size = record {
        layer = ran.size.layer;
        own = record {
          words = settled.rest.size.words ∙ ran.size.own.words;
          seats = settled.rest.size.seats ∙ ran.size.own.seats;
          there = λ q. settled.rest.size.there (ran.size.own.there q);
        };
      };
    }
