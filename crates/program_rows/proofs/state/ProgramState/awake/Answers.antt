use Rattle.std.proofs.Common.{◌≡◌, None, Some, eqb, ne_eqb, cond, false, refl, ap, ◌∙◌}
use Rattle.program_steps.specs.declared.stand.Then.TheVariants.{OnFromNext}
use Rattle.step_table.specs.World.{put}
use Rattle.program_rows.specs.declared.seat.Seat.{Seat}
use Rattle.program_rows.specs.Rows.{wakes_at}
use Rattle.program_rows.specs.Stored.{world_over, grants_of}
use Rattle.program_rows.proofs.Storing.{grant_changes, stored_is}
use Rattle.program_rows.proofs.state.ProgramState.awake.Goals as goal

pub returns : goal.returns
returns c =
    let awake : eqb (grants_of c.args.self.now.seats c.args.seat) 0 ≡ false
    = ne_eqb _ 0 (λ e. c.if-stored-eq0.false (ap (λ (s : Seat). s.grant)
    (stored_is _ _ c.self.view_is c.args.seat _ c.number.ensures c.requires _ c.index_mut-stored.ensures.value) ∙ e)) in
    grant_changes _ _ c.self.view_is c.args.seat _ c.number.ensures c.requires _ c.index_mut-stored.ensures.value _
    (wakes_at c.args.seat) _ refl
    (λ layer. ap (λ b. cond b None (Some (record {
      world = record (world_over layer c.args.self.now) { grants = put (grants_of c.args.self.now.seats) c.args.seat 0 };
      next = OnFromNext;
    }))) awake)
