use Rattle.std.proofs.Common.{refl, sym, ◌∙◌, arith}
use Rattle.step_table.specs.declared.list_place.AllRow.TheVariants.{L1}
use Rattle.step_table.specs.declared.list_place.ListPlace.TheVariants.{NotifyingAll}
use Rattle.notify_list.specs.Places.{at_place, alls}
use Rattle.notify_list.specs.Plays.{at_all}
use Rattle.notify_list.specs.Seats.{stands_of}
use Rattle.notify_list.proofs.Owned.{low_word, owned}
use Rattle.notify_list.proofs.Allowing.{row_goes, goes_at}
use Rattle.notify_list.proofs.LookingAll.{stands_first, looked_for_all}
use Rattle.notify_list.proofs.notify_list.NotifyList.look_for_all.Goals as goal

pub load-waited-requires : goal.load-waited-requires
load-waited-requires c =
    let x = c.self.inside in let s = c.args.token.now in let seat = c.requires.1.1 in let at = c.requires.0 ∙ sym c.self.view_is in (
      omega arith,
      (
        owned x c.self.invariant s at,
        (
          low_word x c.self.invariant 0 (omega arith),
          row_goes s.me (at_place (NotifyingAll 0 L1) (stands_of s)) (alls seat.free) at_all refl _ 0 (λ n. n) (λ e. absurd (omega arith))
              (λ w n known. record { word = refl; there = tt; can = refl; becomes = refl }),
        ),
      ),
    )

pub load-requires : goal.load-requires
load-requires c =
    let x = c.self.inside in let s = c.args.token.now in let t = c.load-waited.new.token in let E = c.load-waited.ensures in
    let at = (λ i. record { id = E.own i; setting = E.went.0.same.1 i }) ∙ c.requires.0 ∙ sym c.self.view_is in (
      omega arith,
      (
        owned x c.self.invariant t at,
        (
          low_word x c.self.invariant 1 (omega arith),
          goes_at _ t.me 1 _ (stands_first s t c.load-waited.result E.went) (λ k. k) (λ e. absurd (omega arith))
              (λ w k known. record { word = refl; there = tt; can = refl; becomes = refl }),
        ),
      ),
    )

pub returns : goal.returns
returns c = let E = c.load-waited.ensures in let F = c.load.ensures in
    looked_for_all c.args.token.now c.load-waited.new.token c.load.new.token c.requires.1.0 c.load-waited.result c.load.result
    c.requires.1.1 E.went F.went E.own F.own
