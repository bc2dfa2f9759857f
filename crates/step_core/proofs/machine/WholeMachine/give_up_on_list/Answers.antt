use Rattle.step_table.specs.declared.list_place.ListPlace.TheVariants.{Rest}
use Rattle.step_core.proofs.Settling.{gives_up_on_list_now}
use Rattle.step_core.proofs.machine.WholeMachine.give_up_on_list.Goals as goal

pub returns : goal.returns
returns c =
    gives_up_on_list_now _ _ c.self.view_is c.args.seat c.args.list _ c.args.ending Rest c.number.ensures c.requires.list.0 _ c.index.ensures
    _ _ _ c.place.ensures c.leaving_list-place.ensures c.given_up.ensures _ c.at_list.ensures
