use Rattle.step_table.specs.declared.list_place.ListEffect.TheVariants.{Gives}
use Rattle.step_rows.proofs.Noting.{Reads, effected, given, given_kept}
use Rattle.step_rows.proofs.list_machine.ListMachine.give.Goals as goal

pub invariant_of-self : goal.invariant_of-self
invariant_of-self c = given_kept c.self.inside _ _ _ _
    (record { are = c.self.invariant; same = c.self.view_is; in_range = c.requires; number = c.number.ensures; value = c.index.ensures })
    _ c.pop_front.ensures.rest _ c.pop_front.ensures.first c.pop_front.ensures.room c.pop_front.ensures.none

pub returns : goal.returns
returns c = λ x.
    (let reads : Reads c.self.inside c.args.self.now c.args.seat c.number.result c.index.result.now
    = record { are = c.self.invariant; same = c.self.view_is; in_range = c.requires; number = c.number.ensures; value = c.index.ensures } in
    effected c.self.inside _ _ _ _ reads Gives x (record c.self.inside { waits = c.pop_front.new.self })
    (given c.self.inside _ _ _ _ reads _ c.pop_front.ensures.rest x))
