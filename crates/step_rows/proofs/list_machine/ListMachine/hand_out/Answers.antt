use Rattle.std.proofs.Common.{refl, Some, ◌+◌}
use Rattle.step_table.specs.declared.list_place.ListEffect.TheVariants.{HandsOut}
use Rattle.step_rows.proofs.Noting.{Reads, effected, with_record, record_kept, put_ticket}
use Rattle.step_rows.proofs.list_machine.ListMachine.hand_out.Goals as goal

pub invariant_of-self : goal.invariant_of-self
invariant_of-self c = record_kept c.self.inside _ _ _ _
    (record { are = c.self.invariant; same = c.self.view_is; in_range = c.requires.seat; number = c.number.ensures; value = c.index_mut.ensures.value })
    _ refl

pub returns : goal.returns
returns c = λ x.
    (let reads : Reads c.self.inside c.args.self.now c.args.seat c.number.result c.index_mut.result.now
    = record { are = c.self.invariant; same = c.self.view_is; in_range = c.requires.seat; number = c.number.ensures; value = c.index_mut.ensures.value } in
    effected c.self.inside _ _ _ _ reads (HandsOut c.args.ticket) x
    (record (with_record c.self.inside _ _ _ _ reads (record c.index_mut.result.now { ticket = Some c.args.ticket })) { handed = c.self.inside.handed + 1 })
    (put_ticket c.self.inside _ _ _ _ reads c.args.ticket x))
