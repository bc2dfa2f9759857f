use Rattle.std.proofs.Common.{refl}
use Rattle.step_rows.proofs.Noting.{record_kept, put_placed}
use Rattle.step_rows.proofs.list_machine.ListMachine.put_at.Goals as goal

pub invariant_of-self : goal.invariant_of-self
invariant_of-self c = record_kept c.self.inside _ _ _ _
    (record { are = c.self.invariant; same = c.self.view_is; in_range = c.requires; number = c.number.ensures; value = c.index_mut.ensures.value }) _ refl

pub returns : goal.returns
returns c = put_placed c.self.inside _ _ _ _
    (record { are = c.self.invariant; same = c.self.view_is; in_range = c.requires; number = c.number.ensures; value = c.index_mut.ensures.value }) c.args.place
