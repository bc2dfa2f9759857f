use Rattle.std.proofs.Common.{refl, None}
use Rattle.step_table.specs.declared.list_place.ListPlace.TheVariants.{Waiting}
use Rattle.step_table.specs.declared.list_place.WaitRow.TheVariants.{W1}
use Rattle.step_rows.proofs.Noting.{Reads, record_kept, with_record, in_world, begun, not_begun}
use Rattle.step_rows.proofs.list_machine.ListMachine.begin_wait.Goals as goal

pub invariant_of-self : goal.invariant_of-self
invariant_of-self c =
    record_kept c.self.inside _ _ _ _ (record {
      are = c.self.invariant;
      same = c.self.view_is;
      in_range = c.requires;
      number = c.number.ensures;
      value =
          c.index_mut-record.ensures.value;
    }) _ refl

pub invariant_of-self-2 : goal.invariant_of-self-2
invariant_of-self-2 c =
    record_kept c.self.inside _ _ _ _ (record {
      are = c.self.invariant;
      same = c.self.view_is;
      in_range = c.requires;
      number = c.number.ensures;
      value =
          c.index_mut-record.ensures.value;
    }) _ refl

pub returns-clause-world : goal.returns-clause-world
returns-clause-world c =
    let reads : Reads c.self.inside c.args.self.now c.args.seat c.number.result c.index_mut-record.result.now
    = record { are = c.self.invariant; same = c.self.view_is; in_range = c.requires; number = c.number.ensures; value = c.index_mut-record.ensures.value } in
    in_world c.self.inside _ _ _ _ reads (with_record c.self.inside _ _ _ _ reads
    (record c.index_mut-record.result.now { place = Waiting c.in-Some.ticket W1; ticket = None }))
    (begun c.self.inside _ _ _ _ reads c.in-Some.ticket c.in-Some.is)

pub returns-in_default-clause-world : goal.returns-in_default-clause-world
returns-in_default-clause-world c =
    let reads : Reads c.self.inside c.args.self.now c.args.seat c.number.result c.index_mut-record.result.now
    = record { are = c.self.invariant; same = c.self.view_is; in_range = c.requires; number = c.number.ensures; value = c.index_mut-record.ensures.value } in
    in_world c.self.inside _ _ _ _ reads (with_record c.self.inside _ _ _ _ reads c.index_mut-record.result.now)
    (not_begun c.self.inside _ _ _ _ reads c.in_default.is)
