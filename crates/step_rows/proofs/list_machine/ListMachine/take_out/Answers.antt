use Rattle.std.proofs.Common.{sym, ◌∙◌}
use Rattle.step_table.specs.declared.list_place.ListEffect.TheVariants.{TakesOut}
use Rattle.step_rows.proofs.Noting.{Reads, effected, one_out, one_out_kept, none_out}
use Rattle.step_rows.proofs.list_machine.ListMachine.take_out.Goals as goal

pub invariant_of-self : goal.invariant_of-self
invariant_of-self c = one_out_kept c.self.inside _ _ _ _
    (record { are = c.self.invariant; same = c.self.view_is; in_range = c.requires; number = c.number.ensures; value = c.index.ensures })
    c.args.ticket _ c.in-Some.ensures.rest c.in-Some.wait (sym c.in-Some.ensures.first) c.in-Some.ensures.room
    _ c.push_back.ensures.pushed c.push_back.ensures.room

pub returns-in-Some : goal.returns-in-Some
returns-in-Some c = λ x.
    (let reads : Reads c.self.inside c.args.self.now c.args.seat c.number.result c.index.result.now
    = record { are = c.self.invariant; same = c.self.view_is; in_range = c.requires; number = c.number.ensures; value = c.index.ensures } in
    effected c.self.inside _ _ _ _ reads (TakesOut c.args.ticket) x (record c.self.inside { waits = c.push_back.new.self })
    (one_out c.self.inside _ _ _ _ reads c.args.ticket _ c.in-Some.ensures.rest c.in-Some.wait (sym c.in-Some.ensures.first) c.in-Some.ensures.room
    _ c.push_back.ensures.pushed c.push_back.ensures.room x))

pub returns-in_default : goal.returns-in_default
returns-in_default c = λ x.
    (let reads : Reads c.self.inside c.args.self.now c.args.seat c.number.result c.index.result.now
    = record { are = c.self.invariant; same = c.self.view_is; in_range = c.requires; number = c.number.ensures; value = c.index.ensures } in
    effected c.self.inside _ _ _ _ reads (TakesOut c.args.ticket) x (record c.self.inside { waits = c.take_ticket.new.self })
    (none_out c.self.inside _ _ _ _ reads c.args.ticket _ c.take_ticket.ensures.rest (sym c.take_ticket.ensures.first ∙ c.in_default.is) x))
