use Rattle.std.proofs.Common.{nat_lt, length, ap, ◌∙◌, arith}
use Rattle.step_table.proofs.Skipping.{length_more}
use Rattle.step_rows.specs.ListStored.{StoredList}
use Rattle.step_rows.proofs.Noting.{forgone, without_kept}
use Rattle.step_rows.proofs.list_machine.ListMachine.forgo.Goals as goal

pub invariant_of-self : goal.invariant_of-self
invariant_of-self c =
    without_kept c.self.inside c.self.invariant 0 c.args.wait c.args.becomes c.take.new.self c.put_in_order.new.gone c.put_in_order-2.new.gone
    c.take.ensures.rest c.put_in_order.ensures.items c.put_in_order-2.ensures.items c.take.result c.take.ensures.first c.take.ensures.room c.take.ensures.none
    c.put_in_order.ensures.capacity c.put_in_order-2.ensures.capacity

pub pass-requires : goal.pass-requires
pass-requires c =
    let more = length_more nat_lt c.args.wait.id.turn c.self.inside.gone_numbers.items in
    let put = ap length c.put_in_order.ensures.items in
    let numbers = ap (λ (l : StoredList). length l.gone_numbers) c.self.view_is in
    let passed = ap (λ (l : StoredList). l.passed) c.self.view_is in
    omega (arith, c.requires.fits)

pub returns : goal.returns
returns c = λ seat.
    c.pass.ensures seat
    ∙ forgone c.self.inside c.self.invariant seat c.args.wait c.args.becomes c.take.new.self c.put_in_order.new.gone c.put_in_order-2.new.gone
    c.take.ensures.rest c.put_in_order.ensures.items c.put_in_order-2.ensures.items _ c.self.view_is
