use Rattle.std.proofs.Common.{◌≡◌, suc, length, ap, ◌∙◌, arith}
use Rattle.step_table.specs.declared.list_place.ListEffect.TheVariants.{Grants}
use Rattle.step_table.specs.ListWorld.{first_left}
use Rattle.step_table.specs.Wrapping.{next_word}
use Rattle.step_rows.specs.ListStored.{StoredList, made}
use Rattle.step_rows.proofs.Gone.{first_left_fits}
use Rattle.step_rows.proofs.Noting.{changed, passed_made}
use Rattle.step_rows.proofs.list_machine.ListMachine.pass.Goals as goal

pub invariant_of-self : goal.invariant_of-self
invariant_of-self c = (
  c.self.invariant.0,
  let room = c.self.invariant.1 in omega (arith, c.forget.ensures.capacity),
  let room = c.self.invariant.2 in omega (arith, c.forget-2.ensures.capacity),
)

pub returns : goal.returns
returns c = λ seat.
    (let shown = ap (λ (l : StoredList). length l.gone_numbers) c.self.view_is in
    let is : c.first_left-passed.result ≡ first_left suc c.self.inside.gone_numbers.items c.args.upto =
    c.first_left-passed.ensures ∙ ap (λ l. first_left next_word l c.args.upto) c.deref.ensures.value
    ∙ first_left_fits c.self.inside.gone_numbers.items c.args.upto (let fits = c.requires in omega arith) in
    changed (λ m. made m seat (Grants c.args.upto) c.args.becomes) c.self.inside
    (record c.self.inside { passed = c.first_left-passed.result; gone_numbers = c.forget.new.gone; gone = c.forget-2.new.gone }) _ c.self.view_is
    (passed_made c.self.inside c.self.invariant seat c.args.upto c.args.becomes c.first_left-passed.result c.forget.new.gone c.forget-2.new.gone is c.forget.ensures.items
    c.forget-2.ensures.items))
