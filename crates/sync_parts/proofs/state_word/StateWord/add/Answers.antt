use Rattle.std.proofs.Common.{arith, sym, ap, ◌∙◌}
use Rattle.step_table.specs.declared.standing.GroupRow.TheVariants.{G1}
use Rattle.step_table.specs.declared.standing.GroupNext.TheVariants.{Goes}
use Rattle.step_table.specs.GroupBits.{word_in}
use Rattle.sync_parts.proofs.GroupStepping.{add_owes, begins_add, ran_steps, more_is, added_is}
use Rattle.sync_parts.specs.GroupSeats.{WordModel}
use Rattle.sync_parts.proofs.state_word.StateWord.add.Goals as goal

pub add-found-requires : goal.add-found-requires
add-found-requires c = (
  omega arith,
  (
    (c.requires.own.0 ∙ ap (λ (w : WordModel). w.id) (sym c.self.view_is), c.requires.some),
    (
      c.self.invariant.0,
      (
        (λ x is. absurd is),
        add_owes _ 0 c.args.token.now.me c.args.d _ c.ranges.d
            (more_is c.args.d _ _ c.ranges.d c.cast_unsigned.ensures c.from-more.ensures) c.requires.own.1,
      ),
    ),
  ),
)

pub returns : goal.returns
returns c = let n = c.add-found.result in let below = c.add-found.type_inv in let told = c.add-found.ensures in
    let more = more_is c.args.d _ _ c.ranges.d c.cast_unsigned.ensures c.from-more.ensures in (
      word_in n,
      c.word_of.ensures ∙ added_is c.args.d n _ below more,
      ran_steps c.args.token.now c.add-found.new.token _ (G1 c.args.d) n (ap (λ d. Goes (G1 d)) (begins_add c.args.d _ c.ranges.d more)) told.own told.went,
    )
