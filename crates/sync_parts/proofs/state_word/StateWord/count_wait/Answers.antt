use Rattle.std.proofs.Common.{◌+◌, ◌%◌, arith, sym, refl, ap, ◌∙◌}
use Rattle.step_table.specs.declared.standing.GroupRow.TheVariants.{V2}
use Rattle.step_table.specs.declared.standing.Ending.TheVariants.{NextCall}
use Rattle.step_table.specs.GroupBits.{word_in}
use Rattle.running_rows.specs.Strides.{here}
use Rattle.sync_parts.proofs.GroupStepping.{exchange_owes, won_is, ran_steps}
use Rattle.sync_parts.specs.GroupSeats.{WordModel}
use Rattle.sync_parts.proofs.state_word.StateWord.count_wait.Goals as goal

pub exchange-requires : goal.exchange-requires
exchange-requires c = (
  omega arith,
  (
    (c.requires.own.0 ∙ ap (λ (w : WordModel). w.id) (sym c.self.view_is), c.requires.some),
    (
      c.self.invariant.0,
      (
        (λ x is. absurd is),
        exchange_owes (V2 NextCall c.args.seen) c.args.seen (λ n. (n + 1) % 18446744073709551616) c.requires.own.2 (λ n. refl)
            _ 0 c.args.token.now.me _ _ c.requires.own.1 c.bits_of-bits.ensures refl,
      ),
    ),
  ),
)

pub returns : goal.returns
returns c = let n = c.exchange.result in let below = c.exchange.type_inv in let told = c.exchange.ensures in (
  word_in n,
  won_is c.args.seen n _ c.requires.own.2 below c.bits_of-bits.ensures,
  ran_steps c.args.token.now c.exchange.new.token here (V2 NextCall c.args.seen) n c.requires.own.1 told.own told.went,
)
