use Rattle.std.proofs.Common.{◌≡◌, ◌<◌, [], length, get_or, ap, ◌∙◌, arith}
use Rattle.step_rows.specs.Stored.{each}
use Rattle.step_core.proofs.NextCalls.{leaves_some}
use Rattle.step_core.proofs.following.leave_out.Goals as goal

pub returns : goal.returns
returns c =
    let there : c.args.seat < length c.args.begun.now.items = let a = c.requires.seat in let b = c.requires.begun in omega arith in
    let calls : c.calls.result ≡ length (get_or c.args.scenario.now.calls c.args.seat [])
    = c.calls.ensures ∙ ap (λ i. length (get_or c.args.scenario.now.calls i [])) c.number-i.ensures in
    leaves_some c.args.scenario.now c.args.seat c.args.machine.now c.args.begun.now.items c.requires.machine c.number-i.result c.number-i.ensures
    (each 0 c.as_slice.result.now c.number-i.result) (ap (λ l. each 0 l c.number-i.result) c.as_slice.ensures.value)
    c.args.skips c.min.result _
    (let few = c.calls.type_inv in let sum = c.saturating_add-after.ensures in let least = c.min.ensures in omega (arith, calls)) there c.stand.ensures
