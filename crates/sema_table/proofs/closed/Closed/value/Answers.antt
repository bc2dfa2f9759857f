use Rattle.std.proofs.Common.{◌*◌, ℕ, length, slice_index, sym, ap, ◌∙◌, arith}
use Rattle.std.proofs.lemmas.List.FromFn.{get_or-map-range_with_len, length-map-range_with_len}
use Rattle.std.specs.Mem.Slots.{slots_items}
use Rattle.sema_table.specs.Closing.{ClosedModel}
use Rattle.sema_table.proofs.Gathering.{read_at}
use Rattle.sema_table.proofs.closed.Closed.value.Goals as goal

pub word-requires : goal.word-requires
word-requires c =
    let long = length-map-range_with_len (λ (k : ℕ). slice_index (slots_items c.self.inside.words.words) (8 * k)) 0 c.self.inside.counters in
    let v = ap (λ (m : ClosedModel). length m.values) c.self.view_is in
    let most = c.self.invariant.1 in let is = c.number.ensures in let w = c.counter_word.ensures.at in let h = c.requires in
    (omega (arith, most, long, v, is, w, h), c.self.invariant.0)

pub returns : goal.returns
returns c =
    let l = slots_items c.self.inside.words.words in let N : ℕ = c.number.result in let at = λ (k : ℕ). slice_index l (8 * k) in
    let long = length-map-range_with_len at 0 c.self.inside.counters in let v = ap (λ (m : ClosedModel). length m.values) c.self.view_is in
    let is = c.number.ensures in let h = c.requires in
    read_at l c.counter_word.result c.word.result c.word.ensures ∙ ap (slice_index l) c.counter_word.ensures.at
    ∙ sym (get_or-map-range_with_len at 0 c.self.inside.counters N N 0 (omega (arith, is, h, v, long)) (omega arith))
    ∙ ap (λ (m : ClosedModel). slice_index m.values N) c.self.view_is ∙ ap (slice_index c.args.self.now.values) is
