use Rattle.std.proofs.Common.{◌*◌, ℕ, length, slice_index, sym, ap, ◌∙◌}
use Rattle.std.proofs.lemmas.List.FromFn.{length-map-range_with_len}
use Rattle.std.specs.Mem.Slots.{slots_items}
use Rattle.sema_table.specs.Closing.{ClosedModel}
use Rattle.sema_table.proofs.closed.Closed.counters.Goals as goal

pub returns : goal.returns
returns c = sym (length-map-range_with_len (λ (k : ℕ). slice_index (slots_items c.self.inside.words.words) (8 * k)) 0 c.self.inside.counters)
    ∙ ap (λ (m : ClosedModel). length m.values) c.self.view_is
