use Rattle.std.proofs.Common.{map, sym, ap, ◌∙◌, rules}
use Rattle.std.specs.List.{range_with_len}
use Rattle.sema_table.specs.declared.view.Setting.{Setting}
use Rattle.sync_parts.proofs.GroupStarting.{numbers}
use Rattle.sync_parts.proofs.group_make.make.Goals as goal

pub seat_all-requires-clause-numbers : goal.seat_all-requires-clause-numbers
seat_all-requires-clause-numbers c = ap (map (λ s. s.number)) c.in-Ok.ensures.ok.seats_are ∙ numbers _ 0 _
    ∙ ap (range_with_len 0) (ap (λ (z : Setting). z.seats) c.in_ok-settings.ensures ∙ sym c.in_ok-word.ensures.word.1)

pub seat_all-requires-clause-first : goal.seat_all-requires-clause-first
seat_all-requires-clause-first c = search rules
