use Rattle.std.proofs.Common.{List, ◌∷◌, slice_index, sym, ap, ◌∙◌, subst, arith}
use Rattle.std.specs.Mem.Slots.{slots_items}
use Rattle.running_rows.specs.Rule.{IsKept}
use Rattle.notify_list.specs.Rows.{list_rows}
use Rattle.notify_list.specs.Seats.{ListModel, SeatModel}
use Rattle.notify_list.specs.Closing.{AreSeatsOf}
use Rattle.notify_list.proofs.Owned.{owned}
use Rattle.notify_list.proofs.Reckoning.{is_closed}
use Rattle.notify_list.proofs.Gathering.{first_and_rest, read_at}
use Rattle.notify_list.proofs.CallersEnding.{ends_list}
use Rattle.notify_list.proofs.notify_list.NotifyList.close.Goals as goal

pub returns-clause-rows : goal.returns-clause-rows
returns-clause-rows c =
    let l = c.args.self in let made = c.self.invariant in let view = c.self.view_is in let G = c.gather-token.ensures in
    let token = c.gather-token.result in let F = c.close_with-ended.ensures.values.2 in let s = F.0 in
    let items = c.args.seats.items in let some = made.some in let seated = made.seated in
    let seats = ap (λ (y : ListModel). y.setting.seats) view in let count = c.requires.count in
    let rows = first_and_rest items c.remove-first.new.self.items c.remove-first.result (omega arith)
    c.remove-first.ensures.value c.remove-first.ensures.items in
    let kept = subst (λ (y : ListModel). IsKept list_rows y.setting s) view F.1.0 in
    let words = slots_items c.close_with-ended.result.words in
    is_closed l.setting s kept token.id token.me.0 (owned c.self.inside made token (G.own ∙ sym view)).1 F.1.1 items
    (subst (λ (r : List SeatModel). AreSeatsOf (token.me.0.own ∷ token.me.0.guests) r) (sym rows) G.all) count
    (record { next = c.word.result; notified = c.word-2.result })
    (read_at words 0 c.word.result c.word.ensures ∙ ap (λ ws. slice_index ws 0) (sym F.2))
    (read_at words 1 c.word-2.result c.word-2.ensures ∙ ap (λ ws. slice_index ws 1) (sym F.2))

pub returns-clause-caller : goal.returns-clause-caller
returns-clause-caller c = ends_list c.args.self.setting c.args.seats.items (record { next = c.word.result; notified = c.word-2.result }) (returns-clause-rows c)
