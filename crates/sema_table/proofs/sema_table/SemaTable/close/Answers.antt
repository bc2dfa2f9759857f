use Rattle.std.proofs.Common.{◌≡◌, ℕ, List, ◌∷◌, ◌*◌, length, map, slice_index, sym, ap, ◌∙◌, subst, arith}
use Rattle.std.specs.List.{range_with_len}
use Rattle.std.proofs.lemmas.List.FromFn.{get_or-map-range_with_len, length-map-range_with_len}
use Rattle.std.specs.Mem.Slots.{slots_items, slots_counts}
use Rattle.running_rows.specs.Rule.{IsKept}
use Rattle.sema_table.specs.Rows.{semaphore_rows}
use Rattle.sema_table.specs.Seats.{TableModel, SeatModel}
use Rattle.sema_table.specs.Closing.{sum_by, has_added, was_given, AreOfSeats, IsClosed}
use Rattle.sema_table.proofs.Owned.{someones}
use Rattle.sema_table.proofs.Reckoning.{is_closed, given_few}
use Rattle.sema_table.proofs.Gathering.{first_and_rest}
use Rattle.sema_table.proofs.CallerEnds.{ends}
use Rattle.sema_table.proofs.sema_table.SemaTable.close.Goals as goal

-- what all seats were given is counted wide, and is no more than a word holds
pub overflow_cast-result : goal.overflow_cast-result
overflow_cast-result c =
    let made = c.self.invariant in let view = c.self.view_is in let G = c.gather-token.ensures in let token = c.gather-token.result.0 in
    let F = c.close_with-closed.ensures.values.2 in
    let items = c.args.seats.items in let seated = made.seated in let few = made.few.0 in
    let seats = ap (λ (y : TableModel). y.setting.seats) view in let count = c.requires.count in
    let rows = first_and_rest items c.remove-first.new.self.items c.remove-first.result (omega arith)
    c.remove-first.ensures.value c.remove-first.ensures.items in
    let kept = subst (λ (y : TableModel). IsKept semaphore_rows y.setting F.0) view F.1.0 in
    let most = given_few c.args.self.setting F.0 kept token.id token.me.0 (someones c.self.inside made token (G.own ∙ sym view)) F.1.1 items
    (subst (λ (r : List SeatModel). AreOfSeats c.args.self.setting (token.me.0.own ∷ token.me.0.guests) r) (sym rows) G.all) count in
    let given = ap (sum_by was_given) rows ∙ sym G.acquires_are in omega arith

pub returns-clause-rows : goal.returns-clause-rows
returns-clause-rows c =
    let t = c.args.self in let made = c.self.invariant in let view = c.self.view_is in let G = c.gather-token.ensures in let token = c.gather-token.result.0 in
    let F = c.close_with-closed.ensures.values.2 in let s = F.0 in
    let items = c.args.seats.items in let seated = made.seated in let few = made.few.0 in
    let seats = ap (λ (y : TableModel). y.setting.seats) view in let count = c.requires.count in
    let rows = first_and_rest items c.remove-first.new.self.items c.remove-first.result (omega arith)
    c.remove-first.ensures.value c.remove-first.ensures.items in
    let kept = subst (λ (y : TableModel). IsKept semaphore_rows y.setting s) view F.1.0 in
    let l = slots_items c.empty.new.closed.words in let k = c.self.inside.counters in
    let counts = c.close_with-closed.ensures.counts.0 in let wide = made.words in let counted = made.counted in
    let long : length l ≡ c.self.inside.words.table.shared.table_id.words = ap (λ w. length (slots_items w)) c.empty.ensures.words
    ∙ sym (slots_counts c.close_with-closed.result.words).0 ∙ counts in
    let starts = ap (λ (y : TableModel). length y.setting.starts) view in
    let at = λ (j : ℕ). slice_index l (8 * j) in let values = map at (range_with_len 0 k) in
    let each : length values ≡ length t.setting.starts = length-map-range_with_len at 0 k ∙ counted ∙ starts in
    let theirs = someones c.self.inside made token (G.own ∙ sym view) in
    let are = subst (λ (r : List SeatModel). AreOfSeats t.setting (token.me.0.own ∷ token.me.0.guests) r) (sym rows) G.all in
    let given = ap (sum_by was_given) rows ∙ sym G.acquires_are in
    subst (λ (q : ℕ × ℕ). IsClosed t.setting items (record { values = values; releases = q.0; acquires = q.1 }))
    (λ i. ((ap (sum_by has_added) rows ∙ sym G.releases_are) i, given i))
    (is_closed t.setting s kept token.id token.me.0 theirs F.1.1 items are count values each
    (λ j h. get_or-map-range_with_len at 0 k j j 0 (omega (arith, h, counted, starts)) (omega arith) ∙ ap (λ w. slice_index (slots_items w) (8 * j))
    c.empty.ensures.words ∙ ap (λ (ws : List ℕ). slice_index ws (8 * j)) (sym F.2)))

pub returns-clause-caller : goal.returns-clause-caller
returns-clause-caller c = ends c.args.self.setting c.args.seats.items _ (returns-clause-rows c)
