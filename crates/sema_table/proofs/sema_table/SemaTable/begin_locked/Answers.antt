use Rattle.std.proofs.Common.{◌<◌, true, false, length, sym, ap, subst, ◌∙◌}
use Rattle.step_table.specs.World.{stands_in}
use Rattle.sema_table.specs.Rule.{lists_by}
use Rattle.sema_table.specs.Seats.{TableModel}
use Rattle.sema_table.specs.Walks.{lists_of}
use Rattle.sema_table.proofs.Leaving.{stands_sought, sought_place, leaving_seat, leaving_rows, coming_seat, coming_rows, stands_missed}
use Rattle.sema_table.proofs.sema_table.SemaTable.begin_locked.Goals as goal

pub holds_own-requires : goal.holds_own-requires
holds_own-requires c =
    let s = c.requires.0 in let h = c.requires.1 in let t1 = c.args.token in (
      (stands_sought s t1 t1 t1 c.args.numbers c.args.call.now c.args.turn h.token_is h.locked.0 c.args.self.now h.table_is h.inside).table_is,
      h.locked.1,
      h.inside,
    )

pub invariant_of-result : goal.invariant_of-result
invariant_of-result c =
    let s = c.requires.0 in let h = c.requires.1 in let t1 = c.args.token in let t2 = c.holds_own.new.token in let n = c.args.numbers in
    let a = c.args.call.now in let e = c.if-holds_own.ensures in
    let found = e.found ∙ ap (λ k. stands_in k (lists_of t1 a.counter)) c.id.ensures in
    leaving_seat s t1 t2 t2 n a c.args.turn h.token_is h.locked.0
    (sought_place s t1 t2 t2 n a c.args.turn h.token_is h.locked.0 true found) e.same.0 e.same.1
    (subst (λ (z : TableModel). a.counter < length z.setting.starts) (sym h.table_is) h.inside) e.has_record c.requires.3
    (ap (λ m. stands_in n.seat (lists_by m.own.knows.setting m.own.knows.seen a.counter)) e.same.1 ∙ sym found)

pub returns-then-holds_own : goal.returns-then-holds_own
returns-then-holds_own c s h parked =
    let t1 = c.args.token in let t2 = c.holds_own.new.token in let n = c.args.numbers in let a = c.args.call.now in let e = c.if-holds_own.ensures in
    let found = e.found ∙ ap (λ k. stands_in k (lists_of t1 a.counter)) c.id.ensures in
    leaving_rows s t1 t2 t2 n a c.args.turn h.token_is h.locked.0
    (sought_place s t1 t2 t2 n a c.args.turn h.token_is h.locked.0 true found) e.same.0 e.same.1 parked

pub unlock_coming-requires-clause-seat : goal.unlock_coming-requires-clause-seat
unlock_coming-requires-clause-seat c =
    let s = c.requires.0 in let h = c.requires.1 in let t1 = c.args.token in let t2 = c.holds_own.new.token in let n = c.args.numbers in
    let a = c.args.call.now in let e = c.if-holds_own.ensures in
    let at = sought_place s t1 t2 t2 n a c.args.turn h.token_is h.locked.0 false (e.found ∙ ap (λ k. stands_in k (lists_of t1 a.counter)) c.id.ensures) in (
      stands_missed s t1 t2 t2 n a c.args.turn h.token_is h.locked.0 at e.same.0 e.same.1 c.args.self.now h.table_is h.inside,
      e.has_record,
    )

pub invariant_of-result-2 : goal.invariant_of-result-2
invariant_of-result-2 c =
    let s = c.requires.0 in let h = c.requires.1 in let t1 = c.args.token in let t2 = c.holds_own.new.token in let n = c.args.numbers in
    let a = c.args.call.now in let e = c.if-holds_own.ensures in let y = c.unlock_coming.ensures in
    let at = sought_place s t1 t2 t2 n a c.args.turn h.token_is h.locked.0 false (e.found ∙ ap (λ k. stands_in k (lists_of t1 a.counter)) c.id.ensures) in
    coming_seat s t1 t2 c.unlock_coming.new.token n a c.args.turn h.token_is h.locked.0 at e.same.0 e.same.1 y.0 y.1
    (subst (λ (z : TableModel). a.counter < length z.setting.starts) (sym h.table_is) h.inside)

pub returns : goal.returns
returns c s h parked =
    let t1 = c.args.token in let t2 = c.holds_own.new.token in let n = c.args.numbers in
    let a = c.args.call.now in let e = c.if-holds_own.ensures in let y = c.unlock_coming.ensures in
    let at = sought_place s t1 t2 t2 n a c.args.turn h.token_is h.locked.0 false (e.found ∙ ap (λ k. stands_in k (lists_of t1 a.counter)) c.id.ensures) in
    (coming_rows s t1 t2 c.unlock_coming.new.token n a c.args.turn h.token_is h.locked.0 at e.same.0 e.same.1 y.0 y.1 parked, tt)
