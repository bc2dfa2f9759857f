use Rattle.std.proofs.Common.{ℕ, ◌<◌, length, sym, ap, refl, ◌∙◌, subst, arith}
use Rattle.step_table.specs.World.{put, insert_wait}
use Rattle.sema_root.specs.Treap.{Treap}
use Rattle.sema_table.specs.declared.view.Setting.{Setting}
use Rattle.sema_table.specs.Setting.{root}
use Rattle.sema_table.specs.Seats.{TableModel}
use Rattle.sema_table.specs.Walks.{lists_of}
use Rattle.sema_table.proofs.Holding.{in_slot, lent_record, edited, queued_record}
use Rattle.sema_table.proofs.sema_table.SemaTable.insert.Goals as goal

pub record_mut-requires : goal.record_mut-requires
record_mut-requires c = let h = c.requires.seat in (
  omega arith,
  (
    ap (λ (y : TableModel). y.id) (h.0 ∙ sym c.self.view_is),
    in_slot c.args.token.now c.args.self.now c.args.call.now.counter c.root_of-slot.result h.0 c.root_of-slot.ensures h.1,
  ),
)

pub queue-requires : goal.queue-requires
queue-requires c = let s = c.args.token.now in let h = c.requires.seat in
    let R = lent_record s c.args.call.now.counter c.root_of-slot.result c.record_mut.result.now c.in-Root.root h.1 c.record_mut.ensures.value c.in-Root.is in
    let room = h.2 in
    record { fits = (let a = R.count in let b = R.seats in omega arith) }

pub returns : goal.returns
returns c =
    let s = c.args.token.now in let a = c.args.call.now in let z : Setting = s.me.0.own.knows.setting in let k : ℕ = a.counter in let h = c.requires.seat in
    let Q = c.queue.ensures in let q : Treap = c.queue.new.self in
    let R = lent_record s k c.root_of-slot.result c.record_mut.result.now c.in-Root.root h.1 c.record_mut.ensures.value c.in-Root.is in
    let inside : k < length z.starts = subst (λ (y : TableModel). k < length y.setting.starts) (sym h.0) c.requires.call in
    edited s c.args.self.now k c.root_of-slot.result q (put (lists_of s) k (insert_wait a.lifo c.args.wait.id (lists_of s k))) h.0 c.root_of-slot.ensures h.1
    (queued_record z (root z k) k c.in-Root.root q (lists_of s) a.lifo c.args.wait R refl inside Q.queued Q.count Q.seats Q.drawn)
