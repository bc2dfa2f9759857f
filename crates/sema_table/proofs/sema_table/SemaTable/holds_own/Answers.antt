use Rattle.std.proofs.Common.{◌≡◌, [], ◌∷◌, ap, ◌∙◌, sym, refl, subst, arith}
use Rattle.step_table.specs.World.{stands_in}
use Rattle.sema_root.specs.Queues.{waits_on}
use Rattle.sema_root.specs.Treap.{Treap, queues_of}
use Rattle.sema_table.specs.declared.view.Record.TheVariants.{Root}
use Rattle.sema_table.specs.Setting.{root}
use Rattle.sema_table.specs.Rule.{IsRecord, lists_by}
use Rattle.sema_table.specs.Rows.{Me}
use Rattle.sema_table.specs.Seats.{TableModel}
use Rattle.sema_table.specs.Walks.{lists_of}
use Rattle.sema_table.proofs.Holding.{in_slot, lent_record, edited, found_stands}
use Rattle.sema_table.proofs.sema_table.SemaTable.holds_own.Goals as goal

pub record_mut-requires : goal.record_mut-requires
record_mut-requires c = let h = c.requires in (
  omega arith,
  (
    ap (λ (y : TableModel). y.id) (h.0 ∙ sym c.self.view_is),
    in_slot c.args.token.now c.args.self.now c.args.counter c.root_of-slot.result h.0 c.root_of-slot.ensures h.1,
  ),
)

pub returns-clause-found : goal.returns-clause-found
returns-clause-found c =
    let s = c.args.token.now in let k = c.args.counter in let h = c.requires in
    let R = lent_record s k c.root_of-slot.result c.record_mut.result.now c.in-Root.root h.1 c.record_mut.ensures.value c.in-Root.is in
    c.holds.ensures.is_in ∙ found_stands c.args.seat (waits_on (queues_of c.in-Root.root.tree) k) ∙ ap (stands_in c.args.seat) (R.waits k refl)

pub returns-clause-same : goal.returns-clause-same
returns-clause-same c =
    let s = c.args.token.now in let k = c.args.counter in let h = c.requires in
    let R = lent_record s k c.root_of-slot.result c.record_mut.result.now c.in-Root.root h.1 c.record_mut.ensures.value c.in-Root.is in
    let e = edited s c.args.self.now k c.root_of-slot.result c.in-Root.root (lists_of s) h.0 c.root_of-slot.ensures h.1 R in
    (e.0, ap (λ (m : Me). m.0) e.1.1)

pub returns-clause-has_record : goal.returns-clause-has_record
returns-clause-has_record c =
    let s = c.args.token.now in let k = c.args.counter in let h = c.requires in
    let R = lent_record s k c.root_of-slot.result c.record_mut.result.now c.in-Root.root h.1 c.record_mut.ensures.value c.in-Root.is in
    let e = edited s c.args.self.now k c.root_of-slot.result c.in-Root.root (lists_of s) h.0 c.root_of-slot.ensures h.1 R in
    subst (λ (m : Me). let z = m.0.own.knows.setting in
    (treap : Treap) × (m.1 ≡ (root z k, Root treap) ∷ []) × IsRecord z (root z k) treap (lists_by z m.0.own.knows.seen))
    (sym e.1.1) (e.1.0, refl, e.1.2)
