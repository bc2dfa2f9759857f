use Rattle.std.proofs.Common.{◌≡◌, ℕ, ◌<◌, List, ◌∷◌, length, map, drop, slice_get, Some, sym, ap, refl, ◌∙◌, subst, arith}
use Rattle.waiters.specs.declared.wait.Wait.{Wait}
use Rattle.waiters.specs.declared.wait.WaitId.{WaitId}
use Rattle.step_table.specs.World.{put}
use Rattle.sema_root.specs.Queues.{waits_on}
use Rattle.sema_root.specs.Treap.{Treap, queues_of}
use Rattle.sema_table.specs.declared.view.Setting.{Setting}
use Rattle.sema_table.specs.Setting.{root}
use Rattle.sema_table.specs.Rule.{IsRecord}
use Rattle.sema_table.specs.Seats.{TableModel, Token}
use Rattle.sema_table.specs.Walks.{lists_of}
use Rattle.sema_table.proofs.Holding.{in_slot, lent_record, edited, dequeued_record, first_is}
use Rattle.sema_table.proofs.sema_table.SemaTable.remove_first.Goals as goal

pub record_mut-requires : goal.record_mut-requires
record_mut-requires c = let h = c.requires in (
  omega arith,
  (
    ap (λ (y : TableModel). y.id) (h.0 ∙ sym c.self.view_is),
    in_slot c.args.token.now c.args.self.now c.args.counter c.root_of-slot.result h.0 c.root_of-slot.ensures h.1,
  ),
)

-- the waits of the record and the list that the seat has seen
first_of : (s : Token) (k : ℕ) (treap : Treap) (w : Wait) → IsRecord s.me.0.own.knows.setting (root s.me.0.own.knows.setting k) treap (lists_of s)
    → slice_get (waits_on (queues_of treap.tree) k) 0 ≡ Some w
    → lists_of s k ≡ w.id ∷ map (λ (x : Wait). x.id) (drop 1 (waits_on (queues_of treap.tree) k))
first_of s k treap w is first = sym (is.waits k refl) ∙ ap (map (λ (x : Wait). x.id)) (first_is (waits_on (queues_of treap.tree) k) w first)

pub returns-clause-some : goal.returns-clause-some
returns-clause-some c =
    let s = c.args.token.now in let z : Setting = s.me.0.own.knows.setting in let k : ℕ = c.args.counter in let h = c.requires in let D = c.dequeue.ensures in
    let q : Treap = c.dequeue.new.self in let w : Wait = c.in_ok-first.first in
    let R = lent_record s k c.root_of-slot.result c.record_mut.result.now c.in-Root.root h.1 c.record_mut.ensures.value c.in-Root.is in
    let inside : k < length z.starts = subst (λ (y : TableModel). k < length y.setting.starts) (sym h.0) h.2 in
    let tail : List WaitId = map (λ (x : Wait). x.id) (drop 1 (waits_on (queues_of c.in-Root.root.tree) k)) in
    let first = first_of s k c.in-Root.root w R (sym D.first ∙ c.in_ok-first.was) in (
      first ∙ ap (λ (l : List WaitId). w.id ∷ drop 1 l) (sym first),
      edited s c.args.self.now k c.root_of-slot.result q (put (lists_of s) k (drop 1 (lists_of s k))) h.0 c.root_of-slot.ensures h.1
          (dequeued_record z (root z k) k c.in-Root.root q (lists_of s) R refl inside c.in_ok-first.ensures.count D.seats D.undrawn w.id tail first D.rest),
    )
