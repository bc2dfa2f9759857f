use Rattle.std.proofs.Common.{◌≡◌, ℕ, ◌<◌, Bool, true, false, MatchBool, Option, Some, None, OnSome, IfNone, is_some, length, sym, ap, refl}
use Rattle.std.proofs.Common.{◌∙◌, subst, arith}
use Rattle.step_table.specs.World.{put, stands_in, without}
use Rattle.sema_root.specs.Queues.{waits_on}
use Rattle.sema_root.specs.Treap.{Treap, queues_of}
use Rattle.running_rows.specs.Lent.{seat_with}
use Rattle.sema_table.specs.declared.view.Record.TheVariants.{Root}
use Rattle.sema_table.specs.declared.view.Setting.{Setting}
use Rattle.sema_table.specs.Setting.{root}
use Rattle.sema_table.specs.Rule.{IsRecord}
use Rattle.sema_table.specs.Seats.{TableModel}
use Rattle.sema_table.specs.Walks.{Edited, lists_of}
use Rattle.sema_table.proofs.Holding.{in_slot, lent_record, edited, withdrawn_record, found_stands}
use Rattle.sema_table.proofs.sema_table.SemaTable.remove_own.Goals as goal

pub record_mut-requires : goal.record_mut-requires
record_mut-requires c = let h = c.requires in (
  omega arith,
  (
    ap (λ (y : TableModel). y.id) (h.0 ∙ sym c.self.view_is),
    in_slot c.args.token.now c.args.self.now c.args.counter c.root_of-slot.result h.0 c.root_of-slot.ensures h.1,
  ),
)

-- what is told where there is one, and where there is none
where_some : {A : Type 0} (o : Option A) (X : Type 0) → is_some o ≡ true → OnSome o X → X
where_some (Some x) X e h = h
where_some None X e h = absurd cc

where_none : {A : Type 0} (o : Option A) (X : Type 0) → is_some o ≡ false → IfNone o X → X
where_none (Some x) X e h = absurd cc
where_none None X e h = h

pub returns-clause-found : goal.returns-clause-found
returns-clause-found c =
    let s = c.args.token.now in let k : ℕ = c.args.counter in let h = c.requires in
    let R = lent_record s k c.root_of-slot.result c.record_mut.result.now c.in-Root.root h.1 c.record_mut.ensures.value c.in-Root.is in
    c.is_some.ensures ∙ ap is_some c.withdraw_seat.ensures.first
    ∙ found_stands c.args.seat (waits_on (queues_of c.in-Root.root.tree) k) ∙ ap (stands_in c.args.seat) (R.waits k refl)

pub returns-clause-removed : goal.returns-clause-removed
returns-clause-removed c =
    let s = c.args.token.now in let z : Setting = s.me.0.own.knows.setting in let k : ℕ = c.args.counter in let h = c.requires in
    let D = c.withdraw_seat.ensures in let i : ℕ = c.args.seat in
    let q : Treap = c.withdraw_seat.new.self in let was : Treap = c.in-Root.root in
    let R = lent_record s k c.root_of-slot.result c.record_mut.result.now was h.1 c.record_mut.ensures.value c.in-Root.is in
    let inside : k < length z.starts = subst (λ (y : TableModel). k < length y.setting.starts) (sym h.0) h.2 in
    by s c.args.self.now k c.root_of-slot.result i q c.is_some.result
    (λ here. edited s c.args.self.now k c.root_of-slot.result q (put (lists_of s) k (without i (lists_of s k))) h.0 c.root_of-slot.ensures h.1
    (withdrawn_record z (root z k) k was q (lists_of s) R refl inside (where_some c.withdraw_seat.result _ (sym c.is_some.ensures ∙ here) D.count) D.seats D.undrawn
    i (sym (returns-clause-found c) ∙ here) D.rest))
    (λ out. edited s c.args.self.now k c.root_of-slot.result q (lists_of s) h.0 c.root_of-slot.ensures h.1
    (subst (λ (y : Treap). IsRecord z (root z k) y (lists_of s)) (sym (where_none c.withdraw_seat.result _ (sym c.is_some.ensures ∙ out) D.none)) R))
  where
    by : (s : _) (t : TableModel) (k slot i : ℕ) (q : Treap) (b : Bool)
        → (b ≡ true → Edited s k (put (lists_of s) k (without i (lists_of s k))) (seat_with s slot (Root q)))
        → (b ≡ false → Edited s k (lists_of s) (seat_with s slot (Root q)))
        → MatchBool b (Edited s k (put (lists_of s) k (without i (lists_of s k))) (seat_with s slot (Root q)))
        (Edited s k (lists_of s) (seat_with s slot (Root q)))
    by s t k slot i q true here out = here refl
    by s t k slot i q false here out = out refl
