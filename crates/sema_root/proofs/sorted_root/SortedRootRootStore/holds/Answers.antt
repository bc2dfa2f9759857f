use Rattle.std.proofs.Common.{is_some, subst, sym, ap, ◌∙◌}
use Rattle.waiters.specs.declared.sought.Sought.TheVariants.{Seat}
use Rattle.waiters.specs.Lists.{is_sought, first_sought}
use Rattle.sema_root.specs.Search.{pairs, IsAt, IsGapFor}
use Rattle.sema_root.proofs.Joining.{joined-open}
use Rattle.sema_root.proofs.Entries.{waits_on-entry, waits_on-absent}
use Rattle.sema_root.proofs.Searching.{found_list, absent_entry}
use Rattle.sema_root.proofs.sorted_root.SortedRootRootStore.holds.Goals as goal

-- the counter's entry names its list
pub first_with-requires : goal.first_with-requires
first_with-requires c =
    let has = found_list c.self.inside.entries.items c.args.counter c.in-Ok.at c.self.invariant.joined.rising
    (subst (λ entries. IsAt entries c.args.counter c.in-Ok.at) c.deref.ensures.value c.in-Ok.ensures.found) c.index.result.now c.index.ensures in
    record { «open» = joined-open c.self.invariant.joined c.args.counter c.index.result.now.list has }

pub returns-in-Ok : goal.returns-in-Ok
returns-in-Ok c =
    let has = found_list c.self.inside.entries.items c.args.counter c.in-Ok.at c.self.invariant.joined.rising
    (subst (λ entries. IsAt entries c.args.counter c.in-Ok.at) c.deref.ensures.value c.in-Ok.ensures.found) c.index.result.now c.index.ensures in
    rw (← c.self.view_is) (c.is_some.ensures ∙ ap is_some (c.first_with.ensures ∙ ap (first_sought (is_sought (Seat c.args.seat)))
    (sym (waits_on-entry c.self.inside.lists c.args.counter c.index.result.now.list (pairs c.self.inside.entries.items) has))))

-- the counter has none
pub returns-in-Err : goal.returns-in-Err
returns-in-Err c =
    let lacks = absent_entry c.self.inside.entries.items c.args.counter
    _ (subst (λ entries. IsGapFor entries c.args.counter c.in-Err.field-0) c.deref.ensures.value c.in-Err.ensures.absent) in
    rw (← c.self.view_is) (ap (λ waits. is_some (first_sought (is_sought (Seat c.args.seat)) waits))
    (sym (waits_on-absent c.self.inside.lists c.args.counter (pairs c.self.inside.entries.items) lacks)))
