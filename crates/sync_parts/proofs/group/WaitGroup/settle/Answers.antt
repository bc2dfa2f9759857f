use Rattle.std.proofs.Common.{ℤ, Bool, ◌<◌, subst, sym, ap, ◌∙◌, if◌then◌else◌, rules}
use Rattle.std.specs.Int.{w32}
use Rattle.std.proofs.lemmas.Int.{to_z-of_z}
use Rattle.step_table.specs.Group.{after_add}
use Rattle.step_table.specs.declared.standing.GroupNext.TheVariants.{Ends, Goes}
use Rattle.step_table.specs.declared.standing.GroupRow.TheVariants.{G2}
use Rattle.sync_parts.specs.GroupPlays.{Me}
use Rattle.sync_parts.specs.GroupSeats.{is_free}
use Rattle.sync_parts.proofs.GroupAdding.{same_number, added_fails, added_ends, added_beside, added_all, is_other, is_same}
use Rattle.sync_parts.proofs.group.WaitGroup.settle.Goals as goal

pub returns-in-Err : goal.returns-in-Err
returns-in-Err g c = λ s found left y.
    let same = sym (ap (λ (k : ℤ). after_add k c.args.word) (to_z-of_z w32 c.args.d c.ranges.d)) in
    added_fails s c.args.token c.args.sema c.args.d found c.args.word left y c.in-Err.misuse (same ∙ c.in-Err.ensures)

pub returns-in-Ok-false : goal.returns-in-Ok-false
returns-in-Ok-false g c = λ s found left y.
    let same = sym (ap (λ (k : ℤ). after_add k c.args.word) (to_z-of_z w32 c.args.d c.ranges.d)) in
    added_ends s c.args.token c.args.sema c.args.d found c.args.word left y
    (same ∙ c.in-Ok-false.ensures ∙ ap (λ (b : Bool). if b then Goes (G2 c.args.word) else Ends) c.in-Ok-false.field-0-test)

pub returns-then-ne : goal.returns-then-ne
returns-then-ne g c = λ s found left y.
    let same = sym (ap (λ (k : ℤ). after_add k c.args.word) (to_z-of_z w32 c.args.d c.ranges.d)) in
    added_beside s c.args.token c.args.sema c.args.d found c.args.word left y
    (same ∙ c.in-Ok-true.ensures ∙ ap (λ (b : Bool). if b then Goes (G2 c.args.word) else Ends) c.in-Ok-true.field-0-test)
    c.load.new.token c.load.result c.load.ensures (is_other c.args.word c.load.result (sym c.ne.ensures ∙ c.if-ne.true))

pub release_waits-sema-requires-clause-emptied : goal.release_waits-sema-requires-clause-emptied
release_waits-sema-requires-clause-emptied g c = search rules

pub returns : goal.returns
returns g c = λ s found left y.
    let same = sym (ap (λ (k : ℤ). after_add k c.args.word) (to_z-of_z w32 c.args.d c.ranges.d)) in
    added_all s c.args.token c.args.sema c.args.d found c.args.word left y
    (same ∙ c.in-Ok-true.ensures ∙ ap (λ (b : Bool). if b then Goes (G2 c.args.word) else Ends) c.in-Ok-true.field-0-test)
    c.load.new.token c.load.result c.load.ensures (is_same c.args.word c.load.result (sym c.ne.ensures ∙ c.if-ne.false))
    c.empty.new.token c.empty.ensures.0 c.empty.ensures.1 c.release_waits-sema.result c.requires.left c.release_waits-sema.ensures

pub invariant_of-result-2 : goal.invariant_of-result-2
invariant_of-result-2 g c = record {
  some =
      subst (λ (m : Me). 0 < m.0.own.knows.seats) (sym c.empty.ensures.1.me_is)
      (subst (λ (m : Me). 0 < m.0.own.knows.seats) (sym c.load.ensures.me_is) c.requires.some);
  free = ap (λ (m : Me). is_free m.0.own.knows.next) c.empty.ensures.1.me_is;
  number = ap (λ (m : Me). m.0.own.number) c.empty.ensures.1.me_is ∙ ap (λ (m : Me). m.0.own.number) c.load.ensures.me_is ∙ c.requires.one
      ∙ sym (same_number c.args.word.waits c.args.sema c.release_waits-sema.result c.release_waits-sema.ensures);
}
