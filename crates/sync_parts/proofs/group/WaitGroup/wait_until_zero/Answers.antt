use Rattle.std.proofs.Common.{refl, sym, ap, subst, ◌∙◌, ℕ, false, inl, inr}
use Rattle.sema_table.specs.Whole.{IsAcquired}
use Rattle.step_table.specs.declared.standing.GroupRow.TheVariants.{V2}
use Rattle.step_table.specs.declared.standing.Ending.TheVariants.{NextCall}
use Rattle.sync_parts.specs.GroupPlays.{Me}
use Rattle.sync_parts.specs.GroupSeats.{is_free}
use Rattle.sync_parts.proofs.GroupStepping.{still_some}
use Rattle.sync_parts.proofs.GroupWaiting.{free_after, acquired_number, then_counted, then_zero, uncounted, waited, reused}
use Rattle.sync_parts.proofs.group.WaitGroup.wait_until_zero.Goals as goal

pub load-requires-clause-some : goal.load-requires-clause-some
load-requires-clause-some g c = still_some c.if-not-count_unless_zero.ensures.1.seats_is c.requires.some

pub invariant_of-result : goal.invariant_of-result
invariant_of-result g c = let found = c.if-not-count_unless_zero.ensures.3 in record {
  some = still_some found.seats_is c.requires.some;
  free = ap is_free found.next_is;
  number = found.number_is ∙ c.requires.one;
}

pub invariant_of-result-then-eq : goal.invariant_of-result-then-eq
invariant_of-result-then-eq g c = let counted = c.if-not-count_unless_zero.ensures in record {
  some = still_some (ap (λ (m : Me). m.0.own.knows.seats) c.load.ensures.me_is ∙ counted.1.seats_is) c.requires.some;
  free = free_after c.args.token (V2 NextCall c.args.word) c.count_unless_zero.new.token c.load.new.token c.load.result counted c.load.ensures;
  number = ap (λ (m : Me). m.0.own.number) c.load.ensures.me_is ∙ counted.1.number_is ∙ c.requires.one
      ∙ sym (acquired_number c.args.sema c.acquire-sema.result
      (subst (λ (k : ℕ). IsAcquired c.args.sema k false c.acquire-sema.result) c.new.ensures c.acquire-sema.ensures.rows));
}

pub invariant_of-result-2 : goal.invariant_of-result-2
invariant_of-result-2 g c = let counted = c.if-not-count_unless_zero.ensures in record {
  some = still_some (ap (λ (m : Me). m.0.own.knows.seats) c.load.ensures.me_is ∙ counted.1.seats_is) c.requires.some;
  free = free_after c.args.token (V2 NextCall c.args.word) c.count_unless_zero.new.token c.load.new.token c.load.result counted c.load.ensures;
  number = ap (λ (m : Me). m.0.own.number) c.load.ensures.me_is ∙ counted.1.number_is ∙ c.requires.one
      ∙ sym (acquired_number c.args.sema c.acquire-sema.result
      (subst (λ (k : ℕ). IsAcquired c.args.sema k false c.acquire-sema.result) c.new.ensures c.acquire-sema.ensures.rows));
}

pub returns-then-not-count_unless_zero : goal.returns-then-not-count_unless_zero
returns-then-not-count_unless_zero g c = λ s some y.
    let u = c.count_unless_zero.new.token in
    inl (uncounted s u c.args.sema (then_zero s c.args.token c.args.word some y u c.if-not-count_unless_zero.ensures))

pub returns-then-eq : goal.returns-then-eq
returns-then-eq g c = λ s some y.
    let u = c.count_unless_zero.new.token in let b = c.acquire-sema.result in
    let acquired = subst (λ (k : ℕ). IsAcquired c.args.sema k false b) c.new.ensures c.acquire-sema.ensures.rows in
    inr (waited s u c.load.new.token c.args.sema b
    (then_counted s c.args.token c.args.word some y u c.if-not-count_unless_zero.ensures) acquired
    c.load.result c.load.ensures (sym c.eq.ensures ∙ c.if-eq.true))

pub returns : goal.returns
returns g c = λ s some y.
    let u = c.count_unless_zero.new.token in let b = c.acquire-sema.result in
    let acquired = subst (λ (k : ℕ). IsAcquired c.args.sema k false b) c.new.ensures c.acquire-sema.ensures.rows in
    let told = reused s u c.load.new.token c.args.sema b
    (then_counted s c.args.token c.args.word some y u c.if-not-count_unless_zero.ensures) acquired
    c.load.result c.load.ensures (sym c.eq.ensures ∙ c.if-eq.false) in (refl, (c.load.result, told.0, told.1))
