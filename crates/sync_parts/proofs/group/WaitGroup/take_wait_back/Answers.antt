use Rattle.std.proofs.Common.{false, sym, ◌∙◌}
use Rattle.sync_parts.proofs.GroupStepping.{still_some}
use Rattle.sync_parts.proofs.GroupLeaving.{still_counted, acquired_after, held_after, stays_on, free_uncounted, number_uncounted, took_back}
use Rattle.sync_parts.proofs.group.WaitGroup.take_wait_back.Goals as goal

pub uncount_unless_zero-requires-clause-counted : goal.uncount_unless_zero-requires-clause-counted
uncount_unless_zero-requires-clause-counted g c = let x = c.requires.late in still_counted x.0 x.1 c.args.token c.args.giving_up x.2

pub invariant_of-result : goal.invariant_of-result
invariant_of-result g c =
    let x = c.requires.late in let u = c.uncount_unless_zero.new.token in let gone = c.if-uncount_unless_zero.ensures in
    let ended = c.end_leave-sema.ensures.caller in record {
      some = still_some gone.3.seats_is c.requires.some;
      free = free_uncounted x.0 x.1 c.args.token c.args.giving_up x.2 u c.end_leave-sema.result gone ended;
      number = number_uncounted x.0 x.1 c.args.token c.args.giving_up x.2 u c.end_leave-sema.result gone ended;
    }

pub returns-then-uncount_unless_zero : goal.returns-then-uncount_unless_zero
returns-then-uncount_unless_zero g c s a x =
    took_back s a c.args.token c.args.giving_up x c.uncount_unless_zero.new.token c.end_leave-sema.result c.if-uncount_unless_zero.ensures
    c.end_leave-sema.ensures.caller

pub look_last-requires-clause-own : goal.look_last-requires-clause-own
look_last-requires-clause-own g c =
    let x = c.requires.late in let taken = c.stay_until_taken-sema.ensures x.1 0 false x.2.holds in (
      c.if-uncount_unless_zero.ensures.1.table_is ∙ c.requires.own.0,
      (acquired_after x.1 c.stay_until_taken-sema.result taken).1.table ∙ sym (held_after x.1 c.args.giving_up x.2.holds).1.table ∙ c.requires.own.1,
    )

pub look_last-requires-clause-some : goal.look_last-requires-clause-some
look_last-requires-clause-some g c = still_some c.if-uncount_unless_zero.ensures.1.seats_is c.requires.some

pub look_last-requires-clause-last : goal.look_last-requires-clause-last
look_last-requires-clause-last g c = let x = c.requires.late in (
  x.0,
  x.1,
  stays_on x.0 x.1 c.args.token c.args.giving_up x.2 c.uncount_unless_zero.new.token c.stay_until_taken-sema.result c.if-uncount_unless_zero.ensures
      (c.stay_until_taken-sema.ensures x.1 0 false x.2.holds),
)

pub returns : goal.returns
returns g c s a x = c.look_last.ensures s a
    (stays_on s a c.args.token c.args.giving_up x c.uncount_unless_zero.new.token c.stay_until_taken-sema.result c.if-uncount_unless_zero.ensures
    (c.stay_until_taken-sema.ensures a 0 false x.holds))
