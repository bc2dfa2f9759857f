use Rattle.scenario_text.proofs.Calls.{acquire_reads, acquire_lifo_reads, release_reads, release_handoff_reads, release_many_reads, add_reads, wait_reads}
use Rattle.scenario_text.proofs.Calls.{one_reads, all_reads, group_add_reads, gwait_reads, other_calls}
use Rattle.scenario_text.proofs.reader.call.read_call.Goals as goal

pub returns-in-Some : goal.returns-in-Some
returns-in-Some c = acquire_reads c.args.text.now c.in-Some.counter c.in-Some.ensures

pub returns-in-Some-flagged : goal.returns-in-Some-flagged
returns-in-Some-flagged c = acquire_lifo_reads c.args.text.now c.in-Some-flagged.counter c.in-Some-flagged.ensures

pub returns-in-Some-keyed : goal.returns-in-Some-keyed
returns-in-Some-keyed c = release_reads c.args.text.now c.in-Some-keyed.counter c.in-Some-keyed.ensures

pub returns-in-Some-flagged-2 : goal.returns-in-Some-flagged-2
returns-in-Some-flagged-2 c = release_handoff_reads c.args.text.now c.in-Some-flagged-2.counter c.in-Some-flagged-2.ensures

pub returns-in-Some-pair : goal.returns-in-Some-pair
returns-in-Some-pair c = release_many_reads c.args.text.now c.in-Some-pair.counter c.in-Some-pair.units c.in-Some-pair.ensures

pub returns-in-Some-keyed-2 : goal.returns-in-Some-keyed-2
returns-in-Some-keyed-2 c = add_reads c.args.text.now c.in-Some-keyed-2.list c.in-Some-keyed-2.ensures

pub returns-in-Some-keyed-3 : goal.returns-in-Some-keyed-3
returns-in-Some-keyed-3 c = wait_reads c.args.text.now c.in-Some-keyed-3.list c.in-Some-keyed-3.ensures

pub returns-in-Some-keyed-4 : goal.returns-in-Some-keyed-4
returns-in-Some-keyed-4 c = one_reads c.args.text.now c.in-Some-keyed-4.list c.in-Some-keyed-4.ensures

pub returns-in-Some-keyed-5 : goal.returns-in-Some-keyed-5
returns-in-Some-keyed-5 c = all_reads c.args.text.now c.in-Some-keyed-5.list c.in-Some-keyed-5.ensures

pub returns-in-Some-read_group_add : goal.returns-in-Some-read_group_add
returns-in-Some-read_group_add c =
    group_add_reads c.args.text.now c.in-Some-read_group_add.group c.in-Some-read_group_add.change c.in-Some-read_group_add.ensures

pub returns-in-Some-keyed-6 : goal.returns-in-Some-keyed-6
returns-in-Some-keyed-6 c = gwait_reads c.args.text.now c.in-Some-keyed-6.group c.in-Some-keyed-6.ensures

pub returns : goal.returns
returns c = other_calls c.args.text.now _ c.in_default.ensures c.in_default-flagged.ensures c.in_default-keyed.ensures c.in_default-flagged-2.ensures
    c.in_default-pair.ensures c.in_default-keyed-2.ensures c.in_default-keyed-3.ensures c.in_default-keyed-4.ensures c.in_default-keyed-5.ensures
    c.in_default-read_group_add.ensures c.in_default-keyed-6.ensures c.read_call_or_leave.ensures
