use Rattle.journal.proofs.Forms.{add_reads, add_many_reads, take_reads, queue_reads, queue_lifo_reads, leave_reads, withdraw_reads, ticket_reads, grant_reads, forgo_reads, no_entry}
use Rattle.journal.proofs.reader.spelling.read_entry.Goals as goal

pub returns-in-Some : goal.returns-in-Some
returns-in-Some c = add_reads c.args.counters c.args.lists c.args.text.now c.in-Some.counter c.in-Some.seat c.in-Some.ensures

pub returns-in-Some-indexed : goal.returns-in-Some-indexed
returns-in-Some-indexed c = take_reads c.args.counters c.args.lists c.args.text.now c.in-Some-indexed.counter c.in-Some-indexed.seat c.in-Some-indexed.ensures

pub returns-in-Some-indexed_two : goal.returns-in-Some-indexed_two
returns-in-Some-indexed_two c = queue_reads c.args.counters c.args.lists c.args.text.now c.in-Some-indexed_two.counter c.in-Some-indexed_two.seat
    c.in-Some-indexed_two.turn c.in-Some-indexed_two.ensures

pub returns-in-Some-indexed_three : goal.returns-in-Some-indexed_three
returns-in-Some-indexed_three c = leave_reads c.args.counters c.args.lists c.args.text.now c.in-Some-indexed_three.counter c.in-Some-indexed_three.seat
    c.in-Some-indexed_three.turn c.in-Some-indexed_three.releaser c.in-Some-indexed_three.ensures

pub returns-in-Some-indexed-2 : goal.returns-in-Some-indexed-2
returns-in-Some-indexed-2 c =
    ticket_reads c.args.counters c.args.lists c.args.text.now c.in-Some-indexed-2.list c.in-Some-indexed-2.seat c.in-Some-indexed-2.ensures

pub returns-in-Some-indexed_two-3 : goal.returns-in-Some-indexed_two-3
returns-in-Some-indexed_two-3 c = grant_reads c.args.counters c.args.lists c.args.text.now c.in-Some-indexed_two-3.list c.in-Some-indexed_two-3.upto
    c.in-Some-indexed_two-3.seat c.in-Some-indexed_two-3.ensures

pub returns-in-Some-indexed_two-5 : goal.returns-in-Some-indexed_two-5
returns-in-Some-indexed_two-5 c = queue_lifo_reads c.args.counters c.args.lists c.args.text.now c.in-Some-indexed_two-5.counter c.in-Some-indexed_two-5.seat
    c.in-Some-indexed_two-5.turn c.in-Some-indexed_two-5.ensures

pub returns-in-Some-indexed_two-6 : goal.returns-in-Some-indexed_two-6
returns-in-Some-indexed_two-6 c = add_many_reads c.args.counters c.args.lists c.args.text.now c.in-Some-indexed_two-6.counter c.in-Some-indexed_two-6.seat
    c.in-Some-indexed_two-6.units c.in-Some-indexed_two-6.ensures

pub returns-in-Some-indexed_two-2 : goal.returns-in-Some-indexed_two-2
returns-in-Some-indexed_two-2 c = withdraw_reads c.args.counters c.args.lists c.args.text.now c.in-Some-indexed_two-2.counter c.in-Some-indexed_two-2.seat
    c.in-Some-indexed_two-2.turn c.in-Some-indexed_two-2.ensures

pub returns-in-Some-indexed_two-4 : goal.returns-in-Some-indexed_two-4
returns-in-Some-indexed_two-4 c = forgo_reads c.args.counters c.args.lists c.args.text.now c.in-Some-indexed_two-4.list c.in-Some-indexed_two-4.number
    c.in-Some-indexed_two-4.seat c.in-Some-indexed_two-4.ensures

pub returns : goal.returns
returns c = no_entry c.args.counters c.args.lists c.args.text.now c.in_default.ensures c.in_default-indexed.ensures c.in_default-indexed_two.ensures
    c.in_default-indexed_three.ensures c.in_default-indexed_two-2.ensures c.in_default-indexed-2.ensures c.in_default-indexed_two-3.ensures
    c.in_default-indexed_two-4.ensures c.in_default-indexed_two-5.ensures c.in_default-indexed_two-6.ensures
