use Rattle.std.proofs.Common.{Some, None}
use Rattle.std.specs.Prelude.{codes}
use Rattle.scenario_text.specs.Line.{calls_text}
use Rattle.scenario_text.specs.Phrases.{IsNumber, IsSeat}
use Rattle.scenario_text.proofs.Parts.{nothing, none, stripped_front}
use Rattle.scenario_text.proofs.Forms.{seat_split, seat_made, seat_calls}
use Rattle.scenario_text.proofs.reader.line.read_seat.Goals as goal

pub returns-in_default-split_once : goal.returns-in_default-split_once
returns-in_default-split_once c =
    nothing (IsSeat c.args.text.now) (λ z p. seat_split c.args.text.now c.in-Some.rest.now None
    (stripped_front (codes "seat ") c.args.text.now (Some c.in-Some.rest) c.in-Some.ensures.cases) c.in_default-split_once.ensures.cases z p)

pub returns-in_default-short_number : goal.returns-in_default-short_number
returns-in_default-short_number c =
    nothing (IsSeat c.args.text.now) (λ z p. none (IsNumber 10 c.in-Some-split_once.name.now) z.0 c.in_default-short_number.ensures
    (seat_split c.args.text.now c.in-Some.rest.now (Some (c.in-Some-split_once.name, c.in-Some-split_once.rest))
    (stripped_front (codes "seat ") c.args.text.now (Some c.in-Some.rest) c.in-Some.ensures.cases) c.in-Some-split_once.ensures.cases z p).0)

pub returns-in_default-strip_prefix : goal.returns-in_default-strip_prefix
returns-in_default-strip_prefix c =
    nothing (IsSeat c.args.text.now) (λ z p. stripped_front (codes " ") c.in-Some-split_once.rest.now None c.in_default-strip_prefix.ensures.cases
    (calls_text z.1) (seat_split c.args.text.now c.in-Some.rest.now (Some (c.in-Some-split_once.name, c.in-Some-split_once.rest))
    (stripped_front (codes "seat ") c.args.text.now (Some c.in-Some.rest) c.in-Some.ensures.cases) c.in-Some-split_once.ensures.cases z p).1)

pub returns-in-Some-2 : goal.returns-in-Some-2
returns-in-Some-2 c = seat_made c.args.text.now c.in-Some.rest.now c.in-Some-strip_prefix.rest.now (c.in-Some-split_once.name, c.in-Some-split_once.rest)
    c.in-Some-short_number.name c.in-Some-2.calls.items
    (stripped_front (codes "seat ") c.args.text.now (Some c.in-Some.rest) c.in-Some.ensures.cases)
    c.in-Some-split_once.ensures.cases c.in-Some-short_number.ensures
    (stripped_front (codes " ") c.in-Some-split_once.rest.now (Some c.in-Some-strip_prefix.rest) c.in-Some-strip_prefix.ensures.cases)
    (rw c.in-Some-2.is at c.in_ok-calls.ensures)

pub returns-in-None : goal.returns-in-None
returns-in-None c = seat_calls c.args.text.now c.in-Some.rest.now c.in-Some-strip_prefix.rest.now (c.in-Some-split_once.name, c.in-Some-split_once.rest)
    (stripped_front (codes "seat ") c.args.text.now (Some c.in-Some.rest) c.in-Some.ensures.cases) c.in-Some-split_once.ensures.cases
    (stripped_front (codes " ") c.in-Some-split_once.rest.now (Some c.in-Some-strip_prefix.rest) c.in-Some-strip_prefix.ensures.cases)
    (rw c.in-None.is at c.in_ok-calls.ensures)
