use Rattle.std.proofs.Common.{Some, None}
use Rattle.scenario_text.specs.Phrases.{IsOrLeave}
use Rattle.scenario_text.proofs.Parts.{fails, none, stripped_front, no_number, no_rest, with_rest, IsFlaggedWay, or_leave_of, flagged_way}
use Rattle.scenario_text.proofs.reader.call.read_or_leave.Goals as goal

pub returns-in_err-number : goal.returns-in_err-number
returns-in_err-number c =
    let keyword = c.args.keyword.now in
    let flag = c.args.flag.now in
    let text = c.args.text.now in
    fails (IsOrLeave keyword flag text) _ c.from_residual.ensures
    (no_number (IsFlaggedWay flag) keyword text (IsOrLeave keyword flag text) (or_leave_of keyword flag text) c.in_err-number.ensures)

pub returns-in_err-strip_prefix : goal.returns-in_err-strip_prefix
returns-in_err-strip_prefix c =
    let keyword = c.args.keyword.now in
    let flag = c.args.flag.now in
    let text = c.args.text.now in
    let rest = c.in_ok-number.rest.now in
    fails (IsOrLeave keyword flag text) _ c.from_residual-in_err-strip_prefix.ensures
    (no_rest (IsFlaggedWay flag) keyword text (IsOrLeave keyword flag text) (or_leave_of keyword flag text) c.in_ok-number.number rest
    c.in_ok-number.ensures (λ how p. stripped_front flag rest None c.in_err-strip_prefix.ensures.cases _ p.1))

pub returns-in_err-how : goal.returns-in_err-how
returns-in_err-how c =
    let keyword = c.args.keyword.now in
    let flag = c.args.flag.now in
    let text = c.args.text.now in
    let rest = c.in_ok-number.rest.now in
    let reads = flagged_way flag c.in_ok-strip_prefix.field-0.now rest None
    (stripped_front flag rest (Some c.in_ok-strip_prefix.field-0) c.in_ok-strip_prefix.ensures.cases) c.in_err-how.ensures in
    fails (IsOrLeave keyword flag text) _ c.from_residual-in_err-how.ensures
    (no_rest (IsFlaggedWay flag) keyword text (IsOrLeave keyword flag text) (or_leave_of keyword flag text) c.in_ok-number.number rest
    c.in_ok-number.ensures (λ how p. none (IsFlaggedWay flag rest) how reads p))

pub returns : goal.returns
returns c =
    let keyword = c.args.keyword.now in
    let flag = c.args.flag.now in
    let text = c.args.text.now in
    let rest = c.in_ok-number.rest.now in
    let reads = flagged_way flag c.in_ok-strip_prefix.field-0.now rest (Some c.in_ok-how.how)
    (stripped_front flag rest (Some c.in_ok-strip_prefix.field-0) c.in_ok-strip_prefix.ensures.cases) c.in_ok-how.ensures in
    with_rest (IsFlaggedWay flag) keyword text (IsOrLeave keyword flag text) (or_leave_of keyword flag text) c.in_ok-number.number rest c.in_ok-how.how
    c.in_ok-number.ensures reads
