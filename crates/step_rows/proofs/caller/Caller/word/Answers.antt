use Rattle.std.proofs.Common.{length, subst}
use Rattle.step_table.specs.Counting.{IsWithin}
use Rattle.step_rows.proofs.Seating.{word_stored}
use Rattle.step_rows.proofs.caller.Caller.word.Goals as goal

pub returns-in-Releasing-clause-stored : goal.returns-in-Releasing-clause-stored
returns-in-Releasing-clause-stored c h rows =
    word_stored h _ _ _ _ rows (c.word_of-in-Releasing.ensures.within (length h.numbers) (length h.grants)
    (subst (IsWithin (length h.numbers)) c.in-Releasing.is rows.within) rows.seat rows.waiter)

pub returns-in-ReleasingMany-clause-stored : goal.returns-in-ReleasingMany-clause-stored
returns-in-ReleasingMany-clause-stored c h rows =
    word_stored h _ _ _ _ rows (c.word_of-in-ReleasingMany.ensures.within (length h.numbers) (length h.grants)
    (subst (IsWithin (length h.numbers)) c.in-ReleasingMany.is rows.within).0 rows.seat rows.waiter)
