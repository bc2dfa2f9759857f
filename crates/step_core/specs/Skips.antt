-- Which of the calls that are left out with another take or spend a ticket that the seat doesn't hold as before.
use Rattle.std.specs.Prelude.{◌≡◌, List}
use Rattle.step_table.specs.declared.call.Call.{Call}
use Rattle.step_table.specs.declared.call.Call.TheVariants.{Add, Wait, WaitOrLeave}
use Rattle.step_table.specs.Scenario.{holds_ticket}

-- of the list of this call a seat holds a ticket after these calls where it held one after those
abbrev pub IsHeldAlike : List Call → List Call → Call → Type 0
IsHeldAlike before after (Add l) = holds_ticket l after ≡ holds_ticket l before
IsHeldAlike before after (Wait l) = holds_ticket l after ≡ holds_ticket l before
IsHeldAlike before after (WaitOrLeave l how) = holds_ticket l after ≡ holds_ticket l before
IsHeldAlike before after _ = Unit {0}
