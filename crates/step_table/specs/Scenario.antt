-- Which parts make a scenario.
use Rattle.std.specs.Prelude.{◌≡◌, ℕ, ◌+◌, ◌<◌, ◌≤◌, ◌==◌, if◌then◌else◌, Bool, true, false, List, [], ◌∷◌, All}
use Rattle.std.specs.Prelude.{IfSome, length, slice_get, take}
use Rattle.step_table.specs.declared.call.Call.{Call}
use Rattle.step_table.specs.declared.call.Call.TheVariants.{Acquire, AcquireOrLeave, Release, ReleaseMany, Add}
use Rattle.step_table.specs.declared.call.Call.TheVariants.{Wait, WaitOrLeave, One, All as NotifyAll, GroupAdd, GroupWait}
use Rattle.step_table.specs.declared.call.Call.TheVariants.{GroupWaitOrLeave}
use Rattle.step_table.specs.declared.parts.Parts.{Parts}

-- a release of many is of 1 to 256 units, and a call that is given up leaves out at most 31 calls
abbrev pub IsOfFewUnits : Call → Type 0
IsOfFewUnits (ReleaseMany c n) = (1 ≤ n) × (n ≤ 256)
IsOfFewUnits (AcquireOrLeave c lifo how) = how.skips ≤ 31
IsOfFewUnits (WaitOrLeave l how) = how.skips ≤ 31
IsOfFewUnits (GroupWaitOrLeave g skips) = skips ≤ 31
IsOfFewUnits _ = Unit {0}

abbrev pub IsScript : List Call → Type 0
IsScript calls = (0 < length calls) × (length calls ≤ 32) × All IsOfFewUnits calls

-- the parts keep the limits
pub record IsWithinLimits (parts : Parts) : Type 0 where
  pub some_root : 0 < parts.roots
  pub roots : parts.roots ≤ 251
  pub counters : length parts.starts ≤ 16
  pub lists : length parts.firsts ≤ 16
  pub groups : parts.groups ≤ 16
  pub some_seat : 0 < length parts.calls
  pub seats : length parts.calls ≤ 16
  pub scripts : All IsScript parts.calls

-- the call names a counter, list or group that is there
abbrev pub IsCallOn : Parts → Call → Type 0
IsCallOn parts (Acquire c lifo) = c < length parts.starts
IsCallOn parts (AcquireOrLeave c lifo how) = c < length parts.starts
IsCallOn parts (Release c handoff) = c < length parts.starts
IsCallOn parts (ReleaseMany c n) = c < length parts.starts
IsCallOn parts (Add l) = l < length parts.firsts
IsCallOn parts (Wait l) = l < length parts.firsts
IsCallOn parts (WaitOrLeave l how) = l < length parts.firsts
IsCallOn parts (One l) = l < length parts.firsts
IsCallOn parts (NotifyAll l) = l < length parts.firsts
IsCallOn parts (GroupAdd g d) = g < parts.groups
IsCallOn parts (GroupWait g) = g < parts.groups
IsCallOn parts (GroupWaitOrLeave g skips) = g < parts.groups

-- each call names what is declared
abbrev pub IsDeclared : Parts → Type 0
IsDeclared parts = All (All (IsCallOn parts)) parts.calls

-- whether a seat that made these calls holds a ticket of the list l, where it held one before or not
abbrev pub holding_after : ℕ → Bool → List Call → Bool
holding_after l held [] = held
holding_after l held (Add m ∷ calls) = holding_after l (if m == l then true else held) calls
holding_after l held (Wait m ∷ calls) = holding_after l (if m == l then false else held) calls
holding_after l held (WaitOrLeave m how ∷ calls) = holding_after l (if m == l then false else held) calls
holding_after l held (call ∷ calls) = holding_after l held calls

abbrev pub holds_ticket : ℕ → List Call → Bool
holds_ticket l calls = holding_after l false calls

-- a ticket is taken where none of the list is held, and waited with where one is
abbrev pub IsTicketCall : List Call → Call → Type 0
IsTicketCall before (Add l) = holds_ticket l before ≡ false
IsTicketCall before (Wait l) = holds_ticket l before ≡ true
IsTicketCall before (WaitOrLeave l how) = holds_ticket l before ≡ true
IsTicketCall before _ = Unit {0}

-- how many calls are left out after the call, where it is given up
abbrev pub skips_of : Call → ℕ
skips_of (AcquireOrLeave c lifo how) = how.skips
skips_of (WaitOrLeave l how) = how.skips
skips_of (GroupWaitOrLeave g skips) = skips
skips_of _ = 0

-- of a list the seat holds a ticket after the calls that may be left out where it held one before them
abbrev pub SkipsKeepTickets : List Call → ℕ → Call → Type 0
SkipsKeepTickets calls i call =
    (l : ℕ) → holds_ticket l (take (i + 1 + skips_of call) calls) ≡ holds_ticket l (take (i + 1) calls)

-- each call that takes or spends a ticket does so in its turn, whichever calls are left out
abbrev pub AreTicketsKept : List Call → Type 0
AreTicketsKept calls =
    (i : ℕ) → IfSome (slice_get calls i) (λ call. IsTicketCall (take i calls) call × SkipsKeepTickets calls i call)

abbrev pub KeepsTickets : Parts → Type 0
KeepsTickets parts = All AreTicketsKept parts.calls
