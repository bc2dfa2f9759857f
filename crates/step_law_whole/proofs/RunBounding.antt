-- No scenario has a bound above 16 seats times 32 calls times 708.
use Rattle.std.proofs.Common.{ℕ, suc, ◌+◌, ◌-◌, ◌*◌, ◌≤◌, Bool, true, false, List, [], ◌∷◌, All, length, arith}
use Rattle.std.proofs.lemmas.Nat.{mul-le}
use Rattle.step_table.specs.declared.call.Call.{Call}
use Rattle.step_table.specs.declared.call.Late.{Late}
use Rattle.step_table.specs.declared.call.Call.TheVariants.{Acquire, Release, ReleaseMany, Add, Wait, One, All as NotifyAll, GroupAdd, GroupWait, GroupWaitOrLeave}
use Rattle.step_table.specs.declared.call.Call.TheVariants.{AcquireOrLeave, WaitOrLeave}
use Rattle.step_table.specs.declared.parts.Parts.{Parts}
use Rattle.step_table.specs.Scenario.{IsScript}
use Rattle.step_law_whole.specs.RunInvariant.{IsScenario}
use Rattle.step_law_whole.specs.SemaWeight.{release_cost}
use Rattle.step_law_whole.specs.CoreWeight.{call_cost, late_weight, late_on_list_weight}
use Rattle.step_law_whole.specs.RunWeight.{calls_cost, scripts_cost, most_steps}
use Rattle.step_table.specs.declared.call.Late.TheVariants.{Kept, GivenBack}

release_most : (n : ℕ) (handoff : Bool) → n ≤ 16 → release_cost n handoff ≤ 708
release_most n true few = omega arith
release_most n false few = omega arith

late_most : (n : ℕ) (late : Late) → n ≤ 16 → late_weight n late ≤ 43
late_most n Kept few = omega arith
late_most n GivenBack few = omega arith

late_on_list_most : (late : Late) → late_on_list_weight late ≤ 7
late_on_list_most Kept = omega arith
late_on_list_most GivenBack = omega arith

call_most : (n : ℕ) (call : Call) → n ≤ 16 → call_cost n call ≤ 708
call_most n (Acquire c lifo) few = omega arith
call_most n (AcquireOrLeave c lifo how) few = let more = late_most n how.late few in omega arith
call_most n (Release c handoff) few = release_most n handoff few
call_most n (ReleaseMany c units) few = omega arith
call_most n (Add l) few = omega arith
call_most n (Wait l) few = omega arith
call_most n (WaitOrLeave l how) few = let more = late_on_list_most how.late in omega arith
call_most n (One l) few = omega arith
call_most n (NotifyAll l) few = omega arith
call_most n (GroupAdd g d) few =
    let others : (n - 1) * (2 * n + 11) ≤ 15 * 43 = mul-le (n - 1) (2 * n + 11) 15 43 (omega arith) (omega arith) in omega arith
call_most n (GroupWait g) few = omega arith
call_most n (GroupWaitOrLeave g skips) few = omega arith

calls_most : (n : ℕ) (calls : List Call) → n ≤ 16 → calls_cost n calls ≤ length calls * 708
calls_most n [] few = omega arith
calls_most n (call ∷ calls) few =
    let one = call_most n call few in
    let rest : calls_cost n calls ≤ length calls * 708 = calls_most n calls few in omega arith

scripts_most : (n : ℕ) (scripts : List (List Call)) → n ≤ 16 → All IsScript scripts → scripts_cost n scripts ≤ length scripts * 22656
scripts_most n [] few short = omega arith
scripts_most n (calls ∷ scripts) few short =
    let script : IsScript calls = short 0 [] (omega arith) in
    let most = script.1 in
    let one = calls_most n calls few in
    let rest : scripts_cost n scripts ≤ length scripts * 22656 = scripts_most n scripts few (λ k d less. short (suc k) d (omega arith)) in omega arith

pub bounded : (parts : Parts) → IsScenario parts → most_steps parts ≤ 362496
bounded parts scenario =
    let seats = scenario.limits.seats in
    let all = scripts_most (length parts.calls) parts.calls seats scenario.limits.scripts in omega arith
