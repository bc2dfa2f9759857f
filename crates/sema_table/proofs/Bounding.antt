-- How many units a seat can come by, and how often a counter can change.
use Rattle.std.proofs.Common.{◌≡◌, ℕ, ◌+◌, ◌*◌, ◌^◌, ◌<◌, ◌≤◌, List, [], ◌∷◌, length, arith, mul-le-mul_right}
use Rattle.step_table.specs.declared.entry.Entry.{Entry}
use Rattle.step_table.specs.declared.entry.Entry.TheVariants.{Add, AddMany}
use Rattle.step_table.specs.World.{SemaWorld}
use Rattle.step_table.specs.Steps.{IsReached}
use Rattle.step_table.specs.Journal.{takes}
use Rattle.step_table.specs.Counting.{total}
use Rattle.step_table.proofs.Sums.{total_has, on_most}
use Rattle.step_table.proofs.SumsOfSums.{total_most}
use Rattle.step_law_semaphores.specs.Lawful.{added}
use Rattle.step_law_semaphores.specs.Balances.{added_by, added_on, taken}
use Rattle.step_law_semaphores.specs.Bounds.{IsSmall}
use Rattle.step_law_semaphores.proofs.Promises.{the_law}
use Rattle.step_law_semaphores.proofs.Accounts.{the_accounts}
use Rattle.sema_table.specs.declared.view.Setting.{Setting}
use Rattle.sema_table.specs.Setting.{layout}
use Rattle.sema_table.specs.Changes.{changes, most_changes}

-- what is taken was there at the start or was added
pub all_taken_most : (z : Setting) (s : SemaWorld) → IsReached (layout z) s → IsSmall (layout z) z.limit s → length z.starts ≤ 65536
    → taken s.journal ≤ 2 ^ 62 + 2 ^ 48
all_taken_most z s reached small counted =
    let sum = the_accounts.balanced_in_all (layout z) s reached in
    let units : added s.journal ≡ total z.seats (λ i. added_by i s.journal) = the_accounts.added (layout z) s reached in
    let few : total z.seats (λ i. added_by i s.journal) ≤ z.seats * z.limit = total_most z.seats z.limit (λ i. added_by i s.journal)
    (λ i h. let q = small.few i h in omega arith) in
    let shares = small.shares in
    let starts : total (length z.starts) (layout z).starts ≤ length z.starts * (2 ^ 32) = total_most (length z.starts) (2 ^ 32) (layout z).starts
    (λ c h. let q = small.starts c in omega arith) in
    let counters : length z.starts * (2 ^ 32) ≤ 65536 * (2 ^ 32) = mul-le-mul_right (2 ^ 32) counted in
    omega arith

pub taken_most : (z : Setting) (k : ℕ) (s : SemaWorld) → IsReached (layout z) s → IsSmall (layout z) z.limit s → length z.starts ≤ 65536
    → k < z.seats → takes k s.journal ≤ 2 ^ 62 + 2 ^ 48
taken_most z k s reached small counted there =
    let all : taken s.journal ≡ total z.seats (λ i. takes i s.journal) = the_accounts.taken (layout z) s reached in
    let one = total_has z.seats (λ i. takes i s.journal) k there in
    let most = all_taken_most z s reached small counted in
    omega arith

-- what is added to one counter is added
added_most : (c : ℕ) (j : List Entry) → added_on c j ≤ added j
added_most c [] = omega arith
added_most c (Add d s ∷ j) = let rest : added_on c j ≤ added j = added_most c j in let one = on_most c d 1 in omega arith
added_most c (AddMany d n s ∷ j) = let rest : added_on c j ≤ added j = added_most c j in let one = on_most c d n in omega arith
added_most c (e ∷ j) = added_most c j

-- what is taken from it was there at the start or was added to it
pub changes_most : (z : Setting) (s : SemaWorld) → IsReached (layout z) s → IsSmall (layout z) z.limit s → (c : ℕ) → changes c s.journal ≤ most_changes
changes_most z s reached small c =
    let units : added s.journal ≡ total z.seats (λ i. added_by i s.journal) = the_accounts.added (layout z) s reached in
    let few : total z.seats (λ i. added_by i s.journal) ≤ z.seats * z.limit = total_most z.seats z.limit (λ i. added_by i s.journal)
    (λ i h. let q = small.few i h in omega arith) in
    let shares = small.shares in
    let most = added_most c s.journal in
    let sum = the_accounts.balanced (layout z) s (the_law.invariant (layout z) s reached) c in
    let start = small.starts c in
    omega arith
