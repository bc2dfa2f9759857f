-- What was added and taken, by seats and by counters.
use Rattle.std.proofs.Common.{◌≡◌, ℕ, ◌+◌, ◌-◌, ◌<◌, List, [], ◌∷◌, ◌++◌, refl, sym, ap, ◌∙◌, arith}
use Rattle.std.specs.List.{All}
use Rattle.std.proofs.lemmas.List.Elements.{All-head, All-tail}
use Rattle.step_table.specs.declared.entry.Entry.{Entry}
use Rattle.step_table.specs.declared.entry.Entry.TheVariants.{Add, AddMany, Take, Withdraw}
use Rattle.step_table.specs.World.{Layout, SemaWorld}
use Rattle.step_table.specs.Steps.{IsReached}
use Rattle.step_table.specs.Journal.{Plain, plain_start, effect_of, replay, IsDefined, takes, IsLawful}
use Rattle.step_table.specs.Counting.{on, total}
use Rattle.step_law_semaphores.specs.Lawful as lawful
use Rattle.step_law_semaphores.specs.Invariant.{IsInvariant}
use Rattle.step_table.proofs.Sums.{on_here, on_else, flip, single, nothing, total_same, up, up_by, down}
use Rattle.step_table.proofs.SumsOfSums.{total_add}
use Rattle.step_law_semaphores.proofs.Promises as law
use Rattle.step_law_semaphores.specs.Entries.{IsNamed}
use Rattle.step_law_semaphores.specs.Balances.{added_by, added_on, taken_on, AddedBySeats, TakenForSeats, Balanced, BalancedInAll}
use Rattle.step_law_semaphores.specs.Balances.{withdrawn_by, WithdrawnBySeats}
use Rattle.step_law_semaphores.specs.Balances as sums
use Rattle.step_law_semaphores.proofs.Owning.{named}

total_on : (n s x : ℕ) → s < n → total n (λ k. on k s x) ≡ x
total_on n s x h = single n (λ k. on k s x) s h (λ k ne. on_else k s x ne) ∙ on_here s x

-- a sum to which the index s adds x
one_more : (n s x : ℕ) (f : ℕ → ℕ) → s < n → total n (λ k. on k s x + f k) ≡ x + total n f
one_more n s x f h = let both = total_add n (λ k. on k s x) f in let one = total_on n s x h in omega arith

added_counted : (m : Layout) (j : List Entry) → All (IsNamed m) j → lawful.added j ≡ total m.seats (λ k. added_by k j)
added_counted m [] all = sym (nothing m.seats (λ k. 0) (λ k. refl))
added_counted m (Add c s ∷ j) all =
    let is = All-head (IsNamed m) (Add c s) j all in
    let rest : lawful.added j ≡ total m.seats (λ k. added_by k j) = added_counted m j (All-tail (IsNamed m) (Add c s) j all) in
    let one = one_more m.seats s 1 (λ k. added_by k j) is.1 in omega arith
added_counted m (AddMany c n s ∷ j) all =
    let is = All-head (IsNamed m) (AddMany c n s) j all in
    let rest : lawful.added j ≡ total m.seats (λ k. added_by k j) = added_counted m j (All-tail (IsNamed m) (AddMany c n s) j all) in
    let one = one_more m.seats s n (λ k. added_by k j) is.1 in omega arith
added_counted m (e ∷ j) all = added_counted m j (All-tail (IsNamed m) e j all)

withdrawn_counted : (m : Layout) (j : List Entry) → All (IsNamed m) j → lawful.withdrawals j ≡ total m.seats (λ k. withdrawn_by k j)
withdrawn_counted m [] all = sym (nothing m.seats (λ k. 0) (λ k. refl))
withdrawn_counted m (Withdraw c w ∷ j) all =
    let is = All-head (IsNamed m) (Withdraw c w) j all in
    let rest : lawful.withdrawals j ≡ total m.seats (λ k. withdrawn_by k j) = withdrawn_counted m j (All-tail (IsNamed m) (Withdraw c w) j all) in
    let one = one_more m.seats w.seat 1 (λ k. withdrawn_by k j) is.1 in omega arith
withdrawn_counted m (e ∷ j) all = withdrawn_counted m j (All-tail (IsNamed m) e j all)

taken_counted : (m : Layout) (j : List Entry) → All (IsNamed m) j → sums.taken j ≡ total m.seats (λ k. takes k j)
taken_counted m [] all = sym (nothing m.seats (λ k. 0) (λ k. refl))
taken_counted m (Take c s ∷ j) all =
    let is = All-head (IsNamed m) (Take c s) j all in
    let rest : sums.taken j ≡ total m.seats (λ k. takes k j) = taken_counted m j (All-tail (IsNamed m) (Take c s) j all) in
    let one = one_more m.seats s 1 (λ k. takes k j) is.1 in omega arith
taken_counted m (e ∷ j) all = taken_counted m j (All-tail (IsNamed m) e j all)

added_on_counted : (m : Layout) (j : List Entry) → All (IsNamed m) j → lawful.added j ≡ total m.counters (λ c. added_on c j)
added_on_counted m [] all = sym (nothing m.counters (λ k. 0) (λ k. refl))
added_on_counted m (Add c s ∷ j) all =
    let is = All-head (IsNamed m) (Add c s) j all in
    let rest : lawful.added j ≡ total m.counters (λ c. added_on c j) = added_on_counted m j (All-tail (IsNamed m) (Add c s) j all) in
    let one = one_more m.counters c 1 (λ c. added_on c j) is.0 in omega arith
added_on_counted m (AddMany c n s ∷ j) all =
    let is = All-head (IsNamed m) (AddMany c n s) j all in
    let rest : lawful.added j ≡ total m.counters (λ c. added_on c j)
    = added_on_counted m j (All-tail (IsNamed m) (AddMany c n s) j all) in
    let one = one_more m.counters c n (λ c. added_on c j) is.0 in omega arith
added_on_counted m (e ∷ j) all = added_on_counted m j (All-tail (IsNamed m) e j all)

taken_on_counted : (m : Layout) (j : List Entry) → All (IsNamed m) j → sums.taken j ≡ total m.counters (λ c. taken_on c j)
taken_on_counted m [] all = sym (nothing m.counters (λ k. 0) (λ k. refl))
taken_on_counted m (Take c s ∷ j) all =
    let is = All-head (IsNamed m) (Take c s) j all in
    let rest : sums.taken j ≡ total m.counters (λ c. taken_on c j) = taken_on_counted m j (All-tail (IsNamed m) (Take c s) j all) in
    let one = one_more m.counters c 1 (λ c. taken_on c j) is.0 in omega arith
taken_on_counted m (e ∷ j) all = taken_on_counted m j (All-tail (IsNamed m) e j all)

pub added : (m : Layout) (s : SemaWorld) → IsReached m s → AddedBySeats m s
added m s reached = added_counted m s.journal (named m s reached)

pub withdrawn : (m : Layout) (s : SemaWorld) → IsReached m s → WithdrawnBySeats m s
withdrawn m s reached = withdrawn_counted m s.journal (named m s reached)

pub taken : (m : Layout) (s : SemaWorld) → IsReached m s → TakenForSeats m s
taken m s reached = taken_counted m s.journal (named m s reached)

-- each entry is defined where it stands
abbrev AllDefined : Plain → List Entry → Type 0
AllDefined x j = (before after : List Entry) (e : Entry) → j ≡ before ++ e ∷ after → IsDefined e (replay x before)

-- what one entry adds to the number of c
balance : (x : Plain) (e : Entry) (c : ℕ) → IsDefined e x
    → (effect_of e x).numbers c + taken_on c (e ∷ []) ≡ x.numbers c + added_on c (e ∷ [])
balance x (Add d s) c is = let more = up x.numbers d (x.numbers d + 1) c refl in let turn = flip d c 1 in omega arith
balance x (AddMany d n s) c is = let more = up_by n x.numbers d (x.numbers d + n) c refl in let turn = flip d c n in omega arith
balance x (Take d s) c is = let less = down x.numbers d (x.numbers d - 1) c (omega arith) in let turn = flip d c 1 in omega arith
balance x _ c is = omega arith

added_first : (c : ℕ) (e : Entry) (j : List Entry) → added_on c (e ∷ j) ≡ added_on c (e ∷ []) + added_on c j
added_first c (Add d s) j = omega arith
added_first c (AddMany d n s) j = omega arith
added_first c _ j = omega arith

taken_first : (c : ℕ) (e : Entry) (j : List Entry) → taken_on c (e ∷ j) ≡ taken_on c (e ∷ []) + taken_on c j
taken_first c (Take d s) j = omega arith
taken_first c _ j = omega arith

balance_all : (x : Plain) (j : List Entry) (c : ℕ) → AllDefined x j → (replay x j).numbers c + taken_on c j ≡ x.numbers c + added_on c j
balance_all x [] c all = refl
balance_all x (e ∷ j) c all =
    let rest : (replay (effect_of e x) j).numbers c + taken_on c j ≡ (effect_of e x).numbers c + added_on c j
    = balance_all (effect_of e x) j c (λ before after d is. all (e ∷ before) after d (ap (λ l. e ∷ l) is)) in
    let one = balance x e c (all [] j e refl) in
    let adds = added_first c e j in let takes_it = taken_first c e j in omega arith

-- so it is in each lawful journal
pub lawful_balanced : (start : Plain) (j : List Entry) (c : ℕ) → IsLawful start j
    → (replay start j).numbers c + taken_on c j ≡ start.numbers c + added_on c j
lawful_balanced start j c lawful = balance_all start j c (λ before after e is. (lawful.0 before after e is).0)

pub balanced : (m : Layout) (s : SemaWorld) → IsInvariant m s → Balanced m s
balanced m s inv c =
    let all = balance_all (plain_start m.starts) s.journal c (λ before after e is. (inv.follows before after e is).0) in
    let number = ap (λ x. x.numbers c) inv.replays in omega arith

pub balanced_in_all : (m : Layout) (s : SemaWorld) → IsReached m s → BalancedInAll m s
balanced_in_all m s reached =
    let names = named m s reached in
    let each = balanced m s (law.reached m s reached) in
    let adds = added_on_counted m s.journal names in
    let takes_all = taken_on_counted m s.journal names in
    let same = total_same m.counters (λ c. s.words.numbers c + taken_on c s.journal)
    (λ c. m.starts c + added_on c s.journal) (λ c h. each c) in
    let left = total_add m.counters s.words.numbers (λ c. taken_on c s.journal) in
    let right = total_add m.counters m.starts (λ c. added_on c s.journal) in omega arith
