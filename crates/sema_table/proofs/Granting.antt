-- A release from its root's lock on, row by row.
use Rattle.std.proofs.Common.{◌≡◌, ◌≢◌, ℕ, ◌+◌, ◌-◌, ◌<◌, ◌≤◌, nat_eq, not, MatchBool, Bool, true, false, List, []}
use Rattle.std.proofs.Common.{◌∷◌, ◌++◌, drop, sym, refl, ap, ◌∙◌}
use Rattle.std.proofs.Common.{subst, arith, eq-eqb, ne_eqb}
use mathlib.Core.Logic.{dite}
use native.Mathlib.Decide.{ℕ_discrete}
use Rattle.waiters.specs.declared.wait.WaitId.{WaitId}
use Rattle.step_table.specs.declared.effect.Effect.TheVariants.{Nothing, Tells, Wakes}
use Rattle.step_table.specs.declared.entry.Entry.TheVariants.{Take, Leave}
use Rattle.step_table.specs.declared.place.Release.{Release}
use Rattle.step_table.specs.declared.place.ReleaseRow.TheVariants.{R4, R5, R6, R7, R8, R9, R10}
use Rattle.step_table.specs.declared.place.Place.{Place}
use Rattle.step_table.specs.declared.place.Place.TheVariants.{Rest, Releasing}
use Rattle.step_table.specs.World.{SeatState, SemaWorld, put}
use Rattle.step_table.specs.Event.{Next, to, zero_or, by_first, waiter}
use Rattle.step_table.specs.Counting.{times}
use Rattle.step_table.proofs.Sums.{on_here}
use Rattle.step_law_semaphores.specs.Lawful.{holds}
use Rattle.step_law_semaphores.specs.SemaPath.{SemaSight, plain_before}
use Rattle.step_law_semaphores.proofs.Promises.{the_law}
use Rattle.step_law_semaphores.proofs.SemaPaths.{the_sema_paths}
use Rattle.step_law_semaphores.proofs.Placing.{same_here}
use Rattle.sema_root.specs.Treap.{Treap}
use mathlib.Core.Option.{none}
use Rattle.running_rows.specs.Table.{step}
use Rattle.running_rows.specs.Strides.{here, runs_grant}
use Rattle.sema_table.specs.declared.view.Record.TheVariants.{Root}
use Rattle.sema_table.specs.Setting.{root, layout, address}
use Rattle.running_rows.specs.Owing.{Owes}
use Rattle.sema_table.specs.Rule.{sight_by, lists_by, IsRecord}
use Rattle.sema_table.specs.Changes.{spent_by}
use Rattle.step_table.specs.declared.word.Word.TheVariants.{Grant}
use Rattle.sema_table.specs.declared.view.Setting.{Setting}
use Rattle.sema_table.specs.Rows.{Me, semaphore_rows}
use Rattle.sema_table.specs.Starts.{begin}
use Rattle.sema_table.proofs.Striding.{Ran}
use Rattle.sema_table.proofs.Allowing.{owes_grant}
use Rattle.sema_table.specs.Seats.{Token, TableModel}
use Rattle.sema_table.proofs.Changing.{has_changed}
use Rattle.sema_table.specs.Walks.{Walked, Changed, HasRecord, Granted, moved_to, taken_out, sought, granting, grant_of}
use Rattle.sema_table.proofs.Leading.{Goes, next_by, led, load_zero, load_some, won, lost}
use Rattle.sema_table.proofs.Walking.{walked_row, walked_then, ran_from}
use Rattle.sema_table.proofs.Holding.{record_on, record_after}

-- R4
module _ (s u : Token) (a : Release) (n : ℕ) (at : s.me.0.own.knows.place ≡ Releasing a R4) (r : Ran here s.me.0.own n u.me.0.own)
    (same : u.table_id ≡ s.table_id) where
  abbrev look : Ran (begin (Releasing a R4)) s.me.0.own n u.me.0.own
  look = ran_from s u (Releasing a R4) n at r

  abbrev listed : List WaitId
  listed = (plain_before (layout s.me.0.own.knows.setting) look.stride).lists a.counter

  abbrev above : ℕ → Place
  above left = by_first listed (Releasing a R6) (λ w. Releasing a R5)

  found : Goes s.me.0.own look.stride (zero_or (Releasing a R6) above n, Nothing) u.me.0.own
  found = led s.me.0.own u.me.0.own (Releasing a R4) n look

  zero_walk : n ≡ 0 → Walked s (Releasing a R4) u (moved_to s (Releasing a R6)) [] 0
  zero_walk e = walked_row s u (Releasing a R4) n (Releasing a R6, Nothing) look (load_zero n (Releasing a R6) above found e) same

  some_walk : 0 < n → Walked s (Releasing a R4) u (moved_to s (above (n - 1))) [] 0
  some_walk h = walked_row s u (Releasing a R4) n (above (n - 1), Nothing) look (load_some n (Releasing a R6) above found h) same

  -- what is listed then is what the seat has seen
  listed_is : (h : 0 < n) → above (n - 1) ≡ sought u a
  listed_is h = ap (λ (l : List WaitId). by_first l (Releasing a R6) (λ w. Releasing a R5))
      (sym (found.lists a.counter) ∙ ap (λ (y : TableModel). lists_by y.setting u.me.0.own.knows.seen a.counter) (sym (some_walk h).table_is))

  pub looked_walk : MatchBool (not (nat_eq n 0)) (Walked s (Releasing a R4) u (moved_to s (sought u a)) [] 0)
      (Walked s (Releasing a R4) u (moved_to s (Releasing a R6)) [] 0)
  looked_walk = dite (ℕ_discrete n 0)
      (λ e. subst (λ b. MatchBool (not b) (Walked s (Releasing a R4) u (moved_to s (sought u a)) [] 0)
      (Walked s (Releasing a R4) u (moved_to s (Releasing a R6)) [] 0)) (sym (eq-eqb n 0 e)) (zero_walk e))
      (λ ne. subst (λ b. MatchBool (not b) (Walked s (Releasing a R4) u (moved_to s (sought u a)) [] 0)
      (Walked s (Releasing a R4) u (moved_to s (Releasing a R6)) [] 0)) (sym (ne_eqb n 0 ne))
      (subst (λ q. Walked s (Releasing a R4) u (moved_to s q) [] 0) (listed_is (omega (arith, ne))) (some_walk (omega (arith, ne)))))

  pub looked_record : u.me.1 ≡ s.me.1 → HasRecord s a.counter → HasRecord u a.counter
  looked_record slots kept = record_on s u (Releasing a R4) n a.counter (zero_or (Releasing a R6) above n, Nothing) look found
      (λ i. record { id = same i; setting = look.same.1 i }) (on_here (root s.me.0.own.knows.setting a.counter) 1) (λ l q. refl) slots kept

-- a wait in hand is that of a seat of the table
pub hand_there : (s u : Token) (from : Place) (n : ℕ) (x : WaitId) → Ran (begin from) s.me.0.own n u.me.0.own → u.me.0.own.knows.hand ≡ x ∷ []
    → x.seat < s.me.0.own.knows.setting.seats
hand_there s u from n x r at =
    let m = layout s.me.0.own.knows.setting in let i : ℕ = s.me.0.own.number in
    let end = the_sema_paths.ends m i (sight_by (begin from s.me.0.own.knows)) (sight_by u.me.0.own.knows) r.stride r.also.there r.ran in
    let w : SemaWorld = end.0 in
    let good = the_law.reached m w end.1 in
    let stands : (w.seats i).hand ≡ x ∷ [] = ap (λ (y : SemaSight). y.stands.hand) (sym end.2) ∙ at in
    let some : times x (w.seats i).hand ≡ 1 = ap (times x) stands ∙ (let a = same_here x in omega arith) in
    (good.parked.1 i x r.also.there (omega arith)).0

-- R5, where the record is already without the wait
module _ (s u : Token) (a : Release) (n : ℕ) (w : WaitId) (tail : List WaitId) (at : s.me.0.own.knows.place ≡ Releasing a R5)
    (r : Ran here s.me.0.own n u.me.0.own) (same : u.table_id ≡ s.table_id)
    (first : lists_by s.me.0.own.knows.setting s.me.0.own.knows.seen a.counter ≡ w ∷ tail) where
  abbrev lowers : Ran (begin (Releasing a R5)) s.me.0.own n u.me.0.own
  lowers = ran_from s u (Releasing a R5) n at r

  abbrev leaves : Next
  leaves = (Releasing a R6, Tells (Leave a.counter w s.me.0.own.number))

  -- the root's lists are those that the seat has seen
  held_lists : (d : ℕ) → root s.me.0.own.knows.setting d ≡ root s.me.0.own.knows.setting a.counter
      → (plain_before (layout s.me.0.own.knows.setting) lowers.stride).lists d ≡ lists_by s.me.0.own.knows.setting s.me.0.own.knows.seen d
  held_lists d e = lowers.also.held d (ap (λ k. holds_at k) e ∙ on_here (root s.me.0.own.knows.setting a.counter) 1)
    where
      holds_at : ℕ → ℕ
      holds_at k = holds (root s.me.0.own.knows.setting) k (Releasing a R5)

  went : Goes s.me.0.own lowers.stride leaves u.me.0.own
  went =
      subst (λ (l : List WaitId). Goes s.me.0.own lowers.stride
      (by_first l (to (Releasing a R6)) (λ x. (Releasing a R6, Tells (Leave a.counter x s.me.0.own.number)))) u.me.0.own)
      (held_lists a.counter refl ∙ first) (led s.me.0.own u.me.0.own (Releasing a R5) n lowers)

  pub out_walk : Walked s (Releasing a R5) u (taken_out s a w) (Leave a.counter w s.me.0.own.number ∷ []) 0
  out_walk = walked_row s u (Releasing a R5) n leaves lowers went same

  pub out_there : s.me.0.own.knows.hand ≡ [] → w.seat < s.me.0.own.knows.setting.seats
  out_there empty = hand_there s u (Releasing a R5) n w lowers (ap (λ (y : SeatState). y.hand) went.stands ∙ ap (λ (l : List WaitId). l ++ w ∷ []) empty)

  pub out_record : (treap : Treap) → u.me.1 ≡ (root s.me.0.own.knows.setting a.counter, Root treap) ∷ []
      → IsRecord s.me.0.own.knows.setting (root s.me.0.own.knows.setting a.counter) treap
      (put (lists_by s.me.0.own.knows.setting s.me.0.own.knows.seen) a.counter (drop 1 (lists_by s.me.0.own.knows.setting s.me.0.own.knows.seen a.counter)))
      → HasRecord u a.counter
  out_record = record_after s u (Releasing a R5) n a.counter leaves lowers went out_walk.table_is (on_here (root s.me.0.own.knows.setting a.counter) 1)

-- R9 or R10
module _ (s u : Token) (a : Release) (id : WaitId) (n : ℕ) (r : Ran here s.me.0.own n u.me.0.own) (same : u.table_id ≡ s.table_id) where
  pub granted : (handed : Bool) → s.me.0.own.knows.place ≡ granting a handed → Granted s (granting a handed) u
  granted true at = let row = ran_from s u (Releasing a R9) n at r in record {
    walked = walked_row s u (Releasing a R9) n (Rest, Wakes) row (led s.me.0.own u.me.0.own (Releasing a R9) n row) same;
    stride = row.stride;
    strides_are = refl;
    did = row.did;
    stood = row.ran.stood;
  }
  granted false at = let row = ran_from s u (Releasing a R10) n at r in record {
    walked = walked_row s u (Releasing a R10) n (Rest, Wakes) row (led s.me.0.own u.me.0.own (Releasing a R10) n row) same;
    stride = row.stride;
    strides_are = refl;
    did = row.did;
    stood = row.ran.stood;
  }

-- R7, after rows that led there
module _ (s0 s u : Token) (a : Release) (id : WaitId) (n : ℕ) (before : Walked s0 (Releasing a R7) s (moved_to s0 (Releasing a R7)) [] 0)
    (hand : s0.me.0.own.knows.hand ≡ id ∷ []) (r : Ran here s.me.0.own n u.me.0.own) (same : u.table_id ≡ s.table_id) where
  abbrev look_for : Ran (begin (Releasing a R7)) s.me.0.own n u.me.0.own
  look_for = ran_from s u (Releasing a R7) n (ap (λ (y : SeatState). y.place) before.stands_is) r

  found_for : Goes s.me.0.own look_for.stride (next_by s.me.0.own (Releasing a R7) look_for.stride n) u.me.0.own
  found_for = led s.me.0.own u.me.0.own (Releasing a R7) n look_for

  pub zero_for : n ≡ 0 → Walked s0 (Releasing a R7) u (moved_to s0 (Releasing a R10)) [] 0
  zero_for e = walked_then s0 s u (Releasing a R7) (Releasing a R7) (Releasing a R10) [] [] 0 0 before
      (walked_row s u (Releasing a R7) n (Releasing a R10, Nothing) look_for (load_zero n (Releasing a R10) (λ left. Releasing a (R8 left)) found_for e) same)

  pub some_for : 0 < n → Walked s0 (Releasing a R7) u (moved_to s0 (Releasing a (R8 (n - 1)))) [] 0
  some_for h = walked_then s0 s u (Releasing a R7) (Releasing a R7) (Releasing a (R8 (n - 1))) [] [] 0 0 before
      (walked_row s u (Releasing a R7) n (Releasing a (R8 (n - 1)), Nothing) look_for
      (load_some n (Releasing a R10) (λ left. Releasing a (R8 left)) found_for h) same)

  -- and R8
  module _ (w : Token) (y : ℕ) (some : 0 < n) (q : Ran here u.me.0.own y w.me.0.own) (again : w.table_id ≡ u.table_id) where
    abbrev before_it : Place
    before_it = Releasing a (R8 (n - 1))

    abbrev wins : Next
    wins = (Releasing a R9, Tells (Take a.counter (waiter u.me.0.own.number u.me.0.own.knows.hand)))

    abbrev loses : Next
    loses = (Releasing a R7, Nothing)

    swap : Ran (begin before_it) u.me.0.own y w.me.0.own
    swap = ran_from u w before_it y (ap (λ (x : SeatState). x.place) (some_for some).stands_is) q

    swapped : Goes u.me.0.own swap.stride (next_by u.me.0.own before_it swap.stride y) w.me.0.own
    swapped = led u.me.0.own w.me.0.own before_it y swap

    -- the unit is for the seat of the wait in hand
    for_it : waiter u.me.0.own.number u.me.0.own.knows.hand ≡ id.seat
    for_it = ap (waiter u.me.0.own.number) (ap (λ (x : SeatState). x.hand) (some_for some).stands_is ∙ hand)

    pub won_for : y ≡ n → Walked s0 (Releasing a R7) w (moved_to s0 (Releasing a R9)) (Take a.counter id.seat ∷ []) 0
    won_for e = subst (λ i. Walked s0 (Releasing a R7) w (moved_to s0 (Releasing a R9)) (Take a.counter i ∷ []) 0) for_it
        (walked_then s0 u w (Releasing a R7) before_it (Releasing a R9) []
        (Take a.counter (waiter u.me.0.own.number u.me.0.own.knows.hand) ∷ []) 0 0 (some_for some)
        (walked_row u w before_it y wins swap (won y (n - 1 + 1) wins loses swapped (omega arith)) again))

    pub lost_for : y ≢ n → Walked s0 (Releasing a R7) w (moved_to s0 (Releasing a R7)) [] 0
    lost_for ne = walked_then s0 u w (Releasing a R7) before_it (Releasing a R7) [] [] 0 0 (some_for some)
        (walked_row u w before_it y loses swap (lost y (n - 1 + 1) wins loses swapped (λ e. ne (omega arith))) again)

    pub changed_for : y ≢ n → Changed a.counter s w
    changed_for = has_changed s.me.0.own u.me.0.own w.me.0.own (Releasing a R7) before_it a.counter n y look_for swap (λ i x j. refl) (λ i x j. refl)

-- the store of a grant leads on
module _ (z : Setting) (slots i : ℕ) (m : Me) (a : Release) where
  abbrev Stores : ℕ → Type 0
  Stores units = Owes semaphore_rows z m i (λ _. units) (λ _ t. runs_grant semaphore_rows (step slots i units 0 none) m units t)

  pub grants_at : (handed : Bool) (units : ℕ) → units ≡ grant_of handed → m.0.own.knows.place ≡ granting a handed
      → spent_by m.0.own.number m.0.own.knows.seen ≤ m.0.own.knows.setting.limit → address m.0.own.knows.setting (Grant (waiter m.0.own.number m.0.own.knows.hand)) ≡ i
      → waiter m.0.own.number m.0.own.knows.hand < m.0.own.knows.setting.seats → Stores units
  grants_at true units is at few word there = subst Stores (sym is) (owes_grant z i m (Releasing a R9) at (omega arith) slots 2
      (λ w n known. record { fits = record { word = word; there = there; can = refl; becomes = refl }; apart = refl }))
  grants_at false units is at few word there = subst Stores (sym is) (owes_grant z i m (Releasing a R10) at (omega arith) slots 1
      (λ w n known. record { fits = record { word = word; there = there; can = refl; becomes = refl }; apart = refl }))
