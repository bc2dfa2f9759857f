-- A release of many units from its root's lock on, row by row.
use Rattle.std.proofs.Common.{◌≡◌, ℕ, ◌+◌, ◌-◌, ◌<◌, ◌≤◌, zero, suc, nat_eq, nat_lt, ◌&&◌, if◌then◌else◌, not}
use Rattle.std.proofs.Common.{MatchBool, Bool, true, false, List, [], ◌∷◌}
use Rattle.std.proofs.Common.{◌++◌, length, get_or, drop, sym, refl, ap, ◌∙◌, subst, arith, eq-eqb, ne_eqb, length-append}
use Rattle.std.specs.List.{All}
use Rattle.std.proofs.lemmas.Bool.{lt-ltb}
use mathlib.Core.Logic.{dite}
use native.Mathlib.Decide.{ℕ_discrete}
use Rattle.waiters.specs.declared.wait.WaitId.{WaitId}
use Rattle.step_table.specs.declared.effect.Effect.TheVariants.{Nothing, Tells, Wakes}
use Rattle.step_table.specs.declared.entry.Entry.TheVariants.{Leave}
use Rattle.step_table.specs.declared.place.ReleaseMany.{ReleaseMany}
use Rattle.step_table.specs.declared.place.ManyRow.TheVariants.{M4, M5, M6, M7}
use Rattle.step_table.specs.declared.place.Place.{Place}
use Rattle.step_table.specs.declared.place.Place.TheVariants.{Rest, ReleasingMany}
use Rattle.step_table.specs.declared.word.Word.TheVariants.{Grant}
use Rattle.step_table.specs.World.{SeatState, SemaWorld, put}
use Rattle.step_table.specs.Event.{Next, to, zero_or, by_first, waiter}
use Rattle.step_table.specs.ReleaseMany.{after_leave}
use Rattle.step_table.specs.Counting.{times}
use Rattle.step_table.proofs.Sums.{on_here, put_here}
use Rattle.step_law_semaphores.specs.Lawful.{holds}
use Rattle.sema_table.specs.Changes.{spent_by}
use Rattle.step_law_semaphores.specs.SemaPath.{SemaSight, plain_before}
use Rattle.step_law_semaphores.proofs.Promises.{the_law}
use Rattle.step_law_semaphores.proofs.SemaPaths.{the_sema_paths}
use Rattle.step_law_semaphores.proofs.Placing.{same_here}
use Rattle.sema_root.specs.Treap.{Treap}
use mathlib.Core.Option.{none}
use Rattle.running_rows.specs.Table.{step}
use Rattle.running_rows.specs.Strides.{here, runs_grant}
use Rattle.sema_table.specs.declared.view.Setting.{Setting}
use Rattle.sema_table.specs.declared.view.Record.TheVariants.{Root}
use Rattle.sema_table.specs.Setting.{root, layout, address}
use Rattle.running_rows.specs.Owing.{Owes}
use Rattle.sema_table.specs.Rule.{sight_by, lists_by, IsRecord}
use Rattle.sema_table.specs.Rows.{Me, semaphore_rows}
use Rattle.sema_table.specs.Starts.{begin}
use Rattle.sema_table.proofs.Striding.{Ran}
use Rattle.sema_table.specs.Seats.{Token, TableModel}
use Rattle.sema_table.specs.Walks.{Walked, HasRecord, moved_to, lists_of}
use Rattle.sema_table.specs.ManyWalks.{sought_many, picking, with_hand, GrantedFirst}
use Rattle.sema_table.proofs.Words.{listed_agree, same_record}
use Rattle.sema_table.proofs.Allowing.{owes_grant}
use Rattle.sema_table.proofs.Leading.{Goes, led, load_zero, load_some}
use Rattle.sema_table.proofs.Walking.{walked_row, ran_from}
use Rattle.sema_table.proofs.Holding.{record_on}
use Rattle.sema_table.proofs.Granting.{}

-- M4
module _ (s u : Token) (a : ReleaseMany) (n : ℕ) (at : s.me.0.own.knows.place ≡ ReleasingMany a M4) (r : Ran here s.me.0.own n u.me.0.own)
    (same : u.table_id ≡ s.table_id) where
  abbrev look : Ran (begin (ReleasingMany a M4)) s.me.0.own n u.me.0.own
  look = ran_from s u (ReleasingMany a M4) n at r

  abbrev listed : List WaitId
  listed = (plain_before (layout s.me.0.own.knows.setting) look.stride).lists a.counter

  abbrev above : ℕ → Place
  above left = by_first listed (ReleasingMany a M6) (λ w. ReleasingMany a M5)

  found : Goes s.me.0.own look.stride (zero_or (ReleasingMany a M6) above n, Nothing) u.me.0.own
  found = led s.me.0.own u.me.0.own (ReleasingMany a M4) n look

  zero_walk : n ≡ 0 → Walked s (ReleasingMany a M4) u (moved_to s (ReleasingMany a M6)) [] 0
  zero_walk e = walked_row s u (ReleasingMany a M4) n (ReleasingMany a M6, Nothing) look (load_zero n (ReleasingMany a M6) above found e) same

  some_walk : 0 < n → Walked s (ReleasingMany a M4) u (moved_to s (above (n - 1))) [] 0
  some_walk h = walked_row s u (ReleasingMany a M4) n (above (n - 1), Nothing) look (load_some n (ReleasingMany a M6) above found h) same

  -- what is listed then is what the seat has seen
  listed_is : (h : 0 < n) → above (n - 1) ≡ sought_many u a
  listed_is h = ap (λ (l : List WaitId). by_first l (ReleasingMany a M6) (λ w. ReleasingMany a M5))
      (sym (found.lists a.counter) ∙ ap (λ (y : TableModel). lists_by y.setting u.me.0.own.knows.seen a.counter) (sym (some_walk h).table_is))

  pub looked_walk : MatchBool (not (nat_eq n 0)) (Walked s (ReleasingMany a M4) u (moved_to s (sought_many u a)) [] 0)
      (Walked s (ReleasingMany a M4) u (moved_to s (ReleasingMany a M6)) [] 0)
  looked_walk = dite (ℕ_discrete n 0)
      (λ e. subst (λ b. MatchBool (not b) (Walked s (ReleasingMany a M4) u (moved_to s (sought_many u a)) [] 0)
      (Walked s (ReleasingMany a M4) u (moved_to s (ReleasingMany a M6)) [] 0)) (sym (eq-eqb n 0 e)) (zero_walk e))
      (λ ne. subst (λ b. MatchBool (not b) (Walked s (ReleasingMany a M4) u (moved_to s (sought_many u a)) [] 0)
      (Walked s (ReleasingMany a M4) u (moved_to s (ReleasingMany a M6)) [] 0)) (sym (ne_eqb n 0 ne))
      (subst (λ q. Walked s (ReleasingMany a M4) u (moved_to s q) [] 0) (listed_is (omega (arith, ne))) (some_walk (omega (arith, ne)))))

  pub looked_record : u.me.1 ≡ s.me.1 → HasRecord s a.counter → HasRecord u a.counter
  looked_record slots kept = record_on s u (ReleasingMany a M4) n a.counter (zero_or (ReleasingMany a M6) above n, Nothing) look found
      (λ i. record { id = same i; setting = look.same.1 i }) (on_here (root s.me.0.own.knows.setting a.counter) 1) (λ l q. refl) slots kept

-- one listed wait more or less
one_fewer : (n : ℕ) → nat_lt 1 (suc n) ≡ nat_lt 0 n
one_fewer zero = refl
one_fewer (suc n) = lt-ltb 1 (suc (suc n)) (omega arith) ∙ sym (lt-ltb 0 (suc n) (omega arith))

-- where a release goes with so many in hand and so many listed
abbrev pub picks : ReleaseMany → ℕ → ℕ → Place
picks a hand listed = if nat_lt hand a.units && nat_lt 0 listed then ReleasingMany a M5 else ReleasingMany a M6

pub neither : (b : Bool) (a : ReleaseMany) → (if b && false then ReleasingMany a M5 else ReleasingMany a M6) ≡ ReleasingMany a M6
neither true a = refl
neither false a = refl

pub picking_more : (s : Token) (a : ReleaseMany) (w : WaitId) (tail : List WaitId) → lists_of s a.counter ≡ w ∷ tail
    → length s.me.0.own.knows.hand < a.units → picking s a ≡ ReleasingMany a M5
picking_more s a w tail e few = ap (λ (l : List WaitId). picks a (length s.me.0.own.knows.hand) (length l)) e
    ∙ (λ i. if lt-ltb (length s.me.0.own.knows.hand) a.units few i && lt-ltb 0 (suc (length tail)) (omega arith) i
    then ReleasingMany a M5 else ReleasingMany a M6)

-- M5, where the record is already without the wait
module _ (s u : Token) (a : ReleaseMany) (n : ℕ) (w : WaitId) (tail : List WaitId) (at : s.me.0.own.knows.place ≡ ReleasingMany a M5)
    (r : Ran here s.me.0.own n u.me.0.own) (same : u.table_id ≡ s.table_id)
    (first : lists_by s.me.0.own.knows.setting s.me.0.own.knows.seen a.counter ≡ w ∷ tail) where
  abbrev lowers : Ran (begin (ReleasingMany a M5)) s.me.0.own n u.me.0.own
  lowers = ran_from s u (ReleasingMany a M5) n at r

  abbrev next_place : Place
  next_place = after_leave a (length s.me.0.own.knows.hand) (length (w ∷ tail))

  abbrev leaves_it : Next
  leaves_it = (after_leave a (length s.me.0.own.knows.hand) (length (w ∷ tail)), Tells (Leave a.counter w s.me.0.own.number))

  -- the root's lists are those that the seat has seen
  held_lists : (d : ℕ) → root s.me.0.own.knows.setting d ≡ root s.me.0.own.knows.setting a.counter
      → (plain_before (layout s.me.0.own.knows.setting) lowers.stride).lists d ≡ lists_by s.me.0.own.knows.setting s.me.0.own.knows.seen d
  held_lists d e = lowers.also.held d (ap (λ k. holds_at k) e ∙ on_here (root s.me.0.own.knows.setting a.counter) 1)
    where
      holds_at : ℕ → ℕ
      holds_at k = holds (root s.me.0.own.knows.setting) k (ReleasingMany a M5)

  went : Goes s.me.0.own lowers.stride leaves_it u.me.0.own
  went = subst (λ (l : List WaitId). Goes s.me.0.own lowers.stride
      (by_first l (to (ReleasingMany a M6)) (λ x. (after_leave a (length s.me.0.own.knows.hand) (length l), Tells (Leave a.counter x s.me.0.own.number))))
      u.me.0.own)
      (held_lists a.counter refl ∙ first) (led s.me.0.own u.me.0.own (ReleasingMany a M5) n lowers)

  row_walk : Walked s (ReleasingMany a M5) u
      (with_hand s (after_leave a (length s.me.0.own.knows.hand) (length (w ∷ tail))) (s.me.0.own.knows.hand ++ w ∷ []))
      (Leave a.counter w s.me.0.own.number ∷ []) 0
  row_walk = walked_row s u (ReleasingMany a M5) n leaves_it lowers went same

  -- the list is without the wait
  listed_after : lists_of u a.counter ≡ tail
  listed_after = ap (λ (y : TableModel). lists_by y.setting u.me.0.own.knows.seen a.counter) row_walk.table_is ∙ went.lists a.counter
      ∙ put_here ((plain_before (layout s.me.0.own.knows.setting) lowers.stride).lists) a.counter
      (drop 1 ((plain_before (layout s.me.0.own.knows.setting) lowers.stride).lists a.counter))
      ∙ ap (drop 1) (held_lists a.counter refl ∙ first)

  in_hand_after : length u.me.0.own.knows.hand ≡ length s.me.0.own.knows.hand + 1
  in_hand_after = ap (λ (y : SeatState). length y.hand) row_walk.stands_is ∙ length-append s.me.0.own.knows.hand (w ∷ [])

  goes_on : after_leave a (length s.me.0.own.knows.hand) (length (w ∷ tail)) ≡ picking u a
  goes_on = (λ i. if nat_lt (sym in_hand_after i) a.units && one_fewer (length tail) i then ReleasingMany a M5 else ReleasingMany a M6)
      ∙ ap (λ (l : List WaitId). picks a (length u.me.0.own.knows.hand) (length l)) (sym listed_after)

  pub out_walk : Walked s (ReleasingMany a M5) u (with_hand s (picking u a) (s.me.0.own.knows.hand ++ w ∷ [])) (Leave a.counter w s.me.0.own.number ∷ []) 0
  out_walk =
      subst (λ (q : Place). Walked s (ReleasingMany a M5) u (with_hand s q (s.me.0.own.knows.hand ++ w ∷ [])) (Leave a.counter w s.me.0.own.number ∷ []) 0)
      goes_on row_walk

  pub out_record : (treap : Treap) → u.me.1 ≡ (root s.me.0.own.knows.setting a.counter, Root treap) ∷ []
      → IsRecord s.me.0.own.knows.setting (root s.me.0.own.knows.setting a.counter) treap
      (put (lists_by s.me.0.own.knows.setting s.me.0.own.knows.seen) a.counter (drop 1 (lists_by s.me.0.own.knows.setting s.me.0.own.knows.seen a.counter)))
      → HasRecord u a.counter
  out_record treap slots is = (
    treap,
    slots ∙ (λ i. (root (sym row_walk.table_is i).setting a.counter, Root treap) ∷ []),
    subst (λ (y : TableModel). IsRecord y.setting (root y.setting a.counter) treap (lists_by y.setting u.me.0.own.knows.seen)) (sym row_walk.table_is)
        (same_record s.me.0.own.knows.setting (root s.me.0.own.knows.setting a.counter) treap
        (put (lists_by s.me.0.own.knows.setting s.me.0.own.knows.seen) a.counter (drop 1 (lists_by s.me.0.own.knows.setting s.me.0.own.knows.seen a.counter)))
        (lists_by s.me.0.own.knows.setting u.me.0.own.knows.seen)
        (λ d e. went.lists d ∙ listed_agree (Tells (Leave a.counter w s.me.0.own.number))
        ((plain_before (layout s.me.0.own.knows.setting) lowers.stride).lists) (lists_by s.me.0.own.knows.setting s.me.0.own.knows.seen) d (held_lists d e))
        is),
  )

-- an element of a list stands in it
times_at : (l : List WaitId) (k : ℕ) (d : WaitId) → k < length l → 0 < times (get_or l k d) l
times_at [] k d h = absurd (omega arith)
times_at (w ∷ l) zero d h = let o = same_here w in omega arith
times_at (w ∷ l) (suc k) d h = let o = times_at l k d (omega arith) in omega arith

-- the waits in hand are those of seats of the table
pub hands_there : (s u : Token) (from : Place) (n : ℕ) → Ran (begin from) s.me.0.own n u.me.0.own
    → All (λ w. w.seat < s.me.0.own.knows.setting.seats) u.me.0.own.knows.hand
hands_there s u from n r k d low =
    let m = layout s.me.0.own.knows.setting in let i : ℕ = s.me.0.own.number in
    let end = the_sema_paths.ends m i (sight_by (begin from s.me.0.own.knows)) (sight_by u.me.0.own.knows) r.stride r.also.there r.ran in
    let w : SemaWorld = end.0 in
    let good = the_law.reached m w end.1 in
    let x : WaitId = get_or u.me.0.own.knows.hand k d in
    let stands : times x (w.seats i).hand ≡ times x u.me.0.own.knows.hand = ap (λ (y : SemaSight). times x y.stands.hand) (sym end.2) in
    let some : 0 < times x u.me.0.own.knows.hand = times_at u.me.0.own.knows.hand k d low in
    (good.parked.1 i x r.also.there (omega arith)).0

-- M7
pub granted_first : (s u : Token) (a : ReleaseMany) (n : ℕ) → s.me.0.own.knows.place ≡ ReleasingMany a M7 → Ran here s.me.0.own n u.me.0.own
    → u.table_id ≡ s.table_id → u.me.1 ≡ s.me.1 → GrantedFirst s a u
granted_first s u a n at r same slots = let row = ran_from s u (ReleasingMany a M7) n at r in record {
  walked = walked_row s u (ReleasingMany a M7) n (if nat_lt 1 (length s.me.0.own.knows.hand) then ReleasingMany a M7 else Rest, Wakes) row
      (led s.me.0.own u.me.0.own (ReleasingMany a M7) n row) same;
  stride = row.stride;
  strides_are = refl;
  did = row.did;
  stood = row.ran.stood;
  slots = slots;
}

-- the store of 1 leads on
pub grants_first : (z : Setting) (slots i : ℕ) (m : Me) (a : ReleaseMany) → m.0.own.knows.place ≡ ReleasingMany a M7
    → spent_by m.0.own.number m.0.own.knows.seen ≤ m.0.own.knows.setting.limit → address m.0.own.knows.setting (Grant (waiter m.0.own.number m.0.own.knows.hand)) ≡ i
    → waiter m.0.own.number m.0.own.knows.hand < m.0.own.knows.setting.seats
    → Owes semaphore_rows z m i (λ _. 1) (λ _ t. runs_grant semaphore_rows (step slots i 1 0 none) m 1 t)
grants_first z slots i m a at few word there = owes_grant z i m (ReleasingMany a M7) at (omega arith) slots 1
    (λ w n known. record { fits = record { word = word; there = there; can = refl; becomes = refl }; apart = refl })
