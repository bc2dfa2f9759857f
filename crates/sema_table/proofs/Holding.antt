-- The record of a root while a seat holds the root's lock.
use Rattle.std.proofs.Common.{◌≡◌, ℕ, ◌+◌, ◌<◌, Bool, true, false, List, [], ◌∷◌, length, get_or, map, drop, slice_get, Option, Some}
use Rattle.std.proofs.Common.{None, IsSome, IsTrue, is_some, if◌then◌else◌, ◌||◌, eqb, suc, sym}
use Rattle.std.proofs.Common.{refl, ap, ◌∙◌, subst, arith}
use Rattle.std.proofs.lemmas.List.{map-append}
use native.Mathlib.Decide.{ℕ_discrete}
use Rattle.running_rows.specs.Table.{rest}
use Rattle.running_rows.specs.Lent.{seat_with}
use Rattle.waiters.specs.declared.wait.Wait.{Wait}
use Rattle.waiters.specs.declared.wait.WaitId.{WaitId}
use Rattle.waiters.specs.declared.sought.Sought.TheVariants.{Seat}
use Rattle.waiters.specs.Lists.{is_sought, first_sought, without_sought}
use Rattle.step_table.specs.declared.place.Acquire.{Acquire}
use Rattle.step_table.specs.declared.place.AcquireRow.TheVariants.{A7}
use Rattle.step_table.specs.declared.place.Place.{Place}
use Rattle.step_table.specs.declared.place.Place.TheVariants.{Acquiring}
use Rattle.step_table.specs.World.{SemaWorld, put, insert_wait, lists_after, wait_of, stands_in, without}
use Rattle.step_table.proofs.Withdrawing.{stands_has, length_without}
use Rattle.step_table.specs.Event.{Next}
use Rattle.step_table.specs.Counting.{total, on}
use Rattle.step_table.proofs.Sums.{put_here, put_else, on_here, total_same, total_change, length_insert}
use Rattle.step_law_semaphores.specs.Lawful.{holds, raises}
use Rattle.step_law_semaphores.specs.SemaPath.{SemaSight, plain_before}
use Rattle.step_law_semaphores.proofs.Promises.{the_law}
use Rattle.step_law_semaphores.proofs.SemaPaths.{the_sema_paths}
use Rattle.step_law_semaphores.proofs.Raising.{waits_up}
use Rattle.sema_root.specs.Queues.{waits_on, joined_by, Changes}
use Rattle.sema_root.specs.Queues as queues
use Rattle.sema_root.specs.Treap.{Treap, Tickets, Draws, queues_of, ticket_of, drawn_from}
use Rattle.sema_table.specs.declared.view.Setting.{Setting}
use Rattle.sema_table.specs.declared.view.Record.{Record}
use Rattle.sema_table.specs.declared.view.Record.TheVariants.{Root, Out}
use Rattle.sema_table.specs.Setting.{root, layout}
use Rattle.sema_table.specs.Rule.{sight_by, lists_by, drawn_after, IsRecord}
use Rattle.sema_table.specs.Starts.{begin}
use Rattle.sema_table.proofs.Striding.{Ran}
use Rattle.sema_table.specs.Seats.{Token, TableModel, table_of}
use Rattle.sema_table.specs.Walks.{HasRecord, HasRoom, Edited, lists_of}
use Rattle.sema_table.proofs.Words.{listed_agree, same_record}
use Rattle.sema_table.proofs.Leading.{Goes}

-- a row that leaves the lists leaves the record of a lock that the seat holds
pub record_on : (s t : Token) (from : Place) (n c : ℕ) (next : Next) (r : Ran (begin from) s.me.0.own n t.me.0.own)
    → Goes s.me.0.own r.stride next t.me.0.own → table_of t ≡ table_of s
    → holds (root s.me.0.own.knows.setting) (root s.me.0.own.knows.setting c) from ≡ 1
    → ((l : ℕ → List WaitId) (q : ℕ) → lists_after next.1 l q ≡ l q) → t.me.1 ≡ s.me.1 → HasRecord s c → HasRecord t c
record_on s t from n c next r g same held still slots h = (
  h.0,
  slots ∙ h.1 ∙ (λ i. (root (sym same i).setting c, Root h.0) ∷ []),
  subst (λ (y : TableModel). IsRecord y.setting (root y.setting c) h.0 (lists_by y.setting t.me.0.own.knows.seen)) (sym same)
      (same_record s.me.0.own.knows.setting (root s.me.0.own.knows.setting c) h.0 (lists_by s.me.0.own.knows.setting s.me.0.own.knows.seen)
      (lists_by s.me.0.own.knows.setting t.me.0.own.knows.seen)
      (λ q e. g.lists q ∙ still _ q ∙ r.also.held q (ap (λ k. holds (root s.me.0.own.knows.setting) k from) e ∙ held)) h.2),
)

-- a row that changes the lists leaves a record that was changed so
pub record_after : (s t : Token) (from : Place) (n c : ℕ) (next : Next) (r : Ran (begin from) s.me.0.own n t.me.0.own)
    → Goes s.me.0.own r.stride next t.me.0.own → table_of t ≡ table_of s
    → holds (root s.me.0.own.knows.setting) (root s.me.0.own.knows.setting c) from ≡ 1
    → (treap : Treap) → t.me.1 ≡ (root s.me.0.own.knows.setting c, Root treap) ∷ []
    → IsRecord s.me.0.own.knows.setting (root s.me.0.own.knows.setting c) treap (lists_after next.1 (lists_of s)) → HasRecord t c
record_after s t from n c next r g same held treap slots is = (
  treap,
  slots ∙ (λ i. (root (sym same i).setting c, Root treap) ∷ []),
  subst (λ (y : TableModel). IsRecord y.setting (root y.setting c) treap (lists_by y.setting t.me.0.own.knows.seen)) (sym same)
      (same_record s.me.0.own.knows.setting (root s.me.0.own.knows.setting c) treap (lists_after next.1 (lists_of s))
      (lists_by s.me.0.own.knows.setting t.me.0.own.knows.seen)
      (λ q e. g.lists q ∙ listed_agree next.1 ((plain_before (layout s.me.0.own.knows.setting) r.stride).lists) (lists_of s) q
      (r.also.held q (ap (λ k. holds (root s.me.0.own.knows.setting) k from) e ∙ held))) is),
)

-- a committed seat has room
pub has_room : (s t : Token) (from : Place) (n : ℕ) (a : Acquire) → Ran (begin from) s.me.0.own n t.me.0.own → table_of t ≡ table_of s
    → t.me.0.own.knows.place ≡ Acquiring a A7 → HasRoom t a.counter
has_room s t from n a r same at =
    let z = s.me.0.own.knows.setting in let i : ℕ = s.me.0.own.number in let m = layout z in
    let end = the_sema_paths.ends m i (sight_by (begin from s.me.0.own.knows)) (sight_by t.me.0.own.knows) r.stride r.also.there r.ran in
    let w : SemaWorld = end.0 in
    let good = the_law.reached m w end.1 in
    let x : ℕ = root z a.counter in
    let stands : (w.seats i).place ≡ Acquiring a A7 = ap (λ (y : SemaSight). y.stands.place) (sym end.2) ∙ at in
    let holding : holds (root z) x (w.seats i).place ≡ 1 = ap (holds (root z) x) stands ∙ on_here x 1 in
    let raising : raises (root z) x (w.seats i).place ≡ 1 = ap (raises (root z) x) stands ∙ on_here x 1 in
    let counted = (good.waiters x).1 i r.also.there holding in
    let few = (good.bounded.1 x).1 in
    let lists : (d : ℕ) → lists_by z t.me.0.own.knows.seen d ≡ w.words.lists d = λ d. ap (λ (y : SemaSight). lists_by z y.seen d) end.2
    ∙ ap (λ k. k.lists d) (sym good.journal.0) in
    let sum = total_same (length z.starts) (λ d. on (root z d) x (length (lists_by z t.me.0.own.knows.seen d)))
    (λ d. on (root z d) x (length (w.words.lists d))) (λ d h. ap (λ (k : List WaitId). on (root z d) x (length k)) (lists d)) in
    subst (λ (y : TableModel). total (length y.setting.starts)
    (λ d. on (root y.setting d) (root y.setting a.counter) (length (lists_by y.setting t.me.0.own.knows.seen d))) < y.setting.seats) (sym same) (omega arith)

-- a counter that comes in draws one ticket more
draws_on : (y t : Treap) (c : ℕ) {first : Tickets} → (n : ℕ) × (y.tickets ≡ drawn_after n first) → Draws y t c
    → (n : ℕ) × (t.tickets ≡ drawn_after n first)
draws_on y t c {first = first} was draws = by (ticket_of y.tree c) refl
  where
    by : (found : Option ℕ) → ticket_of y.tree c ≡ found → (n : ℕ) × (t.tickets ≡ drawn_after n first)
    by (Some k) e = (was.0, draws.waited (subst IsSome (sym e) refl) ∙ was.1)
    by None e = (suc was.0, (draws.came e).1 ∙ ap (λ (x : Tickets). drawn_from x.generator) was.1)

-- the record after a wait was put in
module _ (z : Setting) (r c : ℕ) (y t : Treap) (l : ℕ → List WaitId) where
  map_joined : (lifo : Bool) (w : Wait) (ws : List Wait) → map (λ (x : Wait). x.id) (joined_by lifo w ws)
      ≡ insert_wait lifo w.id (map (λ (x : Wait). x.id) ws)
  unfolding insert_wait
  map_joined true w ws = refl
  map_joined false w ws = map-append (λ (x : Wait). x.id) ws (w ∷ [])

  pub queued_record : (lifo : Bool) (w : Wait) → IsRecord z r y l → root z c ≡ r → c < length z.starts
      → Changes (queues_of y.tree) (queues_of t.tree) c (joined_by lifo w (waits_on (queues_of y.tree) c))
      → queues.total (queues_of t.tree) ≡ queues.total (queues_of y.tree) + 1 → t.seats ≡ y.seats → Draws y t c
      → IsRecord z r t (put l c (insert_wait lifo w.id (l c)))
  queued_record lifo w is at inside change count seats draws = record {
    waits = λ q e. by q e (ℕ_discrete q c);
    count = let up = waits_up (layout z) r c l (insert_wait lifo w.id (l c)) inside (length_insert lifo w.id (l c)) in let one = on_here (root z c) 1 in
        let same = ap (λ x. on (root z c) x 1) at in let was = is.count in omega arith;
    seats = seats ∙ is.seats;
    drawn = draws_on y t c is.drawn draws;
  }
    where
      by : (q : ℕ) → root z q ≡ r → Dec (q ≡ c) → map (λ (x : Wait). x.id) (waits_on (queues_of t.tree) q)
          ≡ put l c (insert_wait lifo w.id (l c)) q
      by q e (yes here) = ap (λ k. map (λ (x : Wait). x.id) (waits_on (queues_of t.tree) k)) here ∙ ap (map (λ (x : Wait). x.id)) change.there
          ∙ map_joined lifo w (waits_on (queues_of y.tree) c)
          ∙ ap (insert_wait lifo w.id) (is.waits c at) ∙ sym (put_here l c (insert_wait lifo w.id (l c)))
          ∙ ap (put l c (insert_wait lifo w.id (l c))) (sym here)
      by q e (no ne) = ap (map (λ (x : Wait). x.id)) (change.elsewhere q ne) ∙ is.waits q e ∙ sym (put_else l c (insert_wait lifo w.id (l c)) q ne)

-- the record after a wait was taken out
module _ (z : Setting) (r c : ℕ) (y t : Treap) (l : ℕ → List WaitId) (is : IsRecord z r y l) (at : root z c ≡ r) (inside : c < length z.starts)
    (count : queues.total (queues_of t.tree) + 1 ≡ queues.total (queues_of y.tree)) (seats : t.seats ≡ y.seats) (undrawn : t.tickets ≡ y.tickets) where
  shorter_record : (ws : List Wait) (x : List WaitId) → length x + 1 ≡ length (l c) → map (λ (w : Wait). w.id) ws ≡ x
      → Changes (queues_of y.tree) (queues_of t.tree) c ws → IsRecord z r t (put l c x)
  shorter_record ws x shorter names change = record {
    waits = λ q e. by q e (ℕ_discrete q c);
    count = let changed = total_change (length z.starts) (λ d. on (root z d) r (length (l d))) (λ d. on (root z d) r (length (put l c x d))) c inside
        (λ k ne. ap (λ (y : List WaitId). on (root z k) r (length y)) (put_else l c x k ne)) in
        let here = ap (λ (y : List WaitId). on (root z c) r (length y)) (put_here l c x) in
        let one : on (root z c) r (length x) ≡ length x = ap (λ k. on (root z c) k (length x)) (sym at) ∙ on_here (root z c) (length x) in
        let two : on (root z c) r (length (l c)) ≡ length (l c) = ap (λ k. on (root z c) k (length (l c))) (sym at) ∙ on_here (root z c) (length (l c)) in
        let was = is.count in omega arith;
    seats = seats ∙ is.seats;
    drawn = (is.drawn.0, undrawn ∙ is.drawn.1);
  }
    where
      by : (q : ℕ) → root z q ≡ r → Dec (q ≡ c) → map (λ (w : Wait). w.id) (waits_on (queues_of t.tree) q) ≡ put l c x q
      by q e (yes here) = ap (λ k. map (λ (w : Wait). w.id) (waits_on (queues_of t.tree) k)) here ∙ ap (map (λ (w : Wait). w.id)) change.there
          ∙ names ∙ sym (put_here l c x) ∙ ap (put l c x) (sym here)
      by q e (no ne) = ap (map (λ (w : Wait). w.id)) (change.elsewhere q ne) ∙ is.waits q e ∙ sym (put_else l c x q ne)

  map_rest : (ws : List Wait) → map (λ (x : Wait). x.id) (drop 1 ws) ≡ drop 1 (map (λ (x : Wait). x.id) ws)
  map_rest [] = refl
  map_rest (w ∷ ws) = refl

  -- the first
  pub dequeued_record : (w : WaitId) (ws : List WaitId) → l c ≡ w ∷ ws
      → Changes (queues_of y.tree) (queues_of t.tree) c (drop 1 (waits_on (queues_of y.tree) c))
      → IsRecord z r t (put l c (drop 1 (l c)))
  dequeued_record w ws first = shorter_record (drop 1 (waits_on (queues_of y.tree) c)) (drop 1 (l c))
      (ap (λ (k : List WaitId). length (drop 1 k) + 1) first ∙ (omega arith) ∙ ap length (sym first))
      (map_rest (waits_on (queues_of y.tree) c) ∙ ap (drop 1) (is.waits c at))

  map_without : (k : ℕ) (ws : List Wait) → map (λ (x : Wait). x.id) (without_sought (is_sought (Seat k)) ws) ≡ without k (map (λ (x : Wait). x.id) ws)
  map_without k [] = refl
  map_without k (w ∷ ws) = by (eqb w.id.seat k) (map_without k ws)
    where
      by : (b : Bool) → map (λ (x : Wait). x.id) (without_sought (is_sought (Seat k)) ws) ≡ without k (map (λ (x : Wait). x.id) ws)
          → map (λ (x : Wait). x.id) (if b then ws else w ∷ without_sought (is_sought (Seat k)) ws)
          ≡ (if b then map (λ (x : Wait). x.id) ws else w.id ∷ without k (map (λ (x : Wait). x.id) ws))
      by true rest = refl
      by false rest = ap (λ (j : List WaitId). w.id ∷ j) rest

  -- that of a seat
  pub withdrawn_record : (k : ℕ) → IsTrue (stands_in k (l c))
      → Changes (queues_of y.tree) (queues_of t.tree) c (without_sought (is_sought (Seat k)) (waits_on (queues_of y.tree) c))
      → IsRecord z r t (put l c (without k (l c)))
  withdrawn_record k stands = shorter_record (without_sought (is_sought (Seat k)) (waits_on (queues_of y.tree) c)) (without k (l c))
      (let o = stands_has k (l c) stands in subst (λ i. length (without i (l c)) + 1 ≡ length (l c)) o.2
      (length_without o.0 (l c) (subst (λ i. wait_of i (l c) ≡ Some o.0) (sym o.2) o.1)))
      (map_without k (waits_on (queues_of y.tree) c) ∙ ap (without k) (is.waits c at))

-- a wait of the seat is sought in a list of waits, and in that of their names
pub found_stands : (k : ℕ) (ws : List Wait) → is_some (first_sought (is_sought (Seat k)) ws) ≡ stands_in k (map (λ (x : Wait). x.id) ws)
found_stands k [] = refl
found_stands k (w ∷ ws) = by (eqb w.id.seat k) (found_stands k ws)
  where
    by : (b : Bool) → is_some (first_sought (is_sought (Seat k)) ws) ≡ stands_in k (map (λ (x : Wait). x.id) ws)
        → is_some (if b then Some w else first_sought (is_sought (Seat k)) ws) ≡ (b || stands_in k (map (λ (x : Wait). x.id) ws))
    by true rest = refl
    by false rest = rest

pub first_is : (ws : List Wait) (w : Wait) → slice_get ws 0 ≡ Some w → ws ≡ w ∷ drop 1 ws
first_is [] w e = absurd (cc)
first_is (x ∷ ws) w e = cc

-- the seat's one slot, by the number that the table has for it
pub in_slot : (s : Token) (t : TableModel) (c slot : ℕ) → table_of s ≡ t → slot ≡ root t.setting c → HasRecord s c → (old : Record)
    × (s.me.1 ≡ (slot, old) ∷ rest s.me.1)
in_slot s t c slot same is h =
    let at : root s.me.0.own.knows.setting c ≡ slot = ap (λ (y : TableModel). root y.setting c) same ∙ sym is in
    (Root h.0, h.1 ∙ (λ i. (at i, Root h.0) ∷ rest (sym h.1 i)))

-- what is lent is the record
pub lent_record : (s : Token) (c slot : ℕ) (lent : Record) (treap : Treap) → HasRecord s c
    → s.me.1 ≡ (slot, lent) ∷ rest s.me.1 → lent ≡ Root treap
    → IsRecord s.me.0.own.knows.setting (root s.me.0.own.knows.setting c) treap (lists_of s)
lent_record s c slot lent treap h value is = subst (λ (y : Treap). IsRecord s.me.0.own.knows.setting (root s.me.0.own.knows.setting c) y (lists_of s))
    (by (ap (λ (l : List (ℕ × Record)). (get_or l 0 (0, Out)).1) (sym h.1 ∙ value) ∙ is)) h.2
  where
    by : Root h.0 ≡ Root treap → h.0 ≡ treap
    by e = cc

-- the record is written back to its slot
pub edited : (s : Token) (t : TableModel) (c slot : ℕ) (treap : Treap) (lists : ℕ → List WaitId) → table_of s ≡ t
    → slot ≡ root t.setting c → HasRecord s c
    → IsRecord s.me.0.own.knows.setting (root s.me.0.own.knows.setting c) treap lists → Edited s c lists (seat_with s slot (Root treap))
edited s t c slot treap lists same is h made =
    let at : slot ≡ root s.me.0.own.knows.setting c = is ∙ ap (λ (y : TableModel). root y.setting c) (sym same) in
    (refl, (treap, (λ i. (s.me.0, (at i, Root treap) ∷ rest (h.1 i))), made))
