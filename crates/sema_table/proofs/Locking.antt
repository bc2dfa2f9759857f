-- The row that takes a lock, and what comes of it.
use Rattle.std.proofs.Common.{◌≡◌, ◌≢◌, ℕ, ◌≤◌, ◌==◌, Bool, true, false, if◌then◌else◌, List, [], ◌∷◌, length, slice_index, sym, refl, ap, ◌∙◌}
use Rattle.std.proofs.Common.{subst, arith, eq-eqb}
use prog.Atomic.{either}
use Rattle.waiters.specs.declared.wait.WaitId.{WaitId}
use Rattle.step_table.specs.declared.place.AcquireRow.TheVariants.{A3, Parked}
use Rattle.step_table.specs.declared.place.ParkedRow.TheVariants.{D2, D3, D5}
use Rattle.step_table.specs.declared.place.Acquire.{Acquire}
use Rattle.step_table.specs.declared.place.ReleaseRow.TheVariants.{R3}
use Rattle.step_table.specs.declared.place.ManyRow.TheVariants.{M3}
use Rattle.step_table.specs.declared.place.Place.{Place}
use Rattle.step_table.specs.declared.place.Place.TheVariants.{Acquiring, Releasing, ReleasingMany}
use Rattle.step_table.specs.declared.word.Word.TheVariants.{Lock}
use Rattle.step_table.specs.Table.{event_at}
use Rattle.step_table.specs.World.{SeatState, stands_in}
use Rattle.step_table.specs.Event.{Next, to}
use Rattle.step_table.specs.Counting.{counter_at}
use Rattle.step_law_semaphores.specs.Served.{gains}
use Rattle.step_law_semaphores.specs.SemaPath.{SemaStride, plain_before}
use Rattle.sema_table.specs.declared.view.Setting.{Setting}
use Rattle.sema_table.specs.declared.view.Record.TheVariants.{Root}
use Rattle.sema_table.specs.Setting.{root, layout, address}
use Rattle.sema_table.specs.Places.{Begins, takes_lock, locked}
use Rattle.sema_table.specs.Rule.{stands_by, lists_by, IsRecord}
use Rattle.running_rows.specs.Strides.{Took, Changed}
use Rattle.running_rows.specs.Owing.{Owes}
use Rattle.sema_table.specs.Changes.{spent_by}
use Rattle.sema_root.specs.Treap.{Treap}
use Rattle.sema_table.specs.Rows.{Me, semaphore_rows}
use Rattle.sema_table.specs.Starts.{begin}
use Rattle.sema_table.proofs.Striding.{Ran}
use Rattle.sema_table.specs.Seats.{Token, TableModel}
use Rattle.sema_table.specs.Walks.{Starts, Walked, Locked, moved_to, lists_of}
use Rattle.sema_table.proofs.Spending.{spending}
use Rattle.running_rows.proofs.Telling.{tells_more}
use Rattle.sema_table.proofs.Allowing.{Takes, owes_lock}
use Rattle.sema_table.proofs.Leading.{Goes, led}
use Rattle.sema_table.proofs.Walking.{walked_row}

-- such a row spends nothing
pub locking_spends : (p : Place) → takes_lock p ≡ true → spending p ≡ 0
locking_spends (Acquiring a A3) e = refl
locking_spends (Acquiring a (Parked turn D2)) e = refl
locking_spends (Releasing r R3) e = refl
locking_spends (ReleasingMany r M3) e = refl
locking_spends _ e = absurd (cc)

-- its event takes the lock of its call's counter
pub locking_event : (z : Setting) (s : ℕ) (seat : SeatState) (lists : ℕ → List WaitId) (p : Place) (i n : ℕ) → takes_lock p ≡ true
    → address z (Lock (counter_at p)) ≡ i → n ≡ 0
    → Takes z (counter_at p) (event_at s seat lists p) i n
locking_event z s seat lists (Acquiring a A3) i n e word none =
    record { fits = record { word = word; there = tt; can = eq-eqb n 0 none; becomes = refl }; word_is = refl; silent = refl }
locking_event z s seat lists (Acquiring a (Parked turn D2)) i n e word none =
    record { fits = record { word = word; there = tt; can = eq-eqb n 0 none; becomes = refl }; word_is = refl; silent = refl }
locking_event z s seat lists (Releasing r R3) i n e word none =
    record { fits = record { word = word; there = tt; can = eq-eqb n 0 none; becomes = refl }; word_is = refl; silent = refl }
locking_event z s seat lists (ReleasingMany r M3) i n e word none =
    record { fits = record { word = word; there = tt; can = eq-eqb n 0 none; becomes = refl }; word_is = refl; silent = refl }
locking_event z s seat lists _ i n e word none = absurd (cc)

locking_leads : (s : ℕ) (seat : SeatState) (lists : ℕ → List WaitId) (p : Place) → takes_lock p ≡ true
    → (event_at s seat lists p).leads 0 ≡ to (locked s lists p)
locking_leads s seat lists (Acquiring a A3) e = refl
locking_leads s seat lists (Acquiring a (Parked turn D2)) e = refl
locking_leads s seat lists (Releasing r R3) e = refl
locking_leads s seat lists (ReleasingMany r M3) e = refl
locking_leads s seat lists _ e = absurd (cc)

-- one that gives up comes by nothing, whether it finds its wait or not
found_gains : (a : Acquire) (turn : ℕ) (queued : Bool)
    → gains (Acquiring a (Parked turn D2)) (if queued then Acquiring a (Parked turn D3) else Acquiring a (Parked turn D5)) ≡ 0
found_gains a turn true = refl
found_gains a turn false = refl

found_counter : (a : Acquire) (turn : ℕ) (queued : Bool)
    → counter_at (if queued then Acquiring a (Parked turn D3) else Acquiring a (Parked turn D5)) ≡ a.counter
found_counter a turn true = refl
found_counter a turn false = refl

module _ (k : ℕ) (lists : ℕ → List WaitId) where
  locking_gains : (p : Place) → takes_lock p ≡ true → gains p (locked k lists p) ≡ 0
  locking_gains (Acquiring a A3) e = refl
  locking_gains (Acquiring a (Parked turn D2)) e = found_gains a turn (stands_in k (lists a.counter))
  locking_gains (Releasing r R3) e = refl
  locking_gains (ReleasingMany r M3) e = refl
  locking_gains _ e = absurd (cc)

  pub locked_counter : (p : Place) → takes_lock p ≡ true → counter_at (locked k lists p) ≡ counter_at p
  locked_counter (Acquiring a A3) e = refl
  locked_counter (Acquiring a (Parked turn D2)) e = found_counter a turn (stands_in k (lists a.counter))
  locked_counter (Releasing r R3) e = refl
  locked_counter (ReleasingMany r M3) e = refl
  locked_counter _ e = absurd (cc)

  -- only the list of the call's counter tells where it leads
  locked_by : (others : ℕ → List WaitId) (p : Place) → takes_lock p ≡ true → lists (counter_at p) ≡ others (counter_at p)
      → locked k lists p ≡ locked k others p
  locked_by others (Acquiring a A3) e same = refl
  locked_by others (Acquiring a (Parked turn D2)) e same =
      ap (λ (l : List WaitId). if stands_in k l then Acquiring a (Parked turn D3) else Acquiring a (Parked turn D5)) same
  locked_by others (Releasing r R3) e same = refl
  locked_by others (ReleasingMany r M3) e same = refl
  locked_by others _ e same = absurd (cc)

-- the lists before a row are those that the journal told
abbrev lists_at : Setting → SemaStride → ℕ → List WaitId
lists_at z p = (plain_before (layout z) p).lists

pub has_locked : (t : TableModel) (s u : Token) (p : Place) → Starts t s p → Took semaphore_rows (begin p) s.me u.me
    → u.table_id ≡ s.table_id → Locked s p u
has_locked t s u p starts T same =
    let i : ℕ = s.me.0.own.number in let before = lists_at s.me.0.own.knows.setting T.0.stride in
    let g : Goes s.me.0.own T.0.stride (to (locked i before p)) u.me.0.own
    = subst (λ (x : Next). Goes s.me.0.own T.0.stride x u.me.0.own)
    (locking_leads i (record { place = p; turn = s.me.0.own.knows.turn; hand = s.me.0.own.knows.hand }) before p starts.takes)
    (led s.me.0.own u.me.0.own p 0 T.0) in
    let seen : before (counter_at p) ≡ lists_of u (counter_at p)
    = sym (g.lists (counter_at p)) ∙ ap (λ z. lists_by z u.me.0.own.knows.seen (counter_at p)) (sym T.0.same.1) in
    let x = subst (λ (q : Place). Walked s p u (moved_to s q) [] 0) (locked_by i before (lists_of u) p starts.takes seen)
    (subst (λ k. Walked s p u (moved_to s (locked i before p)) [] k) (locking_gains i before p starts.takes)
    (walked_row s u p 0 (to (locked i before p)) T.0 g same)) in
    let H = T.1.3 in
    let place : counter_at u.me.0.own.knows.place ≡ counter_at p = ap (λ (q : SeatState). counter_at q.place)
    x.stands_is ∙ locked_counter i (lists_of u) p starts.takes in
    let at : root u.me.0.own.knows.setting (counter_at u.me.0.own.knows.place) ≡ root u.me.0.own.knows.setting (counter_at p)
    = ap (root u.me.0.own.knows.setting) place in (
      x,
      (
        H.0,
        ap (λ (m : Me). m.1) T.1.2 ∙ (λ i. ((H.1 ∙ at) i, H.2 i) ∷ starts.bare i),
        subst (λ r. IsRecord u.me.0.own.knows.setting r H.0 (lists_by u.me.0.own.knows.setting u.me.0.own.knows.seen)) at H.3,
      ),
    )

-- what a lock owes by its row
pub takes_lock_by : (z : Setting) (i : ℕ) (s : Token) (p : Place) → takes_lock p ≡ true
    → Begins (length s.me.0.own.knows.setting.starts) s.me.0.own.knows.place p → spent_by s.me.0.own.number s.me.0.own.knows.seen ≤ s.me.0.own.knows.setting.limit
    → address s.me.0.own.knows.setting (Lock (counter_at p)) ≡ i
    → Owes semaphore_rows z s.me i (λ n. either (n == 0) 1 n) (λ n t. (n ≢ 0 → t ≡ s.me) × (n ≡ 0 → Took semaphore_rows (begin p) s.me t))
takes_lock_by z i s p takes begins few word world words homes st = let k : ℕ = slice_index words i in
    tells_more semaphore_rows z s.me i world words homes (either (k == 0) 1 k)
    _ (λ t. (k ≢ 0 → t ≡ s.me) × (k ≡ 0 → Took semaphore_rows (begin p) s.me t))
    (λ t told. (told.0, (λ free. got t (told.1 free))))
    (owes_lock i s.me p begins (let a = locking_spends p takes in omega arith) z
    (λ b n known free. locking_event s.me.0.own.knows.setting s.me.0.own.number (stands_by (begin p s.me.0.own.knows)) b.words.lists p i n takes word free)
    world words homes st)
  where
    got : (t : Me) → Ran (begin p) s.me.0.own 0 t.0.own
        × ((treap : Treap) × Changed semaphore_rows s.me ((root s.me.0.own.knows.setting (counter_at p), Root treap) ∷ s.me.1) t
        × IsRecord s.me.0.own.knows.setting (root s.me.0.own.knows.setting (counter_at p)) treap (lists_by s.me.0.own.knows.setting t.0.own.knows.seen))
        → Took semaphore_rows (begin p) s.me t
    got t g =
        let i : ℕ = s.me.0.own.number in let before = lists_at s.me.0.own.knows.setting g.0.stride in
        let lead : Goes s.me.0.own g.0.stride (to (locked i before p)) t.0.own
        = subst (λ (x : Next). Goes s.me.0.own g.0.stride x t.0.own)
        (locking_leads i (record { place = p; turn = s.me.0.own.knows.turn; hand = s.me.0.own.knows.hand }) before p takes)
        (led s.me.0.own t.0.own p 0 g.0) in
        let place : counter_at p ≡ counter_at t.0.own.knows.place
        = sym (ap (λ (q : SeatState). counter_at q.place) lead.stands ∙ locked_counter i before p takes) in
        let at : root s.me.0.own.knows.setting (counter_at p) ≡ root t.0.own.knows.setting (counter_at t.0.own.knows.place)
        = λ i. root (sym g.0.same.1 i) (place i) in (
          g.0,
          (
            root s.me.0.own.knows.setting (counter_at p),
            Root g.1.0,
            g.1.1,
            (
              g.1.0,
              at,
              refl,
              subst (λ (q : Setting × ℕ). IsRecord q.0 q.1 g.1.0 (lists_by q.0 t.0.own.knows.seen)) (λ i. (sym g.0.same.1 i, at i)) g.1.2,
            ),
          ),
        )
