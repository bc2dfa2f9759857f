-- What rounds come to: each takes a unit off what the seat may still add, and gives it one.
use Rattle.std.proofs.Common.{◌≡◌, ℕ, zero, suc, ◌+◌, ◌-◌, ◌*◌, ◌<◌, ◌≤◌, Bool, List, [], ◌∷◌, ◌++◌, length, get_or, slice_index}
use Rattle.std.proofs.Common.{sym, ap, ◌∙◌, subst, inl, inr}
use Rattle.std.proofs.Common.{arith, below_more}
use Rattle.std.proofs.Math.Nat.{suc-mul}
use Rattle.std.specs.List.{All}
use Rattle.std.proofs.lemmas.List.{get_or_append_left, get_or-append-add, get_or_default}
use Rattle.std.proofs.lemmas.List.Elements.{All-from_get_or, All-head, All-tail, All-weaker}
use Rattle.std.proofs.lemmas.List.FromFn.{length-map-range_with_len, get_or-map-range_with_len}
use Rattle.step_table.specs.Counting.{total}
use Rattle.step_table.proofs.Sums.{total_zero, total_suc}
use Rattle.sema_table.specs.declared.answers.Wake.{Wake}
use Rattle.sema_table.specs.Setting.{layout}
use Rattle.sema_table.specs.Seats.{TableModel, SeatModel}
use Rattle.sema_table.specs.Making.{new_seat, new_seats}
use Rattle.sema_table.specs.Whole.{IsReleased, IsAcquired}
use Rattle.sema_table.specs.Closing.{ClosedModel, AreAll, sum_by, has_added, was_given}
use Rattle.explorer_commands.specs.Threads.{HasRun, HasWorked, Worker, IsWorker, HaveWorked, HasStopped, AreHome, IsThreadsRun}

-- the same seat of the same table, with these two counts
record Counts (s t : SeatModel) (left taken : ℕ) : Type 0 where
  pub table_is : t.table ≡ s.table
  pub number_is : t.number ≡ s.number
  pub left_is : t.left ≡ left
  pub taken_is : t.taken ≡ taken

released_counts : (s : SeatModel) (c : ℕ) (handoff : Bool) (t : SeatModel) (wake : Wake)
    → IsReleased s c handoff t wake → Counts s t (s.left - 1) s.taken
released_counts s c handoff t wake (inl p) = let e = p.0.0 in record {
  table_is = ap (λ (x : SeatModel). x.table) e;
  number_is = ap (λ (x : SeatModel). x.number) e;
  left_is = ap (λ (x : SeatModel). x.left) e;
  taken_is = ap (λ (x : SeatModel). x.taken) e;
}
released_counts s c handoff t wake (inr (u, p, w)) = let e = p.0 in let f = w.2 in record {
  table_is = ap (λ (x : SeatModel). x.table) f ∙ ap (λ (x : SeatModel). x.table) e;
  number_is = ap (λ (x : SeatModel). x.number) f ∙ ap (λ (x : SeatModel). x.number) e;
  left_is = ap (λ (x : SeatModel). x.left) f ∙ ap (λ (x : SeatModel). x.left) e;
  taken_is = ap (λ (x : SeatModel). x.taken) f ∙ ap (λ (x : SeatModel). x.taken) e;
}

acquired_counts : (s : SeatModel) (c : ℕ) (lifo : Bool) (t : SeatModel) → IsAcquired s c lifo t → Counts s t s.left (s.taken + 1)
acquired_counts s c lifo t (inl a) = let e = a.0 in record {
  table_is = ap (λ (x : SeatModel). x.table) e;
  number_is = ap (λ (x : SeatModel). x.number) e;
  left_is = ap (λ (x : SeatModel). x.left) e;
  taken_is = ap (λ (x : SeatModel). x.taken) e;
}
acquired_counts s c lifo t (inr (u, f, a)) = let e = f.0 in let k = a.0 in record {
  table_is = ap (λ (x : SeatModel). x.table) k ∙ ap (λ (x : SeatModel). x.table) e;
  number_is = ap (λ (x : SeatModel). x.number) k ∙ ap (λ (x : SeatModel). x.number) e;
  left_is = ap (λ (x : SeatModel). x.left) k ∙ ap (λ (x : SeatModel). x.left) e;
  taken_is = ap (λ (x : SeatModel). x.taken) k ∙ ap (λ (x : SeatModel). x.taken + 1) e;
}

run_counts : (s : SeatModel) (n : ℕ) (t : SeatModel) → HasRun s n t → Counts s t (s.left - n) (s.taken + n)
run_counts s zero t e = record {
  table_is = ap (λ (x : SeatModel). x.table) e;
  number_is = ap (λ (x : SeatModel). x.number) e;
  left_is = (let h = ap (λ (x : SeatModel). x.left) e in omega (arith, h));
  taken_is = (let h = ap (λ (x : SeatModel). x.taken) e in omega (arith, h));
}
run_counts s (suc n) t (u, ran, (v, wake, released, acquired)) =
    let p = run_counts s n u ran in let q = released_counts _ _ _ _ _ released in let r = acquired_counts _ _ _ _ acquired in record {
      table_is = r.table_is ∙ q.table_is ∙ p.table_is;
      number_is = r.number_is ∙ q.number_is ∙ p.number_is;
      left_is = omega (arith, p.left_is, q.left_is, r.left_is);
      taken_is = omega (arith, p.taken_is, q.taken_is, r.taken_is);
    }

-- before its next round the seat is one of this table, and may still add a unit; after all rounds it has worked
module _ (t : TableModel) (number n : ℕ) (s : SeatModel) (ran : HasRun (new_seat t number) n s) where
  pub may_go_on : n < t.setting.limit → (s.table ≡ t) × (0 < s.left)
  may_go_on low = let p = run_counts (new_seat t number) n s ran in (p.table_is, (let h = p.left_is in omega arith))

  pub has_worked : t.setting.limit ≡ n → (left withdrawn : ℕ)
      → left + has_added s + withdrawn ≡ s.table.setting.limit → HasWorked t number n s
  has_worked limit left withdrawn spent = let p = run_counts (new_seat t number) n s ran in record {
    own = p.table_is;
    number_is = p.number_is;
    left = (let h = p.left_is in omega (arith, limit));
    added = (let h = ap (λ (x : TableModel). x.setting.limit) p.table_is in omega (arith, spent, h, limit));
    taken = (let h = p.taken_is in omega (arith, h));
    ran = ran;
  }

-- the seats of a table stand in the order of their numbers
module _ (t : TableModel) (n : ℕ) (seats : List SeatModel) (all : seats ≡ new_seats t 0 n) where
  pub how_many : length seats ≡ n
  how_many = ap length all ∙ length-map-range_with_len (new_seat t) 0 n

  pub in_order : seats ≡ new_seats t 0 (length seats)
  in_order = all ∙ ap (new_seats t 0) (sym how_many)

  pub is_next : (k : ℕ) (s : SeatModel) → k < n → s ≡ get_or seats k s → s ≡ new_seat t k
  is_next k s low at =
      at ∙ ap (λ (xs : List SeatModel). get_or xs k s) all ∙ get_or-map-range_with_len (new_seat t) 0 n k k s low (omega arith)

pub by_number : (t : TableModel) (k : ℕ) (s : SeatModel) → s ≡ new_seat t k → s ≡ new_seat t s.number
by_number t k s e = e ∙ ap (new_seat t) (sym (ap (λ (x : SeatModel). x.number) e))

-- one more at the end of a list, of whose elements each is as its place says
module _ {A : Type 0} (P : ℕ → A → Type 0) (n : ℕ) (xs all : List A) (x : A) (is : all ≡ xs ++ x ∷ []) (long : length xs ≡ n) where
  before : (i : ℕ) (d : A) → i < n → get_or (xs ++ x ∷ []) i d ≡ get_or xs i d
  before i d b = get_or_append_left xs (x ∷ []) d i (omega (arith, b, long))

  last : (d : A) → get_or (xs ++ x ∷ []) n d ≡ x
  last d = ap (λ (j : ℕ). get_or (xs ++ x ∷ []) j d) (omega (arith, long)) ∙ get_or-append-add xs (x ∷ []) 0 d

  pub one_more : ((k : ℕ) (d : A) → k < n → P k (get_or xs k d)) → P n x
      → (k : ℕ) (d : A) → k < n + 1 → P k (get_or all k d)
  one_more was here k d low =
      subst (λ (ys : List A). P k (get_or ys k d)) (sym is)
      (below_more (λ (i : ℕ). P i (get_or (xs ++ x ∷ []) i d)) n
      (λ i b. subst (P i) (sym (before i d b)) (was i d b))
      (subst (P n) (sym (last d)) here) k low)

-- the first of those that are left is taken, and the others stand where they stood
pub shifted : {A : Type 0} (all rest first : List A) (x : A) (n m left : ℕ) → all ≡ x ∷ rest → m ≡ n + 1
    → ((k : ℕ) (d : A) → k < left + 1 → get_or all k d ≡ get_or first (n + k) d)
    → (k : ℕ) (d : A) → k < left → get_or rest k d ≡ get_or first (m + k) d
shifted {A} all rest first x n m left is more was k d low =
    let here : get_or all (1 + k) d ≡ get_or rest k d =
    ap (λ (xs : List A). get_or xs (1 + k) d) is ∙ get_or-append-add (x ∷ []) rest k d in
    sym here ∙ was (1 + k) d (omega (arith, low)) ∙ ap (λ (j : ℕ). get_or first j d) (omega (arith, more))

-- a seat that came back from its rounds has stopped
pub has_stopped : (t : TableModel) (number rounds : ℕ) (s : SeatModel) → HasWorked t number rounds s → HasStopped t rounds s
has_stopped t number rounds s w = inl (subst (λ (i : ℕ). HasWorked t i rounds s) (sym w.number_is) w)

-- what a worker's thread has kept
pub kept : (t : TableModel) (i rounds : ℕ) (w : Worker) (s : SeatModel)
    → IsWorker t i rounds w → HasWorked w.promise.table.now w.promise.number w.promise.rounds s → HasWorked t i rounds s
kept t i rounds w s is h =
    subst (λ (u : TableModel). HasWorked u i rounds s) is.table_is
    (subst (λ (n : ℕ). HasWorked w.promise.table.now n rounds s) is.number_is
    (subst (λ (r : ℕ). HasWorked w.promise.table.now w.promise.number r s) is.rounds_are h))

-- what each of them adds up to
sum_of : (f : SeatModel → ℕ) (k : ℕ) (seats : List SeatModel) → All (λ s. f s ≡ k) seats → sum_by f seats ≡ length seats * k
sum_of f k [] each = omega arith
sum_of f k (s ∷ seats) each =
    let r = sum_of f k seats (All-tail (λ x. f x ≡ k) s seats each) in let h = All-head (λ x. f x ≡ k) s seats each in
    let m = suc-mul (length seats) k in omega (arith, r, h, m)

sum_most : (f : SeatModel → ℕ) (k : ℕ) (seats : List SeatModel) → All (λ s. f s ≤ k) seats → sum_by f seats ≤ length seats * k
sum_most f k [] each = omega arith
sum_most f k (s ∷ seats) each =
    let r = sum_most f k seats (All-tail (λ x. f x ≤ k) s seats each) in let h = All-head (λ x. f x ≤ k) s seats each in
    let m = suc-mul (length seats) k in omega (arith, r, h, m)

-- all of them are all seats of the table
pub are_all : (t : TableModel) (workers rounds : ℕ) (seats : List SeatModel)
    → t.setting.seats ≡ workers → HaveWorked t workers rounds seats → AreAll t seats
are_all t workers rounds seats same h = let d = new_seat t 0 in let count = h.count in record {
  own = All-from_get_or (λ s. s.table ≡ t) seats d (λ i low. (h.each i d (omega (arith, low, count))).own);
  count = h.count ∙ sym same;
}

-- seats that have stopped are all seats of the table too
stopped_own : (t : TableModel) (rounds : ℕ) (s : SeatModel) → HasStopped t rounds s → s.table ≡ t
stopped_own t rounds s (inl w) = w.own
stopped_own t rounds s (inr e) = ap (λ (x : SeatModel). x.table) e

pub home_are_all : (t : TableModel) (workers rounds : ℕ) (seats : List SeatModel)
    → t.setting.seats ≡ workers → AreHome t workers rounds seats → AreAll t seats
home_are_all t workers rounds seats same h = record {
  own = All-weaker (HasStopped t rounds) (λ s. s.table ≡ t) (stopped_own t rounds) seats h.each;
  count = h.count ∙ sym same;
}

-- seats that have worked have stopped
pub worked_stopped : (t : TableModel) (rounds n : ℕ) (seats : List SeatModel) → length seats ≡ n
    → ((k : ℕ) (d : SeatModel) → k < n → HasWorked t k rounds (get_or seats k d)) → All (HasStopped t rounds) seats
worked_stopped t rounds n seats long each k d low = has_stopped t k rounds (get_or seats k d) (each k d (omega (arith, low, long)))

-- and so have new seats
pub new_stopped : (t : TableModel) (rounds : ℕ) (seats : List SeatModel) → seats ≡ new_seats t 0 (length seats)
    → All (HasStopped t rounds) seats
new_stopped t rounds seats is k d low = let s = get_or seats k d in
    inr (by_number t k s (is_next t (length seats) seats is k s low (get_or_default seats k d s low)))

-- a sum over one counter
one_counter : (f : ℕ → ℕ) (n : ℕ) → n ≡ 1 → total n f ≡ f 0
one_counter f n e = let s = total_suc 0 f in let z = total_zero f in ap (λ k. total k f) e ∙ omega (arith, s, z)

only : (xs : List ℕ) → length xs ≡ 1 → slice_index xs 0 ≡ 0 → xs ≡ 0 ∷ []
only [] e h = absurd (omega (arith, e))
only (x ∷ []) e h = ap (λ k. k ∷ []) h
only (x ∷ y ∷ xs) e h = absurd (omega (arith, e))

module _ (workers rounds : ℕ) (c : ClosedModel) (run : IsThreadsRun workers rounds c) where
  few_added : c.releases ≤ workers * rounds
  few_added =
      let d = new_seat run.table 0 in let count = run.worked.count in let released = run.closed.released in
      let most = sum_most has_added rounds run.seats
      (All-from_get_or (λ s. has_added s ≤ rounds) run.seats d (λ i low. (run.worked.each i d (omega (arith, low, count))).added)) in
      let same = ap (λ n. n * rounds) count in omega (arith, released, most, same)

  pub acquires_are : c.acquires ≡ workers * rounds
  acquires_are =
      let d = new_seat run.table 0 in let count = run.worked.count in
      run.closed.acquired
      ∙ sum_of was_given rounds run.seats
      (All-from_get_or (λ s. was_given s ≡ rounds) run.seats d (λ i low. (run.worked.each i d (omega (arith, low, count))).taken))
      ∙ ap (λ n. n * rounds) count

  -- the counter began at 0, so as many were added as were taken, or more
  pub releases_are : c.releases ≡ workers * rounds
  releases_are =
      let z = run.table.setting in let one : length z.starts ≡ 1 = ap length run.made.starts in
      let start : (layout z).starts 0 ≡ 0 = ap (λ xs. get_or xs 0 0) run.made.starts in
      let before = one_counter (layout z).starts (length z.starts) one in
      let balanced = run.closed.balanced in let few = few_added in let taken = acquires_are in
      omega (arith, start, before, balanced, few, taken)

  -- as many were taken as were added
  pub values_are : c.values ≡ 0 ∷ []
  values_are =
      let z = run.table.setting in let one : length z.starts ≡ 1 = ap length run.made.starts in
      let start : (layout z).starts 0 ≡ 0 = ap (λ xs. get_or xs 0 0) run.made.starts in
      let before = one_counter (layout z).starts (length z.starts) one in
      let after = one_counter (slice_index c.values) (length z.starts) one in
      let balanced = run.closed.balanced in let added = releases_are in let taken = acquires_are in
      only c.values (run.closed.long ∙ one) (omega (arith, start, before, after, balanced, added, taken))
