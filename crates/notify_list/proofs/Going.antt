-- The worlds that are met, one step on: what a seat that leaves has to know holds there.
use Rattle.std.proofs.Common.{◌≡◌, ◌≢◌, ℕ, ◌+◌, ◌<◌, ◌≤◌, ◌⊎◌, eqb, true, false, nat_lt, List, [], ◌∷◌, ◌++◌, length, refl, sym, ap, ◌∙◌}
use Rattle.std.proofs.Common.{subst, inl, inr, arith}
use Rattle.std.proofs.lemmas.Bool.{cases_lt}
use Rattle.std.proofs.lemmas.Bool.Decides.{eqb_tells}
use native.Mathlib.Decide.{ℕ_discrete}
use Rattle.waiters.specs.declared.wait.Wait.{Wait}
use Rattle.step_table.specs.declared.list_place.AllRow.TheVariants.{L6}
use Rattle.step_table.specs.declared.list_place.ListEffect.{ListEffect}
use Rattle.step_table.specs.declared.list_place.ListParkedRow.{ListParkedRow}
use Rattle.step_table.specs.declared.list_place.ListParkedRow.TheVariants.{P, E1, E2, E3, E5}
use Rattle.step_table.specs.declared.list_place.ListPlace.{ListPlace}
use Rattle.step_table.specs.declared.list_place.ListPlace.TheVariants.{Waiting, NotifyingAll}
use Rattle.step_table.specs.declared.list_place.Ticket.{Ticket}
use Rattle.step_table.specs.declared.list_place.WaitRow.TheVariants.{W4, Parked}
use Rattle.step_table.specs.Counting.{among}
use Rattle.step_table.specs.World.{put}
use Rattle.step_table.specs.ListWorld.{Numbers, ListWords, ListSeat, ListEntry, Took, Granted, Forgone, ListWorld, journal_after, with_gone, without_seat}
use Rattle.step_table.specs.ListSteps.{ListStep, more, IsListReached}
use Rattle.step_table.specs.ListTable.{wait_for}
use Rattle.step_table.proofs.Sums.{on_here, on_else, put_at, put_here}
use Rattle.step_law_lists.specs.ListLawful.{told, counted, times, holds, IsNear, NeverFar, IsInReach, NoneLate, times_granted, times_forgone}
use Rattle.step_law_lists.specs.ListInvariant.{IsListInvariant, IsListSeat, IsRising, MayGrant}
use Rattle.step_law_lists.proofs.ListCases.{step_of}
use Rattle.step_law_lists.proofs.ListFreshness.{fresh_mine, not_passed}
use Rattle.step_law_lists.proofs.ListHanding.{few}
use Rattle.step_law_lists.proofs.ListJournals.{told_more, each_once, forgone_more, passing_from, near_more, in_time_more}
use Rattle.step_law_lists.proofs.ListKeeping.{list_reached, told_gone}
use Rattle.step_law_lists.proofs.ListLawfulness.{passed_told, handed_told, known_at}
use Rattle.step_law_lists.proofs.ListPlacing.{taken, times_append, one_some, one}
use Rattle.step_law_lists.proofs.ListPromises.{the_list_law}
use Rattle.step_law_lists.proofs.ListRows.{Row, gives_up, sleeps_on, n1, w4, e1_in, e1_out, e2, e3, e5, o7, o8_some, l6_else, l7_none, l7_some, Post, o9, l8_last, l8_more, Step, own, post}
use Rattle.notify_list.specs.declared.view.Setting.{Setting}
use Rattle.notify_list.specs.Places.{GoesEarly}
use Rattle.notify_list.specs.Rule.{IsMet, guarded_in}

-- a rising list of numbers below m has at most so many
pub few_rising : (least m : ℕ) (l : List ℕ) → IsRising l → least ≤ m → ((n : ℕ) → 0 < among n l → (least ≤ n) × (n < m)) → least + length l ≤ m
few_rising least m [] rising le between = omega arith
few_rising least m (x ∷ l) rising le between =
    let here = on_here x 1 in
    let first = between x (omega arith) in
    let after = few_rising (x + 1) m l rising.1 (let b = first.1 in omega arith)
    (λ n some. ((let up = rising.0 n some in omega arith), (between n (omega arith)).1)) in
    let a = first.0 in omega arith

-- the list without a wait has no more
fewer_without : (i : ℕ) (l : List Wait) (w : Wait) → times w (without_seat i l) ≤ times w l
fewer_without i [] w = omega arith
fewer_without i (x ∷ l) w = by (eqb_tells x.id.seat i) (fewer_without i l w)
  where
    by : ((eqb x.id.seat i ≡ true) × (x.id.seat ≡ i)) ⊎ ((eqb x.id.seat i ≡ false) × (x.id.seat ≢ i)) → times w (without_seat i l) ≤ times w l
        → times w (without_seat i (x ∷ l)) ≤ times w (x ∷ l)
    by (inl here) rest = rw here.0 (omega arith)
    by (inr there) rest = rw there.0 (omega arith)

-- a row of seat i queues no wait of another
queued_before : {i : ℕ} {g h : ListWords} {p q : ListSeat} {e : ListEffect} → Row i g p q h e → (w : Wait) → w.id.seat ≢ i → 0 < times w h.queue
    → 0 < times w g.queue
queued_before {i = i} {g = g} (w4 {t = t}) w ne some = by (ℕ_discrete (one w (wait_for i t)) 0)
  where
    by : Dec (one w (wait_for i t) ≡ 0) → 0 < times w g.queue
    by (yes off) = let sum = times_append w g.queue (wait_for i t ∷ []) in omega arith
    by (no same) = absurd (ne (ap (λ (x : Wait). x.id.seat) (one_some w (wait_for i t) (omega arith))))
queued_before {i = i} {g = g} e3 w ne some = let fewer = fewer_without i g.queue w in omega arith
queued_before {g = g} (o8_some {t = t} {w = x} first) w ne some = let sum = (taken t g.queue x first).1 w in omega arith
queued_before (l7_none _) w ne some = absurd (omega arith)
queued_before (l7_some _) w ne some = absurd (omega arith)
queued_before _ w ne some = some

-- a row that passes tickets is one of three, whose seat holds the lock and takes no wait out that was granted
abbrev Passes : ListPlace → Type 0
Passes p = (0 < holds p) × ((journal : List ListEntry) (w : Wait) → MayGrant journal w p → ⊥)

passes : {i : ℕ} {g h : ListWords} {p q : ListSeat} {e : ListEffect} → Row i g p q h e → (h.numbers.passed ≡ g.numbers.passed) ⊎ Passes p.place
passes e3 = inr (omega arith, λ journal w may. may)
passes o7 = inr (omega arith, λ journal w may. may)
passes (l6_else _) = inr (omega arith, λ journal w may. may)
passes _ = inl refl

-- a row of a seat that leads it to be parked: it was, with the same ticket, or it queues its wait
abbrev WasParked : ℕ → ListWords → ListWords → ListSeat → Ticket → ListSeat → Type 0
WasParked i g h p t q =
    (q.late ≡ p.late) × (h.numbers ≡ g.numbers)
    × (((row : ListParkedRow) × (p.place ≡ Waiting t (Parked row)) × (h.queue ≡ g.queue)) ⊎ (p.place ≡ Waiting t W4))

was_parked : {i : ℕ} {g h : ListWords} {p q : ListSeat} {e : ListEffect} → Row i g p q h e → (t : Ticket) (row : ListParkedRow)
    → q.place ≡ Waiting t (Parked row) → WasParked i g h p t q
was_parked gives_up t row at = (refl, refl, inl (P, cc, refl))
was_parked sleeps_on t row at = (refl, refl, inl (E1, cc, refl))
was_parked w4 t row at = (refl, refl, inr cc)
was_parked (e1_in _ _) t row at = (refl, refl, inl (E1, cc, refl))
was_parked (e1_out _ _) t row at = (refl, refl, inl (E1, cc, refl))
was_parked e2 t row at = (refl, refl, inl (E2, cc, refl))
was_parked e5 t row at = (refl, refl, inl (E5, cc, refl))
was_parked _ t row at = absurd cc

module _ (z : Setting) (s : ListWorld) (few_seats : z.seats ≤ 65536) (met : IsMet z s) where
  inv : IsListInvariant z.first z.seats s
  inv = list_reached z.first z.seats s met.reach met.reached

  gone_early : (n : ℕ) → 0 < among n s.words.numbers.gone → n < 1152921504606846976
  gone_early n some = by (cases_lt n 1152921504606846976)
    where
      same : among n s.words.numbers.gone ≡ among n (told s.journal).gone
      same = ap (λ (m : Numbers). among n m.gone) inv.numbers

      by : (n < 1152921504606846976) ⊎ (1152921504606846976 ≤ n) → n < 1152921504606846976
      by (inl early) = early
      by (inr late) =
          let after = (each_once s.journal inv.follows).gone n (let e = same in omega arith) in
          let counts = ((each_once s.journal inv.follows).waiting n (let a = after.0 in omega arith)).1 in
          let none = met.early n late in absurd (let e = same in omega arith)

  few_gone : length s.words.numbers.gone ≤ 1152921504606846976
  few_gone = let most = few_rising 0 1152921504606846976 s.words.numbers.gone inv.rising (omega arith) (λ n some. (omega arith, gone_early n some)) in omega arith

  -- few tickets are handed out beyond those that are passed
  pub few_handed : s.words.numbers.handed ≤ s.words.numbers.passed + 65536 + 1152921504606846976
  few_handed =
      let most = few z.seats s inv.tickets (λ k there. (inv.seats_known k there).only) (told_gone z.first z.seats s inv) inv.words.2 in
      let gone = few_gone in omega arith

  -- while few are passed, no seat has looked at a late one
  pub none_late : s.words.numbers.passed ≤ 4611686018427387904 → NoneLate z.seats s
  none_late passed =
      let handed = handed_told z.first z.seats s inv in let most = few_handed in
      (the_list_law.early z.first z.seats s met.reached (omega arith)).0

  module _ (i : ℕ) (there : i < z.seats) where
    -- nor is the ticket of a wait in the list passed while a seat that has granted none holds the lock
    unpassed : (w : Wait) → 0 < times w s.words.queue → Passes (s.seats i).place → s.words.numbers.passed ≤ 4611686018427387904
        → s.words.numbers.passed ≤ w.id.turn
    unpassed w some holder passed = by (fresh_mine z.seats s i there inv.lock holder.0 w (inv.fresh (none_late passed) w some))
      where
        by : (times_granted w.id.turn s.journal ≡ 0) ⊎ MayGrant s.journal w (s.seats i).place → s.words.numbers.passed ≤ w.id.turn
        by (inl none) =
            let same = passed_told z.first z.seats s inv in
            let least = not_passed z.seats s (each_once s.journal inv.follows) inv.tickets inv.placed w some none in omega arith
        by (inr may) = absurd (holder.1 s.journal w may)

    -- a seat that is about to leave
    pub leaves_so : (t : Ticket) (v : ℕ) → (s.seats i).place ≡ Waiting t (Parked (E3 v)) → (t.number < 1152921504606846976) × (s.words.numbers.passed ≤ t.number)
    leaves_so t v at =
        let early = subst (λ p. GoesEarly p (s.seats i).late) at (met.going i there) in
        let knows = known_at z.first z.seats s i inv there (Waiting t (Parked (E3 v))) at in
        let passed = met.parked i t (E3 v) there at early.0 early.1 knows.2 in
        (early.0, unpassed (wait_for i t) knows.2 (subst Passes (sym at) (omega arith, λ journal w may. may)) passed)

    passed_same : s.words.numbers.passed ≡ (told s.journal).passed
    passed_same = passed_told z.first z.seats s inv

    -- one more entry, after which no fewer tickets are passed
    near_then : (x : ListEntry) → (counted x (told s.journal)).handed ≤ (told s.journal).handed + 1
        → (told s.journal).passed ≤ (counted x (told s.journal)).passed → NeverFar (s.journal ++ x ∷ [])
    near_then x handed passed =
        let same = handed_told z.first z.seats s inv in let also = passed_same in let most = few_handed in
        near_more s.journal x met.reach.near (subst IsNear (sym (told_more s.journal x)) (omega arith))

    reach_row : {p q : ListSeat} {h : ListWords} {e : ListEffect} → p ≡ s.seats i → Row i s.words p q h e → IsInReach (journal_after i e s.journal)
    reach_row here n1 = record {
      near = near_then (Took i) (omega arith) (omega arith);
      in_time = in_time_more s.journal (Took i) met.reach.in_time (λ n k is. absurd cc);
    }
    reach_row here o7 = record {
      near = near_then (Granted (s.words.numbers.passed + 1) i) (omega arith)
          (let from = passing_from (told s.journal).handed (s.words.numbers.passed + 1) (told s.journal).gone in let e = passed_same in omega arith);
      in_time = in_time_more s.journal (Granted (s.words.numbers.passed + 1) i) met.reach.in_time (λ n k is. absurd cc);
    }
    reach_row here (l6_else {h = h} {r = r} _) =
        let knows = known_at z.first z.seats s i inv there (NotifyingAll h (L6 r)) (sym (ap (λ (y : ListSeat). y.place) here)) in record {
          near = near_then (Granted r.handed i) (omega arith)
              (let from = passing_from (told s.journal).handed r.handed (told s.journal).gone in let e = passed_same in let k = knows.2 in omega arith);
          in_time = in_time_more s.journal (Granted r.handed i) met.reach.in_time (λ n k is. absurd cc);
        }
    reach_row here (e3 {t = t} {v = v}) =
        let so = leaves_so t v (sym (ap (λ (y : ListSeat). y.place) here)) in record {
          near = near_then (Forgone t.number i) (omega arith)
              (passing_from (told s.journal).handed (told s.journal).passed (with_gone nat_lt t.number (told s.journal).gone));
          in_time = in_time_more s.journal (Forgone t.number i) met.reach.in_time
              (λ n k is. let number : n ≡ t.number = cc in let le = so.1 in let e = passed_same in omega arith);
        }
    reach_row here _ = met.reach

    early_row : {p q : ListSeat} {h : ListWords} {e : ListEffect} → p ≡ s.seats i → Row i s.words p q h e → (n : ℕ) → 1152921504606846976 ≤ n
        → times_forgone n (journal_after i e s.journal) ≡ 0
    early_row here n1 n late = let more = forgone_more n s.journal (Took i) in let none = met.early n late in omega arith
    early_row here o7 n late =
        let more = forgone_more n s.journal (Granted (s.words.numbers.passed + 1) i) in let none = met.early n late in omega arith
    early_row here (l6_else {r = r} _) n late = let more = forgone_more n s.journal (Granted r.handed i) in let none = met.early n late in omega arith
    early_row here (e3 {t = t} {v = v}) n late =
        let so = leaves_so t v (sym (ap (λ (y : ListSeat). y.place) here)) in
        let more = forgone_more n s.journal (Forgone t.number i) in let none = met.early n late in
        let off = on_else t.number n 1 (λ e. let low = so.0 in omega arith) in omega arith
    early_row here _ n late = met.early n late

    -- of another seat's wait that is queued still
    bound_else : {p q : ListSeat} {h : ListWords} {e : ListEffect} → p ≡ s.seats i → Row i s.words p q h e → h.numbers.passed ≤ h.numbers.handed
        → h.numbers.handed ≤ s.words.numbers.handed + 1 → (k : ℕ) (t : Ticket) (row : ListParkedRow) → k ≢ i → k < z.seats
        → (s.seats k).place ≡ Waiting t (Parked row) → t.number < 1152921504606846976 → (s.seats k).late ≡ 0
        → 0 < times (wait_for k t) h.queue → h.numbers.passed ≤ 4611686018427387904
    bound_else {p} {h = h} here x le grown k t row ne low at early fresh some = by (passes x)
      where
        before : s.words.numbers.passed ≤ 4611686018427387904
        before = met.parked k t row low at early fresh (queued_before x (wait_for k t) ne some)

        by : (h.numbers.passed ≡ s.words.numbers.passed) ⊎ Passes p.place → h.numbers.passed ≤ 4611686018427387904
        by (inl same) = let b = before in omega arith
        by (inr holder) =
            let least = unpassed (wait_for k t) (queued_before x (wait_for k t) ne some) (subst (λ (y : ListSeat). Passes y.place) here holder) before in
            let most = few_handed in omega arith

    -- and of its own
    bound_own : {p q : ListSeat} {h : ListWords} {e : ListEffect} → p ≡ s.seats i → Row i s.words p q h e → (t : Ticket) (row : ListParkedRow)
        → q.place ≡ Waiting t (Parked row) → t.number < 1152921504606846976 → q.late ≡ 0
        → 0 < times (wait_for i t) h.queue → h.numbers.passed ≤ 4611686018427387904
    bound_own {p} {q} {h} here x t row at early fresh some = by (was_parked x t row at)
      where
        by : WasParked i s.words h p t q → h.numbers.passed ≤ 4611686018427387904
        by (late, numbers, inl (was, stood, queue)) =
            let least = met.parked i t was there (ap (λ (y : ListSeat). y.place) (sym here) ∙ stood) early
            (ap (λ (y : ListSeat). y.late) (sym here) ∙ sym late ∙ fresh) (subst (λ l. 0 < times (wait_for i t) l) queue some) in
            let same = ap (λ (m : Numbers). m.passed) numbers in omega arith
        by (late, numbers, inr stood) =
            let knows = known_at z.first z.seats s i inv there (Waiting t W4) (ap (λ (y : ListSeat). y.place) (sym here) ∙ stood) in
            let least = knows.1 (ap (λ (y : ListSeat). y.late) (sym here) ∙ sym late ∙ fresh) in
            let same = ap (λ (m : Numbers). m.passed) numbers in omega arith

handed_most : {i : ℕ} {g h : ListWords} {p q : ListSeat} {e : ListEffect} → Row i g p q h e → h.numbers.handed ≤ g.numbers.handed + 1
handed_most n1 = omega arith
handed_most _ = omega arith

posted : {p q : ListSeat} {w : Wait} → Post p q w → (t : Ticket) (row : ListParkedRow) → q.place ≡ Waiting t (Parked row) → ⊥
posted o9 t row at = cc
posted l8_last t row at = cc
posted l8_more t row at = cc

-- every step leads on to a world that is met, where the seat may leave if it gives up
pub met_step : (z : Setting) (s t : ListWorld) (i : ℕ) → z.seats ≤ 65536 → i < z.seats → IsMet z s → ListStep s i t
    → GoesEarly (t.seats i).place (t.seats i).late → IsMet z t
met_step z s t i few_seats there met listed = by (step_of s t i mine.fits mine.only listed) (more i there met.reached listed)
  where
    mine : IsListSeat z.first s.words i (s.seats i)
    mine = (inv z s few_seats met).seats_known i there

    going : (q : ListSeat) → GoesEarly (put s.seats i q i).place (put s.seats i q i).late → (k : ℕ) → k < z.seats
        → GoesEarly (put s.seats i q k).place (put s.seats i q k).late
    going q here k low =
        put_at (λ k y. GoesEarly y.place y.late) s.seats i q k (subst (λ (y : ListSeat). GoesEarly y.place y.late) (put_here s.seats i q) here) (λ ne. met.going k low)

    by : {u : ListWorld} → Step s i u → IsListReached z.first z.seats u → GoesEarly (u.seats i).place (u.seats i).late → IsMet z u
    by (own {q = q} {h = h} {e = e} row) reached here =
        let reach = reach_row z s few_seats met i there refl row in
        let after = list_reached z.first z.seats _ reach reached in record {
          reached = reached;
          reach = reach;
          early = early_row z s few_seats met i there refl row;
          going = going q here;
          parked = λ k u r low at early fresh some. put_at (λ k y. y.place ≡ Waiting u (Parked r) → y.late ≡ 0 → 0 < times (wait_for k u) h.queue
              → h.numbers.passed ≤ 4611686018427387904) s.seats i q k
              (λ at fresh some. bound_own z s few_seats met i there refl row u r at early fresh some)
              (λ ne at fresh some. bound_else z s few_seats met i there refl row after.words.2 (handed_most row) k u r ne low at early fresh some)
              at fresh some;
        }
    by (post {q = q} {w = w} row) reached here = record {
      reached = reached;
      reach = met.reach;
      early = met.early;
      going = going q here;
      parked = λ k u r low at early fresh some. put_at (λ k y. y.place ≡ Waiting u (Parked r) → y.late ≡ 0 → 0 < times (wait_for k u) s.words.queue
          → s.words.numbers.passed ≤ 4611686018427387904) s.seats i q k
          (λ at fresh some. absurd (posted row u r at))
          (λ ne at fresh some. met.parked k u r low at early fresh some)
          at fresh some;
    }

-- a row of a seat that doesn't hold the lock leaves what lies under it
guarded_row : {i : ℕ} {g h : ListWords} {p q : ListSeat} {e : ListEffect} → Row i g p q h e → holds p.place ≡ 0 → guarded_in h ≡ guarded_in g
guarded_row w4 free = absurd (omega arith)
guarded_row e3 free = absurd (omega arith)
guarded_row o7 free = absurd (omega arith)
guarded_row (o8_some _) free = absurd (omega arith)
guarded_row (l6_else _) free = absurd (omega arith)
guarded_row (l7_none _) free = absurd (omega arith)
guarded_row (l7_some _) free = absurd (omega arith)
guarded_row _ free = refl

pub guarded_left : (z : Setting) (s t : ListWorld) (i : ℕ) → i < z.seats → IsMet z s → ListStep s i t → holds (s.seats i).place ≡ 0
    → guarded_in t.words ≡ guarded_in s.words
guarded_left z s t i there met listed free = by (step_of s t i mine.fits mine.only listed)
  where
    mine : IsListSeat z.first s.words i (s.seats i)
    mine = (list_reached z.first z.seats s met.reach met.reached).seats_known i there

    by : {u : ListWorld} → Step s i u → guarded_in u.words ≡ guarded_in s.words
    by (own row) = guarded_row row free
    by (post row) = refl
