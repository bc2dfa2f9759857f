-- What the journal tells of a parked seat since its own Queue, and that a seat's turn counts its queued waits.
use Rattle.std.proofs.Common.{◌≡◌, ◌≢◌, ℕ, ◌+◌, ◌<◌, List, [], ◌∷◌, ◌++◌, refl, sym, ap, ◌∙◌, subst, subst₂}
use Rattle.std.proofs.Common.{append_assoc, arith, ◌⊎◌, inl, inr}
use native.Mathlib.Decide.{ℕ_discrete}
use Rattle.waiters.specs.declared.wait.WaitId.{WaitId}
use Rattle.step_table.specs.declared.entry.Entry.{Entry}
use Rattle.step_table.specs.declared.entry.Entry.TheVariants.{Queue}
use Rattle.step_table.specs.declared.effect.Effect.{Effect}
use Rattle.step_table.specs.declared.effect.Effect.TheVariants.{Tells}
use Rattle.step_table.specs.declared.place.Acquire.{Acquire}
use Rattle.step_table.specs.declared.place.AcquireRow.TheVariants.{Parked}
use Rattle.step_table.specs.declared.place.ParkedRow.TheVariants.{P, D2, D3, D5}
use Rattle.step_table.specs.declared.place.ParkedRow.{ParkedRow}
use Rattle.step_table.specs.declared.place.Place.TheVariants.{Rest, Acquiring}
use Rattle.step_table.specs.World.{Layout, Words, SeatState, SemaWorld, journal_after}
use Rattle.step_table.specs.Steps.{IsReached}
use Rattle.step_table.specs.Journal.{takes}
use Rattle.step_table.specs.Counting.{wait, on}
use Rattle.step_law_semaphores.specs.Invariant.{IsInvariant}
use Rattle.step_table.proofs.Sums.{put_at, on_here, on_else, put_here}
use Rattle.step_law_semaphores.proofs.Lines.{Line, a7, Post, r9, r10, m7_last, m7_more, Step, own, post}
use Rattle.step_law_semaphores.proofs.Lines.{begins_leaving, sleeps_on, stays_queued, d2_queued, d2_gone, d5}
use Rattle.step_law_semaphores.proofs.Telling.{entries, Counts, count_after, same_turn}
use Rattle.step_law_semaphores.proofs.Stories.{takes_counts}
use Rattle.step_law_semaphores.specs.Served.{served, gains, queues, TurnsQueued, TakenSince, TakesServed}
use Rattle.step_law_semaphores.proofs.Reaching.{holds_reached}
use Rattle.step_law_semaphores.proofs.Serving.{counted_by, served_parked}

queues_counts : (k : ℕ) → Counts (queues k)
queues_counts k = (refl, by)
  where
    by : (e : Entry) (es : List Entry) → queues k (e ∷ es) ≡ queues k (e ∷ []) + queues k es
    by (Queue c w lifo) es = omega arith
    by _ es = omega arith

-- the row that parks a seat queues its wait, and the seat was not parked; or it was parked so before
parks : {m : Layout} {i : ℕ} {g h : Words} {p q : SeatState} {e : Effect} → Line m i g p q h e → (a : Acquire) (t : ℕ) (j : List Entry)
    → (row : ParkedRow) → q.place ≡ Acquiring a (Parked t row)
    → (TakenSince i a.counter t 0 (journal_after e j) × ((b : Acquire) (u : ℕ) (row : ParkedRow) → p.place ≡ Acquiring b (Parked u row) → ⊥)
    × (takes i (entries e) ≡ 0))
    ⊎ ((old : ParkedRow) × (p.place ≡ Acquiring a (Parked t old)) × (queues i (entries e) ≡ 0) × (gains p.place q.place ≡ 0))
parks {i = i} {e = e} (a7 {a = b} {t = u}) a t j row is =
    let acquire : b ≡ a = cc in
    let turn : u ≡ t = cc in inl (
      subst₂ (λ x y. TakenSince i x.counter y 0 (journal_after e j)) acquire turn
          (record { lifo = b.lifo; before = j; after = []; is = refl; last = refl; units = refl }),
      (λ c v row at. cc),
      refl,
    )
parks begins_leaving a t j row is = inr (P, cc, refl, refl)
parks sleeps_on a t j row is = inr (D2, cc, refl, refl)
parks stays_queued a t j row is = inr (D3, cc, refl, refl)
parks (d2_queued _ _) a t j row is = inr (D2, cc, refl, refl)
parks (d2_gone _) a t j row is = inr (D2, cc, refl, refl)
parks d5 a t j row is = inr (D5, cc, refl, refl)
parks _ a t j row is = absurd cc

-- a row of another seat queues no wait of k
queues_none : {m : Layout} {i : ℕ} {g h : Words} {p q : SeatState} {e : Effect} → Line m i g p q h e
    → (k : ℕ) → k ≢ i → queues k (entries e) ≡ 0
queues_none {i = i} (a7 {t = t}) k ne = let none = on_else k i 1 ne in omega arith
queues_none _ k ne = refl

-- an entry after a wait of k was queued, which queues none of k
longer : (k c t n : ℕ) (j : List Entry) (e : Effect) → queues k (entries e) ≡ 0 → TakenSince k c t n j
    → TakenSince k c t (n + takes k (entries e)) (journal_after e j)
longer k c t n j (Tells e) none since =
    let queued = count_after (queues k) (queues_counts k) (Tells e) since.after in
    let taken = count_after (takes k) (takes_counts k) (Tells e) since.after in
    let before_queues = since.last in
    let before_takes = since.units in record {
      lifo = since.lifo;
      before = since.before;
      after = since.after ++ e ∷ [];
      is = ap (λ l. l ++ e ∷ []) since.is ∙ append_assoc since.before (Queue c (wait k t) since.lifo ∷ since.after) (e ∷ []);
      last = omega arith;
      units = omega arith;
    }
longer k c t n j _ none since = subst (λ x. TakenSince k c t x j) (let same : n ≡ n + 0 = omega arith in same) since

-- what the journal tells of the seat k where it is parked
abbrev Own : Layout → SemaWorld → ℕ → SeatState → Type 0
Own m s k seat =
    (a : Acquire) (t : ℕ) (row : ParkedRow) → seat.place ≡ Acquiring a (Parked t row) → k < m.seats → TakenSince k a.counter t (served m s k) s.journal

-- who stores a grant isn't parked after it
never_parks : {p q : SeatState} {c x : ℕ} {w : WaitId} → Post p q c w x → (a : Acquire) (t : ℕ) (row : ParkedRow) → q.place ≡ Acquiring a (Parked t row) → ⊥
never_parks r9 a t row e = cc
never_parks r10 a t row e = cc
never_parks m7_last a t row e = cc
never_parks m7_more a t row e = cc

own_step : {m : Layout} {s : SemaWorld} {i : ℕ} {t : SemaWorld} → i < m.seats → IsInvariant m s
    → ((k : ℕ) → Own m s k (s.seats k)) → Step m s i t → (k : ℕ) → Own m t k (t.seats k)
own_step {m = m} {s = s} {i = i} {t = u} h inv before (own {q = q} {e = e} line) k = put_at (Own m u) s.seats i q k here elsewhere
  where
    unserved : (b : ℕ) → ((a : Acquire) (t : ℕ) (row : ParkedRow) → (s.seats b).place ≡ Acquiring a (Parked t row) → ⊥) → Dec (served m s b ≡ 0) → served m s b ≡ 0
    unserved b apart (yes none) = none
    unserved b apart (no some) = let at = served_parked m s inv b (omega arith) in absurd (apart at.2.0 at.1 at.2.2 at.2.3)

    here : Own m u i q
    here a t row is hk = by (parks line a t s.journal row is)
      where
        by : (TakenSince i a.counter t 0 u.journal × ((b : Acquire) (v : ℕ) (row : ParkedRow) → (s.seats i).place ≡ Acquiring b (Parked v row) → ⊥)
            × (takes i (entries e) ≡ 0))
            ⊎ ((old : ParkedRow) × ((s.seats i).place ≡ Acquiring a (Parked t old)) × (queues i (entries e) ≡ 0)
            × (gains (s.seats i).place q.place ≡ 0))
            → TakenSince i a.counter t (served m u i) u.journal
        by (inl parked) =
            let since = parked.0 in
            let none = unserved i parked.1 (ℕ_discrete (served m s i) 0) in
            let told = count_after (takes i) (takes_counts i) e s.journal in
            let quiet = parked.2 in
            let counts = counted_by h inv (own line) i in
            let nothing : served m u i ≡ 0 = omega arith in
            subst (λ n. TakenSince i a.counter t n u.journal) (sym nothing) since
        by (inr parked) =
            let since = before i a t parked.0 parked.1 hk in
            let told = count_after (takes i) (takes_counts i) e s.journal in
            let counts = counted_by h inv (own line) i in
            let now = ap (λ z. on i i (gains (s.seats i).place z.place)) (put_here s.seats i q) in
            let gained = ap (on i i) parked.3 in let nothing = on_here i 0 in
            let same : served m s i + takes i (entries e) ≡ served m u i = omega arith in
            subst (λ n. TakenSince i a.counter t n u.journal) same
            (longer i a.counter t (served m s i) s.journal e parked.2 since)

    elsewhere : k ≢ i → Own m u k (s.seats k)
    elsewhere ne a t row is hk =
        let since = before k a t row is hk in
        let told = count_after (takes k) (takes_counts k) e s.journal in
        let counts = counted_by h inv (own line) k in
        let others = on_else k i (gains (s.seats i).place (u.seats i).place) ne in
        let same : served m s k + takes k (entries e) ≡ served m u k = omega arith in
        subst (λ n. TakenSince k a.counter t n u.journal) same
        (longer k a.counter t (served m s k) s.journal e (queues_none line k ne) since)
own_step {m = m} {s = s} {i = i} {t = u} h inv before (post {q = q} row) k = put_at (Own m u) s.seats i q k here elsewhere
  where
    here : Own m u i q
    here a t parked is hk = absurd (never_parks row a t parked is)

    elsewhere : k ≢ i → Own m u k (s.seats k)
    elsewhere ne a t parked is hk =
        let since = before k a t parked is hk in
        let counts = counted_by h inv (post row) k in
        let others = on_else k i (gains (s.seats i).place (u.seats i).place) ne in
        let same : served m s k ≡ served m u k = omega arith in subst (λ n. TakenSince k a.counter t n s.journal) same since

all_own : (m : Layout) (s : SemaWorld) → IsReached m s → (k : ℕ) → Own m s k (s.seats k)
all_own m = holds_reached m (λ s. (k : ℕ) → Own m s k (s.seats k)) (λ k a t row is h. absurd (at_rest a t row is))
    (λ s t i h inv step before. own_step h inv before step)
  where
    at_rest : (a : Acquire) (t : ℕ) (row : ParkedRow) → Rest ≡ Acquiring a (Parked t row) → ⊥
    at_rest a t row e = cc

pub since : (m : Layout) (s : SemaWorld) → IsReached m s → TakesServed m s
since m s reached k c turn h parked =
    subst (λ c. TakenSince k c turn (served m s k) s.journal) parked.1 (all_own m s reached k parked.0 turn parked.2 parked.3 h)

-- a seat's turn goes up where it queues a wait
turned_line : {m : Layout} {i : ℕ} {g h : Words} {p q : SeatState} {e : Effect} → Line m i g p q h e → q.turn ≡ p.turn + queues i (entries e)
turned_line {i = i} a7 = let one = on_here i 1 in omega arith
turned_line _ = omega arith

turned_step : {m : Layout} {s : SemaWorld} {i : ℕ} {t : SemaWorld} → TurnsQueued s → Step m s i t → TurnsQueued t
turned_step {s = s} {i = i} {t = t} before (own {q = q} {e = e} line) k =
    put_at (λ k seat. seat.turn ≡ queues k t.journal) s.seats i q k here elsewhere
  where
    here : q.turn ≡ queues i t.journal
    here =
        let row = turned_line line in
        let told = count_after (queues i) (queues_counts i) e s.journal in
        let was = before i in omega arith

    elsewhere : k ≢ i → (s.seats k).turn ≡ queues k t.journal
    elsewhere ne =
        let none = queues_none line k ne in
        let told = count_after (queues k) (queues_counts k) e s.journal in
        let was = before k in omega arith
turned_step {s = s} {i = i} before (post {q = q} row) k =
    put_at (λ k seat. seat.turn ≡ queues k s.journal) s.seats i q k (sym (same_turn row) ∙ before i) (λ ne. before k)

pub turns : (m : Layout) (s : SemaWorld) → IsReached m s → TurnsQueued s
turns m = holds_reached m TurnsQueued (λ k. refl) (λ s t i h inv step before. turned_step before step)
