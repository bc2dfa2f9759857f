-- What the journal says of each seat's call: what its release owes, and that each wait in a hand has left and got its unit or none.
use Rattle.std.proofs.Common.{◌≡◌, ℕ, zero, suc, ◌+◌, ◌-◌, ◌<◌, ◌≤◌, ◌≢◌, ◌⊎◌, cond, List, [], ◌∷◌, ◌++◌}
use Rattle.std.proofs.Common.{length, eqb, refl, sym, ap, ◌∙◌, subst, subst₂, inl, inr, eq-eqb, ne_eqb, append_assoc, arith}
use native.Mathlib.Decide.{ℕ_discrete}
use Rattle.waiters.specs.declared.wait.WaitId.{WaitId}
use Rattle.step_table.specs.declared.entry.Entry.{Entry}
use Rattle.step_table.specs.declared.entry.Entry.TheVariants.{Add, AddMany, Take, Leave}
use Rattle.step_table.specs.declared.effect.Effect.{Effect}
use Rattle.step_table.specs.declared.effect.Effect.TheVariants.{Tells}
use Rattle.step_table.specs.declared.place.Acquire.{Acquire}
use Rattle.step_table.specs.declared.place.AcquireRow.TheVariants.{Parked}
use Rattle.step_table.specs.declared.place.ParkedRow.TheVariants.{P}
use Rattle.step_table.specs.declared.place.ReleaseRow.TheVariants.{R2, R3, R4, R5, R6, R7, R8, R9, R10}
use Rattle.step_table.specs.declared.place.ManyRow.TheVariants.{M2, M3, M4, M5, M6, M7}
use Rattle.step_table.specs.declared.place.Place.{Place}
use Rattle.step_table.specs.declared.place.ParkedRow.{ParkedRow}
use Rattle.step_table.specs.declared.place.Place.TheVariants.{Acquiring, Releasing, ReleasingMany}
use Rattle.step_table.specs.World.{Layout, Words, SeatState, SemaWorld, put, journal_after}
use Rattle.step_table.specs.Journal.{Budget, spent, budget_from, budget, Owes, takes, HasLeft, HasItsUnit}
use Rattle.step_law_semaphores.specs.Lawful.{IsGrantOf}
use Rattle.step_table.specs.Counting.{wait, times}
use Rattle.step_law_semaphores.specs.Invariant.{SeatsKnown, StoriesTold, hands, WaitsPlaced, AllLeft, AllHaveUnits, Story}
use Rattle.step_table.proofs.Sums.{put_at, on_else, length_last}
use Rattle.step_law_semaphores.proofs.Lines.{Line, a2_won, a6_won, a7, a11_won, r1, r2_some, r3, r4_some, r5, r6_plain, r6_handoff, r7_zero, r7_some, r8_won}
use Rattle.step_law_semaphores.proofs.Lines.{r8_lost, decides}
use Rattle.step_law_semaphores.proofs.Lines.{m1, m2_some, m3, m4_some, m5_more, m5_last, m6_some, Post, r9, r10, m7_last, m7_more, Step, own, post}
use Rattle.step_law_semaphores.proofs.Lines.{begins_leaving, sleeps_on, stays_queued, d2_queued, d2_gone, d5}
use Rattle.step_law_semaphores.proofs.Placing.{same_here, grants_else, Waiter, waiter_of_post, one_hand}
use Rattle.step_law_semaphores.proofs.Parking.{one_parking, call_of, in_call, in_a_hand}
use Rattle.step_law_semaphores.proofs.Telling.{entries, Counts, count_append}

-- a budget after one more entry
budget_last : (b : Budget) (s : ℕ) (j : List Entry) (e : Entry) → budget_from b s (j ++ e ∷ []) ≡ spent s e (budget_from b s j)
budget_last b s [] e = refl
budget_last b s (d ∷ j) e = budget_last (spent s d b) s j e

-- a budget after an effect
abbrev spent_by : ℕ → Effect → Budget → Budget
spent_by k (Tells e) b = spent k e b
spent_by k _ b = b

budget_after : (k : ℕ) (e : Effect) (j : List Entry) → budget k (journal_after e j) ≡ spent_by k e (budget k j)
budget_after k (Tells e) j = budget_last (record { counter = 0; units = 0 }) k j e
budget_after k _ j = refl

chosen_here : (s : ℕ) (x y : Budget) → cond (eqb s s) x y ≡ x
chosen_here s x y = ap (λ b. cond b x y) (eq-eqb s s refl)

chosen_else : (s t : ℕ) (x y : Budget) → s ≢ t → cond (eqb s t) x y ≡ y
chosen_else s t x y ne = ap (λ b. cond b x y) (ne_eqb s t ne)

owes_by : (k c n : ℕ) (j : List Entry) (b : Budget) → budget k j ≡ b → (b.counter ≡ c) × (n ≤ b.units) → Owes k c n j
owes_by k c n j b is owes = subst (λ b. (b.counter ≡ c) × (n ≤ b.units)) (sym is) owes

-- an add makes its seat owe its units
owes_new : (k c : ℕ) (j : List Entry) → Owes k c 1 (j ++ Add c k ∷ [])
unfolding spent
owes_new k c j =
    let b : Budget = record { counter = c; units = 1 } in
    owes_by k c 1 (j ++ Add c k ∷ []) b (budget_after k (Tells (Add c k)) j ∙ chosen_here k b (budget k j)) (refl, omega arith)

owes_many : (k c n : ℕ) (j : List Entry) → Owes k c n (j ++ AddMany c n k ∷ [])
unfolding spent
owes_many k c n j =
    let b : Budget = record { counter = c; units = n } in
    owes_by k c n (j ++ AddMany c n k ∷ []) b (budget_after k (Tells (AddMany c n k)) j ∙ chosen_here k b (budget k j)) (refl, omega arith)

-- a wait that leaves spends one unit
owes_less : (k c n less : ℕ) (w : WaitId) (j : List Entry) → less + 1 ≤ n → Owes k c n j → Owes k c less (j ++ Leave c w k ∷ [])
unfolding spent
owes_less k c n less w j fewer owes =
    let b : Budget = record { counter = (budget k j).counter; units = (budget k j).units - 1 } in
    owes_by k c less (j ++ Leave c w k ∷ []) b (budget_after k (Tells (Leave c w k)) j ∙ chosen_here k b (budget k j))
    (owes.0, (let most = owes.1 in omega arith))

-- a row spends nothing of another seat
spends_own : {m : Layout} {i : ℕ} {g h : Words} {p q : SeatState} {e : Effect} → Line m i g p q h e
    → (k : ℕ) (b : Budget) → k ≢ i → spent_by k e b ≡ b
unfolding spent
spends_own {i = i} (r1 {r = r}) k b ne = chosen_else k i (record { counter = r.counter; units = 1 }) b ne
spends_own {i = i} (r5 _) k b ne = chosen_else k i (record { counter = b.counter; units = b.units - 1 }) b ne
spends_own {i = i} (m1 {r = r}) k b ne = chosen_else k i (record { counter = r.counter; units = r.units }) b ne
spends_own {i = i} (m5_more _ _ _) k b ne = chosen_else k i (record { counter = b.counter; units = b.units - 1 }) b ne
spends_own {i = i} (m5_last _ _) k b ne = chosen_else k i (record { counter = b.counter; units = b.units - 1 }) b ne
spends_own _ k b ne = refl

pub takes_counts : (s : ℕ) → Counts (takes s)
takes_counts s = (refl, by)
  where
    by : (e : Entry) (es : List Entry) → takes s (e ∷ es) ≡ takes s (e ∷ []) + takes s es
    by (Take c t) es = omega arith
    by _ es = omega arith

takes_last : (s : ℕ) (j : List Entry) (e : Entry) → takes s j ≡ 0 → takes s (e ∷ []) ≡ 0 → takes s (j ++ e ∷ []) ≡ 0
takes_last s j e before none = let both = count_append (takes s) (takes_counts s) j (e ∷ []) in omega arith

-- what has left, or has its unit, stays so while nothing more is taken for its seat
left_more : (c : ℕ) (w : WaitId) (e : Effect) (j : List Entry) → takes w.seat (entries e) ≡ 0
    → HasLeft c w j → HasLeft c w (journal_after e j)
left_more c w (Tells e) j none o = (
  o.0,
  o.1,
  o.2 ++ e ∷ [],
  ap (λ l. l ++ e ∷ []) o.3 ∙ append_assoc o.1 (Leave c w o.0 ∷ o.2) (e ∷ []),
  takes_last w.seat o.2 e o.4 none,
)
left_more c w _ j none o = o

unit_more : (c : ℕ) (w : WaitId) (e : Effect) (j : List Entry) → takes w.seat (entries e) ≡ 0
    → HasItsUnit c w j → HasItsUnit c w (journal_after e j)
unit_more c w (Tells e) j none o = (
  o.0,
  o.1,
  o.2,
  o.3 ++ e ∷ [],
  ap (λ l. l ++ e ∷ []) o.4 ∙ append_assoc o.1 (Leave c w o.0 ∷ (o.2 ++ Take c w.seat ∷ o.3)) (e ∷ [])
      ∙ ap (λ l. o.1 ++ Leave c w o.0 ∷ l) (append_assoc o.2 (Take c w.seat ∷ o.3) (e ∷ [])),
  o.5,
  takes_last w.seat o.3 e o.6 none,
)
unit_more c w _ j none o = o

-- nothing is taken for the seat of a wait of this hand
abbrev Spares : List WaitId → Effect → Type 0
Spares hand e = (w : WaitId) → 0 < times w hand → takes w.seat (entries e) ≡ 0

first_spared : (w : WaitId) (hand : List WaitId) (e : Effect) → Spares (w ∷ hand) e → takes w.seat (entries e) ≡ 0
first_spared w hand e spares = spares w (let here = same_here w in omega arith)

all_left_more : (c : ℕ) (hand : List WaitId) (e : Effect) (j : List Entry) → Spares hand e
    → AllLeft c hand j → AllLeft c hand (journal_after e j)
all_left_more c [] e j spares all = tt
all_left_more c (w ∷ hand) e j spares all =
    (left_more c w e j (first_spared w hand e spares) all.0, all_left_more c hand e j (λ x some. spares x (omega arith)) all.1)

all_units_more : (c : ℕ) (hand : List WaitId) (e : Effect) (j : List Entry) → Spares hand e
    → AllHaveUnits c hand j → AllHaveUnits c hand (journal_after e j)
all_units_more c [] e j spares all = tt
all_units_more c (w ∷ hand) e j spares all =
    (unit_more c w e j (first_spared w hand e spares) all.0, all_units_more c hand e j (λ x some. spares x (omega arith)) all.1)

-- the story of a seat for which nothing is spent or taken goes on
story_more : (k : ℕ) (p : Place) (hand : List WaitId) (g : ℕ) (e : Effect) (j : List Entry)
    → budget k (journal_after e j) ≡ budget k j → Spares hand e → (0 < g → takes k (entries e) ≡ 0)
    → Story k p hand g j → Story k p hand g (journal_after e j)
story_more k (Releasing r R2) hand g e j unspent spares granted story = owes_by k r.counter 1 (journal_after e j) (budget k j) unspent story
story_more k (Releasing r R3) hand g e j unspent spares granted story = owes_by k r.counter 1 (journal_after e j) (budget k j) unspent story
story_more k (Releasing r R4) hand g e j unspent spares granted story = owes_by k r.counter 1 (journal_after e j) (budget k j) unspent story
story_more k (Releasing r R5) hand g e j unspent spares granted story = owes_by k r.counter 1 (journal_after e j) (budget k j) unspent story
story_more k (Releasing r R6) hand g e j unspent spares granted story = all_left_more r.counter hand e j spares story
story_more k (Releasing r R7) hand g e j unspent spares granted story = all_left_more r.counter hand e j spares story
story_more k (Releasing r (R8 n)) hand g e j unspent spares granted story = all_left_more r.counter hand e j spares story
story_more k (Releasing r R9) hand g e j unspent spares granted story = all_units_more r.counter hand e j spares story
story_more k (Releasing r R10) hand g e j unspent spares granted story = all_left_more r.counter hand e j spares story
story_more k (ReleasingMany r M2) hand g e j unspent spares granted story = owes_by k r.counter r.units (journal_after e j) (budget k j) unspent story
story_more k (ReleasingMany r M3) hand g e j unspent spares granted story = owes_by k r.counter r.units (journal_after e j) (budget k j) unspent story
story_more k (ReleasingMany r M4) hand g e j unspent spares granted story = owes_by k r.counter r.units (journal_after e j) (budget k j) unspent story
story_more k (ReleasingMany r M5) hand g e j unspent spares granted story = (
  owes_by k r.counter (r.units - length hand) (journal_after e j) (budget k j) unspent story.0,
  all_left_more r.counter hand e j spares story.1,
)
story_more k (ReleasingMany r M6) hand g e j unspent spares granted story = all_left_more r.counter hand e j spares story
story_more k (ReleasingMany r M7) hand g e j unspent spares granted story = all_left_more r.counter hand e j spares story
story_more k (Acquiring a (Parked t row)) hand (suc zero) e j unspent spares granted story =
    left_more a.counter (wait k t) e j (granted (omega arith)) story
story_more k (Acquiring a (Parked t row)) hand (suc (suc g)) e j unspent spares granted story =
    unit_more a.counter (wait k t) e j (granted (omega arith)) story
story_more k _ hand g e j unspent spares granted story = tt

-- one more wait has left into the hand
all_left_last : (c i : ℕ) (w : WaitId) (hand : List WaitId) (j : List Entry) → AllLeft c hand j → AllLeft c (hand ++ w ∷ []) (j ++ Leave c w i ∷ [])
all_left_last c i w [] j all = ((i, j, [], refl, refl), tt)
all_left_last c i w (x ∷ hand) j all = (left_more c x (Tells (Leave c w i)) j refl all.0, all_left_last c i w hand j all.1)

-- the story of the seat whose row it is
story_row : {m : Layout} {i : ℕ} {g h : Words} {p q : SeatState} {e : Effect} → Line m i g p q h e → (j : List Entry) → IsGrantOf p.place (g.grants i)
    → Story i p.place p.hand (g.grants i) j → Story i q.place q.hand (h.grants i) (journal_after e j)
story_row {i = i} {g = g} {e = e} (a7 {a = a} {t = t}) j quiet story =
    subst (λ x. Story i (Acquiring a (Parked t P)) [] x (journal_after e j)) (sym quiet) tt
story_row {i = i} (r1 {r = r}) j quiet story = owes_new i r.counter j
story_row decides j quiet story = story
story_row begins_leaving j quiet story = story
story_row sleeps_on j quiet story = story
story_row stays_queued j quiet story = story
story_row (d2_queued _ _) j quiet story = story
story_row (d2_gone _) j quiet story = story
story_row d5 j quiet story = story
story_row r2_some j quiet story = story
story_row (r3 _) j quiet story = story
story_row (r4_some _) j quiet story = story
story_row {i = i} (r5 _) j quiet story = ((i, j, [], refl, refl), tt)
story_row r6_plain j quiet story = story
story_row r6_handoff j quiet story = story
story_row r7_zero j quiet story = story
story_row r7_some j quiet story = story
story_row r8_lost j quiet story = story
story_row (r8_won {r = r} {w = w} _) j quiet story = let o = story.0 in (
  (
    o.0,
    o.1,
    o.2,
    [],
    ap (λ l. l ++ Take r.counter w.seat ∷ []) o.3 ∙ append_assoc o.1 (Leave r.counter w o.0 ∷ o.2) (Take r.counter w.seat ∷ []),
    o.4,
    refl,
  ),
  tt,
)
story_row {i = i} (m1 {r = r}) j quiet story = owes_many i r.counter r.units j
story_row m2_some j quiet story = story
story_row (m3 _) j quiet story = story
story_row (m4_some _) j quiet story = ((story.0, (let most = story.1 in omega arith)), tt)
story_row {i = i} (m5_more {r = r} {w = w} {hand = hand} _ fewer _) j quiet story = (
  owes_less i r.counter (r.units - length hand) (r.units - length (hand ++ w ∷ [])) w j
      (let longer = length_last w hand in omega arith) story.0,
  all_left_last r.counter i w hand j story.1,
)
story_row {i = i} (m5_last {r = r} {w = w} {hand = hand} _ _) j quiet story = all_left_last r.counter i w hand j story.1
story_row m6_some j quiet story = story
story_row _ j quiet story = tt

-- for whom a row takes a unit: for nobody, for its own seat, which isn't parked, or for one whose wait is in its hand
abbrev Taker : ℕ → SeatState → Effect → ℕ → Type 0
Taker i p e x =
    (takes x (entries e) ≡ 0)
    ⊎ (((x ≡ i) × ((a : Acquire) (t : ℕ) (row : ParkedRow) → p.place ≡ Acquiring a (Parked t row) → ⊥)) ⊎ ((w : WaitId) × (0 < times w p.hand) × (w.seat ≡ x)))

own_take : (c i x : ℕ) (p : SeatState) → ((a : Acquire) (t : ℕ) (row : ParkedRow) → p.place ≡ Acquiring a (Parked t row) → ⊥) → Taker i p (Tells (Take c i)) x
own_take c i x p apart = by (ℕ_discrete x i)
  where
    by : Dec (x ≡ i) → Taker i p (Tells (Take c i)) x
    by (yes e) = inr (inl (e, apart))
    by (no ne) = inl (let apart = on_else x i 1 ne in omega arith)

taker : {m : Layout} {i : ℕ} {g h : Words} {p q : SeatState} {e : Effect} → Line m i g p q h e → (x : ℕ) → Taker i p e x
taker {i = i} {p = p} (a2_won {a = a} _) x = own_take a.counter i x p (λ a t row q. cc)
taker {i = i} {p = p} (a6_won {a = a} _) x = own_take a.counter i x p (λ a t row q. cc)
taker {i = i} {p = p} (a11_won {a = a} _) x = own_take a.counter i x p (λ a t row q. cc)
taker {i = i} {p = p} {e = e} (r8_won {w = w} _) x = by (ℕ_discrete x w.seat)
  where
    by : Dec (x ≡ w.seat) → Taker i p e x
    by (yes q) = inr (inr (w, (let here = same_here w in omega arith), sym q))
    by (no ne) = inl (let apart = on_else x w.seat 1 ne in omega arith)
taker _ x = inl refl

-- a row takes nothing for the seat of a wait in another seat's hand
spares_hands : {m : Layout} {i : ℕ} {q : SeatState} {h : Words} {e : Effect} (s : SemaWorld) → Line m i s.words (s.seats i) q h e
    → WaitsPlaced m s → i < m.seats → (k : ℕ) → k < m.seats → k ≢ i → Spares (s.seats k).hand e
spares_hands {m = m} {i = i} {e = e} s line placed in_range k hk ne w some = by (taker line w.seat)
  where
    c : ℕ
    c = call_of m s placed k

    v : Waiter m c w s
    v = in_a_hand m s placed k w hk some

    by : Taker i (s.seats i) e w.seat → takes w.seat (entries e) ≡ 0
    by (inl none) = none
    by (inr (inl r)) = absurd (r.1 v.0 w.turn v.2 (ap (λ z. (s.seats z).place) (sym r.0) ∙ v.3))
    by (inr (inr r)) =
        let x = r.0 in
        let d = call_of m s placed i in
        let u = in_a_hand m s placed i x in_range r.1 in
        let one = one_parking s x.seat w.seat d c x.turn w.turn r.2 (u.0, u.1, u.2, u.3) (v.0, v.1, v.2, v.3) in
        let here : 0 < hands c w (s.seats k) = subst (λ n. 0 < n) (sym (in_call m s placed k w)) some in
        let there : 0 < hands d x (s.seats i) = subst (λ n. 0 < n) (sym (in_call m s placed i x)) r.1 in
        let there_too = subst₂ (λ y z. 0 < hands y z (s.seats i)) one.0 (λ j. record { seat = r.2 j; turn = one.1 j }) there in
        absurd (one_hand m s c w i k placed in_range hk (λ z. ne (sym z)) there_too here)

-- nor for a seat that was granted
spares_granted : {m : Layout} {i : ℕ} {q : SeatState} {h : Words} {e : Effect} (s : SemaWorld) → Line m i s.words (s.seats i) q h e
    → WaitsPlaced m s → i < m.seats → (k : ℕ) → k ≢ i → 0 < s.words.grants k → takes k (entries e) ≡ 0
spares_granted {m = m} {i = i} {e = e} s line placed in_range k ne some = by (taker line k)
  where
    by : Taker i (s.seats i) e k → takes k (entries e) ≡ 0
    by (inl none) = none
    by (inr (inl r)) = absurd (ne r.0)
    by (inr (inr r)) =
        let u = in_a_hand m s placed i r.0 in_range r.1 in let none = u.4 in let its_own = ap s.words.grants r.2 in absurd (omega arith)

-- the story of the seat whose grant is stored
post_story : {p q : SeatState} {c x : ℕ} {w : WaitId} → Post p q c w x
    → (i g : ℕ) (a : Acquire) (row : ParkedRow) (hand : List WaitId) (j : List Entry) → a.counter ≡ c
    → Story i p.place p.hand g j → Story w.seat (Acquiring a (Parked w.turn row)) hand x j
post_story {w = w} r9 i g a row hand j here story = subst (λ c. HasItsUnit c w j) (sym here) story.0
post_story {w = w} r10 i g a row hand j here story = subst (λ c. HasLeft c w j) (sym here) story.0
post_story {w = w} m7_last i g a row hand j here story = subst (λ c. HasLeft c w j) (sym here) story.0
post_story {w = w} m7_more i g a row hand j here story = subst (λ c. HasLeft c w j) (sym here) story.0

-- and of the seat that stores it
own_story : {p q : SeatState} {c x : ℕ} {w : WaitId} → Post p q c w x → (i g after : ℕ) (j : List Entry)
    → Story i p.place p.hand g j → Story i q.place q.hand after j
own_story r9 i g after j story = tt
own_story r10 i g after j story = tt
own_story m7_last i g after j story = tt
own_story m7_more i g after j story = story.1

pub stories_kept : {m : Layout} {s : SemaWorld} {i : ℕ} {t : SemaWorld} → i < m.seats → WaitsPlaced m s
    → SeatsKnown m s
    → StoriesTold m s → Step m s i t
    → (k : ℕ) → k < m.seats → Story k (t.seats k).place (t.seats k).hand (t.words.grants k) t.journal
stories_kept {m = m} {s = s} {i = i} in_range placed seats stories (own {q = q} {h = h} {e = e} line) k =
    put_at Has s.seats i q k here elsewhere
  where
    Has : ℕ → SeatState → Type 0
    Has k seat = k < m.seats → Story k seat.place seat.hand (h.grants k) (journal_after e s.journal)

    here : Has i q
    here hk = story_row line s.journal (seats i).granted (stories i in_range)

    elsewhere : k ≢ i → Has k (s.seats k)
    elsewhere ne hk = rw (grants_else line k ne)
        (story_more k (s.seats k).place (s.seats k).hand (s.words.grants k) e s.journal
        (budget_after k e s.journal ∙ spends_own line k (budget k s.journal) ne)
        (spares_hands s line placed in_range k hk ne)
        (spares_granted s line placed in_range k ne)
        (stories k hk))
stories_kept {m = m} {s = s} {i = i} in_range placed seats stories (post {c = c} {x = x} {w = w} {q = q} line) k =
    put_at Has s.seats i q k here elsewhere
  where
    v : Waiter m c w s
    v = waiter_of_post m s i c x w in_range placed line

    Has : ℕ → SeatState → Type 0
    Has k seat = k < m.seats → Story k seat.place seat.hand (put s.words.grants w.seat x k) s.journal

    here : Has i q
    here hk = own_story line i (s.words.grants i) (put s.words.grants w.seat x i) s.journal (stories i in_range)

    waiter : Story w.seat (s.seats w.seat).place (s.seats w.seat).hand x s.journal
    waiter = rw v.3 (post_story line i (s.words.grants i) v.0 v.2 (s.seats w.seat).hand s.journal v.1 (stories i in_range))

    Tells_at : ℕ → ℕ → Type 0
    Tells_at k grant = Story k (s.seats k).place (s.seats k).hand grant s.journal

    elsewhere : k ≢ i → Has k (s.seats k)
    elsewhere ne = put_at (λ k grant. k < m.seats → Tells_at k grant) s.words.grants w.seat x k (λ hw. waiter) (λ ne. stories k)
