-- The journal tells what happened: the numbers and lists are its replay, each entry is lawful where it stands, and no wait is queued twice.
use Rattle.std.proofs.Common.{◌≡◌, ℕ, suc, ◌+◌, ◌-◌, ◌<◌, ◌≤◌, ◌≢◌, ◌⊎◌, List, [], ◌∷◌, ◌++◌, drop, length}
use Rattle.std.proofs.Common.{refl, sym, ap, ◌∙◌, subst, inl, inr, arith}
use native.Mathlib.Decide.{ℕ_discrete}
use Rattle.waiters.specs.declared.wait.WaitId.{WaitId}
use Rattle.step_table.specs.declared.entry.Entry.{Entry}
use Rattle.step_table.specs.declared.entry.Entry.TheVariants.{Queue, Leave, Take, Withdraw}
use Rattle.step_table.specs.declared.effect.Effect.{Effect}
use Rattle.step_table.specs.declared.effect.Effect.TheVariants.{Tells}
use Rattle.step_table.specs.World.{Layout, Words, SeatState, SemaWorld, put, insert_wait, journal_after, without}
use Rattle.step_table.specs.Journal.{Plain, plain, plain_start, effect_of, replay, IsDefined, IsOwned, Follows, queued, left, withdrawn}
use Rattle.step_table.specs.Counting.{on, same, total, wait, times, IsWithin}
use Rattle.step_law_semaphores.specs.Invariant.{SeatsKnown, StoriesTold, HandFits, Story, QueuedOnce, TurnsAreNew}
use Rattle.step_table.proofs.Sums.{on_here, on_else, on_most, put_at, lists_change, times_insert, on_some}
use Rattle.step_table.proofs.Withdrawing.{times_without, wait_times, without_same}
use Rattle.step_law_semaphores.proofs.Lines.{Line, a2_won, a6_won, a7, a11_won, r1, r5, r8_won, Step, own, post}
use Rattle.step_law_semaphores.proofs.Lines.{m1, m5_more, m5_last, Post, r9, r10, m7_last, m7_more, d3}

-- the entry of an effect, as a journal
abbrev pub entries : Effect → List Entry
entries (Tells e) = e ∷ []
entries _ = []

-- what an effect makes of the numbers and lists
abbrev told : Effect → Plain → Plain
told (Tells e) x = effect_of e x
told _ x = x

pub replay_last : (x : Plain) (e : Entry) (j : List Entry) → replay x (j ++ e ∷ []) ≡ effect_of e (replay x j)
replay_last x e [] = refl
replay_last x e (d ∷ j) = replay_last (effect_of d x) e j

replay_after : (x : Plain) (e : Effect) (j : List Entry) → replay x (journal_after e j) ≡ told e (replay x j)
replay_after x (Tells e) j = replay_last x e j
replay_after x _ j = refl

-- one unit less at c
taken : (g : Words) (c n : ℕ) → g.numbers c ≡ suc n → plain (record g { numbers = put g.numbers c n }) ≡ effect_of (Take c 0) (plain g)
taken g c n e = let left : n ≡ g.numbers c - 1 = omega arith in λ k. record { numbers = put g.numbers c (left k); lists = g.lists }

-- the first wait of c has left
left_out : (g : Words) (c : ℕ) (w : WaitId) (l : List WaitId) → g.lists c ≡ w ∷ l
    → plain (record g { lists = put g.lists c l }) ≡ effect_of (Leave c w 0) (plain g)
left_out g c w l first =
    let rest : l ≡ drop 1 (g.lists c) = sym (ap (drop 1) first) in λ k. record { numbers = g.numbers; lists = put g.lists c (rest k) }

-- the words change as the effect says
tells : {m : Layout} {i : ℕ} {g h : Words} {p q : SeatState} {e : Effect} → Line m i g p q h e → plain h ≡ told e (plain g)
tells {g = g} (a2_won {a = a} {n = n} e) = taken g a.counter n e
tells {g = g} (a6_won {a = a} {n = n} e) = taken g a.counter n e
tells {g = g} (a11_won {a = a} {n = n} e) = taken g a.counter n e
tells {g = g} (r8_won {r = r} {n = n} e) = taken g r.counter n e
tells {g = g} (r5 {r = r} {w = w} {l = l} first) = left_out g r.counter w l first
tells {g = g} (m5_more {r = r} {w = w} {l = l} first _ _) = left_out g r.counter w l first
tells {g = g} (m5_last {r = r} {w = w} {l = l} first _) = left_out g r.counter w l first
tells {i = i} {g = g} (d3 {a = a} {u = u} stands) =
    λ k. record { numbers = g.numbers; lists = put g.lists a.counter (sym (without_same (wait i u) (g.lists a.counter) stands) k) }
tells _ = refl

pub replays_kept : {m : Layout} {s : SemaWorld} {i : ℕ} {t : SemaWorld} → plain s.words ≡ replay (plain_start m.starts) s.journal → Step m s i t
    → plain t.words ≡ replay (plain_start m.starts) t.journal
replays_kept {m = m} {s = s} replays (own {e = e} line) = tells line ∙ ap (told e) replays ∙ sym (replay_after (plain_start m.starts) e s.journal)
replays_kept replays (post line) = replays

-- the entry e behind `before` is within the journal j, or is the one after it
abbrev IsWithinOrLast : List Entry → Entry → List Entry → Entry → Type 0
IsWithinOrLast j x before e = ((rest : List Entry) × (j ≡ before ++ e ∷ rest)) ⊎ ((before ≡ j) × (e ≡ x))

snoc_split : (j before after : List Entry) (x e : Entry) → j ++ x ∷ [] ≡ before ++ e ∷ after → IsWithinOrLast j x before e
snoc_split [] [] after x e q = inr (refl, cc)
snoc_split [] (b ∷ []) after x e q = absurd cc
snoc_split [] (b ∷ c ∷ before) after x e q = absurd cc
snoc_split (y ∷ ys) [] after x e q = inl (ys, cc)
snoc_split (y ∷ ys) (b ∷ bs) after x e q = more (snoc_split ys bs after x e cc)
  where
    more : IsWithinOrLast ys x bs e → IsWithinOrLast (y ∷ ys) x (b ∷ bs) e
    more (inl r) = let f = r.1 in inl (r.0, cc)
    more (inr r) = let f = r.0 in inr (cc, r.1)

-- an effect that may be told at these numbers and lists, after this journal
abbrev IsTold : Effect → Plain → List Entry → Type 0
IsTold (Tells e) x j = IsDefined e x × IsOwned e j
IsTold _ x j = Unit {0}

follows_after : (start : Plain) (e : Effect) (j : List Entry) → Follows start j → IsTold e (replay start j) j → Follows start (journal_after e j)
follows_after start (Tells x) j f may = λ before after e q. by before after e (snoc_split j before after x e q)
  where
    by : (before after : List Entry) (e : Entry) → IsWithinOrLast j x before e → IsDefined e (replay start before) × IsOwned e before
    by before after e (inl r) = f before r.0 e r.1
    by before after e (inr r) = rw r.0 (rw r.1 may)
follows_after start _ j f may = f

-- a row tells what may be told
may_tell : {m : Layout} {i : ℕ} {g h : Words} {p q : SeatState} {e : Effect} → Line m i g p q h e
    → (j : List Entry) → HandFits p.place (length p.hand) → Story i p.place p.hand (g.grants i) j → IsTold e (plain g) j
may_tell (a2_won e) j fits story = (omega arith, tt)
may_tell (a6_won e) j fits story = (omega arith, tt)
may_tell (a11_won e) j fits story = (omega arith, tt)
may_tell (r8_won e) j fits story = (omega arith, tt)
may_tell r1 j fits story = (tt, tt)
may_tell m1 j fits story = (tt, tt)
may_tell a7 j fits story = (tt, tt)
may_tell (r5 {l = l} first) j fits story = ((l, first), story)
may_tell (m5_more {l = l} first _ _) j fits story = ((l, first), (story.0.0, (let owed = story.0.1 in omega arith)))
may_tell (m5_last {l = l} first _) j fits story = ((l, first), (story.0.0, (let owed = story.0.1 in omega arith)))
may_tell {i = i} {g = g} (d3 {a = a} {u = u} stands) j fits story = (wait_times (wait i u) (g.lists a.counter) stands, tt)
may_tell _ j fits story = tt

pub follows_kept : {m : Layout} {s : SemaWorld} {i : ℕ} {t : SemaWorld} → i < m.seats → plain s.words ≡ replay (plain_start m.starts) s.journal
    → SeatsKnown m s → StoriesTold m s
    → Follows (plain_start m.starts) s.journal → Step m s i t → Follows (plain_start m.starts) t.journal
follows_kept {m = m} {s = s} {i = i} in_range replays seats stories follows (own {e = e} line) =
    let may = may_tell line s.journal (seats i).fits (stories i in_range) in
    follows_after (plain_start m.starts) e s.journal follows (subst (λ x. IsTold e x s.journal) replays may)
follows_kept in_range replays seats stories follows (post line) = follows

-- a count that goes by entries
abbrev pub Counts : (List Entry → ℕ) → Type 0
Counts f = (f [] ≡ 0) × ((e : Entry) (es : List Entry) → f (e ∷ es) ≡ f (e ∷ []) + f es)

pub count_append : (f : List Entry → ℕ) → Counts f → (a b : List Entry) → f (a ++ b) ≡ f a + f b
count_append f counts [] b = let none = counts.0 in omega arith
count_append f counts (e ∷ a) b =
    let rest : f (a ++ b) ≡ f a + f b = count_append f counts a b in
    let before = counts.1 e a in
    let all = counts.1 e (a ++ b) in omega arith

pub count_after : (f : List Entry → ℕ) → Counts f → (e : Effect) (j : List Entry) → f (journal_after e j) ≡ f j + f (entries e)
count_after f counts (Tells e) j = count_append f counts j (e ∷ [])
count_after f counts _ j = let none = counts.0 in omega arith

queued_counts : (w : WaitId) → Counts (queued w)
queued_counts w = (refl, by)
  where
    by : (e : Entry) (es : List Entry) → queued w (e ∷ es) ≡ queued w (e ∷ []) + queued w es
    by (Queue c x lifo) es = omega arith
    by _ es = omega arith

left_counts : (w : WaitId) → Counts (left w)
left_counts w = (refl, by)
  where
    by : (e : Entry) (es : List Entry) → left w (e ∷ es) ≡ left w (e ∷ []) + left w es
    by (Leave c x s) es = omega arith
    by _ es = omega arith

withdrawn_counts : (w : WaitId) → Counts (withdrawn w)
withdrawn_counts w = (refl, by)
  where
    by : (e : Entry) (es : List Entry) → withdrawn w (e ∷ es) ≡ withdrawn w (e ∷ []) + withdrawn w es
    by (Withdraw c x) es = omega arith
    by _ es = omega arith

once_less : (m : Layout) (g : Words) (c : ℕ) (x : WaitId) (l : List WaitId) → c < m.counters → g.lists c ≡ x ∷ l → (w : WaitId)
    → total m.counters (λ d. times w (put g.lists c l d)) + same w x ≡ total m.counters (λ d. times w (g.lists d))
once_less m g c x l within first w =
    let changed = lists_change (times w) m.counters c g.lists l within in
    let removed : times w (g.lists c) ≡ same w x + times w l = ap (times w) first in omega arith

-- a row moves a wait into a list when it queues it, and out when it leaves or is withdrawn
once_row : {m : Layout} {i : ℕ} {g h : Words} {p q : SeatState} {e : Effect} → Line m i g p q h e → IsWithin m.counters p.place → (w : WaitId)
    → left w (entries e) + withdrawn w (entries e) + total m.counters (λ c. times w (h.lists c))
    ≡ total m.counters (λ c. times w (g.lists c)) + queued w (entries e)
once_row {m = m} {i = i} {g = g} (a7 {a = a} {t = t}) within w =
    let l = g.lists a.counter in
    let changed = lists_change (times w) m.counters a.counter g.lists (insert_wait a.lifo (wait i t) l) within in
    let inserted = times_insert w a.lifo (wait i t) l in omega arith
once_row {m = m} {g = g} (r5 {r = r} {w = x} {l = l} first) within w = let out = once_less m g r.counter x l within first w in omega arith
once_row {m = m} {g = g} (m5_more {r = r} {w = x} {l = l} first _ _) within w =
    let out = once_less m g r.counter x l within.0 first w in omega arith
once_row {m = m} {g = g} (m5_last {r = r} {w = x} {l = l} first _) within w =
    let out = once_less m g r.counter x l within.0 first w in omega arith
once_row {m = m} {i = i} {g = g} (d3 {a = a} {u = u} stands) within w =
    let l = g.lists a.counter in
    let changed = lists_change (times w) m.counters a.counter g.lists (without i l) within in
    let removed = times_without w (wait i u) l stands in omega arith
once_row _ within w = omega arith

same_some : (w x : WaitId) → 0 < same w x → w ≡ x
same_some w x h =
    let seats = on_some w.seat x.seat (on w.turn x.turn 1) h in
    let turns = on_some w.turn x.turn 1 seats.1 in λ k. record { seat = seats.0 k; turn = turns.0 k }

same_most : (w x : WaitId) → same w x ≤ 1
same_most w x = let seats = on_most w.seat x.seat (on w.turn x.turn 1) in let turns = on_most w.turn x.turn 1 in omega arith

-- a wait that a row queues is new
new_row : {m : Layout} {i : ℕ} {g h : Words} {p q : SeatState} {e : Effect} → Line m i g p q h e → (j : List Entry) → queued (wait i p.turn) j ≡ 0
    → (w : WaitId) → queued w j ≤ 1 → queued w j + queued w (entries e) ≤ 1
new_row {i = i} (a7 {t = t}) j new w once = by (ℕ_discrete (same w (wait i t)) 0)
  where
    by : Dec (same w (wait i t) ≡ 0) → queued w j + (same w (wait i t) + 0) ≤ 1
    by (yes e) = omega arith
    by (no ne) =
        let most = same_most w (wait i t) in
        let unqueued = ap (λ x. queued x j) (same_some w (wait i t) (omega arith)) in omega arith
new_row _ j new w once = omega arith

pub once_kept : {m : Layout} {s : SemaWorld} {i : ℕ} {t : SemaWorld} → SeatsKnown m s
    → TurnsAreNew s → QueuedOnce m s → Step m s i t → QueuedOnce m t
once_kept {s = s} {i = i} seats new once (own {e = e} line) w =
    let before = once w in
    let moved = once_row line (seats i).within w in
    let leaves = count_after (left w) (left_counts w) e s.journal in
    let gone = count_after (withdrawn w) (withdrawn_counts w) e s.journal in
    let queues = count_after (queued w) (queued_counts w) e s.journal in
    let most = new_row line s.journal (new i (s.seats i).turn (omega arith)) w before.1 in (omega arith, omega arith)
once_kept seats new once (post line) w = once w

-- a row queues no wait of another seat, and none of a later turn
queues_own : {m : Layout} {i : ℕ} {g h : Words} {p q : SeatState} {e : Effect} → Line m i g p q h e
    → (k t : ℕ) → k ≢ i → queued (wait k t) (entries e) ≡ 0
queues_own {i = i} (a7 {t = u}) k t ne = let apart = on_else k i (on t u 1) ne in omega arith
queues_own _ k t ne = refl

queues_now : {m : Layout} {i : ℕ} {g h : Words} {p q : SeatState} {e : Effect} → Line m i g p q h e → (t : ℕ) → q.turn ≤ t
    → (p.turn ≤ t) × (queued (wait i t) (entries e) ≡ 0)
queues_now {i = i} (a7 {t = u}) t later =
    let apart = ap (on i i) (on_else t u 1 (λ e. omega arith)) in let none = on_here i 0 in (omega arith, omega arith)
queues_now _ t later = (later, refl)

pub same_turn : {p q : SeatState} {c x : ℕ} {w : WaitId} → Post p q c w x → p.turn ≡ q.turn
same_turn r9 = refl
same_turn r10 = refl
same_turn m7_last = refl
same_turn m7_more = refl

pub new_kept : {m : Layout} {s : SemaWorld} {i : ℕ} {t : SemaWorld} → TurnsAreNew s → Step m s i t → TurnsAreNew t
new_kept {s = s} {i = i} new (own {q = q} {e = e} line) k t = put_at Has s.seats i q k here elsewhere
  where
    Has : ℕ → SeatState → Type 0
    Has k seat = seat.turn ≤ t → queued (wait k t) (journal_after e s.journal) ≡ 0

    more : (k : ℕ) → queued (wait k t) (journal_after e s.journal) ≡ queued (wait k t) s.journal + queued (wait k t) (entries e)
    more k = count_after (queued (wait k t)) (queued_counts (wait k t)) e s.journal

    here : Has i q
    here later = let now = queues_now line t later in let none = now.1 in let before = new i t now.0 in let both = more i in omega arith

    elsewhere : k ≢ i → Has k (s.seats k)
    elsewhere ne later = let none = queues_own line k t ne in let before = new k t later in let both = more k in omega arith
new_kept {s = s} {i = i} new (post {q = q} line) k t = put_at Has s.seats i q k (λ later. new i t (rw (same_turn line) later)) (λ ne. new k t)
  where
    Has : ℕ → SeatState → Type 0
    Has k seat = seat.turn ≤ t → queued (wait k t) s.journal ≡ 0
