-- What an atomic step of the code owes, by the kind of its row.
use Rattle.std.proofs.Common.{◌≡◌, ◌≢◌, ℕ, ◌+◌, ◌<◌, ◌≤◌, ◌==◌, false, List, [], ◌∷◌, length, set, slice_index}
use Rattle.std.proofs.Common.{sym, refl, ap, ◌∙◌, subst, inl, inr, arith}
use Rattle.std.proofs.Common.{length-set}
use mathlib.Core.Option.{none, some}
use native.Mathlib.Decide.{ℕ_discrete}
use lib.ListN.{get_elem?}
use prog.Atomic.{either}
use Rattle.running_rows.specs.Table.{Act, step, keeps, takes, gives, homes_after, carried_after, Valid, rest}
use Rattle.running_rows.proofs.Lists.{set_here, set_else, exchanged}
use Rattle.step_table.specs.declared.place.Acquire.{Acquire}
use Rattle.step_table.specs.declared.place.AcquireRow.TheVariants.{Parked}
use Rattle.step_table.specs.declared.place.ParkedRow.TheVariants.{D3, D5}
use Rattle.step_table.specs.declared.place.Place.{Place}
use Rattle.step_table.specs.declared.place.Place.TheVariants.{Acquiring}
use Rattle.step_table.specs.declared.effect.Effect.{Effect}
use Rattle.step_table.specs.declared.effect.Effect.TheVariants.{Nothing}
use Rattle.step_table.specs.declared.word.Word.{Word}
use Rattle.step_table.specs.declared.word.Word.TheVariants.{Lock}
use Rattle.step_table.specs.Event.{Event}
use Rattle.step_table.specs.Table.{table}
use Rattle.step_table.specs.World.{SemaWorld, SeatState, put, found, written, lists_after}
use Rattle.step_table.specs.Steps.{event_of, finds}
use Rattle.step_table.specs.Counting.{counter_at}
use Rattle.step_table.proofs.Sums.{put_here, put_else}
use Rattle.step_law_semaphores.specs.Lawful.{holds}
use Rattle.sema_table.specs.Changes.{spent_by}
use Rattle.sema_root.specs.Treap.{Treap}
use Rattle.running_rows.specs.Strides.{here, becomes, RanRow, Changed, runs_grant, runs_unlock, runs_unlock_from}
use Rattle.running_rows.specs.Owing.{Stands, Leads, Owes}
use Rattle.sema_table.specs.declared.view.Known.{Known}
use Rattle.sema_table.specs.declared.view.Setting.{Setting}
use Rattle.sema_table.specs.declared.view.Record.{Record}
use Rattle.sema_table.specs.declared.view.Record.TheVariants.{Root}
use Rattle.sema_table.specs.Setting.{root}
use Rattle.sema_table.specs.Places.{Begins}
use Rattle.sema_table.specs.Rule.{stands_by, lists_by, IsRecord, Homes, AtHome, ShowsWorld}
use Rattle.sema_table.specs.Rows.{Me, SemaSeat, HasStored, semaphore_rows}
use Rattle.sema_table.specs.Starts.{begin, at_stay}
use Rattle.sema_table.proofs.Words.{low_root, is_lock, locks_unwritten, listed_agree, same_record}
use Rattle.sema_table.proofs.Spending.{spending}
use Rattle.sema_table.proofs.Striding.{Ran, ran_here, ran_stay}
use Rattle.running_rows.proofs.Telling.{owes_own, tells_more, stays_so}
use Rattle.sema_table.proofs.Keeping.{Fits, Ready, ready, b, t, after, others, knows_after, shows_after, went, home_stays, lists_are, lists_told, read_is}
use Rattle.sema_table.proofs.Keeping.{tells_on}

-- a row of no lock: the code's step is the event of the table
pub record Stays (z : Setting) (e : Event) (i n x : ℕ) : Type 0 where
  pub fits : Fits z e i n x
  pub apart : is_lock e.word ≡ false

-- a row that takes the lock of c
pub record Takes (z : Setting) (c : ℕ) (e : Event) (i n : ℕ) : Type 0 where
  pub fits : Fits z e i n 1
  pub word_is : e.word ≡ Lock c
  pub silent : (e.leads n).1 ≡ Nothing

-- a row that gives the lock of c back, with this record
pub record Gives (z : Setting) (c : ℕ) (treap : Treap) (e : Event) (v : Known) (i n x : ℕ) : Type 0 where
  pub fits : Fits z e i n x
  pub word_is : e.word ≡ Lock c
  pub holds_it : holds (root z) (root z c) v.place ≡ 1
  pub is_record : IsRecord z (root z c) treap (lists_after (e.leads n).1 (lists_by z v.seen))

-- the event of the row that begins at this place, for the seat k that knows v
abbrev pub event_by : ℕ → Known → SemaWorld → Event
event_by k v w = table k (stands_by v) w.words.lists

-- what is told of a row that stored x at i
abbrev pub Stored : (Known → Known) → Me → ℕ → ℕ → ℕ → Me → Type 0
Stored at m i x n t = (r : Ran at m.0.own n t.0.own) × HasStored m.0.own.knows.setting r.stride i x × Changed semaphore_rows m m.1 t

module _ (i : ℕ) (m : Me) (p : Place) (ok : Begins (length m.0.own.knows.setting.starts) m.0.own.knows.place p)
    (bound : spent_by m.0.own.number m.0.own.knows.seen + spending p ≤ m.0.own.knows.setting.limit) where
  abbrev u : SemaSeat
  u = m.0.own

  abbrev M : Setting
  M = m.0.own.knows.setting

  abbrev v : Known
  v = begin p m.0.own.knows

  abbrev c : ℕ
  c = counter_at p

  abbrev q0 : ℕ
  q0 = root m.0.own.knows.setting (counter_at p)

  module _ (world : SemaWorld) (words : List ℕ) (homes : Homes) (st : Stands semaphore_rows m.0.own.knows.setting m.0.own world words homes i) where
    abbrev w : SemaWorld
    w = b m.0.own world words homes i st p ok bound

    abbrev n : ℕ
    n = slice_index words i

    abbrev ev : Event
    ev = event_of w m.0.own.number

    known : Ready m.0.own.number v w i n
    known = ready m.0.own world words homes i st p ok bound

    shown : ShowsWorld M world words homes
    shown = st.shows

    -- what is said of the event by the view holds of the event in the world
    in_world : (Q : Event → Type 0) → Q (event_by m.0.own.number v w) → Q ev
    in_world Q = subst (λ (q : SeatState). Q (table m.0.own.number q w.words.lists)) (sym known.knows.meets.stands)

    module _ (x : ℕ) (fits : Fits M ev i n x) where
      abbrev next : SemaWorld
      next = t m.0.own world words homes i st p ok bound x fits

      abbrev now : SemaSeat
      now = after m.0.own world words homes i st p ok bound x fits

      row : (r : Ran (begin p) m.0.own n now) × HasStored M r.stride i x
      row = went m.0.own world words homes i st p ok bound x fits

      -- the row leads on, whatever becomes of the slots
      leads : (act : Act Record) (then : Me → Type 0) → Valid homes m.1 act → length (homes_after homes m.1 act) ≡ M.roots
          → ((q : ℕ) → q < M.roots → next.words.locks q ≡ 0 → AtHome M next.words (homes_after homes m.1 act) q)
          → then (becomes semaphore_rows m now (carried_after m.1 act)) → Leads semaphore_rows M m world words homes i x then
      leads act then valid deep home tells = record {
        next = next;
        own = now;
        act = act;
        valid = valid;
        shows = shows_after m.0.own world words homes i st p ok bound x fits (homes_after homes m.1 act) deep home;
        same = refl;
        of_is = refl;
        knows = knows_after m.0.own world words homes i st p ok bound x fits;
        on = tells_on m.0.own world words homes i st p ok bound x fits;
        others = others m.0.own world words homes i st p ok bound x fits;
        tells = tells;
      }

      stays_home : (so : Homes) (q : ℕ) → q < M.roots → world.words.locks q ≡ 0 → get_elem? so q ≡ get_elem? homes q → AtHome M next.words so q
      stays_home = home_stays m.0.own world words homes i st p ok bound x fits

      lists_after_it : (d : ℕ) → next.words.lists d ≡ lists_after (ev.leads n).1 world.words.lists d
      lists_after_it = lists_are m.0.own world words homes i st p ok bound x fits

      told_lists : (d : ℕ) → lists_by M next.journal d ≡ next.words.lists d
      told_lists = lists_told m.0.own world words homes i st p ok bound x fits

      found_is : n ≡ finds (root M) w m.0.own.number
      found_is = read_is m.0.own world words homes i st p ok bound x fits

      -- what the row makes of a lock word, where its word is that lock's
      locks_after : (d : ℕ) → ev.word ≡ Lock d → (q : ℕ)
          → next.words.locks q ≡ put w.words.locks (root M d) (ev.becomes (finds (root M) w m.0.own.number)) q
      locks_after d is q = ap (λ (y : Word). (written (root M) w.words y (ev.becomes (finds (root M) w m.0.own.number))).locks q) is

    stays : (x : ℕ) → Stays M ev i n x → Leads semaphore_rows M m world words homes i x (λ s. Stored (begin p) m i x n s)
    stays x y = leads x y.fits keeps (λ s. Stored (begin p) m i x n s) tt shown.deep
        (λ q h free. stays_home x y.fits homes q h
        (sym (locks_unwritten (root M) w.words ev.word (ev.becomes (finds (root M) w m.0.own.number)) q y.apart) ∙ free) refl)
        ((row x y.fits).0, (row x y.fits).1, refl)

    -- a lock that was taken: the row ran, and the record came with it, by the call's counter
    abbrev Got : Me → Type 0
    Got s =
        Ran (begin p) m.0.own 0 s.0.own × ((treap : Treap) × Changed semaphore_rows m ((q0, Root treap) ∷ m.1) s
        × IsRecord M q0 treap (lists_by M s.0.own.knows.seen))

    takes_it : Takes M c ev i n → n ≡ 0 → Leads semaphore_rows M m world words homes i 1 Got
    takes_it y zero_is =
        let locks = locks_after 1 y.fits c y.word_is in
        let X : ℕ = ev.becomes (finds (root M) w m.0.own.number) in
        let isn = found_is 1 y.fits in
        let one : X ≡ 1 = ap ev.becomes (sym isn) ∙ sym y.fits.becomes in
        let free : world.words.locks q0 ≡ 0 = ap (λ (y : Word). found (root M) w.words y) (sym y.word_is) ∙ sym isn ∙ zero_is in
        let home = shown.homes q0 (low_root M c shown.rooted) free in
        let lists : (q : ℕ) → (next 1 y.fits).words.lists q ≡ world.words.lists q = λ q. lists_after_it 1 y.fits q
        ∙ ap (λ (f : Effect). lists_after f world.words.lists q) y.silent in
        leads 1 y.fits (takes q0 (Root home.0)) Got home.1 (length-set homes q0 none ∙ shown.deep)
        (λ q h gone. by y X locks one q gone (ℕ_discrete q q0)
        (λ ne before. stays_home 1 y.fits (set homes q0 none) q h before (set_else homes q0 q none ne))) (
          subst (λ k. Ran (begin p) m.0.own k (now 1 y.fits)) zero_is (row 1 y.fits).0,
          (home.0, refl, same_record M q0 home.0 world.words.lists (lists_by M (next 1 y.fits).journal) (λ q e. told_lists 1 y.fits q ∙ lists q) home.2),
        )
      where
        by : (y : Takes M c ev i n) (X : ℕ) → ((q : ℕ) → (next 1 y.fits).words.locks q ≡ put w.words.locks q0 X q) → X ≡ 1 → (q : ℕ)
            → (next 1 y.fits).words.locks q ≡ 0 → Dec (q ≡ q0)
            → (q ≢ q0 → world.words.locks q ≡ 0 → AtHome M (next 1 y.fits).words (set homes q0 none) q)
            → AtHome M (next 1 y.fits).words (set homes q0 none) q
        by y X locks one q gone (yes e) k =
            let x = put_here w.words.locks q0 X in let l = locks q in let j = ap (put w.words.locks q0 X) e in absurd (omega arith)
        by y X locks one q gone (no ne) k = k ne (sym (put_else w.words.locks q0 X q ne) ∙ sym (locks q) ∙ gone)

    -- a lock that was given back
    abbrev Gone : ℕ → Me → Type 0
    Gone k s = Ran (begin p) m.0.own k s.0.own × Changed semaphore_rows m (rest m.1) s

    gives_it : (x : ℕ) (treap : Treap) → m.1 ≡ (q0, Root treap) ∷ [] → Gives M c treap ev v i n x
        → Leads semaphore_rows M m world words homes i x (Gone n)
    gives_it x treap carried g =
        let locks = locks_after x g.fits c g.word_is in
        let X : ℕ = ev.becomes (finds (root M) w m.0.own.number) in
        let so : Homes = set homes q0 (some (Root treap)) in
        let after_is : so ≡ homes_after homes m.1 gives = ap (λ (l : List (ℕ × Record)). homes_after homes l gives) (sym carried) in
        let lists : (q : ℕ) → root M q ≡ q0 → (next x g.fits).words.lists q ≡ lists_after (ev.leads n).1 (lists_by M m.0.own.knows.seen) q
        = λ q e. lists_after_it x g.fits q
        ∙ sym (listed_agree (ev.leads n).1 (lists_by M m.0.own.knows.seen) world.words.lists q
        (known.knows.held q (ap (λ k. holds (root M) k p) e ∙ g.holds_it))) in
        let mine : AtHome M (next x g.fits).words so q0
        = (
          treap,
          set_here homes q0 (some (Root treap)) (let d = shown.deep in let l = low_root M c shown.rooted in omega arith),
          same_record M q0 treap (lists_after (ev.leads n).1 (lists_by M m.0.own.knows.seen)) (next x g.fits).words.lists lists g.is_record,
        ) in
        leads x g.fits gives (Gone n) tt (ap length (sym after_is) ∙ length-set homes q0 (some (Root treap)) ∙ shown.deep)
        (λ q h gone. subst (λ (l : Homes). AtHome M (next x g.fits).words l q) after_is
        (by g X locks q gone (ℕ_discrete q q0) mine (λ ne before. stays_home x g.fits so q h before (set_else homes q0 q (some (Root treap)) ne))))
        ((row x g.fits).0, refl)
      where
        by : (g : Gives M c treap ev v i n x) (X : ℕ) → ((q : ℕ) → (next x g.fits).words.locks q ≡ put w.words.locks q0 X q) → (q : ℕ)
            → (next x g.fits).words.locks q ≡ 0 → Dec (q ≡ q0)
            → AtHome M (next x g.fits).words (set homes q0 (some (Root treap))) q0
            → (q ≢ q0 → world.words.locks q ≡ 0 → AtHome M (next x g.fits).words (set homes q0 (some (Root treap))) q)
            → AtHome M (next x g.fits).words (set homes q0 (some (Root treap))) q
        by g X locks q gone (yes e) mine k = subst (AtHome M (next x g.fits).words (set homes q0 (some (Root treap)))) (sym e) mine
        by g X locks q gone (no ne) mine k = k ne (sym (put_else w.words.locks q0 X q ne) ∙ sym (locks q) ∙ gone)

  -- an atomic step of the code that is the event of a row of no lock leads on, and tells that the row ran, and what it stored
  pub owes_stored : (z : Setting) (g : ℕ → ℕ)
      → ((w : SemaWorld) (n : ℕ) → Ready m.0.own.number v w i n → Stays M (event_by m.0.own.number v w) i n (g n))
      → Owes semaphore_rows z m i g (λ n s. Stored (begin p) m i (g n) n s)
  owes_stored z g ready = owes_own semaphore_rows z m i g (λ n s. Stored (begin p) m i (g n) n s) (λ world words homes st.
      let k : ℕ = n world words homes st in
      stays world words homes st (g k) (in_world world words homes st (λ e. Stays M e i k (g k))
      (ready (w world words homes st) k (known world words homes st))))

  pub owes : (z : Setting) (g : ℕ → ℕ)
      → ((w : SemaWorld) (n : ℕ) → Ready m.0.own.number v w i n → Stays M (event_by m.0.own.number v w) i n (g n))
      → Owes semaphore_rows z m i g (λ n s. RanRow semaphore_rows (begin p) m n s)
  owes z g ready world words homes st = let k : ℕ = slice_index words i in
      tells_more semaphore_rows z m i world words homes (g k) (λ s. Stored (begin p) m i (g k) k s) (λ s. RanRow semaphore_rows (begin p) m k s)
      (λ s r. (r.0, r.2)) (owes_stored z g ready world words homes st)

  -- an exchange of 0 for 1 on a lock word: the row ran, and the record came with it, or the lock was held and nothing changed
  abbrev Either : ℕ → Me → Type 0
  Either n s = (n ≢ 0 → s ≡ m) × (n ≡ 0 → Ran (begin p) m.0.own 0 s.0.own
      × ((treap : Treap) × Changed semaphore_rows m ((q0, Root treap) ∷ m.1) s × IsRecord M q0 treap (lists_by M s.0.own.knows.seen)))

  pub owes_lock : (z : Setting) → ((w : SemaWorld) (n : ℕ) → Ready m.0.own.number v w i n → n ≡ 0 → Takes M c (event_by m.0.own.number v w) i n)
      → Owes semaphore_rows z m i (λ n. either (n == 0) 1 n)
      (λ n s. (n ≢ 0 → s ≡ m) × (n ≡ 0 → Ran (begin p) m.0.own 0 s.0.own
      × ((treap : Treap) × Changed semaphore_rows m ((q0, Root treap) ∷ m.1) s × IsRecord M q0 treap (lists_by M s.0.own.knows.seen))))
  owes_lock z ready = owes_own semaphore_rows z m i (λ n. either (n == 0) 1 n) (λ n s. Either n s) (λ world words homes st.
      let k : ℕ = n world words homes st in
      exchanged k 0 1 (λ x. Leads semaphore_rows M m world words homes i x (Either k))
      (λ free. tells_more semaphore_rows M m i world words homes 1 (Got world words homes st) (Either k)
      (λ s got. ((λ held. absurd (held free)), (λ _. got)))
      (takes_it world words homes st (in_world world words homes st (λ e. Takes M c e i k)
      (ready (w world words homes st) k (known world words homes st) free)) free))
      (λ held. stays_so semaphore_rows M m i world words homes (Either k) st ((λ _. refl), (λ free. absurd (held free)))))

  -- a store on a lock word that the seat holds
  pub owes_unlock : (z : Setting) (treap : Treap) (x : ℕ) → m.1 ≡ (q0, Root treap) ∷ []
      → ((w : SemaWorld) (n : ℕ) → Ready m.0.own.number v w i n → Gives M c treap (event_by m.0.own.number v w) v i n x)
      → Owes semaphore_rows z m i (λ _. x) (λ n s. Ran (begin p) m.0.own n s.0.own × Changed semaphore_rows m (rest m.1) s)
  owes_unlock z treap x carried ready =
      owes_own semaphore_rows z m i (λ _. x) (λ n s. Ran (begin p) m.0.own n s.0.own × Changed semaphore_rows m (rest m.1) s) (λ world words homes st.
      let k : ℕ = n world words homes st in
      gives_it world words homes st x treap carried
      (in_world world words homes st (λ e. Gives M c treap e v i k x) (ready (w world words homes st) k (known world words homes st))))

  -- what a row of no lock owes that can't be where 0 is found
  pub owed_some : (z : Setting) (x : ℕ) → ((w : SemaWorld) (n : ℕ) → Ready m.0.own.number v w i n → 0 < n
      → Stays M (event_by m.0.own.number v w) i n x)
      → (world : SemaWorld) (words : List ℕ) (homes : Homes) → Stands semaphore_rows M m.0.own world words homes i → 0 < slice_index words i
      → Leads semaphore_rows M m world words homes i x (λ s. RanRow semaphore_rows (begin p) m (slice_index words i) s)
  owed_some z x ready world words homes st some_is = let k : ℕ = n world words homes st in
      tells_more semaphore_rows M m i world words homes x (λ s. Stored (begin p) m i x k s) (λ s. RanRow semaphore_rows (begin p) m k s) (λ s r. (r.0, r.2))
      (stays world words homes st x (in_world world words homes st (λ e. Stays M e i k x)
      (ready (w world words homes st) k (known world words homes st) some_is)))

-- the same of the row at which the seat stands
module _ (z : Setting) (i : ℕ) (m : Me) (p : Place) (at : m.0.own.knows.place ≡ p)
    (bound : spent_by m.0.own.number m.0.own.knows.seen + spending p ≤ m.0.own.knows.setting.limit) where
  pub owes_here : (g : ℕ → ℕ) → ((w : SemaWorld) (n : ℕ) → Ready m.0.own.number (begin p m.0.own.knows) w i n
      → Stays m.0.own.knows.setting (event_by m.0.own.number (begin p m.0.own.knows) w) i n (g n))
      → Owes semaphore_rows z m i g (λ n s. RanRow semaphore_rows here m n s)
  owes_here g ready world words homes st = let k : ℕ = slice_index words i in
      tells_more semaphore_rows z m i world words homes (g k) (λ s. RanRow semaphore_rows (begin p) m k s) (λ s. RanRow semaphore_rows here m k s)
      (λ s r. (ran_here m.0.own s.0.own p k at r.0, r.1)) (owes i m p (inl at) bound z g ready world words homes st)

  -- a row that stores x, which is a grant
  pub owes_grant : (slots x : ℕ) → ((w : SemaWorld) (n : ℕ) → Ready m.0.own.number (begin p m.0.own.knows) w i n
      → Stays m.0.own.knows.setting (event_by m.0.own.number (begin p m.0.own.knows) w) i n x)
      → Owes semaphore_rows z m i (λ _. x) (λ _ s. runs_grant semaphore_rows (step slots i x 0 none) m x s)
  owes_grant slots x ready world words homes st = let k : ℕ = slice_index words i in
      tells_more semaphore_rows z m i world words homes x (λ s. Stored (begin p) m i x k s) (λ s. runs_grant semaphore_rows (step slots i x 0 none) m x s)
      (λ s r. (k, ran_here m.0.own s.0.own p k at r.0, r.1, r.2)) (owes_stored i m p (inl at) bound z (λ _. x) ready world words homes st)

  pub owes_give : (treap : Treap) (x : ℕ) → m.1 ≡ (root m.0.own.knows.setting (counter_at p), Root treap) ∷ []
      → ((w : SemaWorld) (n : ℕ) → Ready m.0.own.number (begin p m.0.own.knows) w i n
      → Gives m.0.own.knows.setting (counter_at p) treap (event_by m.0.own.number (begin p m.0.own.knows) w) (begin p m.0.own.knows) i n x)
      → Owes semaphore_rows z m i (λ _. x) (λ _ s. runs_unlock semaphore_rows (step 0 i x 0 none) m x s)
  owes_give treap x carried ready world words homes st = let k : ℕ = slice_index words i in
      tells_more semaphore_rows z m i world words homes x (λ s. Ran (begin p) m.0.own k s.0.own × Changed semaphore_rows m (rest m.1) s)
      (λ s. runs_unlock semaphore_rows (step 0 i x 0 none) m x s)
      (λ s r. (k, ran_here m.0.own s.0.own p k at r.0, tt, r.1)) (owes_unlock i m p (inl at) bound z treap x carried ready world words homes st)

-- a store on the lock word of a seat that may leave, and sleeps on after all
pub owes_stay : (z : Setting) (i : ℕ) (m : Me) (a : Acquire) (turn : ℕ) → m.0.own.knows.place ≡ Acquiring a (Parked turn D3)
    → spent_by m.0.own.number m.0.own.knows.seen + spending (Acquiring a (Parked turn D5)) ≤ m.0.own.knows.setting.limit
    → (treap : Treap) (x : ℕ) → m.1 ≡ (root m.0.own.knows.setting a.counter, Root treap) ∷ []
    → ((w : SemaWorld) (n : ℕ) → Ready m.0.own.number (begin (Acquiring a (Parked turn D5)) m.0.own.knows) w i n
    → Gives m.0.own.knows.setting a.counter treap (event_by m.0.own.number (begin (Acquiring a (Parked turn D5)) m.0.own.knows) w)
    (begin (Acquiring a (Parked turn D5)) m.0.own.knows) i n x)
    → Owes semaphore_rows z m i (λ _. x) (λ _ s. runs_unlock_from semaphore_rows at_stay (step 0 i x 0 none) m x s)
owes_stay z i m a turn at bound treap x carried ready world words homes st =
    let k : ℕ = slice_index words i in let p : Place = Acquiring a (Parked turn D5) in
    let begins : Begins (length m.0.own.knows.setting.starts) m.0.own.knows.place p =
    subst (λ q. Begins (length m.0.own.knows.setting.starts) q p) (sym at) (inr (inr (refl, refl))) in
    tells_more semaphore_rows z m i world words homes x (λ s. Ran (begin p) m.0.own k s.0.own × Changed semaphore_rows m (rest m.1) s)
    (λ s. runs_unlock_from semaphore_rows at_stay (step 0 i x 0 none) m x s)
    (λ s r. (k, ran_stay m.0.own s.0.own a turn k (step 0 i x 0 none) at r.0, tt, r.1))
    (owes_unlock i m p begins bound z treap x carried ready world words homes st)
