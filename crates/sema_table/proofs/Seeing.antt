-- A look at a word changes nothing, and the seat sees what was told so far.
use Rattle.std.proofs.Common.{◌≡◌, ℕ, ◌+◌, ◌<◌, ◌≤◌, List, [], ◌∷◌, ◌++◌, length, slice_index, sym, refl, ap}
use Rattle.std.proofs.Common.{◌∙◌, subst, inl, arith, get_or-set_other}
use Rattle.std.proofs.Common.{length-set}
use lib.Seq.{set-get_or}
use native.Mathlib.Decide.{ℕ_discrete}
use Rattle.running_rows.specs.Table.{keeps}
use Rattle.step_table.specs.declared.place.Place.{Place}
use Rattle.step_table.specs.declared.word.Word.{Word}
use Rattle.step_table.specs.declared.word.Word.TheVariants.{Counter, Lock, Waiters, Grant}
use Rattle.step_table.specs.World.{Layout, SemaWorld}
use Rattle.step_table.specs.Path.{sight, looks, look_in}
use Rattle.step_table.proofs.Paths.{meets_sight}
use Rattle.step_law_semaphores.specs.SemaPath.{semaphores}
use Rattle.sema_table.specs.Changes.{spent_by}
use Rattle.step_law_semaphores.proofs.Promises.{the_law}
use Rattle.step_law_semaphores.proofs.Accounts.{the_accounts}
use Rattle.running_rows.specs.Strides.{here, Looked, RanRow}
use Rattle.running_rows.specs.Owing.{Stands, Leads, Owes, Sees, IsSeen, IsAside}
use Rattle.sema_table.specs.declared.view.Setting.{Setting}
use Rattle.sema_table.specs.Setting.{root, layout, address, word_at, words_shown, IsThere}
use Rattle.sema_table.specs.Rule.{seeing, lists_by, Knows, Homes, ShowsWorld}
use Rattle.sema_table.specs.Rows.{Me, SemaSeat, semaphore_rows}
use Rattle.sema_table.specs.Starts.{begin}
use Rattle.sema_table.proofs.Words.{shown, counter_lies, lock_lies, waiters_lie, grant_lies, root_root}
use Rattle.sema_table.proofs.Spending.{spending}
use Rattle.sema_table.proofs.Bounding.{taken_most, changes_most}
use Rattle.sema_table.proofs.Resting.{free_counted}
use Rattle.sema_table.proofs.Striding.{Strode, ran_here}
use Rattle.running_rows.proofs.Telling.{owes_own, tells_more}
use Rattle.running_rows.proofs.History.{looked_on}
use Rattle.sema_table.proofs.Keeping.{Ready}
use Rattle.sema_table.proofs.Allowing.{Stays, event_by, owed_some}

module _ (u : SemaSeat) (world : SemaWorld) (words : List ℕ) (homes : Homes) (i : ℕ)
    (st : Stands semaphore_rows u.knows.setting u world words homes i) (x : Word) where
  abbrev m : Layout
  m = layout u.knows.setting

  shows : ShowsWorld u.knows.setting world words homes
  shows = st.shows

  knew : Knows u.knows.setting u.number u.knows world
  knew = st.knows

  -- the seat after it
  abbrev pub now : SemaSeat
  now = record {
    number = u.number;
    knows = seeing (sight (semaphores (layout u.knows.setting)) world u.number) u.knows;
    gone = u.gone ++ look_in (semaphores (layout u.knows.setting)) world u.number x ∷ [];
  }

  told : (c : ℕ) → lists_by u.knows.setting world.journal c ≡ world.words.lists c
  told c = ap (λ y. y.lists c) (sym (the_law.reached m world shows.reached).journal.0)

  pub knows_now : Knows u.knows.setting u.number now.knows world
  knows_now = record { meets = meets_sight (semaphores m) world u.number shows.reached; takes = knew.takes; held = λ c h. told c }

  pub looked : IsThere u.knows.setting x → address u.knows.setting x ≡ i
      → (r : Strode here (looks x) u (slice_index words i) now) × (r.ran.world ≡ world)
  looked h e = (
    record {
      stride = look_in (semaphores m) world u.number x;
      ran = record { world = world; meets = knew.meets; stood = knew.meets.stands; seen = refl; did = record { read_is = refl; told_is = refl; leads = refl } };
      did = refl;
      read = sym (shows.words x h) ∙ ap (slice_index words) e;
      also = record {
        came = omega arith;
        most = let a = taken_most u.knows.setting u.number world shows.reached shows.small shows.counted st.there in omega (arith, knew.takes);
        counted = free_counted u.knows.setting u.number now.knows world shows.reached st.there refl refl knew.takes;
        held = λ c h. told c ∙ sym (knew.held c h);
        few = (the_accounts.unwrapped m _ world shows.reached shows.small).turns u.number st.there;
        settles = changes_most u.knows.setting world shows.reached shows.small;
        there = st.there;
      };
      one = refl;
      same = (refl, refl);
    },
    refl,
  )

  -- it is a look at the word that lies there
  pub sees : word_at u.knows.setting i ≡ x → IsThere u.knows.setting x → address u.knows.setting x ≡ i
      → Sees semaphore_rows u.knows.setting u world i (slice_index words i)
  sees is h e =
      let o = subst (λ (y : Word). (r : Strode here (looks y) u (slice_index words i) now) × (r.ran.world ≡ world)) (sym is) (looked h e) in
      record { now = now; went = o.0; world_is = o.1; knows = knows_now }

module _ (z : Setting) (i : ℕ) where
  -- each seat may look at a word that lies at its address
  is_seen : (x : Word) → word_at z i ≡ x → IsThere z x → address z x ≡ i → IsSeen semaphore_rows z i
  is_seen x is h e world words homes u st =
      subst (λ (q : Setting). word_at q i ≡ x → IsThere q x → address q x ≡ i → Stands semaphore_rows q u world words homes i
      → Sees semaphore_rows q u world i (slice_index words i))
      st.of_is (λ is h e st. sees u world words homes i st x is h e) is h e st

  pub counter_seen : (c : ℕ) → c < length z.starts → address z (Counter c) ≡ i → IsSeen semaphore_rows z i
  counter_seen c inside at = is_seen (Counter c) (counter_lies z c i inside at) inside at

  pub waiters_seen : (c : ℕ) → 0 < z.roots → address z (Waiters c) ≡ i → IsSeen semaphore_rows z i
  waiters_seen c some at = is_seen (Waiters (root z c)) (waiters_lie z c i some at) tt (let e = root_root z c in omega arith)

  pub lock_seen : (c : ℕ) → 0 < z.roots → address z (Lock c) ≡ i → IsSeen semaphore_rows z i
  lock_seen c some at = is_seen (Lock (root z c)) (lock_lies z c i some at) tt (let e = root_root z c in omega arith)

  -- the world knows nothing of what lies behind its words
  pub is_aside : words_shown z ≤ i → IsAside semaphore_rows z i
  is_aside far world words homes x s = record {
    reached = s.reached;
    small = s.small;
    words = λ w h. get_or-set_other words i (address z w) x 0 (λ e. let low = shown z s.rooted w h in absurd (omega arith)) ∙ s.words w h;
    homes = s.homes;
    wide = length-set words i x ∙ s.wide;
    deep = s.deep;
    rooted = s.rooted;
    counted = s.counted;
  }

-- a grant word that is taken: the row ran, or nothing was granted and nothing changed
module _ (z : Setting) (i : ℕ) (m : Me) (p : Place) (at : m.0.own.knows.place ≡ p)
    (bound : spent_by m.0.own.number m.0.own.knows.seen + spending p ≤ m.0.own.knows.setting.limit)
    (lies : address m.0.own.knows.setting (Grant m.0.own.number) ≡ i)
    (ready : (w : SemaWorld) (n : ℕ) → Ready m.0.own.number (begin p m.0.own.knows) w i n → 0 < n
    → Stays m.0.own.knows.setting (event_by m.0.own.number (begin p m.0.own.knows) w) i n 0) where
  abbrev Received : ℕ → Me → Type 0
  Received n s = (n ≡ 0 → Looked semaphore_rows i m 0 s) × (0 < n → RanRow semaphore_rows here m n s)

  pub owes_received : Owes semaphore_rows z m i (λ _. 0) (λ n s. (n ≡ 0 → Looked semaphore_rows i m 0 s) × (0 < n → RanRow semaphore_rows here m n s))
  owes_received = owes_own semaphore_rows z m i (λ _. 0) Received (λ world words homes st. by world words homes st (ℕ_discrete (slice_index words i) 0))
    where
      by : (world : SemaWorld) (words : List ℕ) (homes : Homes)
          → (st : Stands semaphore_rows m.0.own.knows.setting m.0.own world words homes i) → Dec (slice_index words i ≡ 0)
          → Leads semaphore_rows m.0.own.knows.setting m world words homes i 0 (Received (slice_index words i))
      by world words homes st (yes e) =
          let o = sees m.0.own world words homes i st (Grant m.0.own.number) (grant_lies m.0.own.knows.setting m.0.own.number i lies) st.there lies in
          subst (λ x. Leads semaphore_rows m.0.own.knows.setting m world words homes i x (Received (slice_index words i))) e (record {
            next = world;
            own = o.now;
            act = keeps;
            valid = tt;
            shows = subst (λ ws. ShowsWorld m.0.own.knows.setting world ws homes) (sym (set-get_or words i 0)) st.shows;
            same = o.went.same.0;
            of_is = o.went.same.1;
            knows = o.knows;
            on = looked_on semaphore_rows m.0.own.knows.setting world m.0.own i (slice_index words i) refl o;
            others = λ u ne low known. known;
            tells =
                ((λ _. (subst (λ k. Strode here (looks (word_at m.0.own.knows.setting i)) m.0.own k o.now) e o.went, refl)), (λ some. absurd (omega arith)));
          })
      by world words homes st (no ne) =
          tells_more semaphore_rows m.0.own.knows.setting m i world words homes 0
          (λ s. RanRow semaphore_rows (begin p) m (slice_index words i) s) (Received (slice_index words i))
          (λ s r. ((λ e. absurd (ne e)), (λ _. (ran_here m.0.own s.0.own p (slice_index words i) at r.0, r.1))))
          (owed_some i m p (inl at) bound m.0.own.knows.setting 0 ready world words homes st (omega arith))
