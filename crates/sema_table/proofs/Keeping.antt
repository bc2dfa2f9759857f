-- A row of the step table leads on to a world that may be met, whichever row it is.
use Rattle.std.proofs.Common.{◌≡◌, ◌≢◌, ℕ, ◌+◌, ◌^◌, ◌<◌, ◌≤◌, IsTrue, List, [], ◌∷◌, ◌++◌, length, get_or, set}
use Rattle.std.proofs.Common.{slice_index, slice_set, sym, refl, ap, ◌∙◌}
use Rattle.std.proofs.Common.{subst, inr, arith, length-set, get_or-set_other, get_or-set_same}
use mathlib.Core.Logic.{dite}
use native.Mathlib.Decide.{ℕ_discrete}
use lib.ListN.{get_elem?}
use Rattle.waiters.specs.declared.wait.WaitId.{WaitId}
use Rattle.step_table.specs.declared.place.Place.{Place}
use Rattle.step_table.specs.declared.word.Word.{Word}
use Rattle.step_table.specs.Event.{Event}
use Rattle.step_table.specs.World.{Layout, SemaWorld, SeatState, found, lists_after}
use Rattle.step_table.specs.Steps.{event_of, finds, turned, Turn, moved, Step, turn, IsReached}
use Rattle.step_table.specs.Turn.{more}
use Rattle.step_table.specs.Journal.{Plain, takes}
use Rattle.step_table.specs.Table.{table}
use Rattle.step_table.specs.Counting.{on}
use Rattle.step_table.specs.Path.{Meets, sight}
use Rattle.step_table.proofs.Paths.{meets_sight}
use Rattle.step_table.proofs.Sums.{put_here, put_at, on_here, on_else, total_has, total_same}
use Rattle.step_law_semaphores.specs.Lawful.{holds, IsLawfulWorld}
use Rattle.step_law_semaphores.specs.Invariant.{IsInvariant}
use Rattle.sema_table.specs.Changes.{spent_by}
use Rattle.step_law_semaphores.specs.Bounds.{IsSmall}
use Rattle.step_law_semaphores.specs.Served.{carries, served, gains}
use Rattle.step_law_semaphores.specs.SemaPath.{SemaSight, semaphores, row_stride, plain_before}
use Rattle.step_law_semaphores.proofs.Promises.{the_law}
use Rattle.step_law_semaphores.proofs.Accounts.{the_accounts}
use Rattle.step_law_semaphores.proofs.SemaPaths.{the_sema_paths, journal_told}
use Rattle.running_rows.specs.History.{TellsOn}
use Rattle.running_rows.specs.Owing.{Stands}
use Rattle.sema_table.specs.declared.view.Known.{Known}
use Rattle.sema_table.specs.declared.view.Setting.{Setting}
use Rattle.sema_table.specs.Setting.{root, layout, address, IsThere}
use Rattle.sema_table.specs.Rule.{sight_by, seeing, lists_by, Knows, Homes, AtHome, ShowsWorld}
use Rattle.sema_table.specs.Rows.{SemaSeat, HasStored, semaphore_rows}
use Rattle.sema_table.specs.Starts.{begin}
use Rattle.sema_table.proofs.Words.{written_word, inside, lists_unwritten, same_record}
use Rattle.sema_table.specs.Places.{Begins}
use Rattle.sema_table.proofs.Beginning.{begun, begins_holds, begins_carries}
use Rattle.sema_table.proofs.Spending.{spending, spent_own, own_seen, step_spends}
use Rattle.sema_table.proofs.Bounding.{taken_most, changes_most}
use Rattle.sema_table.proofs.Resting.{free_counted}
use Rattle.sema_table.proofs.Striding.{Ran}

-- what the code's atomic step has to be: the event of the table
pub record Fits (z : Setting) (e : Event) (i n x : ℕ) : Type 0 where
  pub word : address z e.word ≡ i
  pub there : IsThere z e.word
  pub can : IsTrue (e.can n)
  pub becomes : x ≡ e.becomes n

-- what is known where a row of the seat k runs: a reached world, which the seat may meet, in which the word i has the number n
pub record Ready (k : ℕ) (v : Known) (b : SemaWorld) (i n : ℕ) : Type 0 where
  pub reached : IsReached (layout v.setting) b
  pub small : IsSmall (layout v.setting) v.setting.limit b
  pub knows : Knows v.setting k v b
  pub there : k < v.setting.seats
  pub word : (w : Word) → IsThere v.setting w → address v.setting w ≡ i → n ≡ found (root v.setting) b.words w
  pub below : n < 2 ^ 64
  pub rooted : 0 < v.setting.roots

module _ (u : SemaSeat) (world : SemaWorld) (words : List ℕ) (homes : Homes) (i : ℕ) (st : Stands semaphore_rows u.knows.setting u world words homes i)
    (p : Place) (ok : Begins (length u.knows.setting.starts) u.knows.place p) (bound : spent_by u.number u.knows.seen + spending p ≤ u.knows.setting.limit) where
  abbrev v : Known
  v = u.knows

  abbrev z : Setting
  z = u.knows.setting

  abbrev m : Layout
  m = layout u.knows.setting

  abbrev id : ℕ
  id = u.number

  shown : ShowsWorld z world words homes
  shown = st.shows

  viewed : Knows z id v world
  viewed = st.knows

  stands : (world.seats id).place ≡ v.place
  stands = ap (λ (y : SeatState). y.place) viewed.meets.stands

  abbrev pub b : SemaWorld
  b = moved world u.number p

  reached : IsReached m b
  reached = begun m id (IsReached m) (λ s t step q. more id st.there q step) world v.place p stands ok shown.reached

  small : IsSmall m u.knows.setting.limit b
  small = record { seats = shown.small.seats; starts = shown.small.starts; shares = shown.small.shares; few = shown.small.few }

  -- the choice of a place serves nobody
  begun_served : (k : ℕ) → served m b k ≡ served m world k
  begun_served k = ap (λ y. on (world.words.grants k) 2 1 + y)
      (total_same z.seats (λ j. carries k (b.seats j).place (b.seats j).hand) (λ j. carries k (world.seats j).place (world.seats j).hand)
      (λ j h. put_at (λ i (x : SeatState). carries k x.place x.hand ≡ carries k (world.seats i).place (world.seats i).hand) world.seats id
      (record (world.seats id) { place = p }) j
      (begins_carries (length z.starts) k (world.seats id).hand v.place p ok ∙ ap (λ q. carries k q (world.seats id).hand) (sym stands)) (λ ne. refl)))

  meets : Meets (semaphores m) b id (sight_by (begin p v))
  meets = record {
    met = reached;
    stands = put_here world.seats id (record (world.seats id) { place = p }) ∙ ap (λ (y : SeatState). record y { place = p }) viewed.meets.stands;
    later = viewed.meets.later;
    quiet = viewed.meets.quiet;
  }

  knows : Knows z id (begin p v) b
  knows = record {
    meets = meets;
    takes = let a = viewed.takes in let k = begun_served id in omega arith;
    held = λ c h. viewed.held c (begins_holds (length z.starts) (root z) (root z c) v.place p ok h);
  }

  invariant : IsInvariant m b
  invariant = the_law.invariant m b reached

  lawful : IsLawfulWorld m b
  lawful = the_law.reached m b reached

  pub ready : Ready id (begin p v) b i (slice_index words i)
  ready = record {
    reached = reached;
    small = small;
    knows = knows;
    there = st.there;
    word = λ w h e. ap (slice_index words) (sym e) ∙ shown.words w h;
    below = st.below;
    rooted = shown.rooted;
  }

  -- another seat may meet the world in which the row begins
  met_else : (j : ℕ) (o : SemaSight) → j ≢ id → Meets (semaphores m) world j o → Meets (semaphores m) b j o
  met_else j o ne =
      begun m id (λ s. Meets (semaphores m) s j o) (λ s t step q. the_sema_paths.others m s t id j o st.there ne step q) world v.place p stands ok

  module _ (x : ℕ) (fits : Fits z (event_of b id) i (slice_index words i) x) where
    abbrev pub t : SemaWorld
    t = turned (root u.knows.setting) b u.number

    abbrev e : Event
    e = event_of b id

    pub read_is : slice_index words i ≡ finds (root z) b id
    read_is = ap (slice_index words) (sym fits.word) ∙ shown.words e.word fits.there

    runs_here : Turn (root z) b id t
    runs_here = record { can = subst (λ n. IsTrue (e.can n)) read_is fits.can; is = refl }

    step : Step m b id t
    step = turn runs_here

    reached_after : IsReached m t
    reached_after = more id st.there reached step

    lawful_after : IsLawfulWorld m t
    lawful_after = the_law.reached m t reached_after

    here_is : (b.seats id).place ≡ p
    here_is = ap (λ (y : SeatState). y.place) (put_here world.seats id (record (world.seats id) { place = p }))

    spends : (spent_by id t.journal ≤ spent_by id b.journal + spending (b.seats id).place)
        × ((k : ℕ) → k ≢ id → spent_by k t.journal ≡ spent_by k b.journal)
    spends = step_spends m b t id st.there invariant step

    small_after : IsSmall m u.knows.setting.limit t
    small_after = record {
      seats = shown.small.seats;
      starts = shown.small.starts;
      shares = shown.small.shares;
      few = λ k h. dite (ℕ_discrete k id)
          (λ q. subst (λ y. spent_by y t.journal ≤ u.knows.setting.limit) (sym q) (let a = spends.0 in let c = ap spending here_is in
          let o = own_seen spent_by spent_own m world id (sight_by v) viewed.meets in omega arith))
          (λ ne. let a = spends.1 k ne in let c = shown.small.few k h in omega arith);
    }

    -- the lists of a root whose lock this seat doesn't hold stay
    leaves : (c : ℕ) → holds (root z) (root z c) (b.seats id).place ≡ 0 → t.words.lists c ≡ world.words.lists c
    leaves c free = (the_accounts.left m b t id st.there invariant step (root z c) free).lists c refl

    free_stay : (c : ℕ) → world.words.locks (root z c) ≡ 0 → t.words.lists c ≡ world.words.lists c
    free_stay c empty = leaves c
        (let l = lawful.locks (root z c) in let one = total_has z.seats (λ j. holds (root z) (root z c) (b.seats j).place) id st.there in omega arith)

    -- another seat may meet the world after the row
    pub others : (o : SemaSeat) → o.number ≢ id → o.number < z.seats → Knows z o.number o.knows world → Knows z o.number o.knows t
    others o ne h known = record {
      meets = met_after;
      takes = let a = the_accounts.counted m b t id st.there invariant step o.number in
          let n = on_else o.number id (gains (b.seats id).place (t.seats id).place) ne in let k = begun_served o.number in let was = known.takes in omega arith;
      held = λ c one. known.held c one
          ∙ sym
          (leaves c
          ((the_accounts.alone m b invariant o.number (root z c) h (ap (λ (y : SeatState). holds (root z) (root z c) y.place) met_before.stands ∙ one)).1
          id st.there (λ q. ne (sym q))));
    }
      where
        met_before : Meets (semaphores m) b o.number (sight_by o.knows)
        met_before = met_else o.number (sight_by o.knows) ne known.meets

        met_after : Meets (semaphores m) t o.number (sight_by o.knows)
        met_after = the_sema_paths.others m b t id o.number (sight_by o.knows) st.there ne step met_before

    -- what this seat is after the row
    abbrev pub after : SemaSeat
    after = record {
      number = u.number;
      knows = record (seeing (sight (semaphores (layout u.knows.setting)) t u.number) u.knows)
          { taken = u.knows.taken + gains (b.seats u.number).place (t.seats u.number).place };
      gone = u.gone ++ row_stride (layout u.knows.setting) b u.number ∷ [];
    }

    -- the row tells how the journal goes on
    pub tells_on : TellsOn semaphore_rows z world t u after
    tells_on = inr (row_stride m b id, refl, refl, journal_told (e.leads (finds (root z) b id)).1 b.journal)

    came : takes id t.journal ≡ after.knows.taken + served m t id
    came = let a = the_accounts.counted m b t id st.there invariant step id in
        let o = on_here id (gains (b.seats id).place (t.seats id).place) in let k = knows.takes in omega arith

    came_most : after.knows.taken ≤ 2 ^ 62 + 2 ^ 48
    came_most = let a = taken_most z id t reached_after small_after shown.counted st.there in omega (arith, came)

    pub knows_after : Knows z id after.knows t
    knows_after =
        record { meets = meets_sight (semaphores m) t id reached_after; takes = came; held = λ c h. ap (λ y. y.lists c) (sym lawful_after.journal.0) }

    pub shows_after : (homes : Homes) → length homes ≡ z.roots → ((q : ℕ) → q < z.roots → t.words.locks q ≡ 0 → AtHome z t.words homes q)
        → ShowsWorld z t (slice_set words i x) homes
    shows_after homes deep home = record {
      reached = reached_after;
      small = small_after;
      words = λ o h. let k = finds (root z) b id in let a = written_word z shown.rooted b.words e.word o (e.becomes k) t.words.lists fits.there h in
          let l = inside z shown.rooted e.word fits.there in
          dite (ℕ_discrete (address z o) i)
          (λ q. ap (λ y. get_or (set words i x) y 0) q ∙ get_or-set_same words i x 0 (let y = shown.wide in let w = fits.word in omega arith)
          ∙ fits.becomes ∙ ap e.becomes read_is ∙ sym (a.0 (q ∙ sym fits.word)))
          (λ ne. get_or-set_other words i (address z o) x 0 ne ∙ shown.words o h ∙ sym (a.1 (λ q. ne (q ∙ fits.word))));
      homes = home;
      wide = length-set words i x ∙ shown.wide;
      deep = deep;
      rooted = shown.rooted;
      counted = shown.counted;
    }

    -- it stored what the code wrote, where the code wrote it
    stored : HasStored z (row_stride m b id) i x
    stored = let lists : b.words.lists ≡ (plain_before m (row_stride m b id)).lists = ap (λ (y : Plain). y.lists) lawful.journal.0 in (
      refl,
      (
        id,
        subst (λ l. address z (table id (b.seats id) l).word ≡ i) lists fits.word,
        subst (λ l. (table id (b.seats id) l).becomes (finds (root z) b id) ≡ x) lists (sym (fits.becomes ∙ ap e.becomes read_is)),
      ),
    )

    pub went : (r : Ran (begin p) u (slice_index words i) after) × HasStored z r.stride i x
    went = (
      record {
        stride = row_stride m b id;
        ran = the_sema_paths.rows m b id (sight_by (begin p v)) meets runs_here.can;
        did = refl;
        read = sym read_is;
        also = record {
          came = ap (λ (q : Place). v.taken + gains q (t.seats id).place) here_is;
          most = came_most;
          counted = free_counted z id after.knows t reached_after st.there refl refl came;
          held = λ c h. ap (λ y. y.lists c) (sym lawful.journal.0) ∙ sym (knows.held c h);
          few = (the_accounts.unwrapped m u.knows.setting.limit t reached_after small_after).turns id st.there;
          settles = changes_most z t reached_after small_after;
          there = st.there;
        };
        one = refl;
        same = (refl, refl);
      },
      stored,
    )

    -- the lists of a root whose lock is free, and so its record, are as they were
    pub home_stays : (now : Homes) (q : ℕ) → q < z.roots → world.words.locks q ≡ 0 → get_elem? now q ≡ get_elem? homes q → AtHome z t.words now q
    home_stays now q h free same = let o = shown.homes q h free in
        (o.0, same ∙ o.1, same_record z q o.0 world.words.lists t.words.lists (λ c e. free_stay c (ap world.words.locks e ∙ free)) o.2)

    -- the lists that the row leaves
    pub lists_are : (c : ℕ) → t.words.lists c ≡ lists_after (e.leads (slice_index words i)).1 world.words.lists c
    lists_are c = ap (λ (l : ℕ → List WaitId). lists_after (e.leads (finds (root z) b id)).1 l c)
        (lists_unwritten (root z) b.words e.word (e.becomes (finds (root z) b id)))
        ∙ ap (λ k. lists_after (e.leads k).1 world.words.lists c) (sym read_is)

    -- and that the journal tells
    pub lists_told : (c : ℕ) → lists_by z t.journal c ≡ t.words.lists c
    lists_told c = ap (λ y. y.lists c) (sym lawful_after.journal.0)
