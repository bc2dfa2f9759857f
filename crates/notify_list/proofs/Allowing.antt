-- What an atomic step of the code owes, by the kind of its row.
use Rattle.std.proofs.Common.{◌≡◌, ◌≢◌, ℕ, ◌<◌, ◌==◌, List, [], ◌∷◌, slice_index, sym, refl, ap, ◌∙◌, subst, arith, lt-ltb}
use Rattle.std.proofs.Common.{length-set, get_or-set_other}
use Rattle.std.proofs.Common.{get_or-set_same}
use mathlib.Core.Option.{none, some}
use native.Mathlib.Decide.{ℕ_discrete}
use prog.Atomic.{either}
use Rattle.running_rows.specs.Table.{keeps, takes, gives, step}
use Rattle.running_rows.proofs.Lists.{set_here, exchanged}
use Rattle.step_table.specs.declared.list_place.ListPlace.{ListPlace}
use Rattle.step_table.specs.declared.list_place.ListPlace.TheVariants.{Waiting}
use Rattle.step_table.specs.declared.list_place.Ticket.{Ticket}
use Rattle.step_table.specs.declared.list_place.WaitRow.TheVariants.{Parked}
use Rattle.step_table.specs.declared.list_place.ListParkedRow.TheVariants.{P}
use Rattle.step_table.specs.declared.list_place.ListWord.{ListWord}
use Rattle.step_table.specs.declared.list_place.ListWord.TheVariants.{Lock, Grant}
use Rattle.step_table.specs.ListWorld.{ListSeat, ListWorld, ListWords}
use Rattle.step_table.specs.EventOf.{store}
use Rattle.step_table.specs.ListEvent.{ListEvent, ListNext}
use Rattle.step_table.specs.ListTable.{list_table, list_event_at}
use Rattle.step_table.specs.ListSteps.{event_of, finds}
use Rattle.step_table.specs.Path.{runs}
use Rattle.step_law_lists.specs.ListLawful.{holds}
use Rattle.step_law_lists.proofs.ListAccounts.{the_list_accounts}
use Rattle.running_rows.specs.Strides.{Went, RanRow, Took, Changed, here, runs_grant, becomes}
use Rattle.running_rows.specs.Strides as strides
use Rattle.running_rows.specs.Owing.{Stands, Leads, Owes}
use Rattle.running_rows.proofs.Telling.{went_from, owes_own, stays_so, tells_more}
use Rattle.notify_list.specs.declared.view.Known.{Known}
use Rattle.notify_list.specs.declared.view.Setting.{Setting}
use Rattle.notify_list.specs.declared.view.Record.{Record}
use Rattle.notify_list.specs.Setting.{address, IsThere}
use Rattle.notify_list.specs.Places.{Begins, stands}
use Rattle.notify_list.specs.Rule.{guarded_in, guarded_by, guarded_after, IsRecord, Homes}
use Rattle.notify_list.specs.Rows.{list_rows}
use Rattle.notify_list.specs.Plays.{Me, standing}
use Rattle.notify_list.proofs.Keeping.{Fits, RunsIn, known, b, t, after, went, leads, read_is, lock_is, guarded_stays, home_stays}

-- a row that takes the lock
pub record Takes (z : Setting) (e : ListEvent) (a : ListSeat) (n : ℕ) : Type 0 where
  pub fits : Fits z e 2 n 1
  pub free : holds a.place ≡ 0

-- a row that gives the lock back, with this record
pub record Gives (z : Setting) (y : Record) (e : ListEvent) (g : ListWords) : Type 0 where
  pub fits : Fits z e 2 1 0
  pub is_record : IsRecord z y (guarded_after (e.leads 1).1 g)

module _ (m : Me) (a : ListSeat) (ok : Begins m.0.own.knows.sight.stands a) where
  -- the event of the row that begins so
  abbrev pub event_by : ListWorld → ListEvent
  event_by w = list_table m.0.own.number a w.words

  abbrev setting : Setting
  setting = m.0.own.knows.setting

  abbrev pub Ready : ℕ → (ℕ → ℕ) → Type 0
  Ready i g = (w : ListWorld) (n : ℕ) → RunsIn m.0.own.number (standing a m.0.own.knows) w i n
      → Fits m.0.own.knows.setting (list_table m.0.own.number a w.words) i n (g n)

  module _ (world : ListWorld) (words : List ℕ) (homes : Homes) (i : ℕ) (at : Stands list_rows m.0.own.knows.setting m.0.own world words homes i) where
    abbrev w0 : ListWorld
    w0 = b m world words homes i at a ok

    there_known : RunsIn m.0.own.number (standing a m.0.own.knows) w0 i (slice_index words i)
    there_known = known m world words homes i at a ok

    -- what is said of the event by how the seat stands holds of the event in the world
    in_world : (Q : ListEvent → Type 0) → Q (list_table m.0.own.number a w0.words) → Q (event_of w0 m.0.own.number)
    in_world Q = subst (λ (q : ListSeat). Q (list_table m.0.own.number q w0.words)) (sym there_known.knows.meets.stands)

    -- a row on another word than the lock's
    stays : (x : ℕ) (then : Me → Type 0) → i ≢ 2 → Fits setting (list_table m.0.own.number a w0.words) i (slice_index words i) x
        → ((t : Me) → RanRow list_rows (standing a) m (slice_index words i) t → then t) → Leads list_rows setting m world words homes i x then
    stays x then ne is tells =
        let fits = in_world (λ e. Fits setting e i (slice_index words i) x) is in
        let lock = lock_is m world words homes i at a ok x fits ∙ get_or-set_other words i 2 x 0 (λ q. ne (sym q)) ∙ at.shows.words Lock tt in
        leads m world words homes i at a ok x fits keeps then tt at.shows.deep (λ free. home_stays m world words homes i at a ok x fits (sym lock ∙ free))
        (tells _ (went m world words homes i at a ok x fits, refl))

  -- it leads on, and tells that it ran
  row_owes : (k : Setting) (i : ℕ) (g : ℕ → ℕ) (then : ℕ → Me → Type 0) → i ≢ 2 → Ready i g
      → ((n : ℕ) (t : Me) → RanRow list_rows (standing a) m n t → then n t)
      → Owes list_rows k m i g then
  row_owes k i g then ne ready tells = owes_own list_rows k m i g then (λ world words homes at.
      stays world words homes i at (g (slice_index words i)) (then (slice_index words i)) ne
      (ready (b m world words homes i at a ok) (slice_index words i) (known m world words homes i at a ok)) (tells (slice_index words i)))

  module _ (begin : Known → Known) (begins : standing a m.0.own.knows ≡ begin m.0.own.knows) where
    abbrev began : (n : ℕ) (t : Me) → RanRow list_rows (standing a) m n t → RanRow list_rows begin m n t
    began n t r = (went_from list_rows (standing a) begin m.0.own t.0.own n begins r.0, r.1)

    pub row_goes : (k : Setting) (i : ℕ) (g : ℕ → ℕ) → i ≢ 2 → Ready i g → Owes list_rows k m i g (RanRow list_rows begin m)
    row_goes k i g ne ready = row_owes k i g (RanRow list_rows begin m) ne ready began

    -- an exchange of 0 for 1 on the lock word: the row ran, or the lock was held and nothing changed
    module _ (ready : (w : ListWorld) → Takes m.0.own.knows.setting (list_table m.0.own.number a w.words) a 0) where
      takes_it : (world : ListWorld) (words : List ℕ) (homes : Homes) (at : Stands list_rows m.0.own.knows.setting m.0.own world words homes 2)
          → slice_index words 2 ≡ 0
          → Leads list_rows m.0.own.knows.setting m world words homes 2 1 (Took list_rows begin m)
      takes_it world words homes at free_is =
          let w : ListWorld = b m world words homes 2 at a ok in
          let fits = subst (λ n. Fits setting (event_of w m.0.own.number) 2 n 1) (sym free_is)
          (in_world world words homes 2 at (λ e. Fits setting e 2 0 1) (ready w).fits) in
          let home = at.shows.home (sym (at.shows.words Lock tt) ∙ free_is) in
          let held = lock_is m world words homes 2 at a ok 1 fits ∙ get_or-set_same words 2 1 0 (let y = at.shows.wide in omega arith) in
          leads m world words homes 2 at a ok 1 fits (takes 0 home.0) (Took list_rows begin m) home.1
          (length-set homes 0 none ∙ at.shows.deep) (λ gone. absurd (omega arith)) (
            subst (λ n. Went list_rows begin runs m.0.own n (after m world words homes 2 at a ok 1 fits)) free_is
                (went_from list_rows (standing a) begin m.0.own (after m world words homes 2 at a ok 1 fits) _ begins
                (went m world words homes 2 at a ok 1 fits)),
            (0, home.0, refl, (refl, subst (IsRecord setting home.0) (sym (guarded_stays m world words homes 2 at a ok 1 fits (ready w).free)) home.2)),
          )

      pub row_takes : (k : Setting) → Owes list_rows k m 2 (λ n. either (n == 0) 1 n)
          (λ n t. (n ≢ 0 → t ≡ m) × (n ≡ 0 → Took list_rows begin m t))
      row_takes k =
          owes_own list_rows k m 2 (λ n. either (n == 0) 1 n)
          (λ n t. (n ≢ 0 → t ≡ m) × (n ≡ 0 → Took list_rows begin m t)) (λ world words homes at.
          let n : ℕ = slice_index words 2 in
          exchanged n 0 1 (λ x. Leads list_rows setting m world words homes 2 x (λ t. (n ≢ 0 → t ≡ m) × (n ≡ 0 → Took list_rows begin m t)))
          (λ free. tells_more list_rows setting m 2 world words homes 1 (Took list_rows begin m)
          (λ t. (n ≢ 0 → t ≡ m) × (n ≡ 0 → Took list_rows begin m t))
          (λ t o. ((λ held. absurd (held free)), (λ e. o))) (takes_it world words homes at free))
          (λ held. stays_so list_rows setting m 2 world words homes (λ t. (n ≢ 0 → t ≡ m) × (n ≡ 0 → Took list_rows begin m t)) at
          ((λ e. refl), (λ free. absurd (held free)))))

-- the row at which the seat stands
module _ (k : Setting) (m : Me) (i : ℕ) (a : ListSeat) (is : m.0.own.knows.sight.stands ≡ a) where
  pub ok : Begins m.0.own.knows.sight.stands a
  ok = subst (Begins m.0.own.knows.sight.stands) is stands

  begins : standing a m.0.own.knows ≡ m.0.own.knows
  begins = λ j. standing (sym is j) m.0.own.knows

  pub goes_at : (g : ℕ → ℕ) → i ≢ 2 → Ready m a ok i g → Owes list_rows k m i g (RanRow list_rows here m)
  goes_at g ne ready = row_goes m a ok here begins k i g ne ready

  pub stores_at : (x : ℕ) → i ≢ 2 → Ready m a ok i (λ n. x)
      → Owes list_rows k m i (λ n. x) (λ n t. (found : ℕ) × RanRow list_rows here m found t)
  stores_at x ne ready = row_owes m a ok k i (λ n. x) (λ n t. (found : ℕ) × RanRow list_rows here m found t) ne ready
      (λ n t r. (n, (went_from list_rows (standing a) here m.0.own t.0.own n begins r.0, r.1)))

  -- a store of a grant
  pub grants_at : (word : ListWord) (x : ℕ) (next : ListNext)
      → ((g : ListWords) → list_table m.0.own.number a g ≡ store word x next) → address word ≡ i
      → IsThere m.0.own.knows.setting word → i ≢ 2 → Owes list_rows k m i (λ n. x) (λ n t. runs_grant list_rows (step 0 i x 0 none) m x t)
  grants_at word x next row lies there ne = row_owes m a ok k i (λ n. x) (λ n t. runs_grant list_rows (step 0 i x 0 none) m x t) ne
      (λ w n known. subst (λ (e : ListEvent). Fits m.0.own.knows.setting e i n x) (sym (row w.words))
      (record { word = lies; there = there; can = refl; becomes = refl }))
      (λ n t r. let w : Went list_rows here runs m.0.own n t.0.own = went_from list_rows (standing a) here m.0.own t.0.own n begins r.0 in (
        n,
        w,
        record {
          ran = w.did;
          seat = m.0.own.number;
          words = w.ran.world.words;
          word = word;
          next = next;
          row = ap (λ (q : ListSeat). list_table m.0.own.number q w.ran.world.words) (w.ran.stood ∙ is) ∙ row w.ran.world.words;
          lies = lies;
        },
        r.1,
      ))

  -- a grant that is taken, or nothing where there is none
  pub takes_at : (ticket : Ticket) → a.place ≡ Waiting ticket (Parked P) → address (Grant m.0.own.number) ≡ i
      → Owes list_rows k m i (λ n. 0) (λ n t. (n ≡ 0 → t ≡ m) × (0 < n → RanRow list_rows here m n t))
  takes_at ticket parked word = owes_own list_rows k m i (λ n. 0) (λ n t. (n ≡ 0 → t ≡ m) × (0 < n → RanRow list_rows here m n t))
      (λ world words homes at. by world words homes at (ℕ_discrete (slice_index words i) 0))
    where
      by : (world : ListWorld) (words : List ℕ) (homes : Homes)
          → Stands list_rows m.0.own.knows.setting m.0.own world words homes i → Dec (slice_index words i ≡ 0)
          → Leads list_rows m.0.own.knows.setting m world words homes i 0
          (λ t. (slice_index words i ≡ 0 → t ≡ m) × (0 < slice_index words i → RanRow list_rows here m (slice_index words i) t))
      by world words homes at (yes e) =
          subst (λ x. Leads list_rows m.0.own.knows.setting m world words homes i x
          (λ t. (slice_index words i ≡ 0 → t ≡ m) × (0 < slice_index words i → RanRow list_rows here m (slice_index words i) t))) e
          (stays_so list_rows m.0.own.knows.setting m i world words homes
          (λ t. (slice_index words i ≡ 0 → t ≡ m) × (0 < slice_index words i → RanRow list_rows here m (slice_index words i) t)) at
          ((λ none_found. refl), (λ some_found. absurd (omega arith))))
      by world words homes at (no ne) =
          stays m a ok world words homes i at 0 (λ t. (slice_index words i ≡ 0 → t ≡ m)
          × (0 < slice_index words i → RanRow list_rows here m (slice_index words i) t))
          (λ e. absurd (omega arith))
          (subst (λ (p : ListPlace). Fits m.0.own.knows.setting
          (list_event_at m.0.own.number a (b m world words homes i at a ok).words p) i (slice_index words i) 0) (sym parked)
          (record { word = word; there = at.there; can = lt-ltb 0 (slice_index words i) (omega arith); becomes = refl }))
          (λ t r. ((λ e. absurd (ne e)), (λ some_found. (went_from list_rows (standing a) here m.0.own t.0.own (slice_index words i) begins r.0, r.1))))

-- what is owed for a store that gives the lock back
abbrev pub GivesBack : Setting → Me → Type 0
GivesBack k m = Owes list_rows k m 2 (λ n. 0) (λ n t. strides.runs_unlock list_rows (step 0 2 0 0 none) m 0 t)

-- a store of 0 on the lock word, which the seat holds
module _ (k : Setting) (m : Me) (a : ListSeat) (is : m.0.own.knows.sight.stands ≡ a) (y : Record)
    (carried : m.1 ≡ (0, y) ∷ []) (holding : holds a.place ≡ 1)
    (ready : (w : ListWorld) → guarded_by m.0.own.knows ≡ guarded_in w.words
    → Gives m.0.own.knows.setting y (list_table m.0.own.number a w.words) w.words) where
  abbrev with_it : Me
  with_it = (m.0, (0, y) ∷ [])

  gives_it : (world : ListWorld) (words : List ℕ) (homes : Homes) → Stands list_rows m.0.own.knows.setting m.0.own world words homes 2
      → Leads list_rows m.0.own.knows.setting with_it world words homes 2 0 (λ t. strides.runs_unlock list_rows (step 0 2 0 0 none) with_it 0 t)
  gives_it world words homes at =
      let ok : Begins m.0.own.knows.sight.stands a = subst (Begins m.0.own.knows.sight.stands) is stands in
      let w : ListWorld = b with_it world words homes 2 at a ok in
      let o = known with_it world words homes 2 at a ok in
      let G = in_world with_it a ok world words homes 2 at (λ e. Gives m.0.own.knows.setting y e w.words) (ready w (o.knows.held holding)) in
      let lock = ((the_list_accounts.alone m.0.own.knows.setting.first m.0.own.knows.setting.seats w o.laws.invariant m.0.own.number o.there).0
      (ap (λ (q : ListSeat). holds q.place) o.knows.meets.stands ∙ holding)).lock in
      let one : slice_index words 2 ≡ 1 = at.shows.words Lock tt ∙ lock in
      let fits = subst (λ n. Fits m.0.own.knows.setting (event_of w m.0.own.number) 2 n 0) (sym one) G.fits in
      let found_is : finds w m.0.own.number ≡ 1 = sym (read_is with_it world words homes 2 at a ok 0 fits) ∙ one in
      leads with_it world words homes 2 at a ok 0 fits gives (λ t. strides.runs_unlock list_rows (step 0 2 0 0 none) with_it 0 t) tt
      (length-set homes 0 (some y) ∙ at.shows.deep)
      (λ free. (
        y,
        set_here homes 0 (some y) (let d = at.shows.deep in omega arith),
        subst (λ (q : ℕ). IsRecord m.0.own.knows.setting y (guarded_after ((event_of w m.0.own.number).leads q).1 w.words)) (sym found_is) G.is_record,
      )) (
        slice_index words 2,
        went_from list_rows (standing a) here m.0.own (after with_it world words homes 2 at a ok 0 fits) _ (λ j. standing (sym is j) m.0.own.knows)
            (went with_it world words homes 2 at a ok 0 fits),
        tt,
        refl,
      )

  pub gives_at : GivesBack k m
  gives_at = owes_own list_rows k m 2 (λ n. 0) (λ n t. strides.runs_unlock list_rows (step 0 2 0 0 none) m 0 t)
      (subst (λ (c : List (ℕ × Record)). GivesBack m.0.own.knows.setting (m.0, c)) (sym carried) gives_it)
