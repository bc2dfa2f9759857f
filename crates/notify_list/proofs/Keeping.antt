-- A row of the step table leads on, whichever row it is.
use Rattle.std.proofs.Common.{◌≡◌, ◌≢◌, ℕ, ◌<◌, ◌≤◌, IsTrue, List, [], ◌∷◌, ◌++◌, length, get_or, set, slice_index, sym, refl}
use Rattle.std.proofs.Common.{ap, ◌∙◌, subst, inr, arith}
use Rattle.std.proofs.Common.{length-set, get_or-set_other, get_or-set_same}
use mathlib.Core.Logic.{dite}
use native.Mathlib.Decide.{ℕ_discrete}
use Rattle.running_rows.specs.Table.{Act, Valid, homes_after, carried_after}
use Rattle.step_table.specs.declared.list_place.ListWord.{ListWord}
use Rattle.step_table.specs.declared.list_place.ListWord.TheVariants.{Lock}
use Rattle.step_table.specs.ListWorld.{ListSeat, ListWorld, found}
use Rattle.step_table.specs.ListEvent.{ListEvent}
use Rattle.step_table.specs.ListSteps.{event_of, effect_of, finds, turned, seat_after, ListTurn, ListStep, turn}
use Rattle.step_table.specs.Path.{Meets, sight, runs}
use Rattle.step_table.proofs.Paths.{meets_sight}
use Rattle.step_table.proofs.Sums.{put_here, total_has}
use Rattle.step_law_lists.specs.ListLawful.{holds}
use Rattle.step_law_lists.specs.ListPath.{ListSight, row_stride}
use Rattle.step_law_lists.specs.ListPlaces.{ReachedList}
use Rattle.step_law_lists.proofs.ListAccounts.{the_list_accounts}
use Rattle.step_law_lists.proofs.ListPaths.{the_list_paths, journal_told}
use Rattle.running_rows.specs.Strides.{Went, becomes}
use Rattle.running_rows.specs.Owing.{Stands, Leads}
use Rattle.notify_list.specs.declared.view.Known.{Known}
use Rattle.notify_list.specs.declared.view.Setting.{Setting}
use Rattle.notify_list.specs.declared.view.Record.{Record}
use Rattle.notify_list.specs.Setting.{address, IsThere}
use Rattle.notify_list.specs.Places.{Begins, GoesEarly}
use Rattle.notify_list.specs.Rule.{watched, guarded_in, IsMet, Knows, IsRecord, Homes, AtHome}
use Rattle.notify_list.specs.Rows.{list_rows}
use Rattle.notify_list.specs.Plays.{Me, OneSeat, standing}
use Rattle.notify_list.proofs.Words.{written_word, inside}
use Rattle.notify_list.proofs.Beginning.{with_seat, begun, begins_holds}
use Rattle.notify_list.proofs.Early.{row_early}
use Rattle.notify_list.proofs.Going.{met_step, guarded_left}

-- what the code's atomic step has to be: the event of the table
pub record Fits (z : Setting) (e : ListEvent) (i n x : ℕ) : Type 0 where
  pub word : address e.word ≡ i
  pub there : IsThere z e.word
  pub can : IsTrue (e.can n)
  pub becomes : x ≡ e.becomes n

-- what is known where a row of the seat k runs: a world that is met, which the seat may meet, in which the word i has the number n
pub record RunsIn (k : ℕ) (v : Known) (b : ListWorld) (i n : ℕ) : Type 0 where
  pub met : IsMet v.setting b
  pub laws : ReachedList v.setting.first v.setting.seats b
  pub knows : Knows v.setting k v b
  pub there : k < v.setting.seats
  pub word : (w : ListWord) → IsThere v.setting w → address w ≡ i → n ≡ found b.words w
  pub few : v.setting.seats ≤ 65536

-- all that is known of a world that is met
pub laws_of : (z : Setting) (s : ListWorld) → IsMet z s → ReachedList z.first z.seats s
laws_of z s met = the_list_accounts.reached z.first z.seats s met.reach met.reached

module _ (m : Me) (world : ListWorld) (words : List ℕ) (homes : Homes) (i : ℕ) (at : Stands list_rows m.0.own.knows.setting m.0.own world words homes i)
    (a : ListSeat) (ok : Begins m.0.own.knows.sight.stands a) where
  abbrev z : Setting
  z = m.0.own.knows.setting

  abbrev id : ℕ
  id = m.0.own.number

  abbrev pub v : Known
  v = standing a m.0.own.knows

  abbrev pub b : ListWorld
  b = with_seat world m.0.own.number a

  opens : Begins (world.seats id) a
  opens = subst (λ (y : ListSeat). Begins y a) (sym at.knows.meets.stands) ok

  met : IsMet z b
  met = begun id (IsMet z) (λ s t step early q. met_step z s t id at.shows.few at.there q step early) world a opens at.shows.met

  laws : ReachedList z.first z.seats b
  laws = laws_of z b met

  meets : Meets (watched z) b id v.sight
  meets = record { met = met.reached; stands = put_here world.seats id a; later = at.knows.meets.later; quiet = at.knows.meets.quiet }

  knows : Knows z id v b
  knows = record {
    meets = meets;
    held = λ h. at.knows.held (begins_holds m.0.own.knows.sight.stands a ok h);
  }

  pub known : RunsIn id v b i (slice_index words i)
  known = record {
    met = met;
    laws = laws;
    knows = knows;
    there = at.there;
    word = λ w h e. ap (slice_index words) (sym e) ∙ at.shows.words w h;
    few = at.shows.few;
  }

  -- another seat may meet the world in which the row begins
  met_else : (j : ℕ) (u : ListSight) → j ≢ id → Meets (watched z) world j u → Meets (watched z) b j u
  met_else j u ne = begun id (λ s. Meets (watched z) s j u) (λ s t step early q. the_list_paths.others z.first z.seats s t id j u at.there ne step q) world a opens

  module _ (x : ℕ) (fits : Fits m.0.own.knows.setting (event_of (with_seat world m.0.own.number a) m.0.own.number) i (slice_index words i) x) where
    abbrev pub t : ListWorld
    t = turned b m.0.own.number

    abbrev e : ListEvent
    e = event_of b id

    pub read_is : slice_index words i ≡ finds b id
    read_is = ap (slice_index words) (sym fits.word) ∙ at.shows.words e.word fits.there

    runs_here : ListTurn b id t
    runs_here = record { can = subst (λ n. IsTrue (e.can n)) read_is fits.can; is = refl }

    step : ListStep b id t
    step = turn runs_here

    -- a seat that gives up may do so still
    early : GoesEarly (t.seats id).place (t.seats id).late
    early = subst (λ (y : ListSeat). GoesEarly y.place y.late) (sym (put_here b.seats id (seat_after b.words (e.leads (finds b id)) (b.seats id))))
        (row_early id (b.seats id) b.words (b.seats id).place (finds b id) b.words.numbers.passed (b.seats id).late (met.going id at.there))

    met_after : IsMet z t
    met_after = met_step z b t id at.shows.few at.there met step early

    -- what lies under the lock stays while this seat doesn't hold it
    pub guarded_stays : holds a.place ≡ 0 → guarded_in t.words ≡ guarded_in world.words
    guarded_stays free = guarded_left z b t id at.there met step (ap (λ (y : ListSeat). holds y.place) (put_here world.seats id a) ∙ free)

    -- and while the lock is free the record is as it was
    pub home_stays : world.words.lock ≡ 0 → AtHome z t.words homes
    home_stays free =
        let mine : holds a.place ≡ 0 = (let l = laws.lawful.lock in let one = total_has z.seats (λ j. holds (b.seats j).place) id at.there in
        let here = ap (λ (y : ListSeat). holds y.place) (put_here world.seats id a) in omega arith) in
        let home = at.shows.home free in (home.0, home.1, subst (IsRecord z home.0) (sym (guarded_stays mine)) home.2)

    -- what another seat knows
    knows_else : (u : OneSeat) → u.number ≢ id → u.number < z.seats → Knows z u.number u.knows world → Knows z u.number u.knows t
    knows_else u ne low o = record {
      meets = the_list_paths.others z.first z.seats b t id u.number u.knows.sight at.there ne step met_before;
      held = λ one. o.held one
          ∙ sym (guarded_left z b t id at.there met step (((the_list_accounts.alone z.first z.seats b laws.invariant u.number low).0
          (ap (λ (y : ListSeat). holds y.place) met_before.stands ∙ one)).alone id at.there (λ q. ne (sym q))));
    }
      where
        met_before : Meets (watched z) b u.number u.knows.sight
        met_before = met_else u.number u.knows.sight ne o.meets

    word_after : (w : ListWord) → IsThere z w → slice_index (set words i x) (address w) ≡ found t.words w
    word_after w h =
        let k : ℕ = finds b id in let o = written_word b.words t.words.numbers t.words.queue t.words.gone e.word w (e.becomes k) in
        let l = inside z e.word fits.there in
        dite (ℕ_discrete (address w) i)
        (λ q. ap (λ y. get_or (set words i x) y 0) q ∙ get_or-set_same words i x 0 (let y = at.shows.wide in let f = fits.word in omega arith)
        ∙ fits.becomes ∙ ap e.becomes read_is ∙ sym (o.0 (q ∙ sym fits.word)))
        (λ ne. get_or-set_other words i (address w) x 0 ne ∙ at.shows.words w h ∙ sym (o.1 (λ q. ne (q ∙ fits.word))))

    pub lock_is : t.words.lock ≡ slice_index (set words i x) 2
    lock_is = sym (word_after Lock tt)

    -- the seat after the row
    abbrev pub after : OneSeat
    after = record {
      number = m.0.own.number;
      knows = record m.0.own.knows {
        sight = sight (watched m.0.own.knows.setting) (turned (with_seat world m.0.own.number a) m.0.own.number) m.0.own.number;
        queue = (turned (with_seat world m.0.own.number a) m.0.own.number).words.queue;
        passed = (turned (with_seat world m.0.own.number a) m.0.own.number).words.numbers.passed;
        gone = (turned (with_seat world m.0.own.number a) m.0.own.number).words.numbers.gone;
      };
      gone = m.0.own.gone ++ row_stride m.0.own.knows.setting.first m.0.own.knows.setting.seats (with_seat world m.0.own.number a) m.0.own.number ∷ [];
    }

    pub went : Went list_rows (standing a) runs m.0.own (slice_index words i) after
    went = record {
      stride = row_stride z.first z.seats b id;
      ran = record {
        world = b;
        meets = meets;
        stood = meets.stands;
        seen = refl;
        did = record { can = runs_here.can; read_is = refl; told_is = journal_told id (effect_of b id) b.journal; leads = refl };
      };
      did = refl;
      read = sym read_is;
      also = record {
        held = knows.held;
        left = refl;
        met = met;
        lands = record { world = t; met = met_after; sees = refl; guarded = refl };
        there = at.there;
      };
      one = refl;
      same = (refl, refl);
    }

    pub leads : (act : Act Record) (then : Me → Type 0) → Valid homes m.1 act → length (homes_after homes m.1 act) ≡ 1
        → (t.words.lock ≡ 0 → AtHome z t.words (homes_after homes m.1 act)) → then (becomes list_rows m after (carried_after m.1 act))
        → Leads list_rows z m world words homes i x then
    leads act then valid deep home tells = record {
      next = t;
      own = after;
      act = act;
      valid = valid;
      shows = record {
        met = met_after;
        words = word_after;
        home = home;
        wide = length-set words i x ∙ at.shows.wide;
        deep = deep;
        few = at.shows.few;
      };
      same = refl;
      of_is = refl;
      knows = record {
        meets = meets_sight (watched z) t id met_after.reached;
        held = λ h. refl;
      };
      on = inr (row_stride z.first z.seats b id, refl, refl, journal_told id (effect_of b id) b.journal);
      others = knows_else;
      tells = tells;
    }
