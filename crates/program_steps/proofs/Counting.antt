-- A step adds at most one to the turns of its seat and to the tickets of a list, and takes no counter above 32 bits.
use Rattle.std.proofs.Common.{◌≡◌, cond, Bool, true, false, ◌≢◌, ℕ, ◌+◌, ◌<◌, ◌≤◌, IsTrue, List, [], ◌∷◌, length, refl, sym, ap, ◌∙◌, subst}
use Rattle.std.proofs.Common.{arith, length-append}
use Rattle.std.specs.Prelude.{eqb, Option, Some, None, Result, Ok, Err, slice_get, slice_index_or}
use Rattle.std.proofs.lemmas.Option.{none-some, cond_some}
use Rattle.waiters.specs.declared.wait.WaitId.{WaitId}
use Rattle.program_code.specs.declared.instruction.Instruction.{Instruction}
use Rattle.program_code.specs.declared.program.CodeLine.{CodeLine}
use Rattle.program_code.specs.declared.program.Program.{Program}
use Rattle.program_steps.specs.declared.failure.Failure.{Failure}
use Rattle.program_steps.specs.declared.stand.Stand.{Stand}
use Rattle.program_steps.specs.declared.stand.Stand.TheVariants.{Before, Within, Asleep, Ended, FailedAt}
use Rattle.program_steps.specs.World.{ProgramWorld, layer_of, code_of}
use Rattle.program_steps.specs.Calls.{call_of}
use Rattle.program_steps.specs.Counting.{CountsAtMost}
use Rattle.program_steps.specs.Steps.{Did, given_up, is_first, layer_row, first_row, row_before, row_at, StepsTo, Reaches, start, step}
use Rattle.program_code.specs.WellFormed.{IsWellFormed, IsLine}
use Rattle.program_steps.proofs.Calling.{AllowedIf, may_begin}
use Rattle.program_steps.proofs.Fitting.{Fits, FitsIf, fits_line}
use Rattle.program_steps.proofs.Layers.{IsAtRest, Keeps, told, line_same, awoken_same, all_keep, all_in_reach}
use Rattle.program_steps.proofs.Staying.{StaysIn, AllStay, IsStaying, calls_stay}
use Rattle.step_law_lists.specs.ListInvariant.{IsListInvariant}
use Rattle.step_law_lists.specs.ListLawful.{told as told_by, leaves}
use Rattle.step_law_lists.proofs.ListJournals.{few_gone}
use Rattle.step_law_lists.proofs.ListKeeping.{list_reached}
use Rattle.step_law_semaphores.proofs.Cases.{step_of}
use Rattle.step_law_semaphores.proofs.Lines.{Line, begin_acquire, begin_enter, begin_release, begin_many, a2_won, a6_won, a11_won, r1, r8_won, m1}
use Rattle.step_law_semaphores.proofs.Lines.{Post, r9, r10, m7_last, m7_more, Step, own, post}
use Rattle.step_law_whole.specs.CoreLaw.{IsCallBefore, IsStanding, IsCoreInvariant}
use Rattle.step_law_whole.specs.RunInvariant.{to_add}
use Rattle.step_law_whole.proofs.CoreCalling.{calls_keep}
use Rattle.step_law_whole.proofs.RunChanges.{at_each}
use Rattle.step_table.specs.declared.call.Call.{Call}
use Rattle.step_table.specs.declared.call.Call.TheVariants.{Acquire, Release, ReleaseMany, Add, Wait, One, All}
use Rattle.step_table.specs.declared.effect.Effect.{Effect}
use Rattle.step_table.specs.declared.list_place.ListEffect.{ListEffect}
use Rattle.step_table.specs.declared.list_place.ListEffect.TheVariants.{HandsOut}
use Rattle.step_table.specs.declared.list_place.ListPlace.{ListPlace}
use Rattle.step_table.specs.declared.list_place.ListPlace.TheVariants as on_list
use Rattle.step_table.specs.declared.place.AcquireRow.TheVariants.{A1}
use Rattle.step_table.specs.declared.place.ManyRow.TheVariants.{M1}
use Rattle.step_table.specs.declared.place.Place.{Place}
use Rattle.step_table.specs.declared.place.Place.TheVariants.{Rest, Acquiring, Releasing, ReleasingMany}
use Rattle.step_table.specs.declared.place.ReleaseRow.TheVariants.{R1}
use Rattle.step_table.specs.declared.standing.After.{After}
use Rattle.step_table.specs.declared.standing.After.TheVariants.{Closes}
use Rattle.step_table.specs.declared.standing.Ending.TheVariants.{NextCall}
use Rattle.step_table.specs.declared.standing.Standing.{Standing}
use Rattle.step_table.specs.declared.standing.Standing.TheVariants as doing
use Rattle.step_table.specs.World.{Layout, Words, SeatState, SemaWorld, put}
use Rattle.step_table.specs.Counting.{on, counter_at}
use Rattle.step_table.specs.ListWorld.{ListWorld, Numbers, numbers_after}
use Rattle.step_table.specs.ListSteps as list
use Rattle.step_table.specs.Steps.{can_turn, turned, moved}
use Rattle.step_table.specs.Steps as steps
use Rattle.step_table.specs.Core.{CoreLayout, Core, counters_of, first_core}
use Rattle.step_table.specs.CoreSteps.{stands, at_counter, calls, can_run, core_turned, row_of_standing, counter_row, list_row, after_counter, after_list}
use Rattle.step_table.specs.CoreSteps.{on_counter_row, on_list_row}
use Rattle.step_table.proofs.Sums.{put_at, put_here, put_else, on_here, on_else, on_zero, up_by}

-- what a row does to the turn of its seat, to its place, and to the numbers
record IsRow (p q : SeatState) (g h : Words) : Type 0 where
  turn : q.turn ≤ p.turn + 1
  none : to_add q.place ≡ 0
  numbers : (c : ℕ) → h.numbers c ≤ g.numbers c + on (counter_at p.place) c (to_add p.place)

-- one unit was taken
taken : (f : ℕ → ℕ) (d n m c : ℕ) → f d ≡ n + 1 → put f d n c ≤ f c + m
taken f d n m c is = put_at (λ c x. x ≤ f c + m) f d n c (omega arith) (λ ne. omega arith)

line_row : {m : Layout} {i : ℕ} {g h : Words} {p q : SeatState} {e : Effect} → Line m i g p q h e → p.place ≢ Rest → IsRow p q g h
line_row (begin_acquire _) awake = absurd (awake refl)
line_row (begin_enter _) awake = absurd (awake refl)
line_row (begin_release _) awake = absurd (awake refl)
line_row (begin_many _ _ _) awake = absurd (awake refl)
line_row {g = g} (a2_won {a = a} {n = n} is) awake =
    record { turn = omega arith; none = refl; numbers = λ c. taken g.numbers a.counter n _ c (omega arith) }
line_row {g = g} (a6_won {a = a} {n = n} is) awake =
    record { turn = omega arith; none = refl; numbers = λ c. taken g.numbers a.counter n _ c (omega arith) }
line_row {g = g} (a11_won {a = a} {n = n} is) awake =
    record { turn = omega arith; none = refl; numbers = λ c. taken g.numbers a.counter n _ c (omega arith) }
line_row {g = g} (r8_won {r = r} {n = n} is) awake =
    record { turn = omega arith; none = refl; numbers = λ c. taken g.numbers r.counter n _ c (omega arith) }
line_row {g = g} (r1 {r = r}) awake =
    record { turn = omega arith; none = refl; numbers = λ c. let up = up_by 1 g.numbers r.counter _ c refl in omega arith }
line_row {g = g} (m1 {r = r}) awake =
    record { turn = omega arith; none = refl; numbers = λ c. let up = up_by r.units g.numbers r.counter _ c refl in omega arith }
line_row _ awake = record { turn = omega arith; none = refl; numbers = λ c. omega arith }

post_row : {p q : SeatState} {c x : ℕ} {w : WaitId} → Post p q c w x → (q.turn ≤ p.turn + 1) × (to_add q.place ≡ 0)
post_row r9 = (omega arith, refl)
post_row r10 = (omega arith, refl)
post_row m7_last = (omega arith, refl)
post_row m7_more = (omega arith, refl)

-- the semaphores after n steps: no seat is about to add to a counter
record AreFew (n : ℕ) (s : SemaWorld) : Type 0 where
  turns : (k : ℕ) → (s.seats k).turn ≤ n
  none : (k : ℕ) → to_add (s.seats k).place ≡ 0
  numbers : (c : ℕ) → s.words.numbers c < 4294967296

-- and before a row of seat i, which may add where that fits
record AreReady (n i : ℕ) (s : SemaWorld) : Type 0 where
  turns : (k : ℕ) → (s.seats k).turn ≤ n
  none : (k : ℕ) → k ≢ i → to_add (s.seats k).place ≡ 0
  fits : (c : ℕ) → s.words.numbers c + on (counter_at (s.seats i).place) c (to_add (s.seats i).place) < 4294967296

ready : (n i : ℕ) (s : SemaWorld) → AreFew n s → AreReady n i s
ready n i s few = record {
  turns = few.turns;
  none = λ k ne. few.none k;
  fits = λ c.
      let zero = ap (on (counter_at (s.seats i).place) c) (few.none i) in
      let none = on_zero (counter_at (s.seats i).place) c in let now = few.numbers c in omega arith;
}

step_few : (n i : ℕ) {m : Layout} {s t : SemaWorld} → AreReady n i s → (s.seats i).place ≢ Rest → Step m s i t → AreFew (n + 1) t
step_few n i {s = s} before awake (own {q = q} line) =
    let row = line_row line awake in record {
      turns = λ k. put_at (λ k (z : SeatState). z.turn ≤ n + 1) s.seats i q k
          (let a = row.turn in let b = before.turns i in omega arith) (λ ne. let b = before.turns k in omega arith);
      none = λ k. put_at (λ k (z : SeatState). to_add z.place ≡ 0) s.seats i q k row.none (λ ne. before.none k ne);
      numbers = λ c. let a = row.numbers c in let b = before.fits c in omega arith;
    }
step_few n i {s = s} before awake (post {q = q} line) =
    let row = post_row line in record {
      turns = λ k. put_at (λ k (z : SeatState). z.turn ≤ n + 1) s.seats i q k
          (let a = row.0 in let b = before.turns i in omega arith) (λ ne. let b = before.turns k in omega arith);
      none = λ k. put_at (λ k (z : SeatState). to_add z.place ≡ 0) s.seats i q k row.1 (λ ne. before.none k ne);
      numbers = λ c. let b = before.fits c in omega arith;
    }

-- the numbers of a list after an effect
hands_one : (e : ListEffect) (n : Numbers) → (numbers_after e n).handed ≤ n.handed + 1
hands_one (HandsOut t) n = omega arith
hands_one _ n = omega arith

-- a layer after n steps
record IsFew (n : ℕ) (s : Core) : Type 0 where
  semaphores : AreFew n s.semaphores
  handed : (l : ℕ) → (s.lists l).words.numbers.handed ≤ n

-- and before a row of seat i
record IsReady (n i : ℕ) (s : Core) : Type 0 where
  semaphores : AreReady n i s.semaphores
  handed : (l : ℕ) → (s.lists l).words.numbers.handed ≤ n

module _ (m : CoreLayout) (n i : ℕ) (below : i < m.seats) where
  -- no call begins in one of its rows
  same_counters : (s : Core) (before place : Place) → (after_counter m s i (Closes NextCall) before place).semaphores ≡ s.semaphores
  same_counters s before Rest = refl
  same_counters s before _ = refl

  same_lists : (s : Core) (before place : Place) → (after_counter m s i (Closes NextCall) before place).lists ≡ s.lists
  same_lists s before Rest = refl
  same_lists s before _ = refl

  list_ends : (s : Core) (l : ℕ) (before place : ListPlace)
      → ((after_list s i l NextCall before place).semaphores ≡ s.semaphores) × ((after_list s i l NextCall before place).lists ≡ s.lists)
  list_ends s l before on_list.Rest = (refl, refl)
  list_ends s l before _ = (refl, refl)

  module _ (s : Core) (inv : IsCoreInvariant m s) (before : IsReady n i s) where
    counter_few : IsCallBefore m (Closes NextCall) (s.semaphores.seats i).place → IsTrue (can_turn m.root s.semaphores i)
        → IsFew (n + 1) (on_counter_row m s i (Closes NextCall))
    counter_few call can =
        let t : SemaWorld = turned m.root s.semaphores i in
        let p : Place = (s.semaphores.seats i).place in
        let turn : steps.Step (counters_of m) s.semaphores i t = steps.turn (record { can = can; is = refl }) in
        let few = step_few n i before.semaphores call.0
        (step_of (counters_of m) s.semaphores t i (inv.semaphores.seats i) (inv.semaphores.finds i below) turn) in
        record {
          semaphores = subst (AreFew (n + 1)) (sym (same_counters (counter_row m s i) p (t.seats i).place)) few;
          handed = λ l. rw (same_lists (counter_row m s i) p (t.seats i).place) (let h = before.handed l in omega arith);
        }

    list_few : (l : ℕ) → (s.semaphores.seats i).place ≡ Rest → IsFew (n + 1) (on_list_row s i l NextCall)
    list_few l off =
        let t : ListWorld = list.turned (s.lists l) i in
        let p : ListPlace = ((s.lists l).seats i).place in
        let q : ListPlace = (((list_row s i l).lists l).seats i).place in
        record {
          semaphores = subst (AreFew (n + 1)) (sym (list_ends (list_row s i l) l p q).0) (record {
            turns = λ k. let h = before.semaphores.turns k in omega arith;
            none = at_each (λ k. to_add (s.semaphores.seats k).place ≡ 0) i (ap to_add off) (λ k ne. before.semaphores.none k ne);
            numbers = λ c. let h = before.semaphores.fits c in omega arith;
          });
          handed = λ k. rw (list_ends (list_row s i l) l p q).1
              (put_at (λ k (w : ListWorld). w.words.numbers.handed ≤ n + 1) s.lists l t k
              (let a = hands_one (list.effect_of (s.lists l) i) (s.lists l).words.numbers in let b = before.handed l in omega arith)
              (λ ne. let b = before.handed k in omega arith));
        }

    row_few : (standing : Standing) → StaysIn standing → IsStanding m s i standing → IsTrue (can_run m s i standing)
        → IsFew (n + 1) (row_of_standing m s i standing)
    row_few doing.Rest stays is can = cc
    row_few (doing.AtCounter (Closes NextCall)) stays is can = counter_few is.0 can
    row_few (doing.AtList l NextCall) stays is can = list_few l is.0
    row_few _ stays is can = absurd stays

    turned_few : StaysIn (s.standing i) → IsTrue (can_run m s i (s.standing i)) → IsFew (n + 1) (core_turned m s i)
    turned_few stays can = row_few (s.standing i) stays (inv.standing i) can

-- a call that seat i begins
added_fits : (f : ℕ → ℕ) (d m : ℕ) → ((c : ℕ) → f c < 4294967296) → f d + m < 4294967296 → (c : ℕ) → f c + on d c m < 4294967296
added_fits f d m few fits = at_each (λ c. f c + on d c m < 4294967296) d (let here = on_here d m in omega arith)
    (λ c ne. let none = on_else d c m (λ e. ne (sym e)) in let less = few c in omega arith)

module _ (n i : ℕ) (s : Core) (few : IsFew n s) where
  moved_ready : (place : Place) → ((c : ℕ) → s.semaphores.words.numbers c + on (counter_at place) c (to_add place) < 4294967296)
      → AreReady n i (moved s.semaphores i place)
  moved_ready place fits =
      let seat : SeatState = record (s.semaphores.seats i) { place = place } in
      record {
        turns = λ k. put_at (λ k (z : SeatState). z.turn ≤ n) s.semaphores.seats i seat k (few.semaphores.turns i) (λ ne. few.semaphores.turns k);
        none = λ k ne. ap (λ (z : SeatState). to_add z.place) (put_else s.semaphores.seats i seat k ne) ∙ few.semaphores.none k;
        fits = λ c. subst (λ (z : SeatState). s.semaphores.words.numbers c + on (counter_at z.place) c (to_add z.place) < 4294967296)
            (sym (put_here s.semaphores.seats i seat)) (fits c);
      }

  on_counter : (place : Place) → ((c : ℕ) → s.semaphores.words.numbers c + on (counter_at place) c (to_add place) < 4294967296)
      → (after : After) → IsReady n i (at_counter s i place after)
  on_counter place fits after = record { semaphores = moved_ready place fits; handed = few.handed }

  on_list_ready : (l : ℕ) (w : ListWorld) → w.words.numbers.handed ≡ (s.lists l).words.numbers.handed
      → IsReady n i (stands (record s { lists = put s.lists l w }) i (doing.AtList l NextCall))
  on_list_ready l w same = record {
    semaphores = ready n i s.semaphores few.semaphores;
    handed = λ k. put_at (λ k (w : ListWorld). w.words.numbers.handed ≤ n) s.lists l w k
        (let h = few.handed l in omega arith) (λ ne. few.handed k);
  }

  as_it_is : IsReady n i s
  as_it_is = record { semaphores = ready n i s.semaphores few.semaphores; handed = few.handed }

  called_ready : (call : Call) → IsStaying call → Fits s call → IsReady n i (calls s i call)
  called_ready (Acquire c lifo) is fits = on_counter (Acquiring _ A1) (λ d. let none = on_zero c d in let less = few.semaphores.numbers d in omega arith) (Closes NextCall)
  called_ready (Release c handoff) is fits = on_counter (Releasing _ R1) (added_fits s.semaphores.words.numbers c 1 few.semaphores.numbers fits) (Closes NextCall)
  called_ready (ReleaseMany c m) is fits = on_counter (ReleasingMany _ M1) (added_fits s.semaphores.words.numbers c m few.semaphores.numbers fits) (Closes NextCall)
  called_ready (Add l) is fits = on_list_ready l _ refl
  called_ready (Wait l) is fits = on_list_ready l _ refl
  called_ready (One l) is fits = on_list_ready l _ refl
  called_ready (All l) is fits = on_list_ready l _ refl
  called_ready _ is fits = absurd is

module _ (p : Program) (formed : IsWellFormed p) where
  module _ (s : ProgramWorld) (i : ℕ) (below : i < length p.seats) (keeps : Keeps p s) (n : ℕ) (few : IsFew n s.layer) where
    later : IsFew (n + 1) s.layer
    later = record {
      semaphores = record {
        turns = λ k. let h = few.semaphores.turns k in omega arith;
        none = few.semaphores.none;
        numbers = few.semaphores.numbers;
      };
      handed = λ l. let h = few.handed l in omega arith;
    }

    same : (did : Did) → did.world.layer ≡ s.layer → IsFew (n + 1) did.world.layer
    same did is = subst (IsFew (n + 1)) (sym is) later

    -- who gives its call up changes no number
    settled_few : (t : Core) → IsFew (n + 1) t → (b : Bool) → is_first (t.semaphores.seats i).place ≡ b → IsFew (n + 1) (cond b (given_up i t) t)
    settled_few t so true first =
        let seat : SeatState = record (t.semaphores.seats i) { place = Rest } in record {
          semaphores = record {
            turns = λ k. put_at (λ k (z : SeatState). z.turn ≤ n + 1) t.semaphores.seats i seat k (so.semaphores.turns i)
                (λ ne. so.semaphores.turns k);
            none = λ k. put_at (λ k (z : SeatState). to_add z.place ≡ 0) t.semaphores.seats i seat k refl
                (λ ne. so.semaphores.none k);
            numbers = so.semaphores.numbers;
          };
          handed = so.handed;
        }
    settled_few t so false first = so

    layer_few : (k : ℕ) (c : Core) → IsCoreInvariant (layer_of p) c → AllStay c → IsReady n i c
        → (did : Did) → layer_row (layer_of p) s i k c ≡ Some did → IsFew (n + 1) did.world.layer
    layer_few k c inv stay before did is =
        let so = cond_some (can_run (layer_of p) c i (c.standing i)) _ did is in
        subst (λ (d : Did). IsFew (n + 1) d.world.layer) so.1
        (settled_few (core_turned (layer_of p) c i) (turned_few (layer_of p) n i below c inv before (stay.standing i) so.0)
        (is_first ((core_turned (layer_of p) c i).semaphores.seats i).place) refl)

    first_few : (k : ℕ) (l : Instruction) → s.layer.standing i ≡ doing.Rest
        → (call : Option (Result Call Failure)) → AllowedIf p s i call → FitsIf s.layer call
        → (did : Did) → first_row (layer_of p) s i k l call ≡ Some did → IsFew (n + 1) did.world.layer
    first_few k l rest None may fits did e = same did (line_same s i k l did e)
    first_few k l rest (Some (Ok call)) may fits did e =
        layer_few k (calls s.layer i call) (calls_keep (layer_of p) s.layer i call below keeps.layer rest may.0)
        (calls_stay s.layer i keeps.stay call may.1) (called_ready n i s.layer few call may.1 fits) did e
    first_few k l rest (Some (Err why)) may fits did e = same did (told s i _ did refl e)

    before_few : (k : ℕ) (line : Option CodeLine) → slice_get (code_of p i) k ≡ line → s.layer.standing i ≡ doing.Rest
        → (did : Did) → row_before (layer_of p) s i k line ≡ Some did → IsFew (n + 1) did.world.layer
    before_few k None here rest did e = absurd (none-some did e)
    before_few k (Some l) here rest did e =
        let is : IsLine p (length (code_of p i)) l.instruction =
        formed.codes (slice_index_or p.seats i 0) k l here in
        first_few k l.instruction rest (call_of s i l.instruction)
        (may_begin p s i (length (code_of p i)) l.instruction is) (fits_line s i l.instruction) did e

    stand_few : (stand : Stand) → IsAtRest s i stand → (did : Did) → row_at p s i stand ≡ Some did → IsFew (n + 1) did.world.layer
    stand_few (Before k) rest did e = before_few k (slice_get (code_of p i) k) refl rest did e
    stand_few (Within k) rest did e = layer_few k s.layer keeps.layer keeps.stay (as_it_is n i s.layer few) did e
    stand_few (Asleep k) rest did e = same did (awoken_same s i (eqb (s.grants i) 0) _ did refl e)
    stand_few Ended rest did e = absurd (none-some did e)
    stand_few (FailedAt k why) rest did e = absurd (none-some did e)

    steps_few : (t : ProgramWorld) → StepsTo p s i t → IsFew (n + 1) t.layer
    steps_few t to = subst (IsFew (n + 1)) (sym to.layer) (stand_few (s.seats i).stand (keeps.resting i below) to.did to.is)

  module _ (starts : (c : ℕ) → slice_index_or p.counters c 0 < 4294967296) where
    first_few_counts : IsFew 0 (first_core (layer_of p))
    first_few_counts = record {
      semaphores = record { turns = λ k. omega arith; none = λ k. refl; numbers = starts };
      handed = λ l. omega arith;
    }

    all_few : (schedule : List ℕ) (s : ProgramWorld) → Reaches p schedule s → IsFew (length schedule) s.layer
    all_few schedule s (start is) = subst (IsFew 0) (sym is.layer) first_few_counts
    all_few schedule s (step {past = past} {s = r} i below reached to) =
        subst (λ n. IsFew n s.layer) (sym (length-append past (i ∷ [])))
        (steps_few r i below (all_keep p formed past r reached) (length past) (all_few past r reached) s to)

    -- the numbers of each reached world
    module _ (small : length p.seats ≤ 9223372036854775808) (schedule : List ℕ) (s : ProgramWorld) (reached : Reaches p schedule s) where
      keeps : Keeps p s
      keeps = all_keep p formed schedule s reached

      kept_list : (l : ℕ) → IsListInvariant 0 (length p.seats) (s.layer.lists l)
      kept_list l = list_reached 0 (length p.seats) (s.layer.lists l) (all_in_reach p formed small s keeps l) (keeps.layer.lists l)

      none_gone : (l : ℕ) (gone : List ℕ) → length gone ≤ leaves (s.layer.lists l).journal → gone ≡ []
      none_gone l [] few = refl
      none_gone l (n ∷ gone) few = absurd (let none = keeps.stay.journals l in omega arith)

      pub counts_at_most : CountsAtMost (length schedule) s.layer
      counts_at_most =
          let few = all_few schedule s reached in
          record {
            turns = few.semaphores.turns;
            handed = few.handed;
            passed = λ l. (kept_list l).words.2;
            gone = λ l.
                ap (λ (n : Numbers). n.gone) (kept_list l).numbers
                ∙ none_gone l (told_by (s.layer.lists l).journal).gone (few_gone (s.layer.lists l).journal);
            numbers = few.semaphores.numbers;
          }
