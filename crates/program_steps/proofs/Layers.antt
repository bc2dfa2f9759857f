-- In every world of a lock program the layer keeps its invariant, and a seat that is in no call of it is at rest there.
use Rattle.std.proofs.Common.{◌≡◌, ◌≢◌, ℕ, ◌<◌, ◌≤◌, Bool, true, false, List, length, refl, sym, ap, ◌∙◌, subst, inr, arith}
use Rattle.std.specs.Prelude.{cond, eqb, Option, Some, None, Result, Ok, Err, slice_get, slice_index_or, ⊤}
use Rattle.std.proofs.lemmas.Option.{none-some, cond_some, same_Some}
use native.Mathlib.Decide.{ℕ_discrete}
use Rattle.program_code.specs.declared.instruction.Instruction.{Instruction}
use Rattle.program_code.specs.declared.instruction.Instruction.TheVariants as line
use Rattle.program_code.specs.declared.program.CodeLine.{CodeLine}
use Rattle.program_code.specs.declared.program.Program.{Program}
use Rattle.program_steps.specs.declared.failure.Failure.{Failure}
use Rattle.program_steps.specs.Numbers.{holds}
use Rattle.std.specs.Ordering.{int_eq}
use Rattle.program_steps.specs.declared.stand.Stand.{Stand}
use Rattle.program_steps.specs.declared.stand.Stand.TheVariants.{Before, Within, Asleep, Ended, FailedAt}
use Rattle.program_steps.specs.World.{ProgramWorld, ProgramSeat, layer_of, code_of}
use Rattle.program_steps.specs.Reading.{value, place_of}
use Rattle.program_steps.specs.Calls.{call_of}
use Rattle.program_steps.specs.Steps.{Then, OnFromNext, Stands, Fails, Did, on_word, row_of_line, after_call, layer_row, first_row}
use Rattle.program_steps.specs.Steps.{given_up, is_first}
use Rattle.program_steps.proofs.GivingUp.{given_up_kept, given_up_else, given_up_rests, given_up_stays}
use Rattle.program_steps.proofs.Staying.{AllStay, turned_stays, calls_stay}
use Rattle.program_steps.specs.Steps.{row_before, row_at, IsSeatAfter, StepsTo, IsStart, Reaches, start, step, at}
use Rattle.program_code.specs.WellFormed.{IsWellFormed, IsLine}
use Rattle.program_steps.proofs.Standing.{turned_else, calls_else}
use Rattle.program_steps.proofs.Calling.{AllowedIf, may_begin}
use Rattle.step_law_lists.proofs.ListEarly.{list_few}
use Rattle.step_law_lists.proofs.ListPromises.{the_list_law}
use Rattle.step_law_whole.specs.CoreLaw.{IsCoreInvariant, IsLawfulCore, AllInReach}
use Rattle.step_law_whole.proofs.CoreCalling.{core_at_first, calls_keep}
use Rattle.step_law_whole.proofs.CoreKeeping.{rows_keep}
use Rattle.step_law_whole.proofs.CoreEnding.{core_lawful}
use Rattle.step_table.specs.declared.call.Call.{Call}
use Rattle.step_table.specs.declared.standing.Standing.{Standing}
use Rattle.step_table.specs.declared.standing.Standing.TheVariants.{Rest, AtCounter, AtList, AtGroup, Left, Failed}
use Rattle.step_table.specs.Core.{Core}
use Rattle.step_table.specs.CoreSteps.{calls, can_run, core_turned}

-- the seat is at rest in the layer, but for one that is in a call of it
abbrev pub IsAtRest : ProgramWorld → ℕ → Stand → Type 0
IsAtRest s i (Within n) = ⊤
IsAtRest s i _ = s.layer.standing i ≡ Rest

rests : (s : ProgramWorld) (i : ℕ) (stand : Stand) → s.layer.standing i ≡ Rest → IsAtRest s i stand
rests s i (Before n) is = is
rests s i (Within n) is = tt
rests s i (Asleep n) is = is
rests s i Ended is = is
rests s i (FailedAt n why) is = is

-- a line's own row leaves the layer as it is, and so does one that takes the grant of a sleeper on a word
module _ (s : ProgramWorld) (i : ℕ) where
  on_word_same : (o : Option ℕ) (row : ℕ → Option Did) (did : Did)
      → ((w : ℕ) → row w ≡ Some did → did.world.layer ≡ s.layer)
      → on_word s o row ≡ Some did → did.world.layer ≡ s.layer
  on_word_same None row did each is = sym (ap (λ (d : Did). d.world.layer) (same_Some _ did is))
  on_word_same (Some w) row did each is = each w is

  pub told : (x did : Did) → x.world.layer ≡ s.layer → Some x ≡ Some did → did.world.layer ≡ s.layer
  told x did same is = sym (ap (λ (d : Did). d.world.layer) (same_Some x did is)) ∙ same

  either : (b : Bool) (x y did : Did) → x.world.layer ≡ s.layer → y.world.layer ≡ s.layer
      → cond b (Some x) (Some y) ≡ Some did → did.world.layer ≡ s.layer
  either true x y did one other is = told x did one is
  either false x y did one other is = told y did other is

  pub line_same : (n : ℕ) (l : Instruction) (did : Did) → row_of_line s i n l ≡ Some did → did.world.layer ≡ s.layer
  line_same n (line.Load w r) did is = on_word_same (place_of i (s.seats i).registers w) _ did (λ w e. told _ did refl e) is
  line_same n (line.Store w e) did is = on_word_same (place_of i (s.seats i).registers w) _ did (λ w e. told _ did refl e) is
  line_same n (line.Swap w e r) did is = on_word_same (place_of i (s.seats i).registers w) _ did (λ w e. told _ did refl e) is
  line_same n (line.Add w e r) did is = on_word_same (place_of i (s.seats i).registers w) _ did (λ w e. told _ did refl e) is
  line_same n (line.Exchange w e f r) did is =
      on_word_same (place_of i (s.seats i).registers w) _ did (λ w e. told _ did refl e) is
  line_same n (line.Await w rel e r) did is =
      on_word_same (place_of i (s.seats i).registers w) _ did
      (λ k here. let so = cond_some (holds rel (s.words k) (value i (s.seats i).registers e)) _ did here in
      sym (ap (λ (d : Did). d.world.layer) so.1)) is
  line_same n (line.Park w e) did is =
      on_word_same (place_of i (s.seats i).registers w) _ did
      (λ k here. either (int_eq (s.words k) (value i (s.seats i).registers e)) _ _ did refl refl here) is
  line_same n (line.Unpark w e) did is = on_word_same (place_of i (s.seats i).registers w) _ did (λ w e. told _ did refl e) is
  line_same n (line.Out k) did is = told _ did refl is
  line_same n (line.Acquire c lifo) did is = absurd (none-some did is)
  line_same n (line.Release c units) did is = absurd (none-some did is)
  line_same n (line.Ticket l) did is = absurd (none-some did is)
  line_same n (line.Wait l) did is = absurd (none-some did is)
  line_same n (line.One l) did is = absurd (none-some did is)
  line_same n (line.All l) did is = absurd (none-some did is)
  line_same n (line.Let r e) did is = absurd (none-some did is)
  line_same n (line.Compute r e op f) did is = absurd (none-some did is)
  line_same n (line.If e rel f to) did is = absurd (none-some did is)
  line_same n (line.Goto to) did is = absurd (none-some did is)
  line_same n (line.In k) did is = absurd (none-some did is)
  line_same n (line.Ask k) did is = absurd (none-some did is)
  line_same n (line.Assert e rel f) did is = absurd (none-some did is)
  line_same n line.Fail did is = absurd (none-some did is)

  pub awoken_same : (b : Bool) (x did : Did) → x.world.layer ≡ s.layer → cond b None (Some x) ≡ Some did → did.world.layer ≡ s.layer
  awoken_same true x did same e = absurd (none-some did e)
  awoken_same false x did same e = told x did same e

module _ (p : Program) where
  pub record Keeps (s : ProgramWorld) : Type 0 where
    pub layer : IsCoreInvariant (layer_of p) s.layer
    pub stay : AllStay s.layer
    pub resting : (i : ℕ) → i < length p.seats → IsAtRest s i (s.seats i).stand

  module _ (formed : IsWellFormed p) (s : ProgramWorld) (i : ℕ) (below : i < length p.seats)
      (inv : IsCoreInvariant (layer_of p) s.layer) (stays : AllStay s.layer) where
    abbrev IsAfter : Did → Then → Type 0
    IsAfter did (Stands stand) = IsAtRest did.world i stand
    IsAfter did _ = did.world.layer.standing i ≡ Rest

    record Fine (did : Did) : Type 0 where
      pub layer : IsCoreInvariant (layer_of p) did.world.layer
      pub stay : AllStay did.world.layer
      pub others : (k : ℕ) → k ≢ i → did.world.layer.standing k ≡ s.layer.standing k
      pub after : IsAfter did did.next

    comes : (did : Did) (next : Then) → did.world.layer.standing i ≡ Rest → IsAfter did next
    comes did OnFromNext is = is
    comes did (Stands stand) is = rests did.world i stand is
    comes did (Fails why) is = is

    -- a row that leaves the layer as it is
    untouched : s.layer.standing i ≡ Rest → (did : Did) → did.world.layer ≡ s.layer → Fine did
    untouched rest did same = record {
      layer = subst (IsCoreInvariant (layer_of p)) (sym same) inv;
      stay = subst AllStay (sym same) stays;
      others = λ k ne. ap (λ (c : Core). c.standing k) same;
      after = comes did did.next (ap (λ (c : Core). c.standing i) same ∙ rest);
    }

    -- where a row of the layer has led
    led : (n : ℕ) (world : ProgramWorld) (standing : Standing) → world.layer.standing i ≡ standing
        → IsAfter (record { world = world; next = after_call n standing }) (after_call n standing)
    led n world Rest is = is
    led n world (AtCounter after) is = tt
    led n world (AtList l ending) is = tt
    led n world (AtGroup g row) is = tt
    led n world (Left skips) is = tt
    led n world (Failed misuse) is = tt

    -- who is to begin anew has given its call up
    settles : (n : ℕ) (t : Core) → IsCoreInvariant (layer_of p) t → AllStay t → ((k : ℕ) → k ≢ i → t.standing k ≡ s.layer.standing k)
        → (b : Bool) → is_first (t.semaphores.seats i).place ≡ b
        → Fine (record { world = record s { layer = cond b (given_up i t) t }; next = cond b (Stands (Before n)) (after_call n (t.standing i)) })
    settles n t kept staying same true first = record {
      layer = given_up_kept (layer_of p) t i below kept first;
      stay = given_up_stays (layer_of p) t i staying;
      others = λ k ne. given_up_else t i k ne ∙ same k ne;
      after = given_up_rests t i;
    }
    settles n t kept staying same false first = record {
      layer = kept;
      stay = staying;
      others = same;
      after = led n (record s { layer = t }) (t.standing i) refl;
    }

    layer_fine : (n : ℕ) (c : Core) → IsCoreInvariant (layer_of p) c → AllStay c
        → ((k : ℕ) → k ≢ i → c.standing k ≡ s.layer.standing k)
        → (did : Did) → layer_row (layer_of p) s i n c ≡ Some did → Fine did
    layer_fine n c kept staying same did is =
        let so = cond_some (can_run (layer_of p) c i (c.standing i)) _ did is in
        subst Fine so.1 (settles n (core_turned (layer_of p) c i) (rows_keep (layer_of p) c i below kept so.0)
        (turned_stays (layer_of p) c i staying)
        (λ k ne. turned_else (layer_of p) i k ne c ∙ same k ne) (is_first ((core_turned (layer_of p) c i).semaphores.seats i).place) refl)

    first_fine : (n lines : ℕ) (l : Instruction) → IsLine p lines l → s.layer.standing i ≡ Rest
        → (call : Option (Result Call Failure)) → AllowedIf p s i call
        → (did : Did) → first_row (layer_of p) s i n l call ≡ Some did → Fine did
    first_fine n lines l is rest None may did e = untouched rest did (line_same s i n l did e)
    first_fine n lines l is rest (Some (Ok call)) may did e =
        layer_fine n (calls s.layer i call) (calls_keep (layer_of p) s.layer i call below inv rest may.0)
        (calls_stay s.layer i stays call may.1)
        (λ k ne. calls_else (layer_of p) i k ne s.layer call) did e
    first_fine n lines l is rest (Some (Err why)) may did e = untouched rest did (told s i _ did refl e)

    before_fine : (n : ℕ) (line : Option CodeLine) → slice_get (code_of p i) n ≡ line → s.layer.standing i ≡ Rest
        → (did : Did) → row_before (layer_of p) s i n line ≡ Some did → Fine did
    before_fine n None here rest did e = absurd (none-some did e)
    before_fine n (Some l) here rest did e =
        let is : IsLine p (length (code_of p i)) l.instruction =
        formed.codes (slice_index_or p.seats i 0) n l here in
        first_fine n (length (code_of p i)) l.instruction is rest (call_of s i l.instruction)
        (may_begin p s i (length (code_of p i)) l.instruction is) did e

    row_fine : (stand : Stand) → IsAtRest s i stand → (did : Did) → row_at p s i stand ≡ Some did → Fine did
    row_fine (Before n) rest did e = before_fine n (slice_get (code_of p i) n) refl rest did e
    row_fine (Within n) rest did e = layer_fine n s.layer inv stays (λ k ne. refl) did e
    row_fine (Asleep n) rest did e = untouched rest did (awoken_same s i (eqb (s.grants i) 0) _ did refl e)
    row_fine Ended rest did e = absurd (none-some did e)
    row_fine (FailedAt n why) rest did e = absurd (none-some did e)

  module _ (formed : IsWellFormed p) where
    module _ (s t : ProgramWorld) (i : ℕ) (below : i < length p.seats) (keeps : Keeps s) (to : StepsTo p s i t) where
      fine : Fine formed s i below keeps.layer keeps.stay to.did
      fine = row_fine formed s i below keeps.layer keeps.stay (s.seats i).stand (keeps.resting i below) to.did to.is

      -- the seat itself: it went on, or it stands where its row led, or it failed
      itself : (next : Then) → IsAfter formed s i below keeps.layer keeps.stay to.did next
          → IsSeatAfter p i (at (s.seats i).stand) (to.did.world.seats i) next (t.seats i)
          → IsAtRest to.did.world i (t.seats i).stand
      itself OnFromNext after seat = rests to.did.world i (t.seats i).stand after
      itself (Stands stand) after seat = subst (λ (x : ProgramSeat). IsAtRest to.did.world i x.stand) (sym seat) after
      itself (Fails why) after seat = rests to.did.world i (t.seats i).stand after

      moved_to : (w : ProgramWorld) (k : ℕ) (stand : Stand) → w.layer.standing k ≡ t.layer.standing k → IsAtRest w k stand → IsAtRest t k stand
      moved_to w k (Before n) same is = sym same ∙ is
      moved_to w k (Within n) same is = tt
      moved_to w k (Asleep n) same is = sym same ∙ is
      moved_to w k Ended same is = sym same ∙ is
      moved_to w k (FailedAt n why) same is = sym same ∙ is

      same_layer : (k : ℕ) → to.did.world.layer.standing k ≡ t.layer.standing k
      same_layer k = ap (λ (c : Core). c.standing k) (sym to.layer)

      each : (k : ℕ) → k < length p.seats → Dec (k ≡ i) → IsAtRest t k (t.seats k).stand
      each k under (yes e) =
          subst (λ j. IsAtRest t j (t.seats j).stand) (sym e)
          (moved_to to.did.world i (t.seats i).stand (same_layer i) (itself to.did.next fine.after to.seat))
      each k under (no ne) =
          subst (λ (x : ProgramSeat). IsAtRest t k x.stand) (sym (to.others k ne))
          (moved_to s k (s.seats k).stand (sym (fine.others k ne) ∙ same_layer k) (keeps.resting k under))

      steps_keep : Keeps t
      steps_keep = record {
        layer = subst (IsCoreInvariant (layer_of p)) (sym to.layer) fine.layer;
        stay = subst AllStay (sym to.layer) fine.stay;
        resting = λ k under. each k under (ℕ_discrete k i);
      }

    starts_keep : (s : ProgramWorld) → IsStart p s → Keeps s
    starts_keep s is = record {
      layer = subst (IsCoreInvariant (layer_of p)) (sym is.layer) (core_at_first (layer_of p));
      stay = subst AllStay (sym is.layer) (record { standing = λ k. tt; places = λ l k. tt; journals = λ l. refl });
      resting = λ i below. rests s i (s.seats i).stand (ap (λ (c : Core). c.standing i) is.layer);
    }

    -- what each reached world keeps
    pub all_keep : (schedule : List ℕ) (s : ProgramWorld) → Reaches p schedule s → Keeps s
    all_keep schedule s (start is) = starts_keep s is
    all_keep schedule s (step {s = r} i below reached to) = steps_keep r s i below (all_keep _ r reached) to

    module _ (few : length p.seats ≤ 9223372036854775808) where
      -- no ticket goes, and so there are never more tickets than seats that are neither granted nor gone
      pub all_in_reach : (s : ProgramWorld) → Keeps s → AllInReach s.layer
      all_in_reach s keeps l =
          list_few 0 (length p.seats) (s.layer.lists l) (keeps.layer.lists l) (inr (keeps.stay.journals l))
          (let none = keeps.stay.journals l in omega arith)

      -- the layer of each reached world is lawful
      pub layer_lawful : (schedule : List ℕ) (s : ProgramWorld) → Reaches p schedule s → IsLawfulCore (layer_of p) s.layer
      layer_lawful schedule s reached =
          let keeps = all_keep schedule s reached in core_lawful the_list_law.reached (layer_of p) s.layer (all_in_reach s keeps) keeps.layer
