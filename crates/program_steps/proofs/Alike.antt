-- Alike worlds behave alike: a row of a seat does the same where the layer is without what none of its rows looks at.
use Rattle.std.proofs.Common.{◌≡◌, ℕ, Bool, true, false, refl, sym, ap, ap₂, ◌∙◌, subst}
use Rattle.std.specs.Prelude.{cond, eqb, ◌||◌, Option, Some, None, Result, Ok, Err, option_map, slice_get, is_some}
use Rattle.std.proofs.lemmas.Option.{none-some, same_Some}
use Rattle.program_code.specs.declared.instruction.Instruction.{Instruction}
use Rattle.program_code.specs.declared.instruction.Instruction.TheVariants as line
use Rattle.program_code.specs.declared.program.CodeLine.{CodeLine}
use Rattle.program_code.specs.declared.program.Program.{Program}
use Rattle.program_steps.specs.declared.failure.Failure.{Failure}
use Rattle.program_steps.specs.declared.failure.Failure.TheVariants.{Ticket as TicketFailure}
use Rattle.program_steps.specs.Numbers.{holds}
use Rattle.std.specs.Ordering.{int_eq}
use Rattle.program_steps.specs.declared.stand.Stand.{Stand}
use Rattle.program_steps.specs.declared.stand.Stand.TheVariants.{Before, Within, Asleep, Ended, FailedAt}
use Rattle.program_steps.specs.World.{ProgramWorld, ProgramSeat, layer_of, code_of}
use Rattle.program_steps.specs.Reading.{value, place_of}
use Rattle.program_steps.specs.Calls.{call_of}
use Rattle.program_steps.specs.Steps.{Then, OnFromNext, Stands, Fails, Did, on_word, row_of_line, after_call, layer_row, first_row}
use Rattle.program_steps.specs.Steps.{after_row, given_up, is_first, settled}
use Rattle.step_table.specs.declared.place.AcquireRow.TheVariants.{Parked}
use Rattle.step_table.specs.declared.place.Place.{Place}
use Rattle.step_table.specs.declared.place.Place.TheVariants.{Acquiring}
use Rattle.step_table.specs.declared.place.Place.TheVariants as on_counter
use Rattle.step_table.specs.Erased.{erased_place}
use Rattle.program_steps.specs.Steps.{row_before, row_at, row_of, at, IsSeatAfter, StepsTo}
use Rattle.program_steps.specs.declared.bad_kind.BadKind.{BadKind}
use Rattle.program_steps.specs.declared.bad_kind.BadKind.TheVariants.{Failed, Crowded, Together, Stuck, Final}
use Rattle.program_steps.specs.Bad.{HaveEnded, HasFailedAt}
use Rattle.program_steps.specs.Bad.{Breaks, BreaksAt, BreaksFirst, IsBadAs}
use Rattle.program_code.specs.declared.program.Asked.{Asked}
use Rattle.program_code.specs.declared.program.ProgramProperty.{ProgramProperty}
use Rattle.program_code.specs.declared.program.ProgramProperty.TheVariants.{Most, Apart, FinallyWord, FinallyCounter, Passed}
use Rattle.program_steps.specs.AlikeWorlds.{erased, AreAlike, BehaveAlike}
use Rattle.step_law_alike.specs.Alike.{erased_core}
use Rattle.step_law_alike.proofs.AlikeRows.{moved_erased, turn_can}
use Rattle.step_law_alike.proofs.AlikeCore.{erased_core_twice, erased_list_twice, calls_erased, row_seen, may_erased, may_on_list_erased}
use Rattle.step_law_lists.proofs.ListBlindness.{rows_are_blind}
use Rattle.step_law_lists.specs.ListBlind.{erased_list}
use Rattle.step_table.specs.declared.call.Call.{Call}
use Rattle.step_table.specs.declared.call.Call.TheVariants.{Add, Wait}
use Rattle.step_table.specs.declared.list_place.Ticket.{Ticket}
use Rattle.step_table.specs.declared.standing.Standing.{Standing}
use Rattle.step_table.specs.declared.standing.Standing.TheVariants.{Rest, AtCounter, AtList, AtGroup}
use Rattle.step_table.specs.declared.standing.Standing.TheVariants as doing
use Rattle.step_table.specs.ListErased.{erased_held}
use Rattle.step_table.specs.World.{put}
use Rattle.step_table.specs.Core.{CoreLayout, Core}
use Rattle.step_table.specs.CoreSteps.{calls, can_run, core_turned}

abbrev pub erased_did : Did → Did
erased_did d = record d { world = erased d.world }

abbrev pub seen : Option Did → Option Did
seen o = option_map erased_did o

-- the rows that don't touch the layer
module _ (s : ProgramWorld) (i n : ℕ) where
  abbrev with_layer : Core → ProgramWorld
  with_layer c = record s { layer = c }

  abbrev set_layer : Core → Did → Did
  set_layer c d = record d { world = record d.world { layer = c } }

  both : (o : Option ℕ) (c : Core) (row same : ℕ → Option Did)
      → ((w : ℕ) → seen (row w) ≡ option_map (set_layer (erased_core c)) (same w))
      → seen (on_word (with_layer c) o row) ≡ option_map (set_layer (erased_core c)) (on_word s o same)
  both None c row same each = refl
  both (Some w) c row same each = each w

  once : (b : Bool) (c : Core) (x y : Did) → erased_did x ≡ set_layer (erased_core c) y
      → seen (cond b (Some x) None) ≡ option_map (set_layer (erased_core c)) (cond b (Some y) None)
  once true c x y e = ap Some e
  once false c x y e = refl

  either : (b : Bool) (c : Core) (x y u v : Did) → erased_did x ≡ set_layer (erased_core c) u
      → erased_did y ≡ set_layer (erased_core c) v
      → seen (cond b (Some x) (Some y)) ≡ option_map (set_layer (erased_core c)) (cond b (Some u) (Some v))
  either true c x y u v one other = ap Some one
  either false c x y u v one other = ap Some other

  line_seen : (c : Core) (l : Instruction)
      → seen (row_of_line (with_layer c) i n l) ≡ option_map (set_layer (erased_core c)) (row_of_line s i n l)
  line_seen c (line.Load w r) = both (place_of i (s.seats i).registers w) c _ _ (λ w. refl)
  line_seen c (line.Store w e) = both (place_of i (s.seats i).registers w) c _ _ (λ w. refl)
  line_seen c (line.Swap w e r) = both (place_of i (s.seats i).registers w) c _ _ (λ w. refl)
  line_seen c (line.Add w e r) = both (place_of i (s.seats i).registers w) c _ _ (λ w. refl)
  line_seen c (line.Exchange w e f r) = both (place_of i (s.seats i).registers w) c _ _ (λ w. refl)
  line_seen c (line.Await w rel e r) =
      both (place_of i (s.seats i).registers w) c _ _
      (λ k. once (holds rel (s.words k) (value i (s.seats i).registers e)) c _ _ refl)
  line_seen c (line.Park w e) =
      both (place_of i (s.seats i).registers w) c _ _
      (λ k. either (int_eq (s.words k) (value i (s.seats i).registers e)) c _ _ _ _ refl refl)
  line_seen c (line.Unpark w e) = both (place_of i (s.seats i).registers w) c _ _ (λ w. refl)
  line_seen c (line.Out k) = refl
  line_seen c (line.Acquire k lifo) = refl
  line_seen c (line.Release k units) = refl
  line_seen c (line.Ticket l) = refl
  line_seen c (line.Wait l) = refl
  line_seen c (line.One l) = refl
  line_seen c (line.All l) = refl
  line_seen c (line.Let r e) = refl
  line_seen c (line.Compute r e op f) = refl
  line_seen c (line.If e rel f to) = refl
  line_seen c (line.Goto to) = refl
  line_seen c (line.In k) = refl
  line_seen c (line.Ask k) = refl
  line_seen c (line.Assert e rel f) = refl
  line_seen c line.Fail = refl

  rows_seen : (l : Instruction) → seen (row_of_line s i n l) ≡ seen (row_of_line (erased s) i n l)
  rows_seen l =
      line_seen s.layer l
      ∙ ap (λ c. option_map (set_layer c) (row_of_line s i n l)) (sym (erased_core_twice s.layer))
      ∙ sym (line_seen (erased_core s.layer) l)

-- turns aside a place is the first row of an acquire as it is
first_of_erased : (place : Place) → is_first place ≡ is_first (erased_place place)
first_of_erased (Acquiring a (Parked turn row)) = refl
first_of_erased _ = refl

-- the rows of the layer
module _ (m : CoreLayout) (i : ℕ) where
  can_seen : (c : Core) (standing : Standing) → can_run m c i standing ≡ can_run m (erased_core c) i standing
  can_seen c Rest = refl
  can_seen c (AtCounter after) = ap₂ (λ a b. a || b) (may_erased c.semaphores i after) (turn_can m.root c.semaphores i)
  can_seen c (AtList l ending) =
      ap₂ (λ a b. a || b) (may_on_list_erased (c.lists l) i ending)
      (rows_are_blind (c.lists l) (erased_list (c.lists l)) i (sym (erased_list_twice (c.lists l)))).0
  can_seen c (AtGroup g row) = refl
  can_seen c (doing.Left skips) = refl
  can_seen c (doing.Failed misuse) = refl

  module _ (c d : Core) (e : erased_core c ≡ erased_core d) where
    same_can : can_run m c i (c.standing i) ≡ can_run m d i (d.standing i)
    same_can =
        can_seen c (c.standing i) ∙ ap (λ (x : Core). can_run m x i (x.standing i)) e ∙ sym (can_seen d (d.standing i))

    same_turned : erased_core (core_turned m c i) ≡ erased_core (core_turned m d i)
    same_turned =
        row_seen m c i (c.standing i) ∙ ap (λ (x : Core). erased_core (core_turned m x i)) e
        ∙ sym (row_seen m d i (d.standing i))

    module _ (s : ProgramWorld) (n : ℕ) where
      abbrev led : Bool → Core → Option Did
      led b x = cond b (Some (record { world = record s { layer = settled i x }; next = after_row n i x })) None

      -- where it is settled whether the seat gives its call up
      abbrev settles : Bool → Core → Option Did
      settles up x = Some (record {
        world = record s { layer = cond up (given_up i x) x };
        next = cond up (Stands (Before n)) (after_call n (x.standing i));
      })

      settles_seen : (up : Bool) (x : Core) → seen (settles up x) ≡ settles up (erased_core x)
      settles_seen true x = ap (λ (c : Core). Some (record { world = record s { layer = c }; next = Stands (Before n) }))
          (λ j. record (erased_core x) {
            semaphores = moved_erased x.semaphores i on_counter.Rest j;
            standing = put x.standing i Rest;
          })
      settles_seen false x = refl

      mapped : (b : Bool) (x : Core) → seen (led b x) ≡ led b (erased_core x)
      mapped true x =
          settles_seen (is_first (x.semaphores.seats i).place) x
          ∙ ap (λ up. settles up (erased_core x)) (first_of_erased (x.semaphores.seats i).place)
      mapped false x = refl

      layer_seen : seen (layer_row m s i n c) ≡ seen (layer_row m (erased s) i n d)
      layer_seen =
          mapped (can_run m c i (c.standing i)) (core_turned m c i) ∙ ap₂ led same_can same_turned
          ∙ sym (mapped (can_run m d i (d.standing i)) (core_turned m d i))

calls_seen : (c : Core) (i : ℕ) (call : Call) → erased_core (calls c i call) ≡ erased_core (calls (erased_core c) i call)
calls_seen c i call =
    calls_erased c i call ∙ ap (λ x. calls x i call) (sym (erased_core_twice c))
    ∙ sym (calls_erased (erased_core c) i call)

held_seen : (o : Option Ticket) → is_some o ≡ is_some (erased_held o)
held_seen None = refl
held_seen (Some t) = refl

call_seen : (s : ProgramWorld) (i : ℕ) (l : Instruction) → call_of s i l ≡ call_of (erased s) i l
call_seen s i (line.Ticket l) =
    ap (λ b. Some (cond b (Err TicketFailure) (Ok (Add l)))) (held_seen ((s.layer.lists l).seats i).ticket)
call_seen s i (line.Wait l) =
    ap (λ b. Some (cond b (Ok (Wait l)) (Err TicketFailure))) (held_seen ((s.layer.lists l).seats i).ticket)
call_seen s i _ = refl

module _ (p : Program) (i : ℕ) where
  module _ (s : ProgramWorld) where
    first_seen : (n : ℕ) (l : Instruction) (call : Option (Result Call Failure))
        → seen (first_row (layer_of p) s i n l call) ≡ seen (first_row (layer_of p) (erased s) i n l call)
    first_seen n l None = rows_seen s i n l
    first_seen n l (Some (Ok call)) =
        layer_seen (layer_of p) i (calls s.layer i call) (calls (erased_core s.layer) i call)
        (calls_seen s.layer i call) s n
    first_seen n l (Some (Err why)) =
        ap (λ c. Some (record { world = record s { layer = c }; next = Fails why })) (sym (erased_core_twice s.layer))

    before_seen : (n : ℕ) (line : Option CodeLine)
        → seen (row_before (layer_of p) s i n line) ≡ seen (row_before (layer_of p) (erased s) i n line)
    before_seen n None = refl
    before_seen n (Some l) =
        first_seen n l.instruction (call_of s i l.instruction)
        ∙ ap (λ call. seen (first_row (layer_of p) (erased s) i n l.instruction call)) (call_seen s i l.instruction)

    sleep_seen : (b : Bool) (x y : Did) → erased_did x ≡ erased_did y → seen (cond b None (Some x)) ≡ seen (cond b None (Some y))
    sleep_seen true x y e = refl
    sleep_seen false x y e = ap Some e

    at_seen : (stand : Stand) → seen (row_at p s i stand) ≡ seen (row_at p (erased s) i stand)
    at_seen (Before n) = before_seen n (slice_get (code_of p i) n)
    at_seen (Within n) =
        layer_seen (layer_of p) i s.layer (erased_core s.layer) (sym (erased_core_twice s.layer)) s n
    at_seen (Asleep n) =
        sleep_seen (eqb (s.grants i) 0) _ _
        (ap (λ c. record { world = record s { layer = c; grants = put s.grants i 0 }; next = OnFromNext })
        (sym (erased_core_twice s.layer)))
    at_seen Ended = refl
    at_seen (FailedAt n why) = refl

  module _ (s t : ProgramWorld) (e : AreAlike s t) where
    pub same_row : seen (row_of p s i) ≡ seen (row_of p t i)
    same_row =
        at_seen s (s.seats i).stand ∙ ap (λ (w : ProgramWorld). seen (row_of p w i)) e ∙ sym (at_seen t (t.seats i).stand)

    none_too : (o r : Option Did) → seen o ≡ seen r → o ≡ None → r ≡ None
    none_too o None same is = refl
    none_too o (Some x) same is = absurd (none-some (erased_did x) (sym (ap seen is) ∙ same))

    pub no_row : row_of p s i ≡ None → row_of p t i ≡ None
    no_row is = none_too (row_of p s i) (row_of p t i) same_row is

    pub some_too : (did : Did) (o r : Option Did) → seen o ≡ seen r → o ≡ Some did
        → (x : Did) × (r ≡ Some x) × (erased_did did ≡ erased_did x)
    some_too did o None same is = absurd (none-some (erased_did did) (sym same ∙ ap seen is))
    some_too did o (Some x) same is = (x, refl, same_Some _ _ (sym (ap seen is) ∙ same))

    module _ (u : ProgramWorld) (to : StepsTo p s i u) where
      found : (x : Did) × (row_of p t i ≡ Some x) × (erased_did to.did ≡ erased_did x)
      found = some_too to.did (row_of p s i) (row_of p t i) same_row to.is

      abbrev next : ProgramWorld
      next = record u { layer = found.0.world.layer }

      abbrev stands : ProgramSeat → ProgramSeat → Then → Type 0
      stands was did then = IsSeatAfter p i (at was.stand) did then (u.seats i)

      seat_too : stands (t.seats i) (found.0.world.seats i) found.0.next
      seat_too =
          subst (stands (t.seats i) (found.0.world.seats i)) (ap (λ (d : Did). d.next) found.2)
          (subst (λ (x : ProgramSeat). stands (t.seats i) x to.did.next) (ap (λ (d : Did). d.world.seats i) found.2)
          (subst (λ (x : ProgramSeat). stands x (to.did.world.seats i) to.did.next) (ap (λ (w : ProgramWorld). w.seats i) e)
          to.seat))

      pub steps_too : (v : ProgramWorld) × StepsTo p t i v × AreAlike u v
      steps_too = (
        next,
        (record {
          did = found.0;
          is = found.1;
          seat = seat_too;
          others = λ k ne. to.others k ne ∙ ap (λ (w : ProgramWorld). w.seats k) e;
          words = to.words ∙ ap (λ (d : Did). d.world.words) found.2;
          layer = refl;
          sleepers = to.sleepers ∙ ap (λ (d : Did). d.world.sleepers) found.2;
          grants = to.grants ∙ ap (λ (d : Did). d.world.grants) found.2;
        }),
        ap (λ c. record u { layer = c }) (ap erased_core to.layer ∙ ap (λ (d : Did). d.world.layer) found.2),
      )

module _ (p : Program) where
  to_erased : (s : ProgramWorld) (number : ℕ) (property : ProgramProperty) (kind : BadKind)
      → Breaks p s number property kind → Breaks p (erased s) number property kind
  to_erased s number (Most k n) kind is = is
  to_erased s number (Apart k j) kind is = is
  to_erased s number (FinallyWord w rel n) kind is = is
  to_erased s number (FinallyCounter c rel n) kind is = is
  to_erased s number (Passed k n) kind is = is

  from_erased : (s : ProgramWorld) (number : ℕ) (property : ProgramProperty) (kind : BadKind)
      → Breaks p (erased s) number property kind → Breaks p s number property kind
  from_erased s number (Most k n) kind is = is
  from_erased s number (Apart k j) kind is = is
  from_erased s number (FinallyWord w rel n) kind is = is
  from_erased s number (FinallyCounter c rel n) kind is = is
  from_erased s number (Passed k n) kind is = is

  breaks_too : (s t : ProgramWorld) → AreAlike s t → (k : ℕ) (kind : BadKind) → BreaksAt p s k kind → BreaksAt p t k kind
  breaks_too s t e k kind is =
      let asked : Asked = is.0 in (
        asked,
        is.1,
        from_erased t asked.line asked.property kind
            (subst (λ (w : ProgramWorld). Breaks p w asked.line asked.property kind) e
            (to_erased s asked.line asked.property kind is.2)),
      )

  lines_too : (s t : ProgramWorld) → AreAlike s t → (kind : BadKind) → BreaksFirst p s kind → BreaksFirst p t kind
  lines_too s t e kind is = (
    is.0,
    breaks_too s t e is.0 kind is.1,
    (λ j other less worse. is.2 j other less (breaks_too t s (sym e) j other worse)),
  )

  bad_too : (s t : ProgramWorld) → AreAlike s t → (kind : BadKind) → IsBadAs p s kind → IsBadAs p t kind
  bad_too s t e (Failed number) is = record {
    seat = is.seat;
    below = is.below;
    at = subst (λ (w : ProgramWorld). HasFailedAt p w is.seat number) e is.at;
    first = λ i other less failed.
        is.first i other less (subst (λ (w : ProgramWorld). HasFailedAt p w i other) (sym e) failed);
  }
  bad_too s t e (Crowded number) is = lines_too s t e (Crowded number) is
  bad_too s t e (Together number) is = lines_too s t e (Together number) is
  bad_too s t e (Final number) is = lines_too s t e (Final number) is
  bad_too s t e Stuck is = record {
    none = λ i below. no_row p i s t e (is.none i below);
    some = λ ended. is.some (subst (λ (w : ProgramWorld). HaveEnded p w) (sym e) ended);
  }

  pub alike_behave : (s t : ProgramWorld) → AreAlike s t → BehaveAlike p s t
  alike_behave s t e = record {
    can = λ i. (no_row p i s t e, no_row p i t s (sym e));
    steps = λ i u to. steps_too p i s t e u to;
    bad = λ kind is. record {
      so = bad_too s t e kind is.so;
      first = λ other before worse. is.first other before (bad_too t s (sym e) other worse);
    };
  }
