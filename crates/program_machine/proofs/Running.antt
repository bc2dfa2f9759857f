-- A row of the layer that the machine has run, or refused, is the layer's row; and the first row of a call can run, but for
-- that of a wait, which takes its list's lock.
use Rattle.std.proofs.Common.{◌≡◌, ℕ, Bool, true, false, cond, pos, List, [], Option, Some, None, ◌==◌, ◌||◌, ◌&&◌, ne_eqb, refl, IsTrue, ◌↔◌}
use Rattle.std.proofs.Common.{sym, ap, ◌∙◌, subst}
use Rattle.program_machine.specs.Beginning.{HasCall, CanBegin}
use Rattle.program_machine.specs.LayerRows.{HasLayerRow, HasNoLayerRow, as_it_is, with_call}
use Rattle.program_steps.specs.declared.stand.Then.{Then}
use Rattle.program_steps.specs.Steps.{after_row, given_up, is_first, layer_row, settled}
use Rattle.program_steps.proofs.GivingUp.{first_of}
use Rattle.step_table.specs.declared.place.Acquire.{Acquire as Begun}
use Rattle.program_steps.specs.World.{ProgramWorld, new_seat}
use Rattle.step_core.specs.State.{WholeMachine, IsRefusal, HasRunRow, Becomes, core_of}
use Rattle.step_core.proofs.Changing.{no_change, same_layout}
use Rattle.step_law_whole.specs.TheCore.{MayCall}
use Rattle.step_rows.specs.Stored.{each}
use Rattle.step_table.specs.declared.call.Call.{Call}
use Rattle.step_table.specs.declared.call.Call.TheVariants.{Acquire, AcquireOrLeave, Release, ReleaseMany, Add, Wait, WaitOrLeave}
use Rattle.step_table.specs.declared.call.Call.TheVariants.{One, All, GroupAdd, GroupWait, GroupWaitOrLeave}
use Rattle.step_table.specs.declared.call.GivingUp.{GivingUp}
use Rattle.step_table.specs.declared.call.Late.TheVariants.{Kept}
use Rattle.step_table.specs.declared.entry.Entry.{Entry}
use Rattle.step_table.specs.declared.list_place.ListPlace.TheVariants.{Adding, Waiting, NotifyingOne, NotifyingAll}
use Rattle.step_table.specs.declared.list_place.WaitRow.TheVariants.{W1}
use Rattle.step_table.specs.declared.list_place.OneRow.TheVariants.{O1}
use Rattle.step_table.specs.declared.list_place.AllRow.TheVariants.{L1}
use Rattle.step_table.specs.declared.list_place.Ticket.{Ticket}
use Rattle.step_table.specs.declared.place.Place.{Place}
use Rattle.step_table.specs.declared.place.Place.TheVariants.{Acquiring, Releasing, ReleasingMany}
use Rattle.step_table.specs.declared.place.AcquireRow.TheVariants.{A1}
use Rattle.step_table.specs.declared.place.ReleaseRow.TheVariants.{R1}
use Rattle.step_table.specs.declared.place.ManyRow.TheVariants.{M1}
use Rattle.step_table.specs.declared.refusal.StepRefused.{StepRefused}
use Rattle.step_table.specs.declared.standing.Standing.{Standing}
use Rattle.step_table.specs.declared.standing.Standing.TheVariants.{Rest, AtCounter, AtList, AtGroup, Left, Failed}
use Rattle.step_table.specs.declared.standing.After.TheVariants.{Closes}
use Rattle.step_table.specs.declared.standing.Ending.{Ending}
use Rattle.step_table.specs.declared.standing.Ending.TheVariants.{NextCall, MayGiveUp, GaveUp, GivesBack}
use Rattle.step_table.specs.declared.standing.GroupRow.TheVariants.{G1, V1}
use Rattle.step_table.specs.Core.{CoreLayout, Core}
use Rattle.step_table.specs.CoreSteps.{calls, can_run, core_turned, may_give_up, may_give_up_on_list, is_asleep_on_list}
use Rattle.step_table.specs.ListSteps as list
use Rattle.step_table.specs.ListTable.{list_event_at}
use Rattle.step_table.specs.ListWorld.{ListWorld, ListSeat, found as found_on_list}
use Rattle.step_table.specs.Run.{unless, refusal_of}
use Rattle.step_table.specs.Steps.{can_turn, moved}
use Rattle.step_table.specs.Table.{event_at}
use Rattle.step_table.specs.World.{SeatState, SemaWorld, put, found}
use Rattle.step_table.proofs.Sums.{put_here}

unless_some : (b : Bool) (x cause : StepRefused) → unless b x ≡ Some cause → b ≡ false
unless_some true x cause is = absurd cc
unless_some false x cause is = refl

unless_none : (b : Bool) (x : StepRefused) → unless b x ≡ None → b ≡ true
unless_none true x is = refl
unless_none false x is = absurd cc

-- a cause is told where the row can't run
can_none : (m : CoreLayout) (c : Core) (i : ℕ) (doing : Standing) (cause : StepRefused) → refusal_of m c i doing ≡ Some cause
    → can_run m c i doing ≡ false
can_none m c i Rest cause is = refl
can_none m c i (AtCounter after) cause is = unless_some _ _ cause is
can_none m c i (AtList l ending) cause is = unless_some _ _ cause is
can_none m c i (AtGroup g row) cause is = absurd cc
can_none m c i (Left skips) cause is = refl
can_none m c i (Failed misuse) cause is = refl

can_some : (m : CoreLayout) (c : Core) (i : ℕ) (doing : Standing) → refusal_of m c i doing ≡ None → can_run m c i doing ≡ true
can_some m c i Rest is = absurd cc
can_some m c i (AtCounter after) is = unless_none _ _ is
can_some m c i (AtList l ending) is = unless_none _ _ is
can_some m c i (AtGroup g row) is = refl
can_some m c i (Left skips) is = absurd cc
can_some m c i (Failed misuse) is = absurd cc

-- the row ran, and then its seat gave its call up, or it didn't
pub row_ran : (h mid k : WholeMachine) (i n : ℕ) (entry : Option Entry) → HasRunRow i h mid entry → IsRefusal h i None
    → Becomes (λ m s. settled i s) mid k → (next : Then) → ((journal : List Entry) → next ≡ after_row n i (core_of mid journal))
    → HasLayerRow h i n as_it_is k next
row_ran h mid k i n entry ran can gave next is m are journal = (
  (settled i (core_of mid told)).journal,
  λ s.
      ap (λ b. cond b (Some (record {
        world = record s { layer = settled i (core_turned m c i) };
        next = after_row n i (core_turned m c i);
      })) None) (can_some m c i (c.standing i) (can m are journal))
      ∙ ap (λ (t : Core). Some (record { world = record s { layer = settled i t }; next = after_row n i t })) (sym turned)
      ∙ ap (λ (t : Core). Some (record { world = record s { layer = t }; next = after_row n i (core_of mid told) })) (sym there)
      ∙ ap (λ x. Some (record { world = record s { layer = core_of k (settled i (core_of mid told)).journal }; next = x })) (sym (is told)),
)
  where
    c : Core
    c = core_of h journal

    told : List Entry
    told = (core_turned m c i).journal

    turned : core_of mid told ≡ core_turned m c i
    turned = ran.turned.core m are journal

    there : core_of k (settled i (core_of mid told)).journal ≡ settled i (core_of mid told)
    there = gave.core m (same_layout m h mid ran.turned.alike are) told

-- whether it did is what its place says
pub is_told : (place : Place) (b : Bool) → (IsTrue b ↔ ((a : Begun) × (place ≡ Acquiring a A1))) → b ≡ is_first place
is_told place true so = sym (ap is_first (so.0 refl).1)
is_told place false so = by (is_first place) refl
  where
    by : (x : Bool) → is_first place ≡ x → false ≡ is_first place
    by false e = sym e
    by true e = so.1 (first_of place e) ∙ sym e

-- it was refused
pub row_refused : (h : WholeMachine) (i n : ℕ) (cause : StepRefused) → IsRefusal h i (Some cause) → HasNoLayerRow h i n as_it_is
row_refused h i n cause is m are journal s =
    ap (λ b. cond b (Some (record {
      world = record s { layer = settled i (core_turned m (core_of h journal) i) };
      next = after_row n i (core_turned m (core_of h journal) i);
    })) None) (can_none m (core_of h journal) i (each Rest h.standing i) cause (is m are journal))

-- a call has begun
module _ (h mid : WholeMachine) (i : ℕ) (call : Call) (called : Becomes (λ m s. calls s i call) h mid) (n : ℕ) where
  pub first_row_ran : (k : WholeMachine) (next : Then) → HasLayerRow mid i n as_it_is k next → HasLayerRow h i n (with_call i call) k next
  first_row_ran k next row m are journal =
      let told : List Entry = (calls (core_of h journal) i call).journal in
      let got = row m (same_layout m h mid called.alike are) told in (
        got.0,
        λ s.
            subst (λ c. layer_row m s i n c ≡ Some (record { world = record s { layer = core_of k got.0 }; next = next }))
            (called.core m are journal) (got.1 s),
      )

  pub first_row_refused : HasNoLayerRow mid i n as_it_is → HasNoLayerRow h i n (with_call i call)
  first_row_refused none m are journal s =
      subst (λ c. layer_row m s i n c ≡ None) (called.core m are journal)
      (none m (same_layout m h mid called.alike are) (calls (core_of h journal) i call).journal s)

-- a row that can run for whatever it finds can run where the seat has moved to it
counter_can : (root : ℕ → ℕ) (s : SemaWorld) (i : ℕ) (place : Place)
    → ((v : ℕ) → (event_at i (record (s.seats i) { place = place }) s.words.lists place).can v ≡ true)
    → can_turn root (moved s i place) i ≡ true
counter_can root s i place can =
    ap (λ (seat : SeatState). (event_at i seat s.words.lists seat.place).can
    (found root s.words (event_at i seat s.words.lists seat.place).word))
    (put_here s.seats i (record (s.seats i) { place = place }))
    ∙ can (found root s.words (event_at i (record (s.seats i) { place = place }) s.words.lists place).word)

list_can : (s : ListWorld) (i : ℕ) (seat : ListSeat) (b : Bool)
    → ((v : ℕ) → v ≡ found_on_list s.words (list_event_at i seat s.words seat.place).word
    → (list_event_at i seat s.words seat.place).can v ≡ b)
    → list.can_turn (record s { seats = put s.seats i seat }) i ≡ b
list_can s i seat b can =
    ap (λ (seat : ListSeat). (list_event_at i seat s.words seat.place).can
    (found_on_list s.words (list_event_at i seat s.words seat.place).word)) (put_here s.seats i seat)
    ∙ can (found_on_list s.words (list_event_at i seat s.words seat.place).word) refl

-- the lock is free that the first row of this call takes
abbrev pub IsFreeFor : Core → Call → Type 0
IsFreeFor c (Wait l) = (c.lists l).words.lock ≡ 0
IsFreeFor c (WaitOrLeave l how) = (c.lists l).words.lock ≡ 0
IsFreeFor c _ = Unit {0}

or_true : (b c : Bool) → c ≡ true → (b || c) ≡ true
or_true true c is = refl
or_true false c is = is

-- who is awake gives up nothing
awake_stays : (s : ListWorld) (i : ℕ) (ending : Ending) → is_asleep_on_list (s.seats i).place ≡ false → may_give_up_on_list s i ending ≡ false
awake_stays s i NextCall awake = refl
awake_stays s i (MayGiveUp how) awake = ap (λ b. b && (s.words.grants i == 0)) awake
awake_stays s i (GaveUp how) awake = refl
awake_stays s i (GivesBack skips) awake = refl

module _ (m : CoreLayout) (c : Core) (i : ℕ) where
  -- the seat stands there, awake, and the row of the list runs
  on_list : (l : ℕ) (seat : ListSeat) (ending : Ending) (b : Bool) → is_asleep_on_list seat.place ≡ false
      → list.can_turn (record (c.lists l) { seats = put (c.lists l).seats i seat }) i ≡ b
      → can_run m (record c {
        lists = put c.lists l (record (c.lists l) { seats = put (c.lists l).seats i seat });
        standing = put c.standing i (AtList l ending);
      }) i (put c.standing i (AtList l ending) i) ≡ b
  on_list l seat ending b awake can =
      ap (can_run m (record c { lists = put c.lists l s; standing = put c.standing i (AtList l ending) }) i) (put_here c.standing i (AtList l ending))
      ∙ ap (λ (t : ListWorld). may_give_up_on_list t i ending || list.can_turn t i) (put_here c.lists l s)
      ∙ ap (λ x. x || list.can_turn s i)
      (awake_stays s i ending (ap (λ (x : ListSeat). is_asleep_on_list x.place) (put_here (c.lists l).seats i seat) ∙ awake)) ∙ can
    where
      s : ListWorld
      s = record (c.lists l) { seats = put (c.lists l).seats i seat }

  on_counter : (place : Place) (ending : Ending) → can_turn m.root (moved c.semaphores i place) i ≡ true
      → can_run m (record c { semaphores = moved c.semaphores i place; standing = put c.standing i (AtCounter (Closes ending)) }) i
      (put c.standing i (AtCounter (Closes ending)) i) ≡ true
  on_counter place ending can =
      ap (can_run m (record c { semaphores = moved c.semaphores i place; standing = put c.standing i (AtCounter (Closes ending)) }) i)
      (put_here c.standing i (AtCounter (Closes ending))) ∙ or_true (may_give_up (moved c.semaphores i place) i (Closes ending)) _ can

  -- a wait of a seat that holds a ticket
  waits_then : (l : ℕ) (ending : Ending) (b : Bool) (o : Option Ticket) (t : Ticket) → o ≡ Some t → ((c.lists l).words.lock == 0) ≡ b
      → can_run m (record c {
        lists = put c.lists l (record (c.lists l) { seats = put (c.lists l).seats i (list.with_ticket ((c.lists l).seats i) o) });
        standing = put c.standing i (AtList l ending);
      }) i (put c.standing i (AtList l ending) i) ≡ b
  waits_then l ending b None t held free = absurd cc
  waits_then l ending b (Some u) t held free =
      on_list l (record ((c.lists l).seats i) { place = Waiting u W1; ticket = None }) ending b refl
      (list_can (c.lists l) i (record ((c.lists l).seats i) { place = Waiting u W1; ticket = None }) b
      (λ v is. ap (λ x. x == 0) is ∙ free))

  pub wait_can : (l : ℕ) (b : Bool) (t : Ticket) → ((c.lists l).seats i).ticket ≡ Some t → ((c.lists l).words.lock == 0) ≡ b
      → can_run m (calls c i (Wait l)) i ((calls c i (Wait l)).standing i) ≡ b
  wait_can l b t held free = waits_then l NextCall b ((c.lists l).seats i).ticket t held free

  pub wait_or_leave_can : (l : ℕ) (how : GivingUp) (b : Bool) (t : Ticket) → ((c.lists l).seats i).ticket ≡ Some t
      → ((c.lists l).words.lock == 0) ≡ b
      → can_run m (calls c i (WaitOrLeave l how)) i ((calls c i (WaitOrLeave l how)).standing i) ≡ b
  wait_or_leave_can l how b t held free = waits_then l (MayGiveUp how) b ((c.lists l).seats i).ticket t held free

  -- the first row of a call can run, if that isn't a wait on a list that is held
  pub first_can : (call : Call) → MayCall m c i call → IsFreeFor c call
      → can_run m (calls c i call) i ((calls c i call).standing i) ≡ true
  first_can (Acquire q lifo) may free = on_counter (Acquiring (record { counter = q; lifo = lifo }) A1) NextCall
      (counter_can m.root c.semaphores i (Acquiring (record { counter = q; lifo = lifo }) A1) (λ v. refl))
  first_can (AcquireOrLeave q lifo how) may free = on_counter (Acquiring (record { counter = q; lifo = lifo }) A1) (MayGiveUp how)
      (counter_can m.root c.semaphores i (Acquiring (record { counter = q; lifo = lifo }) A1) (λ v. refl))
  first_can (Release q handoff) may free = on_counter (Releasing (record { counter = q; handoff = handoff }) R1) NextCall
      (counter_can m.root c.semaphores i (Releasing (record { counter = q; handoff = handoff }) R1) (λ v. refl))
  first_can (ReleaseMany q units) may free = on_counter (ReleasingMany (record { counter = q; units = units }) M1) NextCall
      (counter_can m.root c.semaphores i (ReleasingMany (record { counter = q; units = units }) M1) (λ v. refl))
  first_can (Add l) may free = on_list l (record ((c.lists l).seats i) { place = Adding }) NextCall true refl
      (list_can (c.lists l) i (record ((c.lists l).seats i) { place = Adding }) true (λ v is. refl))
  first_can (One l) may free = on_list l (record ((c.lists l).seats i) { place = NotifyingOne 0 O1 }) NextCall true refl
      (list_can (c.lists l) i (record ((c.lists l).seats i) { place = NotifyingOne 0 O1 }) true (λ v is. refl))
  first_can (All l) may free = on_list l (record ((c.lists l).seats i) { place = NotifyingAll 0 L1 }) NextCall true refl
      (list_can (c.lists l) i (record ((c.lists l).seats i) { place = NotifyingAll 0 L1 }) true (λ v is. refl))
  first_can (Wait l) may free = wait_can l true may.1 may.2 (ap (λ x. x == 0) free)
  first_can (WaitOrLeave l how) may free = wait_or_leave_can l how true may.1 may.2 (ap (λ x. x == 0) free)
  first_can (GroupAdd g d) may free = ap (can_run m (calls c i (GroupAdd g d)) i) (put_here c.standing i (AtGroup g (G1 d)))
  first_can (GroupWait g) may free = ap (can_run m (calls c i (GroupWait g)) i) (put_here c.standing i (AtGroup g (V1 NextCall)))
  first_can (GroupWaitOrLeave g skips) may free =
      ap (can_run m (calls c i (GroupWaitOrLeave g skips)) i) (put_here c.standing i (AtGroup g (V1 (MayGiveUp (record { late = Kept; skips = skips })))))

-- what the machine has found out of a call
module _ (h : WholeMachine) (i : ℕ) (call : Call) where
  free_of : (can : Bool) → can ≡ true → (q : Call) → CanBegin h q can → IsFreeFor (core_of h []) q
  free_of can is (Wait l) found = found.0 is
  free_of can is (WaitOrLeave l how) found = found.0 is
  free_of can is _ found = tt

  -- it can't begin: it is a wait on a list that is held
  pub held_back : (can : Bool) → can ≡ false → CanBegin h call can → HasCall h i call → (n : ℕ) → HasNoLayerRow h i n (with_call i call)
  held_back can is told may n m are journal s =
      ap (λ b. cond b (Some (record {
        world = record s { layer = settled i (core_turned m (calls (core_of h journal) i call) i) };
        next = after_row n i (core_turned m (calls (core_of h journal) i call) i);
      })) None) (held_can call told may)
    where
      can_not : can ≡ true → ⊥
      can_not t = let e : false ≡ true = sym is ∙ t in absurd cc

      held_lock : (l : ℕ) → (IsTrue can ↔ (((core_of h []).lists l).words.lock ≡ 0)) → (((core_of h []).lists l).words.lock == 0) ≡ false
      held_lock l told = ne_eqb ((core_of h []).lists l).words.lock 0 (λ e. can_not (told.1 e))

      held_can : (q : Call) → CanBegin h q can → HasCall h i q
          → can_run m (calls (core_of h journal) i q) i ((calls (core_of h journal) i q).standing i) ≡ false
      held_can (Wait l) told may = wait_can m (core_of h journal) i l false may.2.1 may.2.2 (held_lock l told)
      held_can (WaitOrLeave l how) told may = wait_or_leave_can m (core_of h journal) i l how false may.2.1 may.2.2 (held_lock l told)
      held_can _ told may = absurd (can_not told)

  any_world : ProgramWorld
  any_world = record { words = λ w. pos 0; layer = core_of h []; sleepers = []; grants = λ k. 0; seats = λ k. new_seat }

  -- it can, and then its first row isn't refused
  pub not_refused : (can : Bool) → can ≡ true → CanBegin h call can → HasCall h i call → (n : ℕ) → HasNoLayerRow h i n (with_call i call) → ⊥
  not_refused can is found may n none = absurd (
      let c : Core = core_of h [] in
      let runs : can_run may.0 (calls c i call) i ((calls c i call).standing i) ≡ true
      = first_can may.0 c i call may.2 (free_of can is call found) in
      some_none _ (sym (ap (λ b. cond b (Some (record {
        world = record any_world { layer = settled i (core_turned may.0 (calls c i call) i) };
        next = after_row n i (core_turned may.0 (calls c i call) i);
      })) None) runs) ∙ none may.0 may.1 [] any_world))
    where
      some_none : {A : Type 0} (x : A) → Some x ≡ None → ⊥
      some_none x is = absurd cc

-- what is settled where it gives its call up
pub settles_up : (h k : WholeMachine) (i : ℕ) → Becomes (λ m s. given_up i s) h k
    → ((journal : List Entry) → is_first ((core_of h journal).semaphores.seats i).place ≡ true) → Becomes (λ m s. settled i s) h k
settles_up h k i gave first = record {
  alike = gave.alike;
  core = λ m are journal.
      let same : settled i (core_of h journal) ≡ given_up i (core_of h journal)
      = ap (λ b. cond b (given_up i (core_of h journal)) (core_of h journal)) (first journal) in
      subst (λ (c : Core). core_of k c.journal ≡ c) (sym same) (gave.core m are journal);
}

-- and where it doesn't
pub settles_not : (h : WholeMachine) (i : ℕ)
    → ((journal : List Entry) → is_first ((core_of h journal).semaphores.seats i).place ≡ false) → Becomes (λ m s. settled i s) h h
settles_not h i first = record {
  alike = record {
    semaphores = no_change h.semaphores;
    lists = refl;
    seats = λ l. refl;
    groups = refl;
    standing = refl;
  };
  core = λ m are journal.
      let same : settled i (core_of h journal) ≡ core_of h journal
      = ap (λ b. cond b (given_up i (core_of h journal)) (core_of h journal)) (first journal) in
      subst (λ (c : Core). core_of h c.journal ≡ c) (sym same) refl;
}
