-- The changes of the stored machine, one by one: each is what the machine as a whole makes of it.
use Rattle.std.proofs.Common.{◌≡◌, ◌≢◌, ℕ, ◌<◌, List, length, set, get_or, refl, sym, ap, ◌∙◌, subst, length-set}
use mathlib.Core.Path.{fun_ext}
use native.Mathlib.Decide.{ℕ_discrete}
use Rattle.std.proofs.lemmas.List.{get_or_default}
use Rattle.step_table.specs.declared.entry.Entry.{Entry}
use Rattle.step_table.specs.declared.group_word.GroupWord.{GroupWord}
use Rattle.step_table.specs.declared.list_place.ListEffect.{ListEffect}
use Rattle.step_table.specs.declared.effect.Effect.{Effect}
use Rattle.step_table.specs.declared.place.Place.{Place}
use Rattle.step_table.specs.declared.standing.Standing.{Standing}
use Rattle.step_table.specs.declared.standing.Standing.TheVariants.{Rest}
use Rattle.step_table.specs.World.{SemaWorld, put, journal_after}
use Rattle.step_table.specs.Steps.{event_of, finds, turned, moved}
use Rattle.step_rows.specs.Stored.{SemaMachine, HasTurned, HasMoved, IsSameSize, each}
use Rattle.step_rows.specs.Stored as sema
use Rattle.step_table.specs.ListWorld.{ListEntry, ListWorld}
use Rattle.step_table.specs.ListSteps as list
use Rattle.step_rows.specs.ListStored.{StoredList, IsListTurned}
use Rattle.step_rows.specs.ListStored as stored_list
use Rattle.step_table.specs.Group.{empty_word}
use Rattle.step_table.specs.Core.{CoreLayout, Core, journal_after_list, sema_entries, list_entries}
use Rattle.step_table.specs.CoreSteps.{stands, counter_row, list_row}
use Rattle.step_core.specs.State.{WholeMachine, core_of, list_of, no_list, IsMachineFor, AreSameSize, Becomes, HasSeat}
use Rattle.step_table.proofs.Sums.{put_here, put_else}
use Rattle.step_rows.proofs.Storing.{each_set}
use Rattle.step_law_whole.proofs.CoreJournals.{sema_after, list_unchanged, sema_unchanged, list_after, other_unchanged}
use Rattle.step_law_whole.proofs.CoreRows.{leads_on}

pub no_change : (m : SemaMachine) → IsSameSize m m
no_change m = record {
  own = refl;
  roots = refl;
  numbers = refl;
  locks = refl;
  waiters = refl;
  grants = refl;
  lists = refl;
  hands = refl;
  callers = refl;
}

then_alike : (h k l : SemaMachine) → IsSameSize h k → IsSameSize k l → IsSameSize h l
then_alike h k l a b = record {
  own = b.own ∙ a.own;
  roots = b.roots ∙ a.roots;
  numbers = b.numbers ∙ a.numbers;
  locks = b.locks ∙ a.locks;
  waiters = b.waiters ∙ a.waiters;
  grants = b.grants ∙ a.grants;
  lists = b.lists ∙ a.lists;
  hands = b.hands ∙ a.hands;
  callers = b.callers ∙ a.callers;
}

-- a machine that has changed has the same layout
pub same_layout : (m : CoreLayout) (h k : WholeMachine) → AreSameSize h k → IsMachineFor m h → IsMachineFor m k
same_layout m h k alike is = record {
  root = (λ j. Rattle.step_table.specs.World.root_number (alike.semaphores.own j) (alike.semaphores.roots j)) ∙ is.root;
  counters = alike.semaphores.own ∙ is.counters;
  callers = alike.semaphores.callers ∙ is.callers;
  lists = alike.lists ∙ is.lists;
  seats = λ l within. alike.seats l ∙ is.seats l within;
  groups = alike.groups ∙ is.groups;
  standing = alike.standing ∙ is.standing;
}

-- as many of everything after two changes
pub then_all : (h k l : WholeMachine) → AreSameSize h k → AreSameSize k l → AreSameSize h l
then_all h k l one two = record {
  semaphores = then_alike h.semaphores k.semaphores l.semaphores one.semaphores two.semaphores;
  lists = two.lists ∙ one.lists;
  seats = λ n. two.seats n ∙ one.seats n;
  groups = two.groups ∙ one.groups;
  standing = two.standing ∙ one.standing;
}

-- one change after another
pub and_then : {f g : CoreLayout → Core → Core} {h k l : WholeMachine} → Becomes f h k → Becomes g k l → Becomes (λ m s. g m (f m s)) h l
and_then {f = f} {g = g} {h = h} {k = k} {l = l} one two = record {
  alike = then_all h k l one.alike two.alike;
  core = λ m is journal.
      subst (λ (s : Core). core_of l (g m s).journal ≡ g m s) (one.core m is journal)
      (two.core m (same_layout m h k one.alike is) (f m (core_of h journal)).journal);
}

-- what a seat does
pub standing_set : (h : WholeMachine) (i : ℕ) (x : Standing) → i < length h.standing
    → Becomes (λ m s. stands s i x) h (record h { standing = set h.standing i x })
standing_set h i x here = record {
  alike = record {
    semaphores = no_change h.semaphores;
    lists = refl;
    seats = λ l. refl;
    groups = refl;
    standing = length-set h.standing i x;
  };
  core = λ m is journal j. record (core_of h journal) { standing = each_set Rest h.standing i x here j };
}

-- the word of a group
pub group_set : (h : WholeMachine) (g : ℕ) (x : GroupWord) → g < length h.groups
    → Becomes (λ m s. record s { groups = put s.groups g x }) h (record h { groups = set h.groups g x })
group_set h g x here = record {
  alike = record {
    semaphores = no_change h.semaphores;
    lists = refl;
    seats = λ l. refl;
    groups = length-set h.groups g x;
    standing = refl;
  };
  core = λ m is journal j. record (core_of h journal) { groups = each_set empty_word h.groups g x here j };
}

-- where a seat stands on the semaphores
pub counters_moved : (h : WholeMachine) (i : ℕ) (place : Place) (n : SemaMachine) → HasMoved h.semaphores i place n
    → Becomes (λ m s. record s { semaphores = moved s.semaphores i place }) h (record h { semaphores = n })
counters_moved h i place n is = record {
  alike = record {
    semaphores = is.alike;
    lists = refl;
    seats = λ l. refl;
    groups = refl;
    standing = refl;
  };
  core = λ m at journal j. record (core_of h journal) { semaphores = is.world (sema_entries journal) j };
}

-- a row on the semaphores
pub counters_turned : (h : WholeMachine) (i : ℕ) (effect : Effect) (n : SemaMachine) → HasTurned h.semaphores i effect n
    → Becomes (λ m s. counter_row m s i) h (record h { semaphores = n })
counters_turned h i effect n is = record {
  alike = record {
    semaphores = is.alike;
    lists = refl;
    seats = λ l. refl;
    groups = refl;
    standing = refl;
  };
  core = by;
}
  where
    by : (m : CoreLayout) → IsMachineFor m h → (journal : List Entry)
        → core_of (record h { semaphores = n }) (counter_row m (core_of h journal) i).journal ≡ counter_row m (core_of h journal) i
    by m at journal =
        let w : SemaWorld = sema.world_of h.semaphores (sema_entries journal) in
        let e = event_of w i in
        let told : Effect = (e.leads (finds m.root w i)).1 in
        let of_counters = (leads_on i (w.seats i) w.words.lists (finds m.root w i) (w.seats i).place).1 in
        let same : effect ≡ told = is.effect_is ∙ (λ j. (e.leads (finds (at.root j) w i)).1) in
        λ j. record {
          semaphores = ((λ k. sema.world_of n (sema_after told journal of_counters k))
              ∙ (λ k. sema.world_of n (journal_after (sym same k) (sema_entries journal)))
              ∙ is.world (sema_entries journal)
              ∙ (λ k. turned (at.root k) w i)) j;
          lists = (fun_ext (λ l. ap (stored_list.world_of (each no_list h.lists l)) (list_unchanged l told journal of_counters))) j;
          groups = each empty_word h.groups;
          standing = each Rest h.standing;
          journal = journal_after told journal;
        }

-- the lists, of which one has changed and the others have their entries as before
module _ (h : WholeMachine) (l : ℕ) (here : l < length h.lists) (x : StoredList) where
  lists_now : (journal told : List Entry) (w : ListWorld) → stored_list.world_of x (list_entries l told) ≡ w
      → ((k : ℕ) → l ≢ k → list_entries k told ≡ list_entries k journal)
      → list_of (set h.lists l x) told ≡ put (list_of h.lists journal) l w
  lists_now journal told w now else = fun_ext (λ k. by k (ℕ_discrete k l))
    where
      by : (k : ℕ) → Dec (k ≡ l) → list_of (set h.lists l x) told k ≡ put (list_of h.lists journal) l w k
      by k (yes e) = rw e (
          (λ j. stored_list.world_of (each_set no_list h.lists l x here j l) (list_entries l told))
          ∙ (λ j. stored_list.world_of (put_here (each no_list h.lists) l x j) (list_entries l told))
          ∙ now ∙ sym (put_here (list_of h.lists journal) l w))
      by k (no ne) =
          (λ j. stored_list.world_of (each_set no_list h.lists l x here j k) (list_entries k told))
          ∙ (λ j. stored_list.world_of (put_else (each no_list h.lists) l x k ne j) (else k (λ e. ne (sym e)) j))
          ∙ sym (put_else (list_of h.lists journal) l w k ne)

  lists_alike : length x.seats ≡ length (each no_list h.lists l).seats → AreSameSize h (record h { lists = set h.lists l x })
  lists_alike same = record {
    semaphores = no_change h.semaphores;
    lists = length-set h.lists l x;
    seats = λ k. ap (λ (y : StoredList). length y.seats) (λ j. each_set no_list h.lists l x here j k) ∙ by k (ℕ_discrete k l);
    groups = refl;
    standing = refl;
  }
    where
      by : (k : ℕ) → Dec (k ≡ l) → length (put (each no_list h.lists) l x k).seats ≡ length (each no_list h.lists k).seats
      by k (yes e) = rw e (ap (λ (y : StoredList). length y.seats) (put_here (each no_list h.lists) l x) ∙ same)
      by k (no ne) = ap (λ (y : StoredList). length y.seats) (put_else (each no_list h.lists) l x k ne)

  -- a change of the list's world that tells nothing
  pub list_changed : (f : ListWorld → ListWorld)
      → ((journal : List ListEntry) → stored_list.world_of x journal ≡ f (stored_list.world_of (each no_list h.lists l) journal))
      → length x.seats ≡ length (each no_list h.lists l).seats
      → Becomes (λ m s. record s { lists = put s.lists l (f (s.lists l)) }) h (record h { lists = set h.lists l x })
  list_changed f is same = record {
    alike = lists_alike same;
    core = λ m at journal j. record (core_of h journal) {
      lists = lists_now journal journal (f (list_of h.lists journal l)) (is (list_entries l journal)) (λ k ne. refl) j;
    };
  }

  -- a row of seat i on the list
  pub list_turned : (i : ℕ) (effect : ListEffect) → IsListTurned (each no_list h.lists l) i effect x
      → Becomes (λ m s. list_row s i l) h (record h { lists = set h.lists l x })
  list_turned i effect is = record {
    alike = lists_alike is.count;
    core = λ m at journal. by journal;
  }
    where
      by : (journal : List Entry) → core_of (record h { lists = set h.lists l x }) (list_row (core_of h journal) i l).journal
          ≡ list_row (core_of h journal) i l
      by journal =
          let w : ListWorld = list_of h.lists journal l in
          let told : ListEffect = list.effect_of w i in
          let after : List Entry = journal_after_list l i told journal in
          let now : stored_list.world_of x (list_entries l after) ≡ list.turned w i =
          (λ j. stored_list.world_of x (list_after l i told journal j))
          ∙ (λ j. stored_list.world_of x (Rattle.step_table.specs.ListWorld.journal_after i (sym is.effect_is j) (list_entries l journal)))
          ∙ (is.turn (list_entries l journal)).is in
          λ j. record {
            semaphores = sema.world_of h.semaphores (sema_unchanged l i told journal j);
            lists = lists_now journal after (list.turned w i) now (λ k ne. other_unchanged k l i told journal ne) j;
            groups = each empty_word h.groups;
            standing = each Rest h.standing;
            journal = after;
          }

-- the same, as the code has it: the machine that is shown, and the number of the place that was written
module _ (h shows : WholeMachine) (same : h ≡ shows) where
  pub shown : {f : CoreLayout → Core → Core} {k : WholeMachine} → Becomes f h k → Becomes f shows k
  shown {f = f} {k = k} is = subst (λ z. Becomes f z k) same is

  pub stands_at : (i n : ℕ) → n ≡ i → HasSeat shows i → (x : Standing)
      → Becomes (λ m s. stands s i x) shows (record h { standing = set h.standing n x })
  stands_at i n number there x =
      let here : i < length h.standing = subst (λ (z : WholeMachine). i < length z.standing) (sym same) there.1 in
      subst (λ k. Becomes (λ m s. stands s i x) shows (record h { standing = set h.standing k x })) (sym number) (shown (standing_set h i x here))

  pub group_at : (g n : ℕ) → n ≡ g → g < length shows.groups → (x : GroupWord)
      → Becomes (λ m s. record s { groups = put s.groups g x }) shows (record h { groups = set h.groups n x })
  group_at g n number there x =
      let here : g < length h.groups = subst (λ (z : WholeMachine). g < length z.groups) (sym same) there in
      subst (λ k. Becomes (λ m s. record s { groups = put s.groups g x }) shows (record h { groups = set h.groups k x })) (sym number)
      (shown (group_set h g x here))

  pub moves_at : (i : ℕ) (place : Place) (n : SemaMachine) → HasMoved h.semaphores i place n
      → Becomes (λ m s. record s { semaphores = moved s.semaphores i place }) shows (record h { semaphores = n })
  moves_at i place n is = shown (counters_moved h i place n is)

  pub turns_at : (i : ℕ) (effect : Effect) (n : SemaMachine) → HasTurned h.semaphores i effect n
      → Becomes (λ m s. counter_row m s i) shows (record h { semaphores = n })
  turns_at i effect n is = shown (counters_turned h i effect n is)

  -- the list that was read is that of this number
  pub is_list : (l n : ℕ) → n ≡ l → l < length shows.lists → (was : StoredList) → was ≡ get_or h.lists n was
      → (l < length h.lists) × (was ≡ each no_list h.lists l)
  is_list l n number there was at =
      let here : l < length h.lists = subst (λ (z : WholeMachine). l < length z.lists) (sym same) there in
      (here, at ∙ ap (λ k. get_or h.lists k was) number ∙ get_or_default h.lists l was no_list here)

  pub list_changes_at : (l n : ℕ) → n ≡ l → l < length shows.lists → (was : StoredList) → was ≡ get_or h.lists n was → (x : StoredList)
      → (f : ListWorld → ListWorld) → ((journal : List ListEntry) → stored_list.world_of x journal ≡ f (stored_list.world_of was journal))
      → length x.seats ≡ length was.seats
      → Becomes (λ m s. record s { lists = put s.lists l (f (s.lists l)) }) shows (record h { lists = set h.lists n x })
  list_changes_at l n number there was at x f world count =
      let is = is_list l n number there was at in
      subst (λ k. Becomes (λ m s. record s { lists = put s.lists l (f (s.lists l)) }) shows (record h { lists = set h.lists k x })) (sym number)
      (shown (list_changed h l is.0 x f
      (λ journal. world journal ∙ ap (λ (z : StoredList). f (stored_list.world_of z journal)) is.1)
      (count ∙ ap (λ (z : StoredList). length z.seats) is.1)))

  pub list_turns_at : (l n : ℕ) → n ≡ l → l < length shows.lists → (was : StoredList) → was ≡ get_or h.lists n was → (x : StoredList)
      → (i : ℕ) (effect : ListEffect) → IsListTurned was i effect x
      → Becomes (λ m s. list_row s i l) shows (record h { lists = set h.lists n x })
  list_turns_at l n number there was at x i effect turned =
      let is = is_list l n number there was at in
      subst (λ k. Becomes (λ m s. list_row s i l) shows (record h { lists = set h.lists k x })) (sym number)
      (shown (list_turned h l is.0 x i effect (subst (λ z. IsListTurned z i effect x) is.1 turned)))

-- a change that two functions tell alike of machines of this shape
pub told_as : {f g : CoreLayout → Core → Core} {h k : WholeMachine}
    → ((m : CoreLayout) → IsMachineFor m h → (journal : List Entry) → f m (core_of h journal) ≡ g m (core_of h journal)) → Becomes f h k
    → Becomes g h k
told_as {h = h} {k = k} same is = record {
  alike = is.alike;
  core = λ m at journal. subst (λ (s : Core). core_of k s.journal ≡ s) (same m at journal) (is.core m at journal);
}
