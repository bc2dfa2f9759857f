-- What is stored at the start of a scenario shows the machine at its start.
use Rattle.std.proofs.Common.{◌≡◌, ℕ, ◌+◌, ◌-◌, ◌<◌, List, [], ◌∷◌, ◌++◌, length, get_or, map, replicate, refl, sym, ap}
use Rattle.std.proofs.Common.{◌∙◌, arith}
use native.Mathlib.Decide.{ℕ_discrete, dec_lt}
use Rattle.std.specs.List.{range_with_len}
use Rattle.std.proofs.Math.ListN.{get_or-map}
use Rattle.std.proofs.lemmas.List.{get_or_push, get_or_append_left, get_or-append_right, get_or_past, length_push, length-append, length-replicate}
use Rattle.std.proofs.lemmas.List.FromFn.{length-map-range_with_len}
use Rattle.waiters.specs.declared.wait.WaitId.{WaitId}
use Rattle.step_table.specs.declared.parts.Parts.{Parts}
use Rattle.step_table.specs.declared.standing.Standing.TheVariants.{Rest}
use Rattle.step_table.specs.World.{SemaWorld, first_world}
use Rattle.step_rows.specs.Stored.{SemaMachine, Stored, IsStoredFor, each, idle, first_stored, seat_of}
use Rattle.step_rows.specs.Stored as sema
use Rattle.step_table.specs.ListWorld.{first_list}
use Rattle.step_rows.specs.ListStored.{StoredList, moment_of, first_moment, world_at, world_of, ListMoment}
use Rattle.step_table.specs.Wrapping.{word_of}
use Rattle.step_table.specs.Group.{empty_word}
use Rattle.step_table.specs.Core.{first_core}
use Rattle.step_table.specs.Run.{layout}
use Rattle.step_core.specs.State.{WholeMachine, AreFirst, IsMachineFor, core_of, list_of, no_list}
use Rattle.step_rows.proofs.Storing.{copies}

-- one more list at its first ticket
pub one_more : (firsts : List ℕ) (n seats : ℕ) (lists : List StoredList) (x : StoredList) → AreFirst firsts n seats lists
    → moment_of x ≡ first_moment (get_or firsts n 0) seats → AreFirst firsts (n + 1) seats (lists ++ x ∷ [])
one_more firsts n seats lists x are is = record {
  count = length_push lists x ∙ ap (λ k. k + 1) are.count;
  first = λ l within. by l within (ℕ_discrete l n);
}
  where
    by : (l : ℕ) → l < n + 1 → Dec (l ≡ n) → moment_of (each no_list (lists ++ x ∷ []) l) ≡ first_moment (get_or firsts l 0) seats
    by l within (yes e) = rw e (ap moment_of (get_or_push lists x no_list n are.count) ∙ is)
    by l within (no ne) =
        let count = are.count in
        ap moment_of (get_or_append_left lists (x ∷ []) no_list l (omega arith)) ∙ are.first l (omega arith)

-- the same thing at each place
pub all_same : {A : Type 0} (x : A) (n k : ℕ) → get_or (map (λ i. x) (range_with_len 0 n)) k x ≡ x
all_same x n k = get_or-map (λ i. x) (range_with_len 0 n) k 0

-- what is made of these parts
pub record IsMadeOf (parts : Parts) (h : WholeMachine) : Type 0 where
  pub stored : h.semaphores.stored ≡ first_stored parts.starts parts.groups parts.roots (length parts.calls)
  pub callers : h.semaphores.callers ≡ map (λ k. idle) (range_with_len 0 (length parts.calls))
  pub lists : AreFirst parts.firsts (length parts.firsts) (length parts.calls) h.lists
  pub groups : h.groups ≡ map (λ g. empty_word) (range_with_len 0 parts.groups)
  pub standing : h.standing ≡ map (λ k. Rest) (range_with_len 0 (length parts.calls))

module _ (parts : Parts) (h : WholeMachine) (made : IsMadeOf parts h) where
  pub stored_first : IsStoredFor (length parts.starts) parts.groups parts.roots (length parts.calls) h.semaphores.stored
  stored_first = rw made.stored (record {
    own_is = refl;
    roots_is = refl;
    numbers = length-append parts.starts (replicate parts.groups 0) ∙ ap (λ n. length parts.starts + n) (length-replicate parts.groups 0);
    lists = length-replicate (length parts.starts + parts.groups) [];
    locks = length-replicate (parts.roots + parts.groups) 0;
    waiters = length-replicate (parts.roots + parts.groups) 0;
    grants = length-replicate (length parts.calls) 0;
    hands = length-replicate (length parts.calls) [];
  })

  pub shaped_first : IsMachineFor (layout parts) h
  shaped_first = record {
    root = (λ j. Rattle.step_table.specs.World.root_number (made.stored j).own (made.stored j).roots);
    counters = ap (λ (z : Stored). z.own) made.stored;
    callers = ap length made.callers ∙ length-map-range_with_len (λ k. idle) 0 (length parts.calls);
    lists = made.lists.count;
    seats = λ l within. ap (λ (m : ListMoment). m.count) (made.lists.first l within);
    groups = ap length made.groups ∙ length-map-range_with_len (λ g. empty_word) 0 parts.groups;
    standing = ap length made.standing ∙ length-map-range_with_len (λ k. Rest) 0 (length parts.calls);
  }

  number_is : (c : ℕ) → get_or (parts.starts ++ replicate parts.groups 0) c 0 ≡ get_or parts.starts c 0
  number_is c = by (dec_lt c (length parts.starts))
    where
      by : Dec (c < length parts.starts) → get_or (parts.starts ++ replicate parts.groups 0) c 0 ≡ get_or parts.starts c 0
      by (yes there) = get_or_append_left parts.starts (replicate parts.groups 0) 0 c there
      by (no past) =
          get_or-append_right parts.starts (replicate parts.groups 0) (length parts.starts) c 0 refl (omega arith)
          ∙ copies 0 parts.groups (c - length parts.starts)
          ∙ sym (get_or_past parts.starts c 0 (omega arith))

  list_is : (c : ℕ) → ◌≡◌ {A = List WaitId} (get_or (replicate (length parts.starts + parts.groups) []) c []) []
  list_is c = copies [] (length parts.starts + parts.groups) c

  hand_is : (k : ℕ) → ◌≡◌ {A = List WaitId} (get_or (replicate (length parts.calls) []) k []) []
  hand_is k = copies [] (length parts.calls) k

  counters_first : sema.world_of h.semaphores [] ≡ first_world (layout parts).starts
  counters_first =
      (λ j. sema.world_of (record { stored = made.stored j; callers = made.callers j }) [])
      ∙ (λ j. record {
        words = record {
          numbers = λ c. number_is c j;
          locks = λ r. copies 0 (parts.roots + parts.groups) r j;
          waiters = λ r. copies 0 (parts.roots + parts.groups) r j;
          grants = λ s. copies 0 (length parts.calls) s j;
          lists = λ c. list_is c j;
        };
        seats = λ k. seat_of (all_same idle (length parts.calls) k j) (hand_is k j);
        journal = [];
      })

  -- a list that isn't there is one at ticket 0, on which nothing has happened
  no_list_first : world_of no_list [] ≡ first_list 0
  unfolding word_of
  no_list_first = refl

  list_first : (l : ℕ) → list_of h.lists [] l ≡ first_list (get_or parts.firsts l 0)
  list_first l = by (dec_lt l (length parts.firsts))
    where
      by : Dec (l < length parts.firsts) → list_of h.lists [] l ≡ first_list (get_or parts.firsts l 0)
      by (yes there) = ap (λ m. world_at m []) (made.lists.first l there)
      by (no past) =
          let count = made.lists.count in
          ap (λ z. world_of z []) (get_or_past h.lists l no_list (omega arith)) ∙ no_list_first
          ∙ ap first_list (sym (get_or_past parts.firsts l 0 (omega arith)))

  pub core_first : core_of h [] ≡ first_core (layout parts)
  core_first = λ j. record {
    semaphores = counters_first j;
    lists = λ l. list_first l j;
    groups = λ g. (ap (λ z. get_or z g empty_word) made.groups ∙ all_same empty_word parts.groups g) j;
    standing = λ k. (ap (λ z. get_or z k Rest) made.standing ∙ all_same Rest (length parts.calls) k) j;
    journal = [];
  }
