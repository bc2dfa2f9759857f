-- What an acquire and a release of a seat add to its uses of the counter.
use Rattle.std.proofs.Common.{◌≡◌, ℕ, zero, suc, ◌+◌, ◌-◌, ◌≤◌, true, false, ◌&&◌, eqb, cond, List, [], ◌∷◌, ◌++◌, inl, inr}
use Rattle.std.proofs.Common.{refl, sym, ap, ◌∙◌, subst, arith}
use Rattle.std.proofs.Common.{append-nil, append_assoc, eq-eqb}
use Rattle.std.proofs.lemmas.List.Elements.{filter-append}
use Rattle.step_table.specs.declared.entry.Entry.{Entry}
use Rattle.step_table.specs.declared.entry.Entry.TheVariants.{Add, Take, Leave}
use Rattle.step_table.specs.declared.place.Acquire.{Acquire}
use Rattle.step_table.specs.declared.place.Release.{Release}
use Rattle.step_table.specs.declared.place.Place.{Place}
use Rattle.step_table.specs.declared.place.AcquireRow.TheVariants.{A3}
use Rattle.step_table.specs.declared.place.Place.TheVariants.{Acquiring}
use Rattle.step_table.specs.Counting.{wait}
use Rattle.step_table.specs.declared.word.Word.{Word}
use Rattle.step_table.specs.Journal.{plain_start, IsLawful, takes}
use Rattle.step_table.specs.Path.{GoesOn, OnlyLooked}
use Rattle.step_table.proofs.Paths.{goes_on_more}
use Rattle.step_law_semaphores.specs.SemaPath.{SemaStride, is_own, placed, SemaDid}
use Rattle.step_law_semaphores.proofs.SemaPaths.{the_sema_paths}
use Rattle.step_law_semaphores.proofs.Telling.{count_append}
use Rattle.step_law_semaphores.proofs.Stories.{takes_counts}
use Rattle.sema_table.specs.declared.answers.Wake.{Wake}
use Rattle.sema_table.specs.declared.answers.Wake.TheVariants.{Nobody, One, Handed}
use Rattle.sema_table.specs.Setting.{layout}
use Rattle.sema_table.specs.Seats.{SeatModel}
use Rattle.sema_table.specs.Calls.{Calls}
use Rattle.sema_table.specs.Tries.{LooksAt}
use Rattle.sema_table.specs.Waking.{acquire_of, Wakes}
use Rattle.sema_table.specs.Whole.{queued, IsAcquired, IsReleased, TakesFrom, TakesUnit}
use Rattle.sync_parts.specs.Lock.{uses}
use Rattle.sync_parts.proofs.Uses.{gifts, own, TakenLast, uses_told, uses_taken, told_last}

-- what a seat saw by a call goes on from what it had seen, with what it told of its own
pub record Sees (i : ℕ) (seen now told : List Entry) : Type 0 where
  pub later : GoesOn now seen
  pub owns : own i now ≡ own i seen ++ own i told

sees_call : {IsOne : SemaStride → Type 0} (s t : SeatModel) (from : Place) (told : List Entry) → Calls IsOne s from t told
    → Sees s.number s.sight.seen t.sight.seen told
sees_call s t from told call =
    let paths = the_sema_paths.paths (layout s.table.setting) in
    record {
      later = paths.grows s.number (placed from s.sight) t.sight call.strides call.path;
      owns =
          paths.own s.number (placed from s.sight) t.sight call.strides call.path
          ∙ ap (λ l. own s.number s.sight.seen ++ own s.number l) call.told_is;
    }

-- a call after a call
sees_then : (i : ℕ) (seen then now told more : List Entry) → Sees i seen then told → Sees i then now more → Sees i seen now (told ++ more)
sees_then i seen then now told more x y = record {
  later = goes_on_more seen then now x.later y.later;
  owns =
      y.owns ∙ ap (λ l. l ++ own i more) x.owns ∙ append_assoc (own i seen) (own i told) (own i more)
      ∙ ap (λ l. own i seen ++ l) (sym (filter-append (is_own i) told more));
}

-- queueing adds nothing
gifts_queued : (c i : ℕ) (a : Acquire) (turn n : ℕ) (rest : List Entry) → gifts c i rest ≡ [] → gifts c i (queued i a turn n ++ rest) ≡ []
gifts_queued c i a turn zero rest none = none
gifts_queued c i a turn (suc n) rest none = gifts_queued c i a (turn + 1) n rest none

-- what an acquire gave: a unit of c was the last that was taken for the seat, which added nothing
record Takes (c : ℕ) (s t : SeatModel) : Type 0 where
  pub told : List Entry
  pub sees : Sees s.number s.sight.seen t.sight.seen told
  pub none : gifts c s.number told ≡ []
  pub last : TakenLast c s.number t.sight.seen

takes_unit : (s t : SeatModel) (from : Place) (a : Acquire) (n : ℕ)
    → takes s.number t.sight.seen ≤ takes s.number s.sight.seen + 1 → TakesUnit s from a n t → Takes a.counter s t
takes_unit s t from a n few (inl call) =
    let told = queued s.number a s.sight.stands.turn n in
    record {
      told = told ++ Take a.counter s.number ∷ [];
      sees = sees_call s t from (told ++ Take a.counter s.number ∷ []) call;
      none = gifts_queued a.counter s.number a s.sight.stands.turn n (Take a.counter s.number ∷ []) refl;
      last = told_last a.counter s.number s.sight.seen told t.sight.seen call.seen few;
    }
takes_unit s t from a n few (inr (call, unit)) =
    let told = queued s.number a s.sight.stands.turn n in
    record {
      told = told;
      sees = sees_call s t from told call;
      none = ap (gifts a.counter s.number) (sym (append-nil told)) ∙ gifts_queued a.counter s.number a s.sight.stands.turn n [] refl;
      last = record {
        before = unit.2.1 ++ Leave a.counter (wait s.number unit.0) unit.2.0 ∷ unit.2.2;
        after = unit.2.3;
        is =
            unit.2.4
            ∙ sym (append_assoc unit.2.1 (Leave a.counter (wait s.number unit.0) unit.2.0 ∷ unit.2.2) (Take a.counter s.number ∷ unit.2.3));
        last = unit.2.6;
      };
    }

seen_taken : (i : ℕ) (seen now : List Entry) → GoesOn now seen → takes i seen ≤ takes i now
seen_taken i seen now later =
    let sum : takes i now ≡ takes i seen + takes i later.more = ap (takes i) later.is
    ∙ count_append (takes i) (takes_counts i) seen later.more in omega arith

acquired_takes : (s t : SeatModel) (c : ℕ) → takes s.number t.sight.seen ≡ takes s.number s.sight.seen + 1
    → IsAcquired s c false t → Takes c s t
acquired_takes s t c one (inl (_, _, call)) = record {
  told = Take c s.number ∷ [];
  sees = sees_call s t _ (Take c s.number ∷ []) call;
  none = refl;
  last = told_last c s.number s.sight.seen [] t.sight.seen call.seen (omega arith);
}
acquired_takes s t c one (inr (u, (is, _, call, _), from)) =
    let place : Place = Acquiring (acquire_of c false) A3 in
    let v : SeatModel = record s { sight = u.sight; strides = u.strides } in
    let after : TakesFrom v place (acquire_of c false) t = subst (λ (x : SeatModel). TakesFrom x place (acquire_of c false) t) is from in
    let first = sees_call s u _ [] call in
    let some = seen_taken s.number s.sight.seen u.sight.seen first.later in
    let rest = takes_unit v t place (acquire_of c false) after.1.0 (omega arith) after.1.2 in
    record {
      told = rest.told;
      sees = sees_then s.number s.sight.seen u.sight.seen t.sight.seen [] rest.told first rest.sees;
      none = rest.none;
      last = rest.last;
    }

-- the uses of the counter after an acquire
pub uses_acquired : (s t : SeatModel) (c : ℕ) → takes s.number t.sight.seen ≡ takes s.number s.sight.seen + 1 → IsAcquired s c false t
    → uses c s.number t.sight.seen ≡ uses c s.number s.sight.seen ++ Take c s.number ∷ []
uses_acquired s t c one is =
    let took = acquired_takes s t c one is in
    uses_taken c s.number s.sight.seen t.sight.seen took.told took.sees.later took.sees.owns one took.none took.last

pub later_acquired : (s t : SeatModel) (c : ℕ) → takes s.number t.sight.seen ≡ takes s.number s.sight.seen + 1
    → IsAcquired s c false t → GoesOn t.sight.seen s.sight.seen
later_acquired s t c one is = (acquired_takes s t c one is).sees.later

-- what stays by an acquire, and what it counts
pub record Stays (s t : SeatModel) (left taken : ℕ) : Type 0 where
  pub table : t.table ≡ s.table
  pub number : t.number ≡ s.number
  pub left_is : t.left ≡ left
  pub taken_is : t.taken ≡ taken

stays_by : (s t : SeatModel) (left taken : ℕ) → t ≡ record s { left = left; taken = taken; sight = t.sight; strides = t.strides }
    → Stays s t left taken
stays_by s t left taken e = record {
  table = ap (λ (x : SeatModel). x.table) e;
  number = ap (λ (x : SeatModel). x.number) e;
  left_is = ap (λ (x : SeatModel). x.left) e;
  taken_is = ap (λ (x : SeatModel). x.taken) e;
}

pub stays_acquired : (s t : SeatModel) (c : ℕ) → IsAcquired s c false t → Stays s t s.left (s.taken + 1)
stays_acquired s t c (inl (is, _, _)) = stays_by s t s.left (s.taken + 1) is
stays_acquired s t c (inr (u, none, from)) =
    let first = stays_by s u s.left s.taken none.0 in
    let rest = stays_by u t u.left (u.taken + 1) from.0 in
    record {
      table = rest.table ∙ first.table;
      number = rest.number ∙ first.number;
      left_is = rest.left_is
          ∙ first.left_is;
      taken_is = rest.taken_is ∙ ap (λ n. n + 1) first.taken_is;
    }

-- what a release gave: a unit was added to c
record Gives (c : ℕ) (s t : SeatModel) : Type 0 where
  pub told : List Entry
  pub sees : Sees s.number s.sight.seen t.sight.seen told
  pub gift : gifts c s.number told ≡ Add c s.number ∷ []

the_gift : (c i : ℕ) → cond (eqb c c && eqb i i) (Add c i ∷ []) [] ≡ Add c i ∷ []
the_gift c i = λ j. cond (eq-eqb c c refl j && eq-eqb i i refl j) (Add c i ∷ []) []

-- the rest of a release adds nothing
wakes_sees : (s u t : SeatModel) (c : ℕ) (r : Release) (wake : Wake) → r.handoff ≡ false
    → Sees s.number s.sight.seen u.sight.seen (Add c s.number ∷ []) → u.number ≡ s.number → Wakes u r t wake → Gives c s t
wakes_sees s u t c r Nobody plain first number call = record {
  told = Add c s.number ∷ [];
  sees = sees_then s.number s.sight.seen u.sight.seen t.sight.seen (Add c s.number ∷ []) [] first (subst
      (λ i. Sees i u.sight.seen t.sight.seen []) number (sees_call u t _ [] call));
  gift = the_gift c s.number;
}
wakes_sees s u t c r (One w) plain first number grant =
    let left = Leave r.counter w u.number ∷ [] in
    record {
      told = Add c s.number ∷ left;
      sees = sees_then s.number s.sight.seen u.sight.seen t.sight.seen (Add c s.number ∷ []) left first (subst
          (λ i. Sees i u.sight.seen t.sight.seen left) number (sees_call u t _ left grant.call));
      gift = the_gift c s.number;
    }
wakes_sees s u t c r (Handed w) plain first number wakes = let handed : r.handoff ≡ true = wakes.0 in absurd (cc)

released_gives : (s t : SeatModel) (c : ℕ) (wake : Wake) → IsReleased s c false t wake → Gives c s t
released_gives s t c wake (inl (posted, _)) = record {
  told = Add c s.number ∷ [];
  sees = sees_call s t _ (Add c s.number ∷ []) posted.2.1.call;
  gift = the_gift c s.number;
}
released_gives s t c wake (inr (u, posted, woken)) =
    wakes_sees s u t c _ wake refl (sees_call s u _ (Add c s.number ∷ []) posted.2.2.call) (ap (λ
    (x : SeatModel). x.number) posted.0) woken.4

-- the uses of the counter after a release
pub uses_released : (s t : SeatModel) (c : ℕ) (wake : Wake) → takes s.number t.sight.seen ≡ takes s.number s.sight.seen
    → IsReleased s c false t wake
    → uses c s.number t.sight.seen ≡ uses c s.number s.sight.seen ++ Add c s.number ∷ []
uses_released s t c wake same is =
    let gave = released_gives s t c wake is in
    uses_told c s.number s.sight.seen t.sight.seen gave.told gave.sees.later gave.sees.owns same
    ∙ ap (λ l. uses c s.number s.sight.seen ++ l) gave.gift

pub later_released : (s t : SeatModel) (c : ℕ) (wake : Wake) → IsReleased s c false t wake → GoesOn t.sight.seen s.sight.seen
later_released s t c wake is = (released_gives s t c wake is).sees.later

pub stays_released : (s t : SeatModel) (c : ℕ) (wake : Wake) → IsReleased s c false t wake → Stays s t (s.left - 1) s.taken
stays_released s t c wake (inl (posted, _)) = stays_by s t (s.left - 1) s.taken posted.0
stays_released s t c wake (inr (u, posted, woken)) =
    let first = stays_by s u (s.left - 1) s.taken posted.0 in
    let rest = stays_by u t u.left u.taken woken.2 in
    record {
      table = rest.table ∙ first.table;
      number = rest.number ∙ first.number;
      left_is = rest.left_is
          ∙ first.left_is;
      taken_is = rest.taken_is ∙ first.taken_is;
    }

only_looked : (s t : SeatModel) (w : Word) (n : ℕ) → (look : LooksAt s w n t) → OnlyLooked look.stride t.sight
only_looked s t w n look =
    let m = layout s.table.setting in
    subst (λ d. SemaDid m s.number look.stride t.sight d) look.did (the_sema_paths.does m s.number s.sight t.sight look.stride look.ran)

-- a look tells nothing
pub sees_look : (s t : SeatModel) (w : Word) (n : ℕ) → LooksAt s w n t → Sees s.number s.sight.seen t.sight.seen []
sees_look s t w n look =
    let m = layout s.table.setting in
    let paths = the_sema_paths.paths m in
    let told = (only_looked s t w n look).told in
    record {
      later = look.later;
      owns =
          paths.own s.number s.sight t.sight (look.stride ∷ []) ((paths.single s.number s.sight t.sight look.stride).0 look.ran)
          ∙ ap (λ l. own s.number s.sight.seen ++ own s.number l) (append-nil look.stride.told ∙ told);
    }

-- the uses of a counter after a look
pub uses_looked : (s t : SeatModel) (w : Word) (n c : ℕ) → takes s.number t.sight.seen ≡ takes s.number s.sight.seen
    → LooksAt s w n t → uses c s.number t.sight.seen ≡ uses c s.number s.sight.seen
uses_looked s t w n c same look =
    let sees = sees_look s t w n look in
    uses_told c s.number s.sight.seen t.sight.seen [] sees.later sees.owns same ∙ append-nil (uses c s.number s.sight.seen)

-- what was seen by a look is a lawful journal
pub lawful_look : (s t : SeatModel) (w : Word) (n : ℕ) → LooksAt s w n t
    → IsLawful (plain_start (layout s.table.setting).starts) t.sight.seen
lawful_look s t w n look =
    let m = layout s.table.setting in
    let all : t.sight.seen ≡ look.stride.seen =
    (the_sema_paths.paths m).ends s.number s.sight t.sight [] look.stride
    (((the_sema_paths.paths m).single s.number s.sight t.sight look.stride).0 look.ran)
    ∙ ap (λ l. look.stride.seen ++ l) (only_looked s t w n look).told ∙ append-nil look.stride.seen in
    subst (IsLawful (plain_start m.starts)) (sym all) (the_sema_paths.lawful m s.number s.sight t.sight look.stride look.ran)
