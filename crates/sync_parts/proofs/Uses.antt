-- What a seat's uses of a counter grow by: what it told that it added, and what was taken for it.
use Rattle.std.proofs.Common.{◌≡◌, ℕ, ◌+◌, ◌≤◌, Bool, true, false, ◌&&◌, eqb, cond, List, [], ◌∷◌, ◌++◌, refl, sym, ap}
use Rattle.std.proofs.Common.{◌∙◌, arith, append_assoc, eq-eqb}
use Rattle.std.proofs.Common.{ne_eqb}
use Rattle.std.proofs.Math.Bool.{and-false}
use Rattle.std.proofs.lemmas.List.{append_cancel_left}
use Rattle.std.proofs.lemmas.List.Elements.{filter-append}
use Rattle.std.specs.List.{filter}
use Rattle.step_table.specs.declared.entry.Entry.{Entry}
use Rattle.step_table.specs.declared.entry.Entry.TheVariants.{Add, AddMany, Take, Queue, Leave}
use Rattle.step_table.specs.Counting.{on}
use Rattle.step_table.specs.Journal.{takes}
use Rattle.step_table.specs.Path.{GoesOn}
use Rattle.step_table.proofs.Sums.{on_here}
use Rattle.step_law_semaphores.specs.SemaPath.{is_own}
use Rattle.step_law_semaphores.proofs.Telling.{count_append}
use Rattle.step_law_semaphores.proofs.Stories.{takes_counts}
use Rattle.sema_table.specs.Calls.{TellsIn}
use Rattle.sync_parts.specs.Lock.{is_use, uses}

-- the entries by which the seat adds to the counter
abbrev is_gift : ℕ → ℕ → Entry → Bool
is_gift c i (Add d s) = eqb d c && eqb s i
is_gift c i (AddMany d n s) = eqb d c && eqb s i
is_gift c i _ = false

abbrev pub gifts : ℕ → ℕ → List Entry → List Entry
gifts c i journal = filter (is_gift c i) journal

abbrev pub own : ℕ → List Entry → List Entry
own i journal = filter (is_own i) journal

both_right : (a b : Bool) → (a && b) ≡ true → b ≡ true
both_right true b e = e
both_right false b e = cc

-- what passes the narrower test of two
filter_within : (p q : Entry → Bool) → ((e : Entry) → p e ≡ true → q e ≡ true) → (es : List Entry) → filter p (filter q es) ≡ filter p es
filter_within p q le [] = refl
filter_within p q le (e ∷ es) = by (filter_within p q le es) (q e) refl (p e) refl
  where
    by : filter p (filter q es) ≡ filter p es → (b : Bool) → q e ≡ b → (a : Bool) → p e ≡ a
        → filter p (cond (q e) (e ∷ filter q es) (filter q es)) ≡ cond (p e) (e ∷ filter p es) (filter p es)
    by rest true passes a _ = ap (λ t. filter p (cond t (e ∷ filter q es) (filter q es))) passes ∙ ap (λ l. cond (p e) (e ∷ l) l) rest
    by rest false fails false none =
        ap (λ t. filter p (cond t (e ∷ filter q es) (filter q es))) fails ∙ rest
        ∙ sym (ap (λ t. cond t (e ∷ filter p es) (filter p es)) none)
    by rest false fails true some = let yes : q e ≡ true = le e some in cc

gift_own : (c i : ℕ) (e : Entry) → is_gift c i e ≡ true → is_own i e ≡ true
gift_own c i (Add d s) e = both_right (eqb d c) (eqb s i) e
gift_own c i (AddMany d n s) e = both_right (eqb d c) (eqb s i) e
gift_own c i (Take d s) e = cc
gift_own c i (Queue d w lifo) e = cc
gift_own c i (Leave d w s) e = cc
gift_own c i _ e = cc

pub gifts_own : (c i : ℕ) (es : List Entry) → gifts c i (own i es) ≡ gifts c i es
gifts_own c i es = filter_within (is_gift c i) (is_own i) (gift_own c i) es

-- a seat for which a unit was taken, or not
taken_one : (i : ℕ) (es : List Entry) (d : ℕ) → takes i (Take d i ∷ es) ≡ 1 + takes i es
taken_one i es d = let one = on_here i 1 in omega arith

not_its : (i s n : ℕ) → on i s 1 + n ≡ 0 → eqb s i ≡ false
not_its i s n none = ne_eqb s i (λ q. let one : on i s 1 ≡ 1 = ap (λ x. on i x 1) q ∙ on_here i 1 in omega arith)

-- while nothing is taken for it, its uses are what it adds
pub uses_gifts : (c i : ℕ) (es : List Entry) → takes i es ≡ 0 → uses c i es ≡ gifts c i es
uses_gifts c i [] none = refl
uses_gifts c i (Add d s ∷ es) none = ap (λ l. cond (eqb d c && eqb s i) (Add d s ∷ l) l) (uses_gifts c i es none)
uses_gifts c i (AddMany d n s ∷ es) none = ap (λ l. cond (eqb d c && eqb s i) (AddMany d n s ∷ l) l) (uses_gifts c i es none)
uses_gifts c i (Take d s ∷ es) none =
    ap (λ b. cond (eqb d c && b) (Take d s ∷ uses c i es) (uses c i es)) (not_its i s (takes i es) none)
    ∙ ap (λ b. cond b (Take d s ∷ uses c i es) (uses c i es)) (and-false (eqb d c))
    ∙ uses_gifts c i es (omega arith)
uses_gifts c i (_ ∷ es) none = uses_gifts c i es none

takes_append : (i : ℕ) (a b : List Entry) → takes i (a ++ b) ≡ takes i a + takes i b
takes_append i = count_append (takes i) (takes_counts i)

both_none : (xs ys : List Entry) → xs ++ ys ≡ [] → (xs ≡ []) × (ys ≡ [])
both_none [] ys e = (refl, e)
both_none (x ∷ xs) ys e = absurd (cc)

-- the last unit that was taken for the seat was one of c
pub record TakenLast (c i : ℕ) (now : List Entry) : Type 0 where
  pub before : List Entry
  pub after : List Entry
  pub is : now ≡ before ++ Take c i ∷ after
  pub last : takes i after ≡ 0

-- it lies in what is new, where one unit was taken
taken_new : (c i : ℕ) (seen more before after : List Entry) → seen ++ more ≡ before ++ Take c i ∷ after → takes i after ≡ 0
    → takes i more ≡ 1
    → (first : List Entry) × (more ≡ first ++ Take c i ∷ after)
taken_new c i [] more before after e last one = (before, e)
taken_new c i (x ∷ seen) more [] after e last one =
    let rest : after ≡ seen ++ more = cc in
    let sum = takes_append i seen more in
    let none : takes i (seen ++ more) ≡ 0 = ap (takes i) (sym rest) ∙ last in absurd (omega arith)
taken_new c i (x ∷ seen) more (y ∷ before) after e last one = taken_new c i seen more before after (cc) last one

module _ (c i : ℕ) (seen now told : List Entry) (later : GoesOn now seen) (owns : own i now ≡ own i seen ++ own i told) where
  abbrev more : List Entry
  more = later.more

  own_more : own i more ≡ own i told
  own_more =
      append_cancel_left (own i seen) (own i more) (own i told)
      (sym (filter-append (is_own i) seen more) ∙ ap (own i) (sym later.is) ∙ owns)

  gifts_more : gifts c i more ≡ gifts c i told
  gifts_more = sym (gifts_own c i more) ∙ ap (gifts c i) own_more ∙ gifts_own c i told

  uses_now : uses c i now ≡ uses c i seen ++ uses c i more
  uses_now = ap (uses c i) later.is ∙ filter-append (is_use c i) seen more

  takes_more : takes i now ≡ takes i seen + takes i more
  takes_more = ap (takes i) later.is ∙ takes_append i seen more

  -- nothing was taken for the seat: it used the counter as it told
  pub uses_told : takes i now ≡ takes i seen → uses c i now ≡ uses c i seen ++ gifts c i told
  uses_told same =
      let sum = takes_more in
      uses_now ∙ ap (λ l. uses c i seen ++ l) (uses_gifts c i more (omega arith) ∙ gifts_more)

  -- one unit was taken for it, of c, and it added nothing
  pub uses_taken : takes i now ≡ takes i seen + 1 → gifts c i told ≡ [] → TakenLast c i now
      → uses c i now ≡ uses c i seen ++ Take c i ∷ []
  uses_taken one none t =
      let sum = takes_more in
      let new = taken_new c i seen more t.before t.after (sym later.is ∙ t.is) t.last (omega arith) in
      let count : takes i more ≡ takes i new.0 + takes i (Take c i ∷ t.after) = ap (takes i) new.1
      ∙ takes_append i new.0 (Take c i ∷ t.after) in
      let last = taken_one i t.after c in
      let few : takes i new.0 ≡ 0 = omega (arith, t.last) in
      let nothing = both_none (gifts c i new.0) (gifts c i t.after) (sym (filter-append (is_gift c i) new.0 (Take c i ∷ t.after))
      ∙ ap (gifts c i) (sym new.1) ∙ gifts_more ∙ none) in
      uses_now
      ∙ ap (λ l. uses c i seen ++ l) (ap (uses c i) new.1 ∙ filter-append (is_use c i) new.0 (Take c i ∷ t.after))
      ∙ ap (λ l. uses c i seen ++ (l ++ cond (eqb c c && eqb i i) (Take c i ∷ uses c i t.after) (uses c i t.after)))
      (uses_gifts c i new.0 few ∙ nothing.0)
      ∙ (λ j. uses c i seen ++ cond (eq-eqb c c refl j && eq-eqb i i refl j) (Take c i ∷ uses c i t.after) (uses c i t.after))
      ∙ ap (λ l. uses c i seen ++ Take c i ∷ l) (uses_gifts c i t.after t.last ∙ nothing.1)

-- a seat that told of a unit that it took itself, and for which no more than one was taken
pub told_last : (c i : ℕ) (seen told now : List Entry) → TellsIn seen (told ++ Take c i ∷ []) now
    → takes i now ≤ takes i seen + 1 → TakenLast c i now
told_last c i seen [] now tells few =
    let goes = tells.1 in
    let is : now ≡ (seen ++ tells.0) ++ Take c i ∷ goes.more = goes.is ∙ append_assoc (seen ++ tells.0) (Take c i ∷ []) goes.more in
    let all : takes i now ≡ takes i (seen ++ tells.0) + takes i (Take c i ∷ goes.more) = ap (takes i) is
    ∙ takes_append i (seen ++ tells.0) (Take c i ∷ goes.more) in
    let some = takes_append i seen tells.0 in
    let one = taken_one i goes.more c in
    record { before = seen ++ tells.0; after = goes.more; is = is; last = omega arith }
told_last c i seen (e ∷ told) now tells few =
    let some = takes_append i seen tells.0 in
    let all = takes_append i (seen ++ tells.0) (e ∷ []) in
    told_last c i ((seen ++ tells.0) ++ e ∷ []) told now tells.1 (omega arith)
