-- Which stride of a path told an entry, and what it saw.
use Rattle.std.proofs.Common.{◌≡◌, ◌≢◌, ◌⊎◌, ℕ, ◌<◌, IsTrue, List, [], ◌∷◌, ◌++◌, refl, sym, ap, ◌∙◌, subst, inl, inr}
use Rattle.std.proofs.Common.{⊎_elim, arith, append_assoc}
use Rattle.waiters.specs.declared.wait.WaitId.{WaitId}
use Rattle.step_table.specs.declared.effect.Effect.{Effect}
use Rattle.step_table.specs.declared.effect.Effect.TheVariants.{Nothing, Tells, Wakes}
use Rattle.step_table.specs.declared.entry.Entry.{Entry}
use Rattle.step_table.specs.declared.entry.Entry.TheVariants.{Leave}
use Rattle.step_table.specs.declared.place.Acquire.{Acquire}
use Rattle.step_table.specs.declared.place.AcquireRow.TheVariants.{Parked}
use Rattle.step_table.specs.declared.place.ParkedRow.{ParkedRow}
use Rattle.step_table.specs.declared.place.ParkedRow.TheVariants.{P, D2, D3, D5}
use Rattle.step_table.specs.declared.place.Place.{Place}
use Rattle.step_table.specs.declared.place.Place.TheVariants.{Acquiring}
use Rattle.step_table.specs.declared.word.Word.{Word}
use Rattle.step_table.specs.World.{Layout, SeatState, hand_after}
use Rattle.step_table.specs.Event.{Next}
use Rattle.step_table.specs.Table.{event_at}
use Rattle.step_table.specs.Counting.{times}
use Rattle.step_table.specs.Journal.{Plain, plain, plain_start, replay, IsDefined, IsLawful}
use Rattle.step_table.specs.Path.{GoesOn, Deed, runs, looks, all_told}
use Rattle.step_law_semaphores.specs.Lawful.{IsLawfulWorld}
use Rattle.step_law_semaphores.specs.SemaPath.{SemaSight, SemaStride, SemaRan, SemaPath, SemaDid, RanSemaRow, plain_before, row_next, entries_of}
use Rattle.step_law_semaphores.proofs.SemaPaths.{the_sema_paths}
use Rattle.step_law_semaphores.proofs.Promises.{the_law}
use Rattle.step_law_semaphores.proofs.Placing.{same_here}

-- a stride tells one entry or none
one_told : (m : Layout) (i : ℕ) (v w : SemaSight) (p : SemaStride) → SemaRan m i v p w
    → (p.told ≡ []) ⊎ ((e : Entry) × (p.told ≡ e ∷ []))
one_told m i v w p r = by p.deed (the_sema_paths.does m i v w p r)
  where
    of_effect : (x : Effect) → (entries_of x ≡ []) ⊎ ((e : Entry) × (entries_of x ≡ e ∷ []))
    of_effect (Tells e) = inr (e, refl)
    of_effect Nothing = inl refl
    of_effect Wakes = inl refl

    by : (d : Deed Word) → SemaDid m i p w d → (p.told ≡ []) ⊎ ((e : Entry) × (p.told ≡ e ∷ []))
    by runs did = ⊎_elim (λ none. inl (did.told ∙ none)) (λ some. inr (some.0, did.told ∙ some.1)) (of_effect (row_next m i p).1)
    by (looks word) did = inl did.told

-- the stride that told this entry, after the first and before the rest
pub record Teller (strides : List SemaStride) (first : List Entry) (e : Entry) (rest : List Entry) : Type 0 where
  pub before : List SemaStride
  pub stride : SemaStride
  pub after : List SemaStride
  pub is : strides ≡ before ++ stride ∷ after
  pub first_is : all_told before ≡ first
  pub told : stride.told ≡ e ∷ []
  pub rest_is : all_told after ≡ rest

-- of a stride more, by what is known of the strides after it
teller_by : (p : SemaStride) (strides : List SemaStride) (first : List Entry) (e : Entry) (rest : List Entry)
    → ((f : List Entry) → all_told strides ≡ f ++ e ∷ rest → Teller strides f e rest)
    → p.told ++ all_told strides ≡ first ++ e ∷ rest → (p.told ≡ []) ⊎ ((x : Entry) × (p.told ≡ x ∷ []))
    → Teller (p ∷ strides) first e rest
teller_by p strides first e rest later is (inl none) = let t = later first (ap (λ l. l ++ all_told strides) (sym none) ∙ is) in record {
  before = p ∷ t.before;
  stride = t.stride;
  after = t.after;
  is = ap (λ l. p ∷ l) t.is;
  first_is = ap (λ l. l ++ all_told t.before) none ∙ t.first_is;
  told = t.told;
  rest_is = t.rest_is;
}
teller_by p strides [] e rest later is (inr (x, told)) =
    let q : x ∷ all_told strides ≡ e ∷ rest = ap (λ l. l ++ all_told strides) (sym told) ∙ is in
    let here : x ≡ e = cc in let others : all_told strides ≡ rest = cc in
    record { before = []; stride = p; after = strides; is = refl; first_is = refl; told = told ∙ (λ j. here j ∷ []); rest_is = others }
teller_by p strides (y ∷ first) e rest later is (inr (x, told)) =
    let q : x ∷ all_told strides ≡ y ∷ (first ++ e ∷ rest) = ap (λ l. l ++ all_told strides) (sym told) ∙ is in
    let here : x ≡ y = cc in let others : all_told strides ≡ first ++ e ∷ rest = cc in
    let t = later first others in record {
      before = p ∷ t.before;
      stride = t.stride;
      after = t.after;
      is = ap (λ l. p ∷ l) t.is;
      first_is = (λ j. told j ++ t.first_is j) ∙ (λ j. here j ∷ first);
      told = t.told;
      rest_is = t.rest_is;
    }

pub teller : (m : Layout) (i : ℕ) (v w : SemaSight) (strides : List SemaStride) → SemaPath m i v strides w
    → (first : List Entry) (e : Entry) (rest : List Entry)
    → all_told strides ≡ first ++ e ∷ rest → Teller strides first e rest
teller m i v w [] path [] e rest is = absurd cc
teller m i v w [] path (x ∷ first) e rest is = absurd cc
teller m i v w (p ∷ strides) path first e rest is =
    teller_by p strides first e rest (λ f q. teller m i path.0 w strides path.2 f e rest q) is (one_told m i v path.0 p path.1)

-- an entry was defined where it was told
pub told_defined : (start : Plain) (p : SemaStride) (e : Entry) (now : List Entry) → IsLawful start now
    → GoesOn now (p.seen ++ p.told) → p.told ≡ e ∷ [] → IsDefined e (replay start p.seen)
told_defined start p e now lawful goes told =
    (lawful.0 p.seen goes.more e (goes.is ∙ ap (λ l. (p.seen ++ l) ++ goes.more) told ∙ append_assoc p.seen (e ∷ []) goes.more)).0

-- what is known of the world of a stride
module _ (m : Layout) (i : ℕ) (v w : SemaSight) (p : SemaStride) (r : SemaRan m i v p w) where
  pub in_law : IsLawfulWorld m r.world
  in_law = the_law.reached m r.world r.meets.met

  pub plain_there : plain_before m p ≡ plain r.world.words
  plain_there = ap (λ l. replay (plain_start m.starts) l) r.seen ∙ sym in_law.journal.0

  pub stood_there : p.stood ≡ r.world.seats i
  stood_there = r.stood ∙ sym r.meets.stands

  -- what a row tells, and where it leads
  module _ (place : Place) (ran : p.deed ≡ runs) (at : p.stood.place ≡ place) where
    did : RanSemaRow m i p w
    did = subst (SemaDid m i p w) ran (the_sema_paths.does m i v w p r)

    abbrev pub next_at : Place → Next
    next_at z = (event_at i p.stood (plain_before m p).lists z).leads p.read

    pub row_tells : p.told ≡ entries_of (next_at place).1
    row_tells = did.told ∙ ap (λ (z : Place). entries_of (next_at z).1) at

    pub row_leads : w.stands.place ≡ (next_at place).0
    row_leads = ap (λ (z : SeatState). z.place) did.leads ∙ ap (λ (z : Place). (next_at z).0) at

    pub row_hand : w.stands.hand ≡ hand_after (next_at place).1 p.stood.hand
    row_hand = ap (λ (z : SeatState). z.hand) did.leads ∙ ap (λ (z : Place). hand_after (next_at z).1 p.stood.hand) at

    pub row_can : IsTrue ((event_at i p.stood (plain_before m p).lists place).can p.read)
    row_can = subst (λ (z : Place). IsTrue ((event_at i p.stood (plain_before m p).lists z).can p.read)) at did.can

  -- a parked seat lets no wait out
  parked_keeps : (a : Acquire) (n c k : ℕ) (x : WaitId) (row : ParkedRow) → p.stood.place ≡ Acquiring a (Parked n row) → p.told ≡ Leave c x k ∷ [] → ⊥
  parked_keeps a n c k x row at told = by p.deed (the_sema_paths.does m i v w p r)
    where
      of_row : (q : ParkedRow) → entries_of ((event_at i p.stood (plain_before m p).lists (Acquiring a (Parked n q))).leads p.read).1 ≡ Leave c x k ∷ [] → ⊥
      of_row P e = cc
      of_row D2 e = cc
      of_row D3 e = cc
      of_row D5 e = cc

      by : (d : Deed Word) → SemaDid m i p w d → ⊥
      by runs did = of_row row
          (sym (ap (λ (z : Place). entries_of ((event_at i p.stood (plain_before m p).lists z).leads p.read).1) at) ∙ sym did.told ∙ told)
      by (looks word) did = let none = sym did.told ∙ told in cc

  -- so the first wait that a seat lets out is another's
  pub not_own : (c k : ℕ) (x : WaitId) (l : List WaitId) → p.told ≡ Leave c x k ∷ [] → (plain_before m p).lists c ≡ x ∷ l
      → x.seat ≢ i
  not_own c k x l told first e =
      let listed : 0 < times x (r.world.words.lists c) = subst (λ (y : List WaitId). 0 < times x y) (sym first ∙ ap (λ (y : Plain). y.lists c) plain_there)
      (let here = same_here x in omega arith) in
      let parked = (in_law.parked.0 c x listed).1 in
      parked_keeps parked.0 x.turn c k x parked.2 (ap (λ (z : SeatState). z.place) stood_there ∙ ap (λ k. (r.world.seats k).place) (sym e) ∙ parked.3) told
