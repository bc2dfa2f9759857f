-- A row that leads on keeps both rules, and so does a store of which the world knows nothing.
use Rattle.std.proofs.Common.{◌≡◌, ℕ, suc, ◌-◌, ◌==◌, ◌<◌, Bool, List, slice_index, slice_set, set, sym, refl, ap, ◌∙◌, subst, ⊎_elim, arith}
use Rattle.std.proofs.Common.{ne_eqb, get_or-set_same, get_or-set_other}
use native.Mathlib.Decide.{ℕ_discrete}
use mathlib.Core.Logic.{dite}
use prog.Atomic.{either}
use Rattle.std.proofs.lemmas.List.{set-get_or}
use mathlib.Core.Option.{Option, some}
use lib.ListN.{get_elem?}
use Rattle.atomic_table.specs.Table.{State, Me, Step, Allows, keeps, stepped, carried_after}
use Rattle.running_rows.specs.declared.view.View.{View}
use Rattle.running_rows.specs.declared.parking.Stage.TheVariants.{Wants}
use Rattle.running_rows.specs.declared.parking.Parking.{Parking}
use Rattle.running_rows.specs.Family.{Family}
use Rattle.running_rows.specs.Futex.{Futex, ShareNoWord, lock_at, grant_at, calls, passed, paid, sum, IsServedYet}
use Rattle.running_rows.specs.Parking.{at_stage, standing, but_last, dealing, owing_at, passing_at, paying_at, OwesNoMore}
use Rattle.step_table.specs.Path.{looks}
use Rattle.running_rows.specs.Strides.{Went, here, Looked, Changed, Owed, runs_lock, runs_lock_or_look, tries, runs_unlock_from, runs_grant, runs_take_or_look, runs_take_or_nothing}
use Rattle.running_rows.specs.Rule.{IsSomeones, AreServed, Holds, parkings}
use Rattle.running_rows.specs.Owing.{Stands, Leads, Owes, IsSeen, IsAside, IsPlain, IsLock, IsGrant}
use Rattle.running_rows.proofs.Keeping.{stands, kept}
use Rattle.running_rows.proofs.History.{looked_on}
use Rattle.running_rows.proofs.Telling.{tells_more}
use Rattle.running_rows.proofs.Serving.{IsSameAt, elsewhere, word_same, word_held}
use Rattle.running_rows.proofs.FutexSteps.{count_kept, tried_same, owes_now, passes_now, takes_now, owing_else, passing_else, paying_else}
use Rattle.running_rows.proofs.Dealing.{parkings_at, parkings_set, parkings_kept, served_at, at_word, dealt}

module _ {S V T K : Type 0} (f : Family S V T K) where
  -- what a step told holds whatever its thread did with sleepers, if it stands at the same stages
  pub rested : (m t : Me S (View V T)) (slots : List (ℕ × S)) (q : Parking) → q.stages ≡ m.0.parking.stages
      → Changed f m slots (dealing m.0.parking t) → Changed f m slots (dealing q t)
  rested m t slots q same changed =
      ap (dealing q) changed ∙ (λ j. (record m.0 { own = t.0.own; parking = record q { stages = same j } }, slots))

  module _ (m t u : Me S (View V T)) (st : Step S) where
    pub settled : (Ran : Me S (View V T) → Type 0)
        → ((q : Parking) → q.stages ≡ m.0.parking.stages → Ran (dealing m.0.parking t) → Ran (dealing q t))
        → Owed f Ran st m t → OwesNoMore t u → Ran u
    settled Ran carries owed rests = subst Ran (sym rests.same)
        (carries u.0.parking (rests.stages ∙ ap (λ (v : Parking). but_last v.stages) owed.owes) owed.ran)

    pub settled_unlock : (at : Step S → V → V) (x : ℕ) → Owed f (runs_unlock_from f at st m x) st m t → OwesNoMore t u
        → runs_unlock_from f at st m x u
    settled_unlock at x = settled (runs_unlock_from f at st m x) (λ q e r. (r.0, r.1, r.2, rested m t _ q e r.3))

    pub settled_grant : (x : ℕ) → Owed f (runs_grant f st m x) st m t → OwesNoMore t u → runs_grant f st m x u
    settled_grant x = settled (runs_grant f st m x) (λ q e r. (r.0, r.1, r.2, rested m t _ q e r.3))

module _ {S V T K : Type 0} (f : Family S V T K) (k : f.Key) where
  -- such a step at the word i leaves each sleeper served
  abbrev pub Leaves : ℕ → (ℕ → ℕ) → Type 0
  Leaves i g = (s : State S (View V T)) → Holds f k s → AreServed f k (slice_set s.words i (g (slice_index s.words i))) s.views

  pub plain_leaves : (i : ℕ) (g : ℕ → ℕ) → IsPlain f k i → Leaves i g
  plain_leaves i g plain s r x is = let n = g (slice_index s.words i) in
      word_same x s.words (slice_set s.words i n) (parkings s.views) (get_or-set_other s.words i x.sleepers n 0 (plain x is).1) (r.served x is)
      (get_or-set_other s.words i x.word n 0 (plain x is).0)

  pub look_leaves : (i : ℕ) → Leaves i (λ n. n)
  look_leaves i s r = subst (λ (ws : List ℕ). AreServed f k ws s.views) (sym (set-get_or s.words i 0)) r.served

  -- a lock that is taken, or held, lets nobody go
  pub lock_leaves : (i : ℕ) → IsLock f k i → Leaves i (λ n. either (n == 0) 1 n)
  lock_leaves i lock s r x is = ⊎_elim here else (r.futexes.apart x x0 is lock.1)
    where
      x0 : Futex
      x0 = lock_at i lock.0

      n : ℕ
      n = either (slice_index s.words i == 0) 1 (slice_index s.words i)

      held : n ≡ 0 → ⊥
      held e = dite (ℕ_discrete (slice_index s.words i) 0)
          (λ z. let one : n ≡ 1 = ap (λ (y : ℕ). either (y == 0) 1 y) z in absurd (omega arith))
          (λ ne. ne (sym (ap (λ (b : Bool). either b 1 (slice_index s.words i)) (ne_eqb (slice_index s.words i) 0 ne)) ∙ e))

      here : x ≡ x0 → IsServedYet x (slice_set s.words i n) (parkings s.views)
      here same = subst (λ y. IsServedYet y (slice_set s.words i n) (parkings s.views)) (sym same)
          (word_held x0 s.words (slice_set s.words i n) (parkings s.views) (count_kept x0 (r.futexes.two x0 lock.1) s.words n) (r.served x0 lock.1)
          (λ e. held (sym (get_or-set_same s.words i n 0 (r.futexes.there x0 r.kept.world s.words s.homes lock.1 r.kept.shows).0) ∙ e)))

      else : ShareNoWord x x0 → IsServedYet x (slice_set s.words i n) (parkings s.views)
      else a = let o = at_word f k x0 x s.words n a in
          word_same x s.words (slice_set s.words i n) (parkings s.views) o.1 (r.served x is) o.0

  -- what a family owes is what the table asks for
  pub allowed : (slots id i : ℕ) (m : Me S (View V T)) (g : ℕ → ℕ) (then : ℕ → Me S (View V T) → Type 0) → IsSomeones f m.0
      → Leaves i g → Owes f k m i g then → Allows (Holds f k) slots id m i g then
  allowed slots id i m g then someones leaves owes s r sized at below =
      let l = owes r.kept.world s.words s.homes (stands f k s r.kept id m at someones i below) in (
        record m.0 { own = l.own },
        l.act,
        l.valid,
        record {
          kept = kept f k s r.kept id m at someones i (g (slice_index s.words i)) (then (slice_index s.words i)) l m.0.parking;
          served = λ x is. subst (IsServedYet x (slice_set s.words i (g (slice_index s.words i)))) (sym (parkings_kept s.views id m.0 (record m.0 { own = l.own }) at refl)) (leaves s r x is);
          futexes = r.futexes;
        },
        l.tells,
      )

  -- so it is of a token that has changed nothing since
  pub allowed_since : (slots id i : ℕ) (m t : Me S (View V T)) (g : ℕ → ℕ) (then : Me S (View V T) → ℕ → Me S (View V T) → Type 0)
      → IsSomeones f m.0 → Leaves i g → Owes f k m i g (then m) → t ≡ m → Allows (Holds f k) slots id t i g (then t)
  allowed_since slots id i m t g then someones leaves owes same =
      subst (λ q. Allows (Holds f k) slots id q i g (then q)) (sym same) (allowed slots id i m g (then m) someones leaves owes)

  -- who has slept at a lock, and owes it a try, takes it, or finds it held
  pub allowed_try : (slots id i : ℕ) (m t : Me S (View V T)) (at : Step S → V → V) (st : Step S) → IsSomeones f m.0 → IsLock f k i → i ≡ st.word
      → Owes f k m i (λ n. either (n == 0) 1 n) (runs_lock f at st m) → t ≡ dealing (at_stage (Wants i) m.0.parking) m
      → Allows (Holds f k) slots id t i (λ n. either (n == 0) 1 n) (tries f at st t)
  allowed_try slots id i m t at st someones lock here owes same =
      subst (λ u. Allows (Holds f k) slots id u i (λ n. either (n == 0) 1 n) (tries f at st u)) (sym same) tried
    where
      g : ℕ → ℕ
      g n = either (n == 0) 1 n

      u : Me S (View V T)
      u = dealing (at_stage (Wants i) m.0.parking) m

      tried : Allows (Holds f k) slots id u i g (tries f at st u)
      tried s r sized is_at below =
          let n = slice_index s.words i in
          let l = owes r.kept.world s.words s.homes (stands f k s r.kept id u is_at someones i below) in (
            record m.0 { own = l.own },
            l.act,
            l.valid,
            record {
              kept = kept f k s r.kept id u is_at someones i (g n) (λ _. Unit {0}) (record {
                next = l.next;
                own = l.own;
                act = l.act;
                valid = l.valid;
                shows = l.shows;
                same = l.same;
                of_is = l.of_is;
                knows = l.knows;
                on = l.on;
                others = l.others;
                tells = tt;
              }) m.0.parking;
              served = λ x is. subst (IsServedYet x (slice_set s.words i (g n))) (sym (parkings_set s.views id (record m.0 { own = l.own })))
                  (elsewhere x (slice_set s.words i (g n)) (slice_set s.words i (g n)) (parkings s.views) id u.0.parking m.0.parking
                  (parkings_at s.views id u.0 is_at) (tried_same x u.0.parking i m.0.parking.stages refl) refl refl (lock_leaves i lock s r x is));
              futexes = r.futexes;
            },
            λ rest e. subst (λ ps. runs_lock f at st (dealing (standing ps m.0.parking) m) n (record m.0 { own = l.own }, carried_after m.1 l.act))
                (ap but_last e) l.tells,
          )

  -- a look changes no word, and is told as that of the word at the address
  leads_looked : (i : ℕ) (m : Me S (View V T)) → IsSeen f k i → (world : f.World) (words : List ℕ) (homes : List (Option S))
      → Stands f k m.0.own world words homes i
      → Leads f k m world words homes i (slice_index words i) (λ t. Looked f i m (slice_index words i) t)
  leads_looked i m seen world words homes at = let o = seen world words homes m.0.own at in record {
    next = world;
    own = o.now;
    act = keeps;
    valid = tt;
    shows = subst (λ ws. f.Shows k world ws homes) (sym (set-get_or words i 0)) at.shows;
    same = o.went.same.0;
    of_is = o.went.same.1 ∙ at.of_is;
    knows = o.knows;
    on = looked_on f k world m.0.own i (slice_index words i) at.of_is o;
    others = λ u ne low known. known;
    tells = (subst (λ q. Went f here (looks (f.word_at q i)) m.0.own (slice_index words i) o.now) (sym at.of_is) o.went, refl);
  }

  pub allowed_look : (slots id i : ℕ) (m : Me S (View V T)) → IsSomeones f m.0 → IsSeen f k i
      → Allows (Holds f k) slots id m i (λ n. n) (λ n t. Looked f i m n t)
  allowed_look slots id i m someones seen = allowed slots id i m (λ n. n) (λ n t. Looked f i m n t) someones (look_leaves i)
      (λ world words homes at. leads_looked i m seen world words homes at)

  -- who may look at a lock and take it may take it, or look where it is held
  pub owes_lock_or_look : (at : Step S → V → V) (st : Step S) (m : Me S (View V T)) → IsSeen f k st.word
      → Owes f k m st.word (λ n. either (n == 0) 1 n) (runs_lock f at st m)
      → Owes f k m st.word (λ n. either (n == 0) 1 n) (runs_lock_or_look f at st m)
  owes_lock_or_look at st m seen owes world words homes stood = by (ℕ_discrete (slice_index words st.word) 0)
    where
      by : Dec (slice_index words st.word ≡ 0)
          → Leads f k m world words homes st.word (either (slice_index words st.word == 0) 1 (slice_index words st.word))
          (runs_lock_or_look f at st m (slice_index words st.word))
      by (yes e) = tells_more f k m st.word world words homes (either (slice_index words st.word == 0) 1 (slice_index words st.word))
          (runs_lock f at st m (slice_index words st.word)) (runs_lock_or_look f at st m (slice_index words st.word))
          (λ t told. ((λ ne. absurd (ne e)), told.1)) (owes world words homes stood)
      by (no ne) = tells_more f k m st.word world words homes (either (slice_index words st.word == 0) 1 (slice_index words st.word))
          (λ t. Looked f st.word m (slice_index words st.word) t) (runs_lock_or_look f at st m (slice_index words st.word))
          (λ t told. ((λ _. told), (λ e. absurd (ne e))))
          (subst (λ x. Leads f k m world words homes st.word x (λ t. Looked f st.word m (slice_index words st.word) t))
          (sym (ap (λ (b : Bool). either b 1 (slice_index words st.word)) (ne_eqb (slice_index words st.word) 0 ne)))
          (leads_looked st.word m seen world words homes stood))

  -- a word of which the world knows nothing, and at which nobody sleeps, may be written
  pub allowed_aside : (slots id i n : ℕ) (m : Me S (View V T)) → IsAside f k i → IsPlain f k i
      → Allows (Holds f k) slots id m i (λ _. n) (λ _ t. t ≡ m)
  allowed_aside slots id i n m aside plain s r sized at below = (
    m.0,
    keeps,
    tt,
    record {
      kept = dealt f k s r.kept id m.0 at m.0.parking (slice_set s.words i n) (aside r.kept.world s.words s.homes n r.kept.shows);
      served = λ x is. subst (IsServedYet x (slice_set s.words i n)) (sym (parkings_kept s.views id m.0 m.0 at refl)) (plain_leaves i (λ _. n) plain s r x is);
      futexes = r.futexes;
    },
    refl,
  )

  -- a row at the word of a futex, by which its thread came to deal so
  module _ (x : Futex) (is : f.IsFutex k x) (slots id : ℕ) (m : Me S (View V T)) (someones : IsSomeones f m.0) (n : ℕ) (s : State S (View V T))
      (r : Holds f k s) (at : get_elem? s.views id ≡ some m.0) (then : Me S (View V T) → Type 0)
      (l : Leads f k m r.kept.world s.words s.homes x.word n then) (q : Parking)
      (else : (y : Futex) → ShareNoWord y x → IsSameAt y m.0.parking q)
      (here : IsServedYet x (slice_set s.words x.word n) (set (parkings s.views) id q)) where
    pub both_hold : Holds f k (stepped s x.word n id m.1 (record m.0 { own = l.own; parking = q }) l.act)
    both_hold = record {
      kept = kept f k s r.kept id m at someones x.word n then l q;
      served = served_at f k r.futexes x is s.words (slice_set s.words x.word n) s.views id m.0 (record m.0 { own = l.own; parking = q }) at
          (λ y a. (else y a, (at_word f k x y s.words n a).0, (at_word f k x y s.words n a).1)) r.served here;
      futexes = r.futexes;
    }

  module _ (x : Futex) (is : f.IsFutex k x) (slots id : ℕ) (m : Me S (View V T)) (someones : IsSomeones f m.0) (st : Step S) where
    -- a row that stores what lets a sleeper go: its thread owes a look
    pub allowed_owing : st.word ≡ x.word → (n : ℕ) (then : Me S (View V T) → Type 0) → Owes f k m x.word (λ _. n) (λ _. then)
        → Allows (Holds f k) slots id m x.word (λ _. n) (λ _ t. Owed f then st m t)
    allowed_owing there n then owes s r sized at below =
        let l = owes r.kept.world s.words s.homes (stands f k s r.kept id m at someones x.word below) in
        let number = suc (sum (calls x) (parkings s.views)) in (
          record m.0 { own = l.own; parking = owing_at x.word number m.0.parking },
          l.act,
          l.valid,
          both_hold x is slots id m someones n s r at then l (owing_at x.word number m.0.parking) (λ y a. owing_else x y a m.0.parking number)
              (owes_now x (r.futexes.two x is) s.words (parkings s.views) id m.0.parking (parkings_at s.views id m.0 at) (r.served x is) n),
          record { ran = l.tells; number = number; owes = ap (λ (i : ℕ). owing_at i number m.0.parking) (sym there) },
        )

    -- the same, where the look is left to another
    pub allowed_passing : (n : ℕ) → Owes f k m x.word (λ _. n) (λ _. runs_grant f st m n)
        → Allows (Holds f k) slots id m x.word (λ _. n) (λ _ t. runs_grant f st m n t)
    allowed_passing n owes s r sized at below =
        let l = owes r.kept.world s.words s.homes (stands f k s r.kept id m at someones x.word below) in
        let q = passing_at x.word m.0.parking in let told = l.tells in (
          record m.0 { own = l.own; parking = q },
          l.act,
          l.valid,
          both_hold x is slots id m someones n s r at (runs_grant f st m n) l q (λ y a. passing_else x y a m.0.parking)
              (passes_now x (r.futexes.two x is) s.words (parkings s.views) id m.0.parking (parkings_at s.views id m.0 at) (r.served x is) n),
          (told.0, told.1, told.2, rested f m (record m.0 { own = l.own }, carried_after m.1 l.act) m.1 q refl told.3),
        )

  -- a grant is taken, or was none
  module _ (sleepers slots id i : ℕ) (is : f.IsFutex k (grant_at i sleepers)) (m : Me S (View V T)) (someones : IsSomeones f m.0)
      (then : ℕ → Me S (View V T) → Type 0)
      (carries : (n : ℕ) (t : Me S (View V T)) (q : Parking) → 0 < n → q.stages ≡ m.0.parking.stages → then n (dealing m.0.parking t) → then n (dealing q t)) where
    abbrev x : Futex
    x = grant_at i sleepers

    pub allowed_take : Owes f k m i (λ _. 0) then → Allows (Holds f k) slots id m i (λ _. 0) then
    allowed_take owes s r sized at below = dite (ℕ_discrete (slice_index s.words i) 0)
        (λ e. let l = owes r.kept.world s.words s.homes (stands f k s r.kept id m at someones i below) in (
          record m.0 { own = l.own },
          l.act,
          l.valid,
          record {
            kept = kept f k s r.kept id m at someones i 0 (then (slice_index s.words i)) l m.0.parking;
            served = λ y h. subst (IsServedYet y (slice_set s.words i 0)) (sym (parkings_kept s.views id m.0 (record m.0 { own = l.own }) at refl))
                (subst (λ n. IsServedYet y (slice_set s.words i n) (parkings s.views)) e (look_leaves i s r y h));
            futexes = r.futexes;
          },
          l.tells,
        ))
        (λ ne. let l = owes r.kept.world s.words s.homes (stands f k s r.kept id m at someones i below) in
        let number = sum (passed x) (parkings s.views) - sum (paid x) (parkings s.views) in
        let q = paying_at i number m.0.parking in (
          record m.0 { own = l.own; parking = q },
          l.act,
          l.valid,
          both_hold x is slots id m someones 0 s r at (then (slice_index s.words i)) l q (λ y a. paying_else x y a m.0.parking number)
              (takes_now x (r.futexes.two x is) s.words (parkings s.views) id m.0.parking (parkings_at s.views id m.0 at) (r.served x is) 0
              (λ none. none refl) (r.futexes.there x r.kept.world s.words s.homes is r.kept.shows).0),
          carries (slice_index s.words i) (record m.0 { own = l.own }, carried_after m.1 l.act) q (omega (arith, ne)) refl l.tells,
        ))

  pub allowed_take_or_look : (slots id i : ℕ) (m : Me S (View V T)) (st : Step S) → IsSomeones f m.0 → IsGrant f k i
      → Owes f k m i (λ _. 0) (runs_take_or_look f st m) → Allows (Holds f k) slots id m i (λ _. 0) (runs_take_or_look f st m)
  allowed_take_or_look slots id i m st someones grant = allowed_take grant.0 slots id i grant.1 m someones (runs_take_or_look f st m)
      (λ n t q some same told. ((λ e. absurd (omega arith)), (λ h. let o = told.1 h in (o.0, rested f m t m.1 q same o.1))))

  pub allowed_take_or_nothing : (slots id i : ℕ) (m : Me S (View V T)) (st : Step S) → IsSomeones f m.0 → IsGrant f k i
      → Owes f k m i (λ _. 0) (runs_take_or_nothing f st m) → Allows (Holds f k) slots id m i (λ _. 0) (runs_take_or_nothing f st m)
  allowed_take_or_nothing slots id i m st someones grant = allowed_take grant.0 slots id i grant.1 m someones (runs_take_or_nothing f st m)
      (λ n t q some same told. ((λ e. absurd (omega arith)), (λ h. let o = told.1 h in (o.0, rested f m t m.1 q same o.1))))

  pub allowed_take_since : (slots id i : ℕ) (m t : Me S (View V T)) (st : Step S) → IsSomeones f m.0 → IsGrant f k i
      → Owes f k m i (λ _. 0) (runs_take_or_nothing f st m) → t ≡ m → Allows (Holds f k) slots id t i (λ _. 0) (runs_take_or_nothing f st t)
  allowed_take_since slots id i m t st someones grant owes same =
      subst (λ q. Allows (Holds f k) slots id q i (λ _. 0) (runs_take_or_nothing f st q)) (sym same)
      (allowed_take_or_nothing slots id i m st someones grant owes)
