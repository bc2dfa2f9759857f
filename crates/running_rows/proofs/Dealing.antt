-- Both rules are kept by the steps at a futex that are no rows.
use Rattle.std.proofs.Common.{◌≡◌, ◌≢◌, ℕ, zero, suc, ◌+◌, ◌%◌, ◌<◌, true, false, List, [], ◌∷◌, ◌++◌, length, set, slice_index, slice_set, sym, refl, ap, ◌∙◌, subst, ⊎_elim, inl, inr}
use Rattle.std.proofs.Common.{get_or-set_other}
use Rattle.std.proofs.lemmas.List.{set-get_or}
use mathlib.Core.Logic.{dite}
use native.Mathlib.Decide.{ℕ_discrete}
use mathlib.Core.Option.{some, some-injective, some-ne-none}
use lib.ListN.{get_elem?}
use Rattle.atomic_table.specs.Table.{State, Me, Step, keeps, Allows, Splits, Joins}
use Rattle.atomic_table.proofs.Lists.{at_set, set_again, set_here, set_else}
use Rattle.running_rows.specs.declared.view.View.{View}
use Rattle.running_rows.specs.declared.parking.Stage.{Stage}
use Rattle.running_rows.specs.declared.parking.Stage.TheVariants.{Counted, Asleep, Wants, Owes, Overflowed}
use Rattle.running_rows.specs.declared.parking.Parking.{Parking}
use Rattle.running_rows.specs.Family.{Family}
use Rattle.running_rows.specs.Futex.{Futex, ShareNoWord, grant_at, lets_go, IsServedYet, fresh_parking, joined}
use Rattle.running_rows.specs.Rule.{IsSomeones, IsSeated, HasSeat, HasSeats, IsKept, AreFutexes, AreServed, Holds, parkings}
use Rattle.running_rows.specs.Parking.{dealing, at_stage, but_last, done, fallen_asleep, sleeping, wanting, to_try, StaysCounted, IsAboutToSleep, having_called, counts, comes_back, looks_at_lock, looks_at_grant, looks_for_sleepers, calls_kernel, IsOwing, IsCountedIn}
use Rattle.running_rows.proofs.Places.{at_low, same_at}
use Rattle.running_rows.proofs.Serving.{IsSameAt, elsewhere, one_more, joined_served}
use Rattle.running_rows.proofs.FutexSteps.{is_counted, is_overflowed, comes_from_sleep, sleeps_at_grant, sleeps_at_lock, to_try_same, trying_else, calls_now, owes_no_more, IsOther, other_counted, other_asleep, other_owes, other_overflowed, stage_else, done_else, sleeping_else, called_else}

module _ {V T : Type 0} where
  pub parkings_set : (views : List (View V T)) (id : ℕ) (v : View V T) → parkings (set views id v) ≡ set (parkings views) id v.parking
  parkings_set [] id v = refl
  parkings_set (x ∷ xs) zero v = refl
  parkings_set (x ∷ xs) (suc id) v = ap (λ (l : List Parking). x.parking ∷ l) (parkings_set xs id v)

  pub parkings_at : (views : List (View V T)) (id : ℕ) (v : View V T) → get_elem? views id ≡ some v → get_elem? (parkings views) id ≡ some v.parking
  parkings_at [] id v e = absurd (some-ne-none v (sym e))
  parkings_at (x ∷ xs) zero v e = ap (λ (y : View V T). some y.parking) (some-injective x v e)
  parkings_at (x ∷ xs) (suc id) v e = parkings_at xs id v e

  -- another view of a thread that deals as it did
  pub parkings_kept : (views : List (View V T)) (id : ℕ) (v w : View V T) → get_elem? views id ≡ some v → w.parking ≡ v.parking
      → parkings (set views id w) ≡ parkings views
  parkings_kept views id v w at same =
      parkings_set views id w ∙ ap (set (parkings views) id) same ∙ set_again (parkings views) id v.parking (parkings_at views id v at)

  pub parkings_more : (views : List (View V T)) (v : View V T) → parkings (views ++ v ∷ []) ≡ parkings views ++ v.parking ∷ []
  parkings_more [] v = refl
  parkings_more (x ∷ xs) v = ap (λ (l : List Parking). x.parking ∷ l) (parkings_more xs v)

-- what the last look at a lock leaves a thread that is counted
module _ {S V T : Type 0} (m t : Me S (View V T)) (st : Step S) (n i : ℕ) (counted : IsAboutToSleep i m.0.parking) where
  abbrev owing_a_try : Parking
  owing_a_try = at_stage (Wants st.word) (done m.0.parking)

  -- what is left of the stages once the sleep is over
  left_over : (g : List Stage → List Stage) → but_last (g (Counted i ∷ counted.0)) ≡ Wants st.word ∷ counted.0
      → but_last (g m.0.parking.stages) ≡ Wants st.word ∷ but_last m.0.parking.stages
  left_over g one = ap (λ (ps : List Stage). but_last (g ps)) counted.1 ∙ one ∙ sym (ap (λ (ps : List Stage). Wants st.word ∷ but_last ps) counted.1)

  pub looked_at_lock : looks_at_lock st m n t → StaysCounted i owing_a_try m t
  looked_at_lock looked = dite (ℕ_discrete n 0)
      (λ e. subst (StaysCounted i owing_a_try m) (sym (looked.0 e)) (record {
        counted = (Wants st.word ∷ counted.0, inl (ap (wanting st.word) counted.1));
        same = λ j. dealing (record m.0.parking { stages = left_over (wanting st.word) refl j }) m;
      }))
      (λ ne. subst (StaysCounted i owing_a_try m) (sym (looked.1 ne)) (record {
        counted = (Wants st.word ∷ counted.0, inr (ap (λ (ps : List Stage). wanting st.word (fallen_asleep ps)) counted.1));
        same = λ j. dealing (record m.0.parking { stages = left_over (λ ps. wanting st.word (fallen_asleep ps)) refl j }) m;
      }))

module _ {S V T K : Type 0} (f : Family S V T K) (k : f.Key) where
  -- the views tell of other dealings of one thread
  module _ (s : State S (View V T)) (r : IsKept f k s) (id : ℕ) (v : View V T) (at : get_elem? s.views id ≡ some v) (q : Parking) (words : List ℕ)
      (shows : f.Shows k r.world words s.homes) where
    abbrev now : View V T
    now = record v { parking = q }

    reseated : (j n : ℕ) → IsSeated f s.views j n → IsSeated f (set s.views id now) j n
    reseated j n o = dite (ℕ_discrete j id)
        (λ e. let same = same_at s.views j id o.0 v e o.1 at in
        subst (λ i. IsSeated f (set s.views id now) i n) (sym e)
        (now, set_here s.views id now (at_low s.views id v at), subst (IsSomeones f) same o.2, subst (HasSeat n) same o.3))
        (λ ne. (o.0, set_else s.views id j now ne ∙ o.1, o.2, o.3))

    pub dealt : IsKept f k (record { words = words; homes = s.homes; views = set s.views id now })
    dealt = record {
      world = r.world;
      shows = shows;
      history = r.history;
      writes = r.writes;
      made = r.made;
      by_seats = r.by_seats;
      spot = r.spot;
      views = λ j u e h. ⊎_elim
          (λ (t : (j ≡ id) × (now ≡ u)). subst (λ (y : ℕ × View V T). HasSeats f k r.world r.history r.spot r.made y.0 y.1)
          (λ n. (sym t.0 n, t.1 n)) (let o = r.views id v at (subst (IsSomeones f) (sym t.1) h) in
          record { own = o.own; guests = o.guests; others = o.others; apart = o.apart }))
          (λ (t : (j ≢ id) × (get_elem? s.views j ≡ some u)). r.views j u t.1 h)
          (at_set s.views id j now u e);
      seated = λ n low. reseated (r.spot n) n (r.seated n low);
      unmade = r.unmade;
      maker = λ j u e h made. ⊎_elim
          (λ (t : (j ≡ id) × (now ≡ u)). subst (λ (y : View V T). (y.own.number ≡ 0) × (y.made ≡ r.made)) t.1
          (r.maker id v at (subst (IsSomeones f) (sym t.1) h) (subst (λ (y : View V T). 0 < y.made) (sym t.1) made)))
          (λ (t : (j ≢ id) × (get_elem? s.views j ≡ some u)). r.maker j u t.1 h made)
          (at_set s.views id j now u e);
      fits = r.fits;
    }

  -- the futex x0 is served, and at all others nothing has changed
  pub served_at : AreFutexes f k → (x0 : Futex) → f.IsFutex k x0 → (words next : List ℕ) (views : List (View V T)) (id : ℕ) (v w : View V T)
      → get_elem? views id ≡ some v
      → ((x : Futex) → ShareNoWord x x0
      → IsSameAt x v.parking w.parking × (slice_index next x.word ≡ slice_index words x.word) × (slice_index next x.sleepers ≡ slice_index words x.sleepers))
      → AreServed f k words views → IsServedYet x0 next (set (parkings views) id w.parking)
      → AreServed f k next (set views id w)
  served_at futexes x0 is words next views id v w at else served here x h =
      subst (IsServedYet x next) (sym (parkings_set views id w))
      (⊎_elim (λ (same : x ≡ x0). subst (λ y. IsServedYet y next (set (parkings views) id w.parking)) (sym same) here)
      (λ apart. let o = else x apart in
      elsewhere x words next (parkings views) id v.parking w.parking (parkings_at views id v at) o.0 o.1 o.2 (served x h))
      (futexes.apart x x0 h is))

  -- words that only a step at x0 has changed
  pub at_word : (x0 x : Futex) (words : List ℕ) (n : ℕ) → ShareNoWord x x0
      → (slice_index (slice_set words x0.word n) x.word ≡ slice_index words x.word)
      × (slice_index (slice_set words x0.word n) x.sleepers ≡ slice_index words x.sleepers)
  at_word x0 x words n a = (get_or-set_other words x0.word x.word n 0 a.words, get_or-set_other words x0.word x.sleepers n 0 a.other)

  pub at_count : (x0 x : Futex) (words : List ℕ) (n : ℕ) → ShareNoWord x x0
      → (slice_index (slice_set words x0.sleepers n) x.word ≡ slice_index words x.word)
      × (slice_index (slice_set words x0.sleepers n) x.sleepers ≡ slice_index words x.sleepers)
  at_count x0 x words n a = (get_or-set_other words x0.sleepers x.word n 0 a.word, get_or-set_other words x0.sleepers x.sleepers n 0 a.sleepers)

  -- both rules are kept by a step at the futex x, by which the thread of m came to deal so
  module _ (x : Futex) (is : f.IsFutex k x) (s : State S (View V T)) (r : Holds f k s) (id : ℕ) (m : Me S (View V T))
      (at : get_elem? s.views id ≡ some m.0) (q : Parking) (else : (y : Futex) → ShareNoWord y x → IsSameAt y m.0.parking q) where
    pub there : (x.word < length s.words) × (x.sleepers < length s.words)
    there = r.futexes.there x r.kept.world s.words s.homes is r.kept.shows

    pub at_there : get_elem? (parkings s.views) id ≡ some m.0.parking
    at_there = parkings_at s.views id m.0 at

    abbrev pub dealt_views : List (View V T)
    dealt_views = set s.views id (record m.0 { parking = q })

    -- the count has changed
    pub count_holds : (n : ℕ) → IsServedYet x (slice_set s.words x.sleepers n) (set (parkings s.views) id q)
        → Holds f k (record { words = slice_set s.words x.sleepers n; homes = s.homes; views = dealt_views })
    count_holds n here = record {
      kept = dealt s r.kept id m.0 at q (slice_set s.words x.sleepers n) (r.futexes.unseen x r.kept.world s.words s.homes n is r.kept.shows);
      served = served_at r.futexes x is s.words (slice_set s.words x.sleepers n) s.views id m.0 (record m.0 { parking = q }) at (λ y a. (else y a, (at_count x y s.words n a).0, (at_count x y s.words n a).1)) r.served here;
      futexes = r.futexes;
    }

    -- no word has
    pub look_holds : (i : ℕ) → IsServedYet x s.words (set (parkings s.views) id q)
        → Holds f k (record { words = slice_set s.words i (slice_index s.words i); homes = s.homes; views = dealt_views })
    look_holds i here =
        subst (λ (ws : List ℕ). Holds f k (record { words = ws; homes = s.homes; views = dealt_views })) (sym (set-get_or s.words i 0)) (record {
          kept = dealt s r.kept id m.0 at q s.words r.kept.shows;
          served = served_at r.futexes x is s.words s.words s.views id m.0 (record m.0 { parking = q }) at (λ y a. (else y a, refl, refl)) r.served here;
          futexes = r.futexes;
        })

  -- a look that changes nothing
  pub unchanged : (s : State S (View V T)) (id i : ℕ) (v : View V T) → get_elem? s.views id ≡ some v → Holds f k s
      → Holds f k (record { words = slice_set s.words i (slice_index s.words i); homes = s.homes; views = set s.views id v })
  unchanged s id i v at r = subst (λ (y : List ℕ × List (View V T)). Holds f k (record { words = y.0; homes = s.homes; views = y.1 }))
      (λ j. (sym (set-get_or s.words i 0) j, sym (set_again s.views id v at) j)) (record {
        kept = record {
          world = r.kept.world;
          shows = r.kept.shows;
          history = r.kept.history;
          writes = r.kept.writes;
          made = r.kept.made;
          by_seats = r.kept.by_seats;
          spot = r.kept.spot;
          views = r.kept.views;
          seated = r.kept.seated;
          unmade = r.kept.unmade;
          maker = r.kept.maker;
          fits = r.kept.fits;
        };
        served = r.served;
        futexes = r.futexes;
      })

  module _ (slots id : ℕ) (m : Me S (View V T)) (x : Futex) (is : f.IsFutex k x) (st : Step S) where
    -- the thread counts itself
    module _ (p : Stage) (other : (y : Futex) (a : ShareNoWord y x) → IsOther x y a m.0.parking p) (s : State S (View V T)) (r : Holds f k s)
        (at : get_elem? s.views id ≡ some m.0) (n : ℕ) where
      counts_one : IsServedYet x (slice_set s.words x.sleepers n) (set (parkings s.views) id (at_stage p m.0.parking))
          → Holds f k (record { words = slice_set s.words x.sleepers n; homes = s.homes; views = set s.views id (record m.0 { parking = at_stage p m.0.parking }) })
      counts_one = count_holds x is s r id m at (at_stage p m.0.parking) (λ y a. stage_else x y a m.0.parking p (other y a)) n

    pub allowed_counts : st.word ≡ x.sleepers → Allows (Holds f k) slots id m x.sleepers (λ n. (n + 1) % 18446744073709551616) (counts st m)
    allowed_counts here s r sized at below = dite (ℕ_discrete (slice_index s.words x.sleepers) 18446744073709551615)
        (λ e. (
          record m.0 { parking = at_stage (Overflowed x.sleepers) m.0.parking },
          keeps,
          tt,
          counts_one (Overflowed x.sleepers) (λ y a. other_overflowed x y a m.0.parking) s r at ((slice_index s.words x.sleepers + 1) % 18446744073709551616)
              (is_overflowed x (r.futexes.two x is) s.words (parkings s.views) id m.0.parking (parkings_at s.views id m.0 at) (r.served x is) lies below
              ((slice_index s.words x.sleepers + 1) % 18446744073709551616)),
          ((λ ne. absurd (ne e)), (λ _. ap (λ (i : ℕ). dealing (at_stage (Overflowed i) m.0.parking) m) (sym here))),
        ))
        (λ ne. (
          record m.0 { parking = at_stage (Counted x.sleepers) m.0.parking },
          keeps,
          tt,
          counts_one (Counted x.sleepers) (λ y a. other_counted x y a m.0.parking) s r at ((slice_index s.words x.sleepers + 1) % 18446744073709551616)
              (is_counted x (r.futexes.two x is) s.words (parkings s.views) id m.0.parking (parkings_at s.views id m.0 at) (r.served x is) lies below ne),
          ((λ _. ap (λ (i : ℕ). dealing (at_stage (Counted i) m.0.parking) m) (sym here)), (λ e. absurd (ne e))),
        ))
      where
        lies : x.sleepers < length s.words
        lies = (r.futexes.there x r.kept.world s.words s.homes is r.kept.shows).1

    -- and no more
    pub allowed_comes_back : IsCountedIn x.sleepers m.0.parking
        → Allows (Holds f k) slots id m x.sleepers (λ n. (n + 18446744073709551615) % 18446744073709551616) (comes_back st m)
    allowed_comes_back is_in s r sized at below = (
      record m.0 { parking = done m.0.parking },
      keeps,
      tt,
      count_holds x is s r id m at (done m.0.parking) else ((slice_index s.words x.sleepers + 18446744073709551615) % 18446744073709551616)
          (comes_from_sleep x (r.futexes.two x is) s.words (parkings s.views) id m.0.parking (parkings_at s.views id m.0 at) (r.served x is)
          (there x is s r id m at (done m.0.parking) else).1 below is_in),
      refl,
    )
      where
        else : (y : Futex) → ShareNoWord y x → IsSameAt y m.0.parking (done m.0.parking)
        else y a = ⊎_elim
            (λ e. done_else x y a m.0.parking (Counted x.sleepers) is_in.0 e (other_counted x y a m.0.parking))
            (λ e. done_else x y a m.0.parking (Asleep x.sleepers) is_in.0 e (other_asleep x y a m.0.parking)) is_in.1

    -- the last look before the kernel's own, by one who is counted
    pub allowed_look_at_lock : x.is_lock ≡ true → (rest : List Stage) → m.0.parking.stages ≡ Counted x.sleepers ∷ rest
        → Allows (Holds f k) slots id m x.word (λ n. n) (looks_at_lock st m)
    allowed_look_at_lock lock rest counted s r sized at below = dite (ℕ_discrete (slice_index s.words x.word) 0)
        (λ e. (
          record m.0 { parking = to_try st.word m.0.parking },
          keeps,
          tt,
          look_holds x is s r id m at (to_try st.word m.0.parking) (λ y a. same y) x.word
              (elsewhere x s.words s.words (parkings s.views) id m.0.parking (to_try st.word m.0.parking) there_is (same x) refl refl (r.served x is)),
          ((λ _. refl), (λ ne. absurd (ne e))),
        ))
        (λ ne. (
          record m.0 { parking = to_try st.word (sleeping m.0.parking) },
          keeps,
          tt,
          look_holds x is s r id m at (to_try st.word (sleeping m.0.parking)) (λ y a. trying_else x y a m.0.parking st.word rest counted) x.word
              (sleeps_at_lock x (r.futexes.two x is) s.words (parkings s.views) id m.0.parking there_is (r.served x is) rest counted
              (λ go. ne (subst (λ b. lets_go b (slice_index s.words x.word)) lock go)) st.word),
          ((λ e. absurd (ne e)), (λ _. refl)),
        ))
      where
        there_is : get_elem? (parkings s.views) id ≡ some m.0.parking
        there_is = parkings_at s.views id m.0 at

        same : (y : Futex) → IsSameAt y m.0.parking (to_try st.word m.0.parking)
        same y = to_try_same y m.0.parking x.sleepers st.word rest counted

    pub allowed_look_at_grant : x.is_lock ≡ false → (rest : List Stage) → m.0.parking.stages ≡ Counted x.sleepers ∷ rest
        → Allows (Holds f k) slots id m x.word (λ n. n) (looks_at_grant st m)
    allowed_look_at_grant grant rest counted s r sized at below = dite (ℕ_discrete (slice_index s.words x.word) 0)
        (λ e. (
          record m.0 { parking = sleeping m.0.parking },
          keeps,
          tt,
          look_holds x is s r id m at (sleeping m.0.parking) (λ y a. sleeping_else x y a m.0.parking rest counted) x.word
              (sleeps_at_grant x (r.futexes.two x is) s.words (parkings s.views) id m.0.parking (parkings_at s.views id m.0 at) (r.served x is) rest counted
              (λ go. subst (λ b. lets_go b (slice_index s.words x.word)) grant go e)),
          ((λ ne. absurd (ne e)), (λ _. refl)),
        ))
        (λ ne. (m.0, keeps, tt, unchanged s id x.word m.0 at r, ((λ _. refl), (λ e. absurd (ne e)))))

    -- the looks of one who owes a call
    module _ (rest : List Stage) (owes : m.0.parking.stages ≡ Owes x.word ∷ rest) where
      settles : (s : State S (View V T)) (r : Holds f k s) (at : get_elem? s.views id ≡ some m.0) (i : ℕ)
          → (lets_go x.is_lock (slice_index s.words x.word) → slice_index s.words x.sleepers ≡ 0)
          → Holds f k (record {
            words = slice_set s.words i (slice_index s.words i);
            homes = s.homes;
            views = set s.views id (record m.0 { parking = done m.0.parking });
          })
      settles s r at i nobody = look_holds x is s r id m at (done m.0.parking)
          (λ y a. done_else x y a m.0.parking (Owes x.word) rest owes (other_owes x y a m.0.parking)) i
          (owes_no_more x (r.futexes.two x is) s.words (parkings s.views) id m.0.parking (parkings_at s.views id m.0 at) (r.served x is) rest owes nobody)

      pub allowed_look_for_sleepers : (i : ℕ)
          → ((words : List ℕ) → slice_index words i ≡ 0 → lets_go x.is_lock (slice_index words x.word) → slice_index words x.sleepers ≡ 0)
          → Allows (Holds f k) slots id m i (λ n. n) (looks_for_sleepers st m)
      allowed_look_for_sleepers i nobody s r sized at below = dite (ℕ_discrete (slice_index s.words i) 0)
          (λ e. (
            record m.0 { parking = done m.0.parking },
            keeps,
            tt,
            settles s r at i (nobody s.words e),
            ((λ _. refl), (λ ne. absurd (ne e))),
          ))
          (λ ne. (m.0, keeps, tt, unchanged s id i m.0 at r, ((λ e. absurd (ne e)), (λ _. refl))))

      pub allowed_call : (i : ℕ) → Allows (Holds f k) slots id m i (λ n. n) (calls_kernel st m)
      allowed_call i s r sized at below = (
        record m.0 { parking = having_called m.0.parking },
        keeps,
        tt,
        look_holds x is s r id m at (having_called m.0.parking) (λ y a. called_else x y a m.0.parking rest owes) i
            (calls_now x (r.futexes.two x is) s.words (parkings s.views) id m.0.parking (parkings_at s.views id m.0 at) (r.served x is) rest owes),
        refl,
      )

  -- the same of the futex that counts its sleepers in the word i
  module _ (slots id i : ℕ) (m : Me S (View V T)) (x : Futex) (is : f.IsFutex k x) (st : Step S) (here : x.sleepers ≡ i) where
    pub allowed_begin : st.word ≡ i → Allows (Holds f k) slots id m i (λ n. (n + 1) % 18446744073709551616) (counts st m)
    allowed_begin there = subst (λ j. Allows (Holds f k) slots id m j (λ n. (n + 1) % 18446744073709551616) (counts st m)) here
        (allowed_counts slots id m x is st (there ∙ sym here))

    pub allowed_end : IsCountedIn i m.0.parking
        → Allows (Holds f k) slots id m i (λ n. (n + 18446744073709551615) % 18446744073709551616) (comes_back st m)
    allowed_end counted = subst (λ j. Allows (Holds f k) slots id m j (λ n. (n + 18446744073709551615) % 18446744073709551616) (comes_back st m)) here
        (allowed_comes_back slots id m x is st (subst (λ j. IsCountedIn j m.0.parking) (sym here) counted))

  -- at a lock a count of 0 says that nobody is left, at a grant a grant of 0 does too
  pub allowed_look_at_count : (slots id : ℕ) (m : Me S (View V T)) (x : Futex) → f.IsFutex k x → (st : Step S) → IsOwing x.word m.0.parking
      → Allows (Holds f k) slots id m x.sleepers (λ n. n) (looks_for_sleepers st m)
  allowed_look_at_count slots id m x is st owes = allowed_look_for_sleepers slots id m x is st owes.0 owes.1 x.sleepers (λ words e go. e)

  pub allowed_look_back : (slots id : ℕ) (m : Me S (View V T)) (word sleepers : ℕ) → f.IsFutex k (grant_at word sleepers) → (st : Step S)
      → IsOwing word m.0.parking → Allows (Holds f k) slots id m word (λ n. n) (looks_for_sleepers st m)
  allowed_look_back slots id m word sleepers is st owes =
      allowed_look_for_sleepers slots id m (grant_at word sleepers) is st owes.0 owes.1 word (λ words e go. absurd (go e))

  pub allowed_calls : (slots id i : ℕ) (m : Me S (View V T)) → ((x : Futex) × f.IsFutex k x × (x.word ≡ i)) → (st : Step S) → IsOwing i m.0.parking
      → Allows (Holds f k) slots id m i (λ n. n) (calls_kernel st m)
  allowed_calls slots id i m x st owes = allowed_call slots id m x.0 x.1 st owes.0
      (owes.1 ∙ (λ j. Owes (sym x.2 j) ∷ owes.0)) i

  -- a view is cut in two, of which the first has all dealings
  pub splits_hold : (id : ℕ) (v left right : View V T) → left.parking ≡ v.parking → right.parking ≡ fresh_parking
      → Splits (IsKept f k) id v left right → Splits (Holds f k) id v left right
  splits_hold id v left right same new splits s r at = record {
    kept = splits s r.kept at;
    served = λ x is. subst (IsServedYet x s.words)
        (sym (parkings_more (set s.views id left) right
        ∙ (λ j. parkings_kept s.views id v left at same j ++ new j ∷ [])))
        (one_more x s.words (parkings s.views) (r.served x is));
    futexes = r.futexes;
  }

  -- a view takes in another's dealings
  pub joins_hold : (id : ℕ) (v : View V T) (other : ℕ) (w both spent : View V T) → both.parking ≡ joined v.parking w.parking
      → spent.parking ≡ fresh_parking
      → Joins (IsKept f k) id v other w both spent → Joins (Holds f k) id v other w both spent
  joins_hold id v other w both spent all none joins s r at apart theirs = record {
    kept = joins s r.kept at apart theirs;
    served = λ x is. subst (IsServedYet x s.words) (sym together)
        (joined_served x s.words (parkings s.views) id other v.parking w.parking (parkings_at s.views id v at) apart
        (ap (λ (l : List Parking). get_elem? l other) (sym one_set) ∙ parkings_at (set s.views id both) other w theirs) (r.served x is));
    futexes = r.futexes;
  }
    where
      one_set : parkings (set s.views id both) ≡ set (parkings s.views) id (joined v.parking w.parking)
      one_set = parkings_set s.views id both ∙ ap (set (parkings s.views) id) all

      together : parkings (set (set s.views id both) other spent) ≡ set (set (parkings s.views) id (joined v.parking w.parking)) other fresh_parking
      together = parkings_set (set s.views id both) other spent ∙ (λ j. set (one_set j) other (none j))
