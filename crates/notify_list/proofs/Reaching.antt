-- The rows by which a notification of all grants.
use Rattle.std.proofs.Common.{◌≡◌, ◌≢◌, ℕ, zero, suc, ◌+◌, ◌-◌, ◌<◌, ◌≤◌, ◌==◌, if◌then◌else◌, Bool, true, false, List, [], ◌∷◌}
use Rattle.std.proofs.Common.{◌++◌, length, sym, refl, ap, ◌∙◌, subst, arith}
use Rattle.std.proofs.Common.{append-nil}
use native.Mathlib.Decide.{ℕ_discrete}
use Rattle.waiters.specs.declared.wait.Wait.{Wait}
use Rattle.step_table.specs.declared.list_place.AllRow.TheVariants.{L4, L5, L6, L7}
use Rattle.step_table.specs.declared.list_place.ListEffect.{ListEffect}
use Rattle.step_table.specs.declared.list_place.ListEffect.TheVariants.{Nothing, Grants}
use Rattle.step_table.specs.declared.list_place.ListPlace.{ListPlace}
use Rattle.step_table.specs.declared.list_place.ListPlace.TheVariants.{NotifyingAll}
use Rattle.step_table.specs.declared.list_place.Reach.{Reach}
use Rattle.step_table.specs.Wrapping.{word_of, minus}
use Rattle.step_table.specs.ListSteps.{seat_after}
use Rattle.step_table.specs.ListWorld.{Numbers, ListWords, ListSeat, Granted}
use Rattle.step_table.specs.Path.{GoesOn}
use Rattle.step_table.proofs.Paths.{goes_on_more}
use Rattle.step_law_lists.specs.ListLawful.{told}
use Rattle.step_law_lists.specs.ListCalls.{Reaches}
use Rattle.step_law_lists.specs.ListPath.{entries_of}
use Rattle.step_law_lists.specs.ListPlaces.{ReachedList}
use Rattle.running_rows.specs.Strides.{RanRow, here}
use Rattle.notify_list.specs.declared.view.Setting.{Setting}
use Rattle.notify_list.specs.Places.{at_place}
use Rattle.notify_list.specs.Rows.{list_rows}
use Rattle.notify_list.specs.Plays.{Me}
use Rattle.notify_list.specs.Seats.{ListModel, Token, guarded_of, queue_of, seen_of, setting_of, stands_of}
use Rattle.notify_list.specs.Walks.{Walked, HasRecord}
use Rattle.notify_list.specs.NotifyingAll.{reach_rows, all_entries}
use Rattle.notify_list.specs.GrantingAll.{MayReach, ReachedAll}
use Rattle.notify_list.proofs.Keeping.{laws_of}
use Rattle.notify_list.proofs.Leading.{Ran, Led, led, ran_from, ran_edited, if_equal, if_unequal}
use Rattle.notify_list.proofs.Walking.{walked_row, walked_on, walked_later}
use Rattle.std.proofs.lemmas.List.{length-map}
use Rattle.step_table.specs.Counting.{among}
use Rattle.step_table.specs.ListWorld.{passing}
use Rattle.step_table.proofs.Skipping.{none_skipped}
use Rattle.step_law_lists.specs.ListInvariant.{Knows}
use Rattle.step_law_lists.specs.ListPath.{ListSight}
use Rattle.step_law_lists.proofs.ListJournals.{passing_gone}
use Rattle.step_law_lists.proofs.ListLawfulness.{known_at}
use Rattle.notify_list.specs.LiveTickets.{AreEarly}
use Rattle.notify_list.specs.Records.{MayPassAll, PassedAll}
use Rattle.notify_list.specs.Rule.{Guarded, guarded_in, guarded_after, IsRecord}
use Rattle.notify_list.proofs.Going.{few_rising, few_handed}
use Rattle.notify_list.proofs.LiveTickets.{minus_near}
use Rattle.notify_list.proofs.Passing.{gone_early}
use Rattle.notify_list.proofs.Recording.{record_kept}

-- what L6 tells, by how many tickets it grants: none only where the two words are equal
l6_told : (i first g handed notified waited n : ℕ) → minus waited notified + g ≡ handed → notified ≡ word_of first g → waited ≡ word_of first handed
    → (g < handed → 0 < n) → (g ≡ handed → n ≡ 0)
    → entries_of i (if notified == waited then Nothing else Grants handed) ≡ all_entries i handed n
l6_told i first g handed notified waited n sum low high some none = by (ℕ_discrete notified waited)
  where
    some_granted : (m : ℕ) → n ≡ m → notified ≢ waited → Granted handed i ∷ [] ≡ all_entries i handed m
    some_granted zero e ne = absurd (ne (low ∙ ap (word_of first) (at (ℕ_discrete g handed)) ∙ sym high))
      where
        at : Dec (g ≡ handed) → g ≡ handed
        at (yes same) = same
        at (no other) = absurd (let more = some (omega arith) in omega arith)
    some_granted (suc m) e ne = refl

    by : Dec (notified ≡ waited) → entries_of i (if notified == waited then Nothing else Grants handed) ≡ all_entries i handed n
    by (yes e) =
        let zero_far : minus waited notified ≡ 0
        = (λ j. minus (sym e j) notified) ∙ (λ j. minus (low j) (low j)) ∙ minus_near first g g (omega arith) (omega arith) ∙ omega arith in
        ap (λ (x : ListEffect). entries_of i x) (if_equal notified waited Nothing (Grants handed) e)
        ∙ ap (all_entries i handed) (sym (none (omega arith)))
    by (no ne) =
        ap (λ (x : ListEffect). entries_of i x) (if_unequal notified waited Nothing (Grants handed) ne) ∙ some_granted n refl ne

-- and nothing of the seat but its place
l6_seat : (b : Bool) (h handed : ℕ) (r : Reach) (g : ListWords) (p : ListPlace) (y : ListSeat)
    → seat_after g (p, if b then Nothing else Grants handed) (at_place (NotifyingAll h (L6 r)) y) ≡ at_place p y
l6_seat true h handed r g p y = refl
l6_seat false h handed r g p y = refl

-- what lies under the lock then: all tickets up to the one that was read are passed, and none is gone
record AllOver (g : Guarded) (queue : List Wait) (handed : ℕ) : Type 0 where
  queue_is : g.queue ≡ queue
  passed_is : g.passed ≡ handed
  none : (n : ℕ) → among n g.gone ≡ 0

no_more : (n : ℕ) (gone : List ℕ) → (0 < among n gone → ⊥) → among n gone ≡ 0
no_more n gone none = by (ℕ_discrete (among n gone) 0)
  where
    by : Dec (among n gone ≡ 0) → among n gone ≡ 0
    by (yes is) = is
    by (no some) = absurd (none (omega arith))

l6_over : (g : ListWords) (handed notified waited first : ℕ) → minus waited notified + g.numbers.passed ≡ handed → notified ≡ word_of first g.numbers.passed
    → ((n : ℕ) → 0 < among n g.numbers.gone → (g.numbers.passed < n) × (n < handed))
    → AllOver (guarded_after (if notified == waited then Nothing else Grants handed) g) g.queue handed
l6_over g handed notified waited first sum low within = by (ℕ_discrete notified waited)
  where
    not_gone : among handed g.numbers.gone ≡ 0
    not_gone = no_more handed g.numbers.gone (λ some. (let b = (within handed some).1 in omega arith))

    same : notified ≡ waited → g.numbers.passed ≡ handed
    same e = let zero_far : minus waited notified ≡ 0
        = (λ j. minus (sym e j) notified) ∙ (λ j. minus (low j) (low j))
        ∙ minus_near first g.numbers.passed g.numbers.passed (omega arith) (omega arith) ∙ omega arith in omega arith

    by : Dec (notified ≡ waited) → AllOver (guarded_after (if notified == waited then Nothing else Grants handed) g) g.queue handed
    by (yes e) = subst (λ (x : ListEffect). AllOver (guarded_after x g) g.queue handed) (sym (if_equal notified waited Nothing (Grants handed) e)) (record {
      queue_is = refl;
      passed_is = same e;
      none = λ n. no_more n g.numbers.gone (λ some. (let b = within n some in let l = b.0 in let m = b.1 in let q = same e in omega arith));
    })
    by (no ne) = subst (λ (x : ListEffect). AllOver (guarded_after x g) g.queue handed) (sym (if_unequal notified waited Nothing (Grants handed) ne)) (record {
      queue_is = refl;
      passed_is = none_skipped g.numbers.gone handed not_gone;
      none = λ n. no_more n (passing g.numbers.handed handed g.numbers.gone).gone (λ some.
          (let b = passing_gone g.numbers.handed handed n g.numbers.gone some in let c = (within n b.1).1 in let d = b.0 in
          let q = none_skipped g.numbers.gone handed not_gone in omega arith));
    })

module _ (l : ListModel) (s : Token) (h : ℕ) (may : MayReach l s h) where
  abbrev a : ListPlace → ListSeat
  a p = at_place p (stands_of s)

  pub stands4 : stands_of s ≡ at_place (NotifyingAll h L4) (stands_of s)
  stands4 = λ i. record (stands_of s) { place = may.0.at i }

  module _ (t : Token) (notified : ℕ) (r : RanRow list_rows here s.me notified t.me) (same : t.table_id ≡ s.table_id) where
    row4 : Ran (a (NotifyingAll h L4)) s.me.0.own notified t.me.0.own
    row4 = ran_from s t (a (NotifyingAll h L4)) notified stands4 r

    d4 : Led (a (NotifyingAll h L4)) s.me.0.own notified t.me.0.own row4.stride
    d4 = led (a (NotifyingAll h L4)) s.me.0.own t.me.0.own notified row4

    pub w4 : Walked s (at_place (NotifyingAll h L4) (stands_of s)) t (at_place (NotifyingAll h (L5 notified)) (stands_of s))
        [] ((NotifyingAll h L4, notified) ∷ [])
    w4 = walked_row s t (a (NotifyingAll h L4)) notified (a (NotifyingAll h (L5 notified))) [] row4 same d4.stands d4.told

    record4 : HasRecord t
    record4 = record_kept s t may.1 (ap (λ (m : Me). m.1) r.1) row4.same.1 (d4.guarded ∙ sym (d4.held refl))

    -- L5
    module _ (u : Token) (waited : ℕ) (q : RanRow list_rows here t.me waited u.me) (again : u.table_id ≡ t.table_id) where
      pub row5 : Ran (at_place (NotifyingAll h (L5 notified)) (stands_of s)) t.me.0.own waited u.me.0.own
      row5 = ran_from t u (a (NotifyingAll h (L5 notified))) waited w4.stands_is q

      pub d5 : Led (at_place (NotifyingAll h (L5 notified)) (stands_of s)) t.me.0.own waited u.me.0.own row5.stride
      d5 = led (a (NotifyingAll h (L5 notified))) t.me.0.own u.me.0.own waited row5

      abbrev reach : Reach
      reach = record { notified = notified; waited = waited; handed = d5.world.words.numbers.handed }

      pub w5 : Walked s (at_place (NotifyingAll h L4) (stands_of s)) u
          (at_place (NotifyingAll h (L6 (record { notified = notified; waited = waited; handed = d5.world.words.numbers.handed }))) (stands_of s)) []
          ((NotifyingAll h L4, notified) ∷ (NotifyingAll h (L5 notified), waited) ∷ [])
      w5 = walked_on s t u (a (NotifyingAll h L4)) (a (NotifyingAll h (L5 notified))) (a (NotifyingAll h (L6 reach))) [] []
          ((NotifyingAll h L4, notified) ∷ []) ((NotifyingAll h (L5 notified), waited) ∷ []) w4
          (walked_row t u (a (NotifyingAll h (L5 notified))) waited (a (NotifyingAll h (L6 reach))) [] row5 again d5.stands d5.told)

      record5 : HasRecord u
      record5 = record_kept t u record4 (ap (λ (m : Me). m.1) q.1) row5.same.1 (d5.guarded ∙ sym (d5.held refl))

      -- the record may tell that all are passed
      pub may_pass_all : MayPassAll l u (guarded_of u) d5.world.words.numbers.handed waited
      may_pass_all = record {
        list_is = w5.list_is ∙ may.0.list_is;
        has = record5;
        may = record {
          gone_early = subst (λ (g : Guarded). AreEarly g.passed g.gone) (sym w5.lands.guarded) (gone_early (setting_of u) w5.lands.world w5.lands.met);
          waited_is = knows5.1 ∙ ap (λ (z : ListModel). word_of z.setting.first d5.world.words.numbers.handed) (w5.list_is ∙ may.0.list_is);
          from = let k = knows5.2 in let g = passed5 in omega arith;
          all = λ n some. knows5.6 n (subst (λ (g : Guarded). 0 < among n g.gone) w5.lands.guarded some);
          near = let k = knows5.3 in let g = passed5 in
              let f = few_handed (setting_of u) w5.lands.world few5 w5.lands.met in omega arith;
        };
      }
        where
          laws5 : ReachedList (setting_of u).first (setting_of u).seats w5.lands.world
          laws5 = laws_of (setting_of u) w5.lands.world w5.lands.met

          few5 : (setting_of u).seats ≤ 65536
          few5 = let e = ap (λ (y : ListModel). y.setting.seats) w5.list_is in let f = may.0.few in omega arith

          passed5 : (guarded_of u).passed ≡ w5.lands.world.words.numbers.passed
          passed5 = ap (λ (g : Guarded). g.passed) w5.lands.guarded

          knows5 : Knows (setting_of u).first w5.lands.world.words u.me.0.own.number (NotifyingAll h (L6 reach)) (w5.lands.world.seats u.me.0.own.number).late
          knows5 = known_at (setting_of u).first (setting_of u).seats w5.lands.world u.me.0.own.number laws5.invariant
              (let e = ap (λ (y : ListModel). y.setting.seats) w5.list_is in let f = may.0.there in let g = w5.number_is in omega arith)
              (NotifyingAll h (L6 reach)) (ap (λ (y : ListSight). y.stands.place) (sym w5.lands.sees) ∙ ap (λ (y : ListSeat). y.place) w5.stands_is)

      -- the record tells that all are passed
      module _ (many : ℕ) (y x : Token) (n6 : ℕ) (over : PassedAll u (guarded_of u) d5.world.words.numbers.handed many y)
          (p : RanRow list_rows here y.me n6 x.me) (last : x.table_id ≡ y.table_id) where
        same6 : y.me.0.own ≡ u.me.0.own
        same6 = ap (λ (m : Me). m.0.own) (over.1 [] (λ n. refl)).1.1

        -- L6
        row6 : Ran (a (NotifyingAll h (L6 reach))) u.me.0.own n6 x.me.0.own
        row6 = ran_edited u y x (a (NotifyingAll h (L6 reach))) n6 same6 w5.stands_is p

        d6 : Led (a (NotifyingAll h (L6 reach))) u.me.0.own n6 x.me.0.own row6.stride
        d6 = led (a (NotifyingAll h (L6 reach))) u.me.0.own x.me.0.own n6 row6

        laws6 : ReachedList (setting_of u).first (setting_of u).seats d6.world
        laws6 = laws_of (setting_of u) d6.world d6.met

        reaches6 : Reaches (setting_of u).first d6.world h reach
        reaches6 = laws6.calls.reached u.me.0.own.number h reach row6.also.there (ap (λ (y : ListSeat). y.place) d6.stood)

        numbers6 : told d6.world.journal ≡ told row6.stride.seen
        numbers6 = ap told (sym d6.seen_is)

        guarded6 : guarded_of u ≡ guarded_in d6.world.words
        guarded6 = d6.held refl

        gone6 : length d6.world.words.gone ≡ length (guarded_of u).gone
        gone6 = ap length laws6.invariant.words.3 ∙ length-map d6.world.words.numbers.gone (word_of (setting_of u).first)
            ∙ sym (ap (λ (g : Guarded). length g.gone) guarded6)

        passed6 : (told d6.world.journal).passed ≡ (guarded_of u).passed
        passed6 = ap (λ (y : Numbers). y.passed) (sym laws6.invariant.numbers) ∙ sym (ap (λ (g : Guarded). g.passed) guarded6)

        -- each ticket that is passed and hasn't gone is granted
        all_granted : minus waited notified - length d6.world.words.gone ≡ many
        all_granted = let r = reaches6.0 in let g = gone6 in let q = passed6 in let c = over.0 in omega arith

        -- those that are gone lie between
        knows6 : Knows (setting_of u).first d6.world.words u.me.0.own.number (NotifyingAll h (L6 reach)) (d6.world.seats u.me.0.own.number).late
        knows6 = known_at (setting_of u).first (setting_of u).seats d6.world u.me.0.own.number laws6.invariant row6.also.there
            (NotifyingAll h (L6 reach)) (ap (λ (y : ListSeat). y.place) d6.stood)

        within6 : (n : ℕ) → 0 < among n d6.world.words.numbers.gone
            → (d6.world.words.numbers.passed < n) × (n < d5.world.words.numbers.handed)
        within6 n some = ((gone_early (setting_of u) d6.world d6.met).after n some, knows6.6 n some)

        long6 : length d6.world.words.numbers.gone ≡ length (guarded_of u).gone
        long6 = sym (ap (λ (g : Guarded). length g.gone) guarded6)

        some_granted : (told d6.world.journal).passed < d5.world.words.numbers.handed → 0 < many
        some_granted less =
            let most = few_rising (d6.world.words.numbers.passed + 1) d5.world.words.numbers.handed d6.world.words.numbers.gone laws6.invariant.rising
            (let q = passed6 in let g = ap (λ (g : Guarded). g.passed) guarded6 in omega arith)
            (λ n some. (let w = within6 n some in let a = w.0 in omega arith, (within6 n some).1)) in
            let c = over.0 in let l = long6 in let g = ap (λ (g : Guarded). g.passed) guarded6 in omega arith

        none_granted : (told d6.world.journal).passed ≡ d5.world.words.numbers.handed → many ≡ 0
        none_granted same = let c = over.0 in let q = passed6 in omega arith

        pub few_granted : many ≤ 65536
        few_granted =
            let few = ap (λ (y : ListModel). y.setting.seats) w5.list_is in let f = may.0.few in let c = over.0 in let q = passed6 in
            let l = ap (λ (y : Numbers). length y.gone) laws6.invariant.numbers in let g = long6 in
            let most = laws6.calls.few in let k = knows6.3 in let hd = ap (λ (y : Numbers). y.handed) laws6.invariant.numbers in omega arith

        over6 : AllOver (guarded_of x) (queue_of u) d5.world.words.numbers.handed
        over6 = subst (λ (g : Guarded). AllOver g (queue_of u) d5.world.words.numbers.handed) (sym d6.guarded)
            (subst (λ q. AllOver (guarded_after (if notified == waited then Nothing else Grants d5.world.words.numbers.handed) d6.world.words) q
            d5.world.words.numbers.handed) (sym (ap (λ (g : Guarded). g.queue) guarded6))
            (l6_over d6.world.words d5.world.words.numbers.handed notified waited (setting_of u).first
            (let r = reaches6.0 in let e = ap (λ (y : Numbers). y.passed) laws6.invariant.numbers in omega arith)
            (reaches6.1 ∙ ap (λ (y : Numbers). word_of (setting_of u).first y.passed) (sym laws6.invariant.numbers)) within6))

        record6 : HasRecord x
        record6 =
            let E = over.1 (guarded_of x).gone over6.none in (
              E.1.0,
              ap (λ (m : Me). m.1) p.1 ∙ ap (λ (m : Me). m.1) E.1.1,
              subst (λ (q : Setting × Guarded). IsRecord q.0 E.1.0 q.1)
                  (λ i. (sym row6.same.1 i, record { queue = sym over6.queue_is i; passed = sym over6.passed_is i; gone = (guarded_of x).gone })) E.1.2,
            )

        told6 : row6.stride.told ≡ all_entries s.me.0.own.number d5.world.words.numbers.handed many
        told6 =
            d6.told ∙ l6_told u.me.0.own.number (setting_of u).first (told d6.world.journal).passed
            d5.world.words.numbers.handed notified waited many
            reaches6.0 reaches6.1 reaches6.2 some_granted none_granted
            ∙ ap (λ i. all_entries i d5.world.words.numbers.handed many) w5.number_is

        read6 : n6 ≡ notified
        read6 = d6.read ∙ laws6.invariant.words.1 ∙ ap (λ (y : Numbers). word_of (setting_of u).first y.passed) laws6.invariant.numbers ∙ sym reaches6.1

        w6 : Walked s (a (NotifyingAll h L4)) x (a (NotifyingAll h (L7 many)))
            (all_entries s.me.0.own.number d5.world.words.numbers.handed many)
            (reach_rows h notified waited d5.world.words.numbers.handed)
        w6 = walked_on s u x (a (NotifyingAll h L4)) (a (NotifyingAll h (L6 reach))) (a (NotifyingAll h (L7 many))) []
            (all_entries s.me.0.own.number d5.world.words.numbers.handed many)
            ((NotifyingAll h L4, notified) ∷ (NotifyingAll h (L5 notified), waited) ∷ []) ((NotifyingAll h (L6 reach), notified) ∷ []) w5
            (subst (λ k. Walked u (a (NotifyingAll h (L6 reach))) x (a (NotifyingAll h (L7 many)))
            (all_entries s.me.0.own.number d5.world.words.numbers.handed many) ((NotifyingAll h (L6 reach), k) ∷ [])) read6
            (walked_row u x (a (NotifyingAll h (L6 reach))) n6 (a (NotifyingAll h (L7 many)))
            (all_entries s.me.0.own.number d5.world.words.numbers.handed many) row6 (last ∙ (over.1 [] (λ n. refl)).0)
            (d6.stands ∙ l6_seat (notified == waited) h d5.world.words.numbers.handed reach d6.world.words
            (NotifyingAll h (L7 (minus waited notified - length d6.world.words.gone))) (stands_of s)
            ∙ ap (λ n. a (NotifyingAll h (L7 n))) all_granted) told6))

        seen5 : seen_of u ≡ row5.stride.seen
        seen5 = d5.seen ∙ ap (λ l. row5.stride.seen ++ l) d5.told ∙ append-nil row5.stride.seen

        pub reached_all : ReachedAll s h many x
        reached_all = record {
          notified = notified;
          waited = waited;
          handed = d5.world.words.numbers.handed;
          walked =
              subst (λ (b : ListSeat). Walked s b x (a (NotifyingAll h (L7 many)))
              (all_entries s.me.0.own.number d5.world.words.numbers.handed many)
              (reach_rows h notified waited d5.world.words.numbers.handed))
              (sym stands4) w6;
          record_is = record6;
          passed =
              let laws = laws_of (setting_of x) w6.lands.world w6.lands.met in
              ap (λ (v : ListSight). (told v.seen).passed) w6.lands.sees ∙ ap (λ (y : Numbers). y.passed) (sym laws.invariant.numbers)
              ∙ sym (ap (λ (g : Guarded). g.passed) w6.lands.guarded) ∙ over6.passed_is;
          look = row5.stride.seen;
          before = row6.stride.seen;
          first =
              goes_on_more (seen_of s) (seen_of t) row5.stride.seen
              (walked_later s t (a (NotifyingAll h L4)) (a (NotifyingAll h (L5 notified))) [] ((NotifyingAll h L4, notified) ∷ []) w4) d5.later;
          later = subst (λ l. GoesOn row6.stride.seen l) seen5 d6.later;
          seen = d6.seen ∙ ap (λ l. row6.stride.seen ++ l) told6;
          reaches = reaches6.4;
          counted =
              let c = over.0 in let q = passed6 in let e = ap (λ (y : Numbers). y.passed) numbers6 in
              let f = ap (λ (y : Numbers). length y.gone) (laws6.invariant.numbers ∙ numbers6) in let g = long6 in omega arith;
          all =
              let laws5 = laws_of (setting_of t) d5.world d5.met in ap (λ (y : Numbers). y.handed) (laws5.invariant.numbers ∙ ap told (sym d5.seen_is));
        }
          where
            few5 : (setting_of t).seats ≤ 65536
            few5 = let e = ap (λ (y : ListModel). y.setting.seats) w4.list_is in let f = may.0.few in omega arith
