-- The rows that grant one ticket.
use Rattle.std.proofs.Common.{◌≡◌, ◌⊎◌, ℕ, ◌+◌, ◌<◌, ◌≤◌, List, [], ◌∷◌, ◌++◌, Option, Some, None, inl, inr, sym, refl}
use Rattle.std.proofs.Common.{ap, ◌∙◌, subst, arith}
use Rattle.running_rows.specs.Table.{rest}
use Rattle.waiters.specs.declared.wait.Wait.{Wait}
use Rattle.waiters.specs.Lists.{first_with, without_first}
use Rattle.step_table.specs.declared.list_place.ListEffect.TheVariants.{Nothing, TakesOut, Gives}
use Rattle.step_table.specs.declared.list_place.ListPlace.TheVariants.{Rest, NotifyingOne}
use Rattle.step_table.specs.declared.list_place.OneRow.TheVariants.{O7, O8, O9}
use Rattle.step_table.specs.Wrapping.{word_of}
use Rattle.step_table.specs.ListWorld.{Numbers, ListSeat, ListEntry, Granted, hand_after, ticket_after, one_or_none}
use Rattle.step_table.specs.ListEvent.{ListNext, by_found}
use Rattle.step_table.specs.Path.{GoesOn}
use Rattle.step_table.proofs.Paths.{goes_on_more}
use Rattle.step_law_lists.specs.ListLawful.{told}
use Rattle.step_law_lists.specs.ListInvariant.{Knows}
use Rattle.step_law_lists.specs.ListPlaces.{ReachedList}
use Rattle.step_law_lists.specs.ListPath.{entries_of}
use Rattle.step_table.specs.ListWorld.{ListWorld, first_left}
use Rattle.step_table.specs.Wrapping.{next_word}
use Rattle.step_table.proofs.Wrapping.{word_next}
use Rattle.step_law_lists.specs.ListLawful.{IsInReach}
use Rattle.step_law_lists.proofs.ListKeeping.{within_of, near_of}
use Rattle.step_law_lists.proofs.ListLawfulness.{known_at}
use Rattle.step_law_lists.proofs.ListWriting.{passing_words}
use Rattle.running_rows.specs.Strides.{RanRow, here}
use Rattle.notify_list.specs.declared.view.Setting.{Setting}
use Rattle.notify_list.specs.Places.{at_place}
use Rattle.notify_list.specs.Rows.{list_rows}
use Rattle.notify_list.specs.Rule.{Guarded, guarded_in, guarded_after, IsRecord}
use Rattle.notify_list.specs.Plays.{Me}
use Rattle.notify_list.specs.Seats.{ListModel, Token, guarded_of, with_queue, list_of, queue_of, seen_of, setting_of, stands_of}
use Rattle.notify_list.specs.Walks.{Walked, HasRecord}
use Rattle.notify_list.specs.Records.{IsOut}
use Rattle.notify_list.specs.Notifying.{grants_it, GivesLockLast}
use Rattle.notify_list.specs.Granting.{MayStore, GrantedOne, grant_rows, one_granted}
use Rattle.notify_list.proofs.Keeping.{laws_of}
use Rattle.notify_list.proofs.Allowing.{GivesBack}
use Rattle.notify_list.proofs.Leading.{Ran, Led, led, ran_from, Gave, gave_from}
use Rattle.notify_list.proofs.Walking.{walked_row, walked_on, walked_later}
use Rattle.notify_list.proofs.Recording.{list_edited, gives_edited}
use Rattle.notify_list.proofs.Resting.{stands_there, grants_in}

-- where O8 leads, by what it finds
abbrev pub by_wait : ℕ → ℕ → Option Wait → ListNext
by_wait h ticket o = by_found o (Rest, Nothing) (λ w. (NotifyingOne h O9, TakesOut ticket))

-- the lock may be given back with the ticket's wait taken out
pub gives_out : (k : Setting) (s t : Token) (h ticket : ℕ) (found_it : Option ℕ)
    → stands_of s ≡ at_place (NotifyingOne h (O8 ticket)) (stands_of s) → IsOut s ticket found_it t
    → GivesBack k t.me
gives_out k s t h ticket None is out =
    gives_edited k s t (at_place (NotifyingOne h (O8 ticket)) (stands_of s)) is (guarded_of s) out.1 refl
    (λ w e. (
      record { word = refl; there = tt; can = refl; becomes = refl },
      ap (λ o. guarded_after (by_wait h ticket o).1 w.words) (ap (λ (g : Guarded). first_with ticket g.queue) (sym e) ∙ out.0) ∙ sym e,
    ))
gives_out k s t h ticket (Some seat) is out =
    gives_edited k s t (at_place (NotifyingOne h (O8 ticket)) (stands_of s)) is (with_queue (without_first ticket (queue_of s)) (guarded_of s)) out.3 refl
    (λ w e. (
      record { word = refl; there = tt; can = refl; becomes = refl },
      ap (λ o. guarded_after (by_wait h ticket o).1 w.words) (ap (λ (g : Guarded). first_with ticket g.queue) (sym e) ∙ out.1)
          ∙ ap (λ (g : Guarded). with_queue (without_first ticket g.queue) g) (sym e),
    ))

-- the token after the list was edited
pub edited_by : (s t : Token) (ticket : ℕ) (found_it : Option ℕ) → IsOut s ticket found_it t → (list_of t ≡ list_of s)
    × (t.me.0.own ≡ s.me.0.own) × (rest t.me.1 ≡ [])
edited_by s t ticket None out = (list_edited s t _ out.1, ap (λ (m : Me). m.0.own) out.1.1.1, ap (λ (m : Me). rest m.1) out.1.1.1)
edited_by s t ticket (Some seat) out = (list_edited s t _ out.3, ap (λ (m : Me). m.0.own) out.3.1.1, ap (λ (m : Me). rest m.1) out.3.1.1)

told_none : (i h ticket : ℕ) (o : Option Wait) → entries_of i (by_wait h ticket o).1 ≡ []
told_none i h ticket None = refl
told_none i h ticket (Some w) = refl

-- in a world that the seat meets at O7, this is the word that is stored
pub stores_next : (s : Token) (h ticket next : ℕ) (w : ListWorld) → next ≡ word_of (setting_of s).first (one_granted (guarded_of s)).passed
    → ReachedList (setting_of s).first (setting_of s).seats w → IsInReach w.journal → s.me.0.own.number < (setting_of s).seats
    → (w.seats s.me.0.own.number).place ≡ NotifyingOne h (O7 ticket) → guarded_of s ≡ guarded_in w.words
    → next ≡ first_left next_word w.words.gone (next_word ticket)
stores_next s h ticket next w next_is laws reach there at held =
    let first : ℕ = (setting_of s).first in
    let inv = laws.invariant in
    let knows = known_at first (setting_of s).seats w s.me.0.own.number inv there (NotifyingOne h (O7 ticket)) at in
    let from : next_word ticket ≡ word_of first (w.words.numbers.passed + 1)
    = ap next_word (knows.0 ∙ inv.words.1) ∙ word_next first w.words.numbers.passed in
    next_is ∙ ap (λ (g : Guarded). word_of first (one_granted g).passed) held
    ∙ sym ((passing_words first w.words.numbers.handed w.words.numbers.passed (w.words.numbers.passed + 1) w.words.numbers.gone
    (within_of first (setting_of s).seats w inv) (near_of first (setting_of s).seats w reach inv) (omega arith) (let less = knows.2 in omega arith)).0)
    ∙ (λ i. first_left next_word (sym inv.words.3 i) (sym from i))

module _ (l : ListModel) (s : Token) (h ticket next : ℕ) (may : MayStore l s h ticket next) where
  abbrev at7 : ListSeat
  at7 = at_place (NotifyingOne h (O7 ticket)) (stands_of s)

  pub stands7 : stands_of s ≡ at_place (NotifyingOne h (O7 ticket)) (stands_of s)
  stands7 = λ i. record (stands_of s) { place = may.at i }

  module _ (t : Token) (n : ℕ) (r : RanRow list_rows here s.me n t.me) (same : t.table_id ≡ s.table_id) where
    pub row7 : Ran (at_place (NotifyingOne h (O7 ticket)) (stands_of s)) s.me.0.own n t.me.0.own
    row7 = ran_from s t at7 n stands7 r

    d7 : Led at7 s.me.0.own n t.me.0.own row7.stride
    d7 = led at7 s.me.0.own t.me.0.own n row7

    laws7 : ReachedList (setting_of s).first (setting_of s).seats d7.world
    laws7 = laws_of (setting_of s) d7.world d7.met

    knows7 : (ticket ≡ d7.world.words.notify) × (h ≤ d7.world.words.numbers.handed) × (d7.world.words.numbers.passed < d7.world.words.numbers.handed)
    knows7 = subst (λ (a : ListSeat). Knows (setting_of s).first d7.world.words s.me.0.own.number a.place a.late) d7.stood
        (laws7.invariant.seats_known s.me.0.own.number may.there).knows

    numbers7 : d7.world.words.numbers ≡ told row7.stride.seen
    numbers7 = laws7.invariant.numbers ∙ ap told (sym d7.seen_is)

    -- the record tells what lies under the lock then
    pub record8 : t.me.1 ≡ s.me.1 → HasRecord t
    record8 slots = (
      may.has.0,
      slots ∙ may.has.1,
      subst (λ (q : Setting × Guarded). IsRecord q.0 may.has.0 q.1) (λ i. (sym row7.same.1 i, guarded8 i)) may.has.2,
    )
      where
        guarded8 : one_granted (guarded_of s) ≡ guarded_of t
        guarded8 = ap one_granted (d7.held refl) ∙ sym d7.guarded

    abbrev at8 : ListSeat
    at8 = at_place (NotifyingOne h (O8 ticket)) (stands_of s)

    abbrev told7 : List ListEntry
    told7 = Granted ((told row7.stride.seen).passed + 1) s.me.0.own.number ∷ []

    w7 : Walked s at7 t at8 (Granted ((told row7.stride.seen).passed + 1) s.me.0.own.number ∷ []) ((NotifyingOne h (O7 ticket), ticket) ∷ [])
    w7 =
        subst (λ (k : ℕ). Walked s at7 t at8 (Granted ((told row7.stride.seen).passed + 1) s.me.0.own.number ∷ [])
        ((NotifyingOne h (O7 ticket), k) ∷ [])) (d7.read ∙ sym knows7.0)
        (walked_row s t at7 n at8 (Granted ((told row7.stride.seen).passed + 1) s.me.0.own.number ∷ []) row7 same d7.stands
        (d7.told ∙ ap (λ (x : Numbers). Granted (x.passed + 1) s.me.0.own.number ∷ []) numbers7))

    pub stands8 : stands_of t ≡ at_place (NotifyingOne h (O8 ticket)) (stands_of t)
    stands8 = λ i. record (stands_of t) { place = ap (λ (a : ListSeat). a.place) w7.stands_is i }

    few8 : (setting_of t).seats ≤ 65536
    few8 = let e = ap (λ (z : Setting). z.seats) row7.same.1 in let k = may.few in omega arith

    -- O8
    module _ (y u : Token) (found_it : Option ℕ) (out : IsOut t ticket found_it y) (q : Gave y u) (again : u.table_id ≡ y.table_id) where
      row8 : Ran at8 t.me.0.own 1 u.me.0.own
      row8 = gave_from t y u at8 (edited_by t y ticket found_it out).1 w7.stands_is refl few8 (λ g. refl) q

      d8 : Led at8 t.me.0.own 1 u.me.0.own row8.stride
      d8 = led at8 t.me.0.own u.me.0.own 1 row8

      bare8 : u.me.1 ≡ []
      bare8 = ap (λ (m : Me). m.1) q.3 ∙ (edited_by t y ticket found_it out).2

      -- how the seat stands, by the wait that was found
      abbrev found8 : Option Wait → ListSeat
      found8 o = record {
        place = (by_wait h ticket o).0;
        ticket = ticket_after (by_wait h ticket o).1 (stands_of s).ticket;
        hand = hand_after (by_wait h ticket o).1 d8.world.words.queue (stands_of s).hand;
        late = (stands_of s).late;
      }

      first8 : (o : Option Wait) → first_with ticket (queue_of t) ≡ o → first_with ticket d8.world.words.queue ≡ o
      first8 o e = ap (λ (g : Guarded). first_with ticket g.queue) (sym (d8.held refl)) ∙ e

      only8 : (o : Option Wait) → first_with ticket (queue_of t) ≡ o → (b : ListSeat) → found8 o ≡ b
          → Walked t at8 u b [] ((NotifyingOne h (O8 ticket), 1) ∷ [])
      only8 o e b is = walked_row t u at8 1 b [] row8 (again ∙ ap (λ (l : ListModel). l.id) (edited_by t y ticket found_it out).0)
          (d8.stands ∙ ap found8 (first8 o e) ∙ is) (d8.told ∙ told_none t.me.0.own.number h ticket (first_with ticket d8.world.words.queue))

      w8 : (o : Option Wait) → first_with ticket (queue_of t) ≡ o → (b : ListSeat) → found8 o ≡ b
          → Walked s at7 u b (Granted ((told row7.stride.seen).passed + 1) s.me.0.own.number ∷ []) (grant_rows h ticket)
      w8 o e b is =
          walked_on s t u at7 at8 b told7 [] ((NotifyingOne h (O7 ticket), ticket) ∷ []) ((NotifyingOne h (O8 ticket), 1) ∷ []) w7 (only8 o e b is)

      -- what is known of the grant by who has seen it
      granted_so : (z : Token) → GoesOn (seen_of z) (seen_of t) → z.me.1 ≡ []
          → (Walked s at7 z (at_place Rest (stands_of s)) told7 (grant_rows h ticket)
          ⊎ Walked s at7 z (at_place Rest (stands_of s)) told7 (grant_rows h ticket ++ grants_it h))
          → GrantedOne s h ticket z
      granted_so z more bare walked = record {
        before = row7.stride.seen;
        later = d7.later;
        seen =
            subst (λ l. GoesOn (seen_of z) l) (d7.seen ∙ ap (λ l. row7.stride.seen ++ l)
            (d7.told ∙ ap (λ (x : Numbers). Granted (x.passed + 1) s.me.0.own.number ∷ []) numbers7)) more;
        handed = subst (λ (x : Numbers). x.passed < x.handed) numbers7 knows7.2;
        word_is = knows7.0 ∙ laws7.invariant.words.1 ∙ ap (λ (x : Numbers). word_of (setting_of s).first x.passed) numbers7;
        bare = bare;
        walked =
            subst (λ (a : ListSeat). Walked s a z (at_place Rest (stands_of s)) told7 (grant_rows h ticket)
            ⊎ Walked s a z (at_place Rest (stands_of s)) told7 (grant_rows h ticket ++ grants_it h))
            (sym stands7) walked;
      }

      -- it is the last stride where no wait was found
      pub gave_last : GivesLockLast u.me.0.own.gone ticket
      gave_last = record {
        before = t.me.0.own.gone;
        stride = row8.stride;
        last = row8.one;
        ran = row8.did;
        h = h;
        stood = ap (λ (a : ListSeat). a.place) (row8.ran.stood);
      }

      pub ended_none : first_with ticket (queue_of t) ≡ None → GrantedOne s h ticket u
      ended_none e = let b = at_place Rest (stands_of s) in
          granted_so u (walked_later t u at8 b [] ((NotifyingOne h (O8 ticket), 1) ∷ []) (only8 None e b refl)) bare8 (inl (w8 None e b refl))

      -- O9
      module _ (w : Wait) (first : first_with ticket (queue_of t) ≡ Some w) where
        abbrev at9 : ListSeat
        at9 = record { place = NotifyingOne h O9; ticket = (stands_of s).ticket; hand = w ∷ []; late = (stands_of s).late }

        is9 : found8 (Some w) ≡ at9
        is9 = λ i. record {
          place = NotifyingOne h O9;
          ticket = (stands_of s).ticket;
          hand = may.empty i ++ one_or_none (first8 (Some w) first i);
          late = (stands_of s).late;
        }

        pub to9 : Walked s (at_place (NotifyingOne h (O7 ticket)) (stands_of s)) u
            (record { place = NotifyingOne h O9; ticket = (stands_of s).ticket; hand = w ∷ []; late = (stands_of s).late })
            (Granted ((told row7.stride.seen).passed + 1) s.me.0.own.number ∷ []) (grant_rows h ticket)
        to9 = w8 (Some w) first at9 is9

        setting9 : setting_of u ≡ setting_of s
        setting9 = ap (λ (l : ListModel). l.setting) to9.list_is

        there9 : u.me.0.own.number < (setting_of u).seats
        there9 = let e = ap (λ (z : Setting). z.seats) setting9 in let i = to9.number_is in let k = may.there in omega arith

        few9 : (setting_of u).seats ≤ 65536
        few9 = let e = ap (λ (z : Setting). z.seats) setting9 in let k = may.few in omega arith

        pub seat_there : w.id.seat < (setting_of s).seats
        seat_there =
            let L = to9.lands in let e = ap (λ (z : Setting). z.seats) setting9 in
            let k = (grants_in (setting_of u) L.world u.me.0.own.number at9 w.id.seat (Rest, Gives) few9 L.met there9
            (stands_there u.me.0.own L there9 few9 ∙ to9.stands_is) (λ g. refl)).there in omega arith

        module _ (z : Token) (m : ℕ) (p : RanRow list_rows here u.me m z.me) (last : z.table_id ≡ u.table_id) where
          row9 : Ran at9 u.me.0.own m z.me.0.own
          row9 = ran_from u z at9 m to9.stands_is p

          d9 : Led at9 u.me.0.own m z.me.0.own row9.stride
          d9 = led at9 u.me.0.own z.me.0.own m row9

          zero9 : m ≡ 0
          zero9 = d9.read ∙ (grants_in (setting_of u) d9.world u.me.0.own.number at9 w.id.seat (Rest, Gives) few9 d9.met there9 d9.stood (λ g. refl)).unset

          b9 : record { place = Rest; ticket = (stands_of s).ticket; hand = []; late = (stands_of s).late } ≡ at_place Rest (stands_of s)
          b9 = λ i. record { place = Rest; ticket = (stands_of s).ticket; hand = sym may.empty i; late = (stands_of s).late }

          w9 : Walked u at9 z (at_place Rest (stands_of s)) [] ((NotifyingOne h O9, 0) ∷ [])
          w9 = subst (λ k. Walked u at9 z (at_place Rest (stands_of s)) [] ((NotifyingOne h O9, k) ∷ [])) zero9
              (walked_row u z at9 m (at_place Rest (stands_of s)) [] row9 last (d9.stands ∙ b9) d9.told)

          pub ended_some : GrantedOne s h ticket z
          ended_some = granted_so z
              (goes_on_more (seen_of t) (seen_of u) (seen_of z)
              (walked_later t u at8 at9 [] ((NotifyingOne h (O8 ticket), 1) ∷ []) (only8 (Some w) first at9 is9))
              (walked_later u z at9 (at_place Rest (stands_of s)) [] ((NotifyingOne h O9, 0) ∷ []) w9))
              (ap (λ (m : Me). m.1) p.1 ∙ bare8)
              (inr (walked_on s u z at7 at9 (at_place Rest (stands_of s)) told7 [] (grant_rows h ticket) ((NotifyingOne h O9, 0) ∷ []) to9 w9))
