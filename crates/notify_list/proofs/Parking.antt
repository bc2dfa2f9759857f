-- A seat that is parked: its looks at its grant, and the row that takes it.
use Rattle.std.proofs.Common.{◌≡◌, ℕ, zero, suc, ◌<◌, Bool, List, [], ◌∷◌, slice_index, inr, refl, sym, ap, ◌∙◌, subst, arith}
use Rattle.std.proofs.Common.{Some, None}
use lib.Seq.{set-get_or}
use native.Mathlib.Decide.{ℕ_discrete}
use Rattle.running_rows.specs.Table.{keeps}
use Rattle.step_table.specs.declared.list_place.ListPlace.TheVariants.{Rest, Waiting}
use Rattle.step_table.specs.declared.list_place.ListWord.{ListWord}
use Rattle.step_table.specs.declared.list_place.ListWord.TheVariants.{Grant}
use Rattle.step_table.specs.declared.list_place.Ticket.{Ticket}
use Rattle.step_table.specs.declared.list_place.WaitRow.TheVariants.{W1, W2, W4, Parked as Asleep}
use Rattle.step_table.specs.declared.list_place.ListParkedRow.TheVariants.{P}
use Rattle.step_table.specs.ListWorld.{ListSeat, ListWorld}
use Rattle.step_table.specs.Path.{looks}
use Rattle.step_law_lists.specs.ListLawful.{IsGranted as IsTicketGranted}
use Rattle.running_rows.specs.Strides.{Went, Looked, RanRow, here}
use Rattle.running_rows.specs.Owing.{Stands, Leads, Owes}
use Rattle.running_rows.proofs.Telling.{owes_own, tells_more}
use Rattle.running_rows.proofs.History.{looked_on}
use Rattle.notify_list.specs.declared.view.Setting.{Setting}
use Rattle.notify_list.specs.declared.waited.Waited.TheVariants.{Parked}
use Rattle.notify_list.specs.declared.waited.Polled.TheVariants as polled
use Rattle.notify_list.specs.Setting.{address, IsThere}
use Rattle.notify_list.specs.Places.{at_place, is_free}
use Rattle.notify_list.specs.Rule.{Homes, Shows}
use Rattle.notify_list.specs.Rows.{list_rows, word_at}
use Rattle.notify_list.specs.Plays.{Me}
use Rattle.notify_list.specs.Seats.{SeatModel, Token, seat_of, IsSeat, IsParked, stands_of}
use Rattle.notify_list.specs.Walks.{Walked}
use Rattle.notify_list.specs.Calls.{Calls}
use Rattle.notify_list.specs.Heirs.{IsSame}
use Rattle.notify_list.specs.Waiting.{IsWaited, IsGranted, IsQueued, TakesGrant, IsPolled}
use Rattle.notify_list.specs.Places.{waiting}
use Rattle.notify_list.proofs.Allowing.{takes_at}
use Rattle.notify_list.proofs.Leading.{Ran, Led, led, woke_from}
use Rattle.notify_list.proofs.Walking.{walked_row, token_after, calls, comes_to, calls_then}
use Rattle.notify_list.proofs.Queueing.{granted_by}
use Rattle.notify_list.proofs.LookingTogether.{sees_word, looks_at, look_stays, looked_token, parked_later}

-- at the address of a grant word lies that word
pub grant_lies : (i k : ℕ) → address (Grant k) ≡ i → word_at i ≡ Grant k
grant_lies zero k e = absurd (omega arith)
grant_lies (suc zero) k e = absurd (omega arith)
grant_lies (suc (suc zero)) k e = absurd (omega arith)
grant_lies (suc (suc (suc s))) k e = ap Grant (omega arith)

-- a grant that is taken, or a look where there is none
module _ (k : Setting) (m : Me) (i : ℕ) (a : ListSeat) (is : m.0.own.knows.sight.stands ≡ a) (ticket : Ticket) (parked : a.place ≡ Waiting ticket (Asleep P))
    (lies : address (Grant m.0.own.number) ≡ i) where
  abbrev Received : ℕ → Me → Type 0
  Received n t = (n ≡ 0 → Looked list_rows i m 0 t) × (0 < n → RanRow list_rows here m n t)

  pub receives_at : Owes list_rows k m i (λ _. 0) (λ n t. (n ≡ 0 → Looked list_rows i m 0 t) × (0 < n → RanRow list_rows here m n t))
  receives_at = owes_own list_rows k m i (λ _. 0) Received (λ world words homes st. by world words homes st (ℕ_discrete (slice_index words i) 0))
    where
      by : (world : ListWorld) (words : List ℕ) (homes : Homes)
          → (st : Stands list_rows m.0.own.knows.setting m.0.own world words homes i) → Dec (slice_index words i ≡ 0)
          → Leads list_rows m.0.own.knows.setting m world words homes i 0 (Received (slice_index words i))
      by world words homes st (yes e) =
          let there : IsThere m.0.own.knows.setting (word_at i)
          = subst (IsThere m.0.own.knows.setting) (sym (grant_lies i m.0.own.number lies)) st.there in
          let o = sees_word i m.0.own world words homes there st in
          subst (λ x. Leads list_rows m.0.own.knows.setting m world words homes i x (Received (slice_index words i))) e (record {
            next = world;
            own = o.now;
            act = keeps;
            valid = tt;
            shows = subst (λ ws. Shows m.0.own.knows.setting world ws homes) (sym (set-get_or words i 0)) st.shows;
            same = o.went.same.0;
            of_is = o.went.same.1;
            knows = o.knows;
            on = looked_on list_rows m.0.own.knows.setting world m.0.own i (slice_index words i) refl o;
            others = λ u ne low known. known;
            tells = (
              (λ none_there. (subst (λ n. Went list_rows here (looks (word_at i)) m.0.own n o.now) e o.went, refl)),
              (λ some_there. absurd (omega arith)),
            );
          })
      by world words homes st (no ne) =
          tells_more list_rows m.0.own.knows.setting m i world words homes 0
          (λ t. (slice_index words i ≡ 0 → t ≡ m) × (0 < slice_index words i → RanRow list_rows here m (slice_index words i) t))
          (Received (slice_index words i)) (λ t o. ((λ e. absurd (ne e)), o.1))
          (takes_at m.0.own.knows.setting m i a is ticket parked lies world words homes st)

module _ (x : Token) (n : ℕ) {may_leave : Bool} (K : IsParked x n may_leave) where
  pub stands_parked : stands_of x ≡ record { place = Waiting K.ticket (Asleep P); ticket = None; hand = (stands_of x).hand; late = (stands_of x).late }
  stands_parked = λ i. record { place = K.at i; ticket = K.holds_none i; hand = (stands_of x).hand; late = (stands_of x).late }

  abbrev at_park : ListSeat
  at_park = record { place = Waiting K.ticket (Asleep P); ticket = None; hand = (stands_of x).hand; late = (stands_of x).late }

  -- it found nothing
  module _ (z : Token) (i : ℕ) (lies : address (Grant n) ≡ i) (r : Looked list_rows i x.me 0 z.me) (same : z.table_id ≡ x.table_id) where
    look : Went list_rows here (looks (Grant n)) x.me.0.own 0 z.me.0.own
    look = subst (λ (w : ListWord). Went list_rows here (looks w) x.me.0.own 0 z.me.0.own) (grant_lies i n lies) r.0

    pub seat_still : IsParked z n may_leave
    seat_still = parked_later x z n may_leave K (looked_token x z n 0 (Grant n) K.token_is look same (ap (λ (m : Me). m.1) r.1 ∙ K.token_is.bare))
        (look_stays x z n 0 (Grant n) K.token_is look same) (looks_at x z n 0 (Grant n) K.token_is look same).later

    pub polled_still : IsPolled (seat_of x n) (polled.Still (seat_of z n))
    polled_still = ((K.ticket, K.at), looks_at x z n 0 (Grant n) K.token_is look same)

  -- it took its grant
  module _ (z : Token) (k : ℕ) (some : 0 < k) (p : RanRow list_rows here x.me k z.me) (same : z.table_id ≡ x.table_id) where
    woke : Ran at_park x.me.0.own 1 z.me.0.own
    woke = woke_from x z at_park k K.ticket stands_parked refl K.token_is.few some p

    awake : Led at_park x.me.0.own 1 z.me.0.own woke.stride
    awake = led at_park x.me.0.own z.me.0.own 1 woke

    w5 : Walked x (stands_of x) z (at_place Rest (stands_of x)) [] ((Waiting K.ticket (Asleep P), 1) ∷ [])
    w5 = subst (λ (a : ListSeat). Walked x a z (at_place Rest a) [] ((Waiting K.ticket (Asleep P), 1) ∷ [])) (sym stands_parked)
        (walked_row x z at_park 1 (at_place Rest at_park) [] woke same awake.stands awake.told)

    pub seat_woken : IsSeat z n
    seat_woken = record {
      token_is = token_after x z n (stands_of x) (at_place Rest (stands_of x)) [] ((Waiting K.ticket (Asleep P), 1) ∷ []) K.token_is w5
          (ap (λ (m : Me). m.1) p.1 ∙ K.token_is.bare);
      free = ap (λ (a : ListSeat). is_free a.place) w5.stands_is;
      holds_none = ap (λ (a : ListSeat). a.ticket) w5.stands_is ∙ K.holds_none;
    }

    pub takes_grant : TakesGrant (seat_of x n) (seat_of z n)
    takes_grant = record {
      ticket = K.ticket;
      parked = K.at;
      call = calls x z n (stands_of x) (at_place Rest (stands_of x)) [] ((Waiting K.ticket (Asleep P), 1) ∷ []) K.token_is w5;
      comes = comes_to x z n (stands_of x) (at_place Rest (stands_of x)) [] ((Waiting K.ticket (Asleep P), 1) ∷ []) w5;
      granted = granted_by K.ticket x z at_park woke awake K.token_is.few awake.told
          (inr (ap (λ (a : ListSeat). a.place) awake.stood, let e = awake.read in omega arith));
    }

-- a row that ran before its seat woke others
pub ran_same : (s t u : Token) (n : ℕ) → RanRow list_rows here s.me n t.me → IsSame t u → RanRow list_rows here s.me n u.me
ran_same s t u n row same = subst (λ (m : Me). RanRow list_rows here s.me n m) (sym same.1) row

-- a wait that was queued and took its grant
module _ (s u t : SeatModel) (q : IsQueued s u) (g : TakesGrant u t) where
  same_ticket : g.ticket ≡ q.ticket
  same_ticket = let both : Waiting g.ticket (Asleep P) ≡ Waiting q.ticket (Asleep P) = sym g.parked ∙ ap (λ (a : ListSeat). a.place) q.comes.stands_is in cc

  row : Calls u u.sight.stands t [] ((Waiting q.ticket (Asleep P), 1) ∷ [])
  row = subst (λ (k : Ticket). Calls u u.sight.stands t [] ((Waiting k (Asleep P), 1) ∷ [])) same_ticket g.call

  rests : t.sight.stands ≡ record { place = Rest; ticket = None; hand = s.sight.stands.hand; late = u.sight.stands.late }
  rests = g.comes.stands_is ∙ ap (λ (a : ListSeat). at_place Rest a) q.comes.stands_is

  pub waited_parked : IsWaited s Parked t
  waited_parked = record {
    ticket = q.ticket;
    held = q.held;
    notified = q.notified;
    how = (
      q.ungranted,
      calls_then s u t (waiting s.sight.stands) [] []
          ((Waiting q.ticket W1, 0) ∷ (Waiting q.ticket W2, q.notified) ∷ (Waiting q.ticket W4, 1) ∷ []) ((Waiting q.ticket (Asleep P), 1) ∷ [])
          q.comes.same q.call row,
    );
    comes = record {
      same = g.comes.same ∙ (λ i. record (q.comes.same i) { sight = t.sight; strides = t.strides });
      stands_is = rests
          ∙ (λ i. record { place = Rest; ticket = None; hand = s.sight.stands.hand; late = sym (ap (λ (a : ListSeat). a.late) rests) i });
    };
  }

  pub granted_parked : IsGranted s t
  granted_parked ticket held =
      let both : Some q.ticket ≡ Some ticket = sym q.held ∙ held in
      let same : q.ticket ≡ ticket = cc in
      subst (λ (k : Ticket). IsTicketGranted k.number t.sight.seen) (same_ticket ∙ same) g.granted
