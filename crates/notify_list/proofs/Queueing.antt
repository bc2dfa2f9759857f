-- A wait at the lock: its ticket is found granted, or it is queued.
use Rattle.std.proofs.Common.{◌≡◌, ◌⊎◌, ℕ, ◌<◌, ◌≤◌, ◌^◌, if◌then◌else◌, Bool, true, false, List, [], ◌∷◌, ◌++◌, length, Option, Some}
use Rattle.std.proofs.Common.{None, inl, inr, sym, refl, ap, ◌∙◌}
use Rattle.std.proofs.Common.{subst, arith}
use Rattle.running_rows.specs.Table.{rest}
use Rattle.step_table.specs.declared.list_place.ListPlace.TheVariants.{Rest, Waiting}
use Rattle.step_table.specs.declared.list_place.Ticket.{Ticket}
use Rattle.step_table.specs.declared.list_place.WaitRow.TheVariants.{W1, W2, W3, W4}
use Rattle.step_table.specs.Wrapping.{less}
use Rattle.step_table.specs.ListWorld.{Numbers, ListSeat, ListEntry, late_after}
use Rattle.step_table.specs.Wrapping.{word_of}
use Rattle.waiters.specs.declared.wait.Wait.{Wait}
use Rattle.step_table.specs.ListTable.{wait_for}
use Rattle.step_table.specs.ListSteps.{with_ticket}
use Rattle.step_law_lists.specs.ListLawful.{told, IsGranted as IsTicketGranted}
use Rattle.step_law_lists.specs.ListInvariant.{Knows}
use Rattle.step_law_lists.proofs.ListLawfulness.{known_at}
use Rattle.step_law_lists.specs.ListCalls.{Returns}
use Rattle.step_law_lists.specs.ListWellFormed.{asleep_on_list}
use Rattle.running_rows.specs.Strides.{RanRow, here}
use Rattle.notify_list.specs.declared.view.Setting.{Setting}
use Rattle.notify_list.specs.declared.view.Record.{Record}
use Rattle.notify_list.specs.declared.waited.Waited.TheVariants.{AtOnce}
use Rattle.notify_list.specs.Places.{at_place, is_free, waiting, locked, Begins, waits}
use Rattle.notify_list.specs.Rows.{list_rows}
use Rattle.notify_list.specs.Plays.{Me}
use Rattle.notify_list.specs.Rule.{Guarded, guarded_by, IsRecord}
use Rattle.notify_list.specs.Heirs.{IsSame}
use Rattle.notify_list.specs.Seats.{ListModel, Token, list_of, seat_of, IsSeat, IsHolding, IsParked, queue_of, guarded_of, with_queue, seen_of, setting_of, stands_of}
use Rattle.notify_list.specs.Walks.{Walked, MayLock, Locked, HasRecord, Edited}
use Rattle.notify_list.specs.Waiting.{IsWaited, IsGranted, IsQueued, parked_with}
use Rattle.notify_list.proofs.Going.{few_handed, none_late}
use Rattle.notify_list.proofs.Keeping.{laws_of}
use Rattle.notify_list.proofs.Leading.{Ran, Led, led, ran_from, Gave, gave_from}
use Rattle.notify_list.proofs.Walking.{walked_row, walked_on, walked_so, token_after, calls, comes_to}
use Rattle.notify_list.proofs.Looking.{seen_all}
use Rattle.notify_list.proofs.Resting.{room_there}
use Rattle.notify_list.proofs.Recording.{record_kept}

-- a seat that has only looked at its record is the same seat
pub record_same : (s t : Token) → IsSame s t → HasRecord s → HasRecord t
record_same s t same h = subst (λ (m : Me). (y : Record) × (m.1 ≡ (0, y) ∷ []) × IsRecord m.0.own.knows.setting y (guarded_by m.0.own.knows)) (sym same.1) h

pub list_same : (s t : Token) → IsSame s t → list_of t ≡ list_of s
list_same s t same = λ i. record { id = same.0 i; setting = (same.1 i).0.own.knows.setting }

pub queued_same : (s t u : Token) (w : Wait) → IsSame s t → Edited t (with_queue (queue_of t ++ w ∷ []) (guarded_of t)) u
    → Edited s (with_queue (queue_of s ++ w ∷ []) (guarded_of s)) u
queued_same s t u w same E = (
  E.0 ∙ same.0,
  subst (λ (m : Me). (y : Record) × (u.me ≡ (m.0, (0, y) ∷ []))
      × IsRecord m.0.own.knows.setting y (with_queue (m.0.own.knows.queue ++ w ∷ []) (guarded_by m.0.own.knows))) same.1 E.1,
)

-- a row after which a wait returns finds its ticket granted
pub granted_by : (ticket : Ticket) (u x : Token) (a : ListSeat) (r : Ran a u.me.0.own 1 x.me.0.own) (d : Led a u.me.0.own 1 x.me.0.own r.stride)
    → (setting_of u).seats ≤ 65536 → r.stride.told ≡ [] → Returns d.world u.me.0.own.number ticket → IsTicketGranted ticket.number (seen_of x)
granted_by ticket u x a r d few none returns =
    let laws = laws_of (setting_of u) d.world d.met in
    let granted = laws.calls.returned u.me.0.own.number ticket r.also.there returns in
    subst (IsTicketGranted ticket.number) (sym (seen_all r d none)) (granted.1, granted.2)

module _ (s : Token) (n word : ℕ) (H : IsHolding s n word) where
  begun_is : waiting (stands_of s) ≡ record { place = Waiting H.ticket W1; ticket = None; hand = (stands_of s).hand; late = (stands_of s).late }
  begun_is = ap (λ (k : Option Ticket). with_ticket (stands_of s) k) H.held

  pub may_wait : (l : ListModel) → list_of s ≡ l → MayLock l s
  may_wait l own = record {
    list_is = own;
    begins = waits {t = H.ticket} H.rests H.held;
    takes = ap (λ (a : ListSeat). Rattle.notify_list.specs.Places.takes_lock a.place) begun_is;
    bare = H.token_is.bare;
  }

  -- the ticket that the seat held is that with which it waits
  its_ticket : (x : Token) → IsTicketGranted H.ticket.number (seen_of x) → IsGranted (seat_of s n) (seat_of x n)
  its_ticket x granted ticket is =
      let both : Some H.ticket ≡ Some ticket = sym H.held ∙ is in
      let same : H.ticket ≡ ticket = cc in subst (λ (k : Ticket). IsTicketGranted k.number (seen_of x)) same granted

  -- how the seat stands under the lock, before its look
  abbrev at_look : ListSeat
  at_look = record { place = Waiting H.ticket W2; ticket = None; hand = (stands_of s).hand; late = (stands_of s).late }

  module _ (t : Token) (L : Locked s t) where
    abbrev w1 : Walked s (waiting (stands_of s)) t at_look [] ((Waiting H.ticket W1, 0) ∷ [])
    w1 = subst (λ (a : ListSeat). Walked s (waiting (stands_of s)) t (at_place (locked a.place) a) [] ((a.place, 0) ∷ [])) begun_is L.walked

    pub stands_locked : stands_of t ≡ record { place = Waiting H.ticket W2; ticket = None; hand = (stands_of s).hand; late = (stands_of s).late }
    stands_locked = w1.stands_is

    module _ (u : Token) (v : ℕ) (r : RanRow list_rows here t.me v u.me) (same : u.table_id ≡ t.table_id) where
      look : Ran at_look t.me.0.own v u.me.0.own
      look = ran_from t u at_look v w1.stands_is r

      looked : Led at_look t.me.0.own v u.me.0.own look.stride
      looked = led at_look t.me.0.own u.me.0.own v look

      -- how it stands then, by what it found
      abbrev stands_by : Bool → ListSeat
      stands_by b =
          record { place = if b then Waiting H.ticket W3 else Waiting H.ticket W4; ticket = None; hand = (stands_of s).hand; late = (stands_of u).late }

      w2 : (b : Bool) → less word v ≡ b → Walked s (waiting (stands_of s)) u (stands_by b) []
          ((Waiting H.ticket W1, 0) ∷ (Waiting H.ticket W2, v) ∷ [])
      w2 b e =
          let a : ListSeat = record {
            place = if less H.ticket.word v then Waiting H.ticket W3 else Waiting H.ticket W4;
            ticket = None;
            hand =
                (stands_of s).hand;
            late = late_after (Waiting H.ticket W2) looked.world.words.numbers.passed (stands_of s).late;
          } in
          walked_so s u (waiting (stands_of s)) a (stands_by b) [] ((Waiting H.ticket W1, 0) ∷ (Waiting H.ticket W2, v) ∷ [])
          (walked_on s t u (waiting (stands_of s)) at_look a [] [] ((Waiting H.ticket W1, 0) ∷ []) ((Waiting H.ticket W2, v) ∷ []) w1
          (walked_row t u at_look v a [] look same looked.stands looked.told))
          (λ i. record {
            place = if (ap (λ k. less k v) H.word_is ∙ e) i then Waiting H.ticket W3 else Waiting H.ticket W4;
            ticket = None;
            hand = (stands_of s).hand;
            late = ap (λ (y : ListSeat). y.late) (sym looked.stands) i;
          })

      pub stands_looked : (b : Bool) → less word v ≡ b
          → stands_of u ≡ record {
            place = if b then Waiting H.ticket W3 else Waiting H.ticket W4;
            ticket = None;
            hand = (stands_of s).hand;
            late = (stands_of u).late;
          }
      stands_looked b e = (w2 b e).stands_is

      pub record_looked : HasRecord u
      record_looked =
          record_kept t u L.record_is (ap (λ (m : Me). m.1) r.1) look.same.1 (looked.guarded ∙ sym (looked.held refl))

      pub number_looked : u.me.0.own.number ≡ n
      number_looked = look.same.0 ∙ w1.number_is ∙ H.token_is.number_is

      few_looked : (setting_of u).seats ≤ 65536
      few_looked = let a = ap (λ (z : Setting). z.seats) look.same.1 in
          let b = ap (λ (l : ListModel). l.setting.seats) w1.list_is in let f = H.token_is.few in omega arith

      pub has_room : less word v ≡ false → length (queue_of u) < (setting_of u).seats
      has_room e =
          let x = w2 false e in let seats = ap (λ (l : ListModel). l.setting.seats) x.list_is in
          room_there u.me.0.own x.lands (let a = H.token_is.there in let b = number_looked in omega arith) (let f = H.token_is.few in omega arith)
          (λ k. ap (λ (a : ListSeat). asleep_on_list a.place k) x.stands_is)

      -- W3, and the end
      module _ (x : Token) (found_it : less word v ≡ true) (q : Gave u x) (again : x.table_id ≡ u.table_id) where
        leave : Ran (stands_by true) u.me.0.own 1 x.me.0.own
        leave = gave_from u u x (stands_by true) refl (stands_looked true found_it) refl few_looked (λ g. refl) q

        left : Led (stands_by true) u.me.0.own 1 x.me.0.own leave.stride
        left = led (stands_by true) u.me.0.own x.me.0.own 1 leave

        w3 : Walked s (waiting (stands_of s)) x (record { place = Rest; ticket = None; hand = (stands_of s).hand; late = (stands_of u).late }) []
            ((Waiting H.ticket W1, 0) ∷ (Waiting H.ticket W2, v) ∷ (Waiting H.ticket W3, 1) ∷ [])
        w3 =
            walked_on s u x (waiting (stands_of s)) (stands_by true)
            (record { place = Rest; ticket = None; hand = (stands_of s).hand; late = (stands_of u).late }) [] []
            ((Waiting H.ticket W1, 0) ∷ (Waiting H.ticket W2, v) ∷ []) ((Waiting H.ticket W3, 1) ∷ []) (w2 true found_it)
            (walked_row u x (stands_by true) 1 (record { place = Rest; ticket = None; hand = (stands_of s).hand; late = (stands_of u).late })
            [] leave again left.stands left.told)

        bare_left : x.me.1 ≡ []
        bare_left = ap (λ (m : Me). m.1) q.3 ∙ ap rest record_looked.1

        pub seat_at_once : IsSeat x n
        seat_at_once = record {
          token_is = token_after s x n (waiting (stands_of s)) (record { place = Rest; ticket = None; hand = (stands_of s).hand; late = (stands_of u).late }) []
              ((Waiting H.ticket W1, 0) ∷ (Waiting H.ticket W2, v) ∷ (Waiting H.ticket W3, 1) ∷ []) H.token_is w3 bare_left;
          free = ap (λ (a : ListSeat). is_free a.place) w3.stands_is;
          holds_none = ap (λ (a : ListSeat). a.ticket) w3.stands_is;
        }

        pub waited_at_once : IsWaited (seat_of s n) AtOnce (seat_of x n)
        waited_at_once = record {
          ticket = H.ticket;
          held = H.held;
          notified = v;
          how = (
            ap (λ k. less k v) H.word_is ∙ found_it,
            calls s x n (waiting (stands_of s)) (record { place = Rest; ticket = None; hand = (stands_of s).hand; late = (stands_of u).late }) []
                ((Waiting H.ticket W1, 0) ∷ (Waiting H.ticket W2, v) ∷ (Waiting H.ticket W3, 1) ∷ []) H.token_is w3,
          );
          comes = comes_to s x n (waiting (stands_of s)) (record { place = Rest; ticket = None; hand = (stands_of s).hand; late = (stands_of x).late }) []
              ((Waiting H.ticket W1, 0) ∷ (Waiting H.ticket W2, v) ∷ (Waiting H.ticket W3, 1) ∷ [])
              (subst (λ k. Walked s (waiting (stands_of s)) x (record { place = Rest; ticket = None; hand = (stands_of s).hand; late = k }) []
              ((Waiting H.ticket W1, 0) ∷ (Waiting H.ticket W2, v) ∷ (Waiting H.ticket W3, 1) ∷ []))
              (sym (ap (λ (a : ListSeat). a.late) w3.stands_is)) w3);
        }

        pub granted_at_once : IsGranted (seat_of s n) (seat_of x n)
        granted_at_once =
            its_ticket x (granted_by H.ticket u x (stands_by true) leave left few_looked left.told (inl (ap (λ (a : ListSeat). a.place) left.stood)))

      -- W4
      module _ (y x : Token) (not_found : less word v ≡ false) (E : Edited u (with_queue (queue_of u ++ wait_for u.me.0.own.number H.ticket ∷ []) (guarded_of u)) y) (q : Gave y x)
          (again : x.table_id ≡ y.table_id) where
        queued_row : Ran (stands_by false) u.me.0.own 1 x.me.0.own
        queued_row = gave_from u y x (stands_by false) (ap (λ (m : Me). m.0.own) E.1.1) (stands_looked false not_found) refl few_looked (λ g. refl) q

        queued : Led (stands_by false) u.me.0.own 1 x.me.0.own queued_row.stride
        queued = led (stands_by false) u.me.0.own x.me.0.own 1 queued_row

        abbrev at_park : ListSeat
        at_park = parked_with H.ticket (stands_of s).hand (stands_of u).late

        w4 : Walked s (waiting (stands_of s)) x (parked_with H.ticket (stands_of s).hand (stands_of u).late)
            [] ((Waiting H.ticket W1, 0) ∷ (Waiting H.ticket W2, v) ∷ (Waiting H.ticket W4, 1) ∷ [])
        w4 = walked_on s u x (waiting (stands_of s)) (stands_by false) at_park [] [] ((Waiting H.ticket W1, 0) ∷ (Waiting H.ticket W2, v) ∷ [])
            ((Waiting H.ticket W4, 1) ∷ []) (w2 false not_found)
            (walked_row u x (stands_by false) 1 at_park [] queued_row (again ∙ E.0) queued.stands queued.told)

        -- what is known before W4
        knows4 : Knows (setting_of u).first queued.world.words u.me.0.own.number (Waiting H.ticket W4) (queued.world.seats u.me.0.own.number).late
        knows4 = known_at (setting_of u).first (setting_of u).seats queued.world u.me.0.own.number (laws_of (setting_of u) queued.world queued.met).invariant
            queued_row.also.there (Waiting H.ticket W4) (ap (λ (a : ListSeat). a.place) queued.stood)

        passed4 : (guarded_of u).passed ≡ queued.world.words.numbers.passed
        passed4 = ap (λ (g : Guarded). g.passed) (queued.held refl)

        pub word_known : word ≡ word_of (setting_of u).first H.ticket.number
        word_known = sym H.word_is ∙ knows4.0.0

        -- while few are passed the seat was never late, and its ticket's number is one of a word
        fresh4 : (guarded_of u).passed < 2 ^ 60 → (stands_of x).late ≡ 0
        fresh4 few =
            let none = none_late (setting_of u) queued.world few_looked queued.met (let p = passed4 in omega arith) u.me.0.own.number queued_row.also.there in
            ap (λ (a : ListSeat). a.late) w4.stands_is ∙ ap (λ (a : ListSeat). a.late) (sym queued.stood) ∙ none

        near4 : (guarded_of u).passed < 2 ^ 60 → H.ticket.number < 2 ^ 64
        near4 few =
            let most = few_handed (setting_of u) queued.world few_looked queued.met in let low = knows4.0.1 in let p = passed4 in omega arith

        handed4 : (H.ticket.number < (told (seen_of x)).handed) × ((guarded_of u).passed ≤ (told (seen_of x)).handed)
        handed4 =
            let inv = (laws_of (setting_of u) queued.world queued.met).invariant in
            let seen = ap (λ (l : List ListEntry). (told l).handed) (seen_all queued_row queued queued.told) in
            let same = ap (λ (m : Numbers). m.handed) inv.numbers in
            let low = knows4.0.1 in let p = passed4 in let le = inv.words.2 in (omega arith, omega arith)

        module _ (leave : Bool) (few : leave ≡ true → (guarded_of u).passed < 2 ^ 60)
            (early : leave ≡ true → H.ticket.number < 2 ^ 64 → H.ticket.number < 2 ^ 60)
            (late : leave ≡ false → (2 ^ 60 ≤ H.ticket.number) ⊎ (2 ^ 60 ≤ (guarded_of u).passed)) where
          pub seat_parked : IsParked x n leave
          seat_parked = record {
            token_is =
                token_after s x n (waiting (stands_of s)) at_park [] ((Waiting H.ticket W1, 0) ∷ (Waiting H.ticket W2, v) ∷ (Waiting H.ticket W4, 1) ∷ [])
                H.token_is w4 (ap (λ (m : Me). m.1) q.3 ∙ ap (λ (m : Me). rest m.1) E.1.1);
            ticket = H.ticket;
            at = ap (λ (a : ListSeat). a.place) w4.stands_is;
            holds_none = ap (λ (a : ListSeat). a.ticket) w4.stands_is;
            early = λ e. (early e (near4 (few e)), fresh4 (few e));
            late = λ e. by (late e);
          }
            where
              by : (2 ^ 60 ≤ H.ticket.number) ⊎ (2 ^ 60 ≤ (guarded_of u).passed) → 2 ^ 60 ≤ (told (seen_of x)).handed
              by (inl number) = let h = handed4 in let a = h.0 in omega arith
              by (inr passed) = let h = handed4 in let a = h.1 in omega arith

        pub queued_it : IsQueued (seat_of s n) (seat_of x n)
        queued_it = record {
          ticket = H.ticket;
          held = H.held;
          notified = v;
          ungranted = ap (λ k. less k v) H.word_is ∙ not_found;
          call =
              calls s x n (waiting (stands_of s)) at_park [] ((Waiting H.ticket W1, 0) ∷ (Waiting H.ticket W2, v) ∷ (Waiting H.ticket W4, 1) ∷ [])
              H.token_is w4;
          comes = comes_to s x n (waiting (stands_of s)) (parked_with H.ticket (stands_of s).hand (stands_of x).late) []
              ((Waiting H.ticket W1, 0) ∷ (Waiting H.ticket W2, v) ∷ (Waiting H.ticket W4, 1) ∷ [])
              (subst (λ k. Walked s (waiting (stands_of s)) x (parked_with H.ticket (stands_of s).hand k) []
              ((Waiting H.ticket W1, 0) ∷ (Waiting H.ticket W2, v) ∷ (Waiting H.ticket W4, 1) ∷ []))
              (sym (ap (λ (a : ListSeat). a.late) w4.stands_is)) w4);
        }
