-- E1, and what comes after it: the seat leaves, or sleeps on.
use Rattle.std.proofs.Common.{◌≡◌, ◌≢◌, ℕ, ◌<◌, ◌≤◌, ◌==◌, if◌then◌else◌, Bool, true, false, List, [], ◌∷◌, Some, None}
use Rattle.std.proofs.Common.{refl, sym, ap, ◌∙◌, subst, arith}
use native.Mathlib.Decide.{ℕ_discrete}
use prog.Atomic.{either}
use Rattle.running_rows.specs.Table.{rest}
use Rattle.running_rows.specs.Owing.{Owes}
use Rattle.running_rows.specs.Strides.{Took, FoundHeld}
use Rattle.running_rows.proofs.Telling.{went_from}
use Rattle.step_table.specs.declared.list_place.ListPlace.TheVariants.{Rest, Waiting}
use Rattle.step_table.specs.declared.list_place.ListParkedRow.TheVariants.{P, E1, E2, E3, E5}
use Rattle.step_table.specs.declared.list_place.Ticket.{Ticket}
use Rattle.step_table.specs.declared.list_place.WaitRow.TheVariants.{E4, Parked}
use Rattle.step_table.specs.Counting.{granted}
use Rattle.step_table.specs.ListWorld.{ListSeat, ListEntry, ListWorld, Forgone, is_queued, without_seat}
use Rattle.step_table.specs.ListTable.{wait_for}
use Rattle.step_table.specs.Path.{GoesOn}
use Rattle.step_table.proofs.Sums.{total_some}
use Rattle.step_law_lists.specs.ListLawful.{Follows, times, times_forgone, IsLawfulList, IsGranted as IsTicketGranted}
use Rattle.step_law_lists.specs.ListPlaces.{ReachedList}
use Rattle.step_law_lists.proofs.ListJournals.{each_once, forgone_stays}
use Rattle.notify_list.specs.declared.view.Setting.{Setting}
use Rattle.notify_list.specs.declared.waited.GaveUp.TheVariants.{Left, Coming}
use Rattle.notify_list.specs.Places.{at_place, is_free, Begins, leaves, leaving_at, giving_up}
use Rattle.notify_list.specs.Plays.{Me, at_leave, standing}
use Rattle.notify_list.specs.Rows.{list_rows}
use Rattle.notify_list.specs.Rule.{Guarded, guarded_in}
use Rattle.notify_list.specs.Seats.{ListModel, Token, list_of, seat_of, guarded_of, queue_of, with_queue, setting_of, stands_of, seen_of, IsSeat, IsParked}
use Rattle.notify_list.specs.Records.{OwnOut}
use Rattle.notify_list.specs.Walks.{Walked, HasRecord, Edited, SawHeld}
use Rattle.notify_list.specs.Calls.{Calls}
use Rattle.notify_list.specs.Leaving.{HasLeft, LeavesAtLock, left_rows, coming_rows}
use Rattle.notify_list.specs.LeavingRows.{MayLeave, MayForgo, Forwent}
use Rattle.notify_list.proofs.Keeping.{laws_of}
use Rattle.notify_list.proofs.Allowing.{GivesBack, row_takes}
use Rattle.notify_list.proofs.Answering.{is_sound}
use Rattle.notify_list.proofs.Leading.{Ran, Led, led, Gave, gave_from}
use Rattle.notify_list.proofs.Looking.{seen_all}
use Rattle.notify_list.proofs.LookingTogether.{parked_later}
use Rattle.notify_list.proofs.Recording.{list_edited, gives_plain, gives_edited}
use Rattle.notify_list.proofs.Walking.{walked_row, walked_on, walked_later, token_after, calls, comes_to}

-- the seat may leave now
pub may_leave_now : (s : Token) (n : ℕ) (b : Bool) → IsParked s n b → MayLeave (seat_of s n) → IsParked s n true
may_leave_now s n b parked may = record {
  token_is = parked.token_is;
  ticket = may.0;
  at = may.1;
  holds_none = parked.holds_none;
  early = λ e. (may.2, may.3);
  late = λ e. absurd cc;
}

-- the lock was found held
pub saw_held : (s t : Token) → FoundHeld list_rows 2 s.me t.me → t.table_id ≡ s.table_id → SawHeld s t
saw_held s t (n, ne, (went, kept)) same = record { table_id = same; slots = ap (λ (m : Me). m.1) kept; found = n; held = ne; looked = went }

-- a ticket that has gone in what was seen has, and is granted in no journal after it
pub has_left : (n : ℕ) (seen now : List ListEntry) → times_forgone n seen ≡ 1 → GoesOn now seen → Follows now → HasLeft n now
has_left n seen now gone later follows = record {
  gone = let least = stays now later in let most = (each_once now follows).once n in omega arith;
  never = λ journal goes_on lawful. (let least = stays now later in let more = onwards journal goes_on in let most = (each_once journal lawful).once n in omega arith);
}
  where
    stays : (l : List ListEntry) → GoesOn l seen → 1 ≤ times_forgone n l
    stays l on = let more = forgone_stays n seen on.more in let same = ap (times_forgone n) on.is in omega arith

    onwards : (l : List ListEntry) → GoesOn l now → times_forgone n now ≤ times_forgone n l
    onwards l on = let more = forgone_stays n now on.more in let same = ap (times_forgone n) on.is in omega arith

-- a seat that gives up and has no wait in the list is granted
granted_coming : (first seats : ℕ) (s : ListWorld) (k : ℕ) (t : Ticket) → IsLawfulList first seats s → k < seats → (s.seats k).place ≡ Waiting t (Parked E5)
    → IsTicketGranted t.number s.journal
granted_coming first seats s k t lawful there at = by (ℕ_discrete (s.words.grants k) 0)
  where
    by : Dec (s.words.grants k ≡ 0) → IsTicketGranted t.number s.journal
    by (yes none) =
        let once = lawful.once k t E5 there at in let out = lawful.leaving k t E5 there at in
        let zero = ap granted none in
        let hand = total_some seats (λ j. times (wait_for k t) (s.seats j).hand) (omega arith) in
        lawful.taken.0 hand.0 (wait_for k t) hand.1 hand.2
    by (no some) = lawful.taken.1 k t E5 there at (omega arith)

module _ (l : ListModel) (s : Token) (n : ℕ) (K : IsParked s n true) where
  abbrev at1 : ListSeat
  at1 = at_place (Waiting K.ticket (Parked E1)) (stands_of s)

  begins1 : Begins (stands_of s) at1
  begins1 = leaves {t = K.ticket} K.at (K.early refl).0 (K.early refl).1

  same1 : standing at1 s.me.0.own.knows ≡ at_leave s.me.0.own.knows
  same1 = λ j. standing (at_place (leaving_at (sym K.at j)) (stands_of s)) s.me.0.own.knows

  giving1 : at1 ≡ giving_up (stands_of s)
  giving1 = λ j. at_place (leaving_at (sym K.at j)) (stands_of s)

  -- what taking the lock owes
  pub leave_owes : (k : Setting) → Owes list_rows k s.me 2 (λ n. either (n == 0) 1 n) (λ n t. (n ≢ 0 → t ≡ s.me) × (n ≡ 0 → Took list_rows at_leave s.me t))
  leave_owes k = row_takes s.me at1 begins1 at_leave same1
      (λ w. record { fits = record { word = refl; there = tt; can = refl; becomes = refl }; free = refl }) k

  module _ (t : Token) (own : list_of s ≡ l) (T : Took list_rows at_leave s.me t.me) (table : t.table_id ≡ s.table_id) where
    row1 : Ran at1 s.me.0.own 0 t.me.0.own
    row1 = went_from list_rows at_leave (standing at1) s.me.0.own t.me.0.own 0 (sym same1) T.0

    d1 : Led at1 s.me.0.own 0 t.me.0.own row1.stride
    d1 = led at1 s.me.0.own t.me.0.own 0 row1

    number1 : t.me.0.own.number ≡ n
    number1 = row1.same.0 ∙ K.token_is.number_is

    guarded1 : guarded_of t ≡ guarded_in d1.world.words
    guarded1 = d1.guarded

    pub list1 : list_of t ≡ l
    list1 = (λ j. record { id = table j; setting = row1.same.1 j }) ∙ own

    few1 : (setting_of t).seats ≤ 65536
    few1 = let e = ap (λ (z : Setting). z.seats) row1.same.1 in let f = K.token_is.few in omega arith

    there1 : t.me.0.own.number < (setting_of t).seats
    there1 = let e = ap (λ (z : Setting). z.seats) row1.same.1 in let f = K.token_is.there in let k = number1 in omega arith

    pub record1 : HasRecord t
    record1 = (T.1.1, ap (λ (m : Me). m.1) T.1.2 ∙ (λ j. (T.1.3.0 j, T.1.1) ∷ K.token_is.bare j), T.1.3.1)

    -- how it stands, by whether its wait is in the list
    abbrev at_e : Bool → ListSeat
    at_e b = at_place (if b then Waiting K.ticket (Parked E2) else Waiting K.ticket (Parked E5)) (stands_of s)

    stands1 : (b : Bool) → is_queued n (queue_of t) ≡ b
        → stands_of t ≡ at_place (if b then Waiting K.ticket (Parked E2) else Waiting K.ticket (Parked E5)) (stands_of s)
    stands1 b e =
        let found : is_queued s.me.0.own.number d1.world.words.queue ≡ b
        = (λ j. is_queued (K.token_is.number_is j) (sym guarded1 j).queue) ∙ e in d1.stands ∙ ap at_e found

    w1 : (b : Bool) → is_queued n (queue_of t) ≡ b → Walked s at1 t (at_e b) [] ((Waiting K.ticket (Parked E1), 0) ∷ [])
    w1 b e = walked_row s t at1 0 (at_e b) [] row1 table (stands1 b e) d1.told

    -- its wait was in the list, and was taken out
    module _ (u : Token) (word : ℕ) (out : OwnOut t (guarded_of t) n (Some word) u) where
      word1 : K.ticket.word ≡ word
      word1 =
          let laws : ReachedList (setting_of s).first (setting_of s).seats d1.world = laws_of (setting_of s) d1.world d1.met in
          let some : 0 < times out.1.0 d1.world.words.queue = subst (λ (g : Guarded). 0 < times out.1.0 g.queue) guarded1 out.1.1 in
          let parked = laws.lawful.parked out.1.0 (omega arith) in
          let at : (d1.world.seats out.1.0.id.seat).place ≡ Waiting K.ticket (Parked E1)
          = ap (λ k. (d1.world.seats k).place) (out.1.2 ∙ sym K.token_is.number_is) ∙ ap (λ (a : ListSeat). a.place) d1.stood in
          let both : Waiting (record { word = out.1.0.ticket; number = out.1.0.id.turn }) (Parked parked.1.0) ≡ Waiting K.ticket (Parked E1)
          = sym parked.1.1 ∙ at in
          let same : record { word = out.1.0.ticket; number = out.1.0.id.turn } ≡ K.ticket = cc in
          ap (λ (k : Ticket). k.word) (sym same) ∙ out.1.3

      pub may_forgo : MayForgo l t word u
      may_forgo = record {
        list_is = list1;
        there = there1;
        few = few1;
        ticket = K.ticket;
        at = ap (λ (a : ListSeat). a.place) (stands1 true out.0);
        word_is = word1;
        early = (K.early refl).0;
        queued = ap (λ k. is_queued k (queue_of t)) number1 ∙ out.0;
        record_is = record1;
        out = subst (λ k. Edited t (with_queue (without_seat k (queue_of t)) (guarded_of t)) u)
            (sym number1) out.2;
      }

      module _ (v : Token) (F : Forwent t word v) where
        same_ticket : F.ticket ≡ K.ticket
        same_ticket =
            let both : Waiting F.ticket (Parked E2) ≡ Waiting K.ticket (Parked E2) = sym F.at ∙ ap (λ (a : ListSeat). a.place) (stands1 true out.0) in cc

        abbrev at4 : ListSeat
        at4 = at_place (Waiting K.ticket E4) (stands_of s)

        abbrev told4 : List ListEntry
        told4 = Forgone K.ticket.number n ∷ []

        w4 : Walked s at1 v at4 (Forgone K.ticket.number n ∷ [])
            ((Waiting K.ticket (Parked E1), 0) ∷ (Waiting K.ticket (Parked E2), F.notified) ∷ (Waiting K.ticket (Parked (E3 F.notified)), F.notified) ∷ [])
        w4 = walked_on s t v at1 (at_e true) at4 [] told4 ((Waiting K.ticket (Parked E1), 0) ∷ [])
            ((Waiting K.ticket (Parked E2), F.notified) ∷ (Waiting K.ticket (Parked (E3 F.notified)), F.notified) ∷ []) (w1 true out.0)
            (subst (λ (q : (ListSeat × Ticket) × ℕ). Walked t q.0.0 v (at_place (Waiting q.0.1 E4) q.0.0) (Forgone q.0.1.number q.1 ∷ [])
            ((Waiting q.0.1 (Parked E2), F.notified) ∷ (Waiting q.0.1 (Parked (E3 F.notified)), F.notified) ∷ []))
            (λ j. ((stands1 true out.0 j, same_ticket j), number1 j)) F.walked)

        few4 : (setting_of v).seats ≤ 65536
        few4 = let e = ap (λ (z : ListModel). z.setting.seats) w4.list_is in let f = K.token_is.few in omega arith

        pub list4 : list_of v ≡ l
        list4 = w4.list_is ∙ own

        pub gives4 : (k : Setting) → GivesBack k v.me
        gives4 k = gives_plain k v at4 w4.stands_is F.record_is refl
            (λ w. (record { word = refl; there = tt; can = refl; becomes = refl }, refl))

        -- E4
        module _ (x : Token) (q : Gave v x) (again : x.table_id ≡ v.table_id) where
          row4 : Ran at4 v.me.0.own 1 x.me.0.own
          row4 = gave_from v v x at4 refl w4.stands_is refl few4 (λ g. refl) q

          d4 : Led at4 v.me.0.own 1 x.me.0.own row4.stride
          d4 = led at4 v.me.0.own x.me.0.own 1 row4

          abbrev at_rest : ListSeat
          at_rest = at_place Rest (stands_of s)

          last4 : Walked v at4 x at_rest [] ((Waiting K.ticket E4, 1) ∷ [])
          last4 = walked_row v x at4 1 at_rest [] row4 again d4.stands d4.told

          w5 : Walked s at1 x at_rest (Forgone K.ticket.number n ∷ []) (left_rows K.ticket F.notified)
          w5 = walked_on s v x at1 at4 at_rest told4 []
              ((Waiting K.ticket (Parked E1), 0) ∷ (Waiting K.ticket (Parked E2), F.notified) ∷ (Waiting K.ticket (Parked (E3 F.notified)), F.notified) ∷ [])
              ((Waiting K.ticket E4, 1) ∷ []) w4 last4

          bare4 : x.me.1 ≡ []
          bare4 = ap (λ (m : Me). m.1) q.3 ∙ ap rest F.record_is.1

          pub seat_left : IsSeat x n
          seat_left = record {
            token_is = token_after s x n at1 at_rest (Forgone K.ticket.number n ∷ []) (left_rows K.ticket F.notified) K.token_is w5 bare4;
            free = ap (λ (a : ListSeat). is_free a.place) w5.stands_is;
            holds_none = ap (λ (a : ListSeat). a.ticket) w5.stands_is ∙ K.holds_none;
          }

          pub left : LeavesAtLock (seat_of s n) (Left (seat_of x n))
          left = (
            K.ticket,
            F.notified,
            K.at,
            subst (λ (a : ListSeat). Calls (seat_of s n) a (seat_of x n) (Forgone K.ticket.number n ∷ []) (left_rows K.ticket F.notified)) giving1
                (calls s x n at1 at_rest (Forgone K.ticket.number n ∷ []) (left_rows K.ticket F.notified) K.token_is w5),
            comes_to s x n at1 at_rest (Forgone K.ticket.number n ∷ []) (left_rows K.ticket F.notified) w5,
            has_left K.ticket.number (seen_of v) (seen_of x) (ap (λ (k : Ticket). times_forgone k.number (seen_of v)) (sym same_ticket) ∙ F.gone)
                (walked_later v x at4 at_rest [] ((Waiting K.ticket E4, 1) ∷ []) last4) (is_sound x n seat_left.token_is).lawful,
          )

    -- it wasn't
    module _ (u : Token) (out : OwnOut t (guarded_of t) n None u) where
      abbrev at5 : ListSeat
      at5 = at_place (Waiting K.ticket (Parked E5)) (stands_of s)

      pub list5 : list_of u ≡ l
      list5 = list_edited t u _ out.1 ∙ list1

      pub gives5 : (k : Setting) → GivesBack k u.me
      gives5 k = gives_edited k t u at5 (stands1 false out.0) (guarded_of t) out.1 refl
          (λ w e. (record { word = refl; there = tt; can = refl; becomes = refl }, sym e))

      -- E5
      module _ (x : Token) (q : Gave u x) (again : x.table_id ≡ u.table_id) where
        row5 : Ran at5 t.me.0.own 1 x.me.0.own
        row5 = gave_from t u x at5 (ap (λ (m : Me). m.0.own) out.1.1.1) (stands1 false out.0) refl few1 (λ g. refl) q

        d5 : Led at5 t.me.0.own 1 x.me.0.own row5.stride
        d5 = led at5 t.me.0.own x.me.0.own 1 row5

        asleep5 : at_place (Waiting K.ticket (Parked P)) (stands_of s) ≡ stands_of s
        asleep5 = λ j. record (stands_of s) { place = sym K.at j }

        w6 : Walked s at1 x (stands_of s) [] (coming_rows K.ticket)
        w6 = walked_on s t x at1 at5 (stands_of s) [] [] ((Waiting K.ticket (Parked E1), 0) ∷ []) ((Waiting K.ticket (Parked E5), 1) ∷ []) (w1 false out.0)
            (walked_row t x at5 1 (stands_of s) [] row5 (again ∙ out.1.0) (d5.stands ∙ asleep5) d5.told)

        bare5 : x.me.1 ≡ []
        bare5 = ap (λ (m : Me). m.1) q.3 ∙ ap (λ (m : Me). rest m.1) out.1.1.1

        pub parked_again : IsParked x n true
        parked_again = parked_later s x n true K (token_after s x n at1 (stands_of s) [] (coming_rows K.ticket) K.token_is w6 bare5) w6.stands_is
            (walked_later s x at1 (stands_of s) [] (coming_rows K.ticket) w6)

        granted5 : IsTicketGranted K.ticket.number (seen_of x)
        granted5 =
            let laws : ReachedList (setting_of t).first (setting_of t).seats d5.world = laws_of (setting_of t) d5.world d5.met in
            subst (IsTicketGranted K.ticket.number) (sym (seen_all row5 d5 d5.told))
            (granted_coming (setting_of t).first (setting_of t).seats d5.world t.me.0.own.number K.ticket laws.lawful row5.also.there
            (ap (λ (a : ListSeat). a.place) d5.stood))

        pub coming : LeavesAtLock (seat_of s n) (Coming (seat_of x n))
        coming = (
          K.ticket,
          K.at,
          subst (λ (a : ListSeat). Calls (seat_of s n) a (seat_of x n) [] (coming_rows K.ticket)) giving1
              (calls s x n at1 (stands_of s) [] (coming_rows K.ticket) K.token_is w6),
          comes_to s x n at1 (stands_of s) [] (coming_rows K.ticket) w6,
          granted5,
        )
