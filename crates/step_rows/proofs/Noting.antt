-- A notify list after each of its changes, as a clause sees it.
use Rattle.std.proofs.Common.{◌≡◌, ℕ, suc, ◌+◌, ◌<◌, ◌≤◌, nat_lt, List, [], ◌∷◌, ◌++◌, length, set, slice_get, get_or, drop, Option, Some, None, refl}
use Rattle.std.proofs.Common.{sym, ap, ◌∙◌, subst, arith}
use Rattle.std.proofs.Common.{length-set, append-nil, Bool, true, false, if◌then◌else◌, ◌==◌}
use Rattle.std.specs.Prelude.{◌||◌, unwrap_or, is_some, IsSome, OnSome, IfNone, vec_capacity}
use Rattle.std.proofs.lemmas.List.{length-map, length_push}
use Rattle.std.proofs.lemmas.Option.{slice_get-get_or}
use Rattle.std.specs.Global.{Vec}
use Rattle.std.specs.Vec.{with_item}
use Rattle.waiters.specs.declared.sought.Sought.TheVariants.{Ticket as OfTicket, Seat as OfSeat}
use Rattle.waiters.specs.declared.wait.Wait.{Wait}
use Rattle.waiters.proofs.SoughtLemmas.{without-none, without-length}
use Rattle.waiters.specs.Lists.{Lists, waits_at, Changes, first_with, without_first, is_sought, first_sought, without_sought}
use Rattle.step_table.specs.declared.list_place.ListEffect.{ListEffect}
use Rattle.step_table.specs.declared.list_place.ListEffect.TheVariants.{Nothing, HandsOut, Grants, Queues, TakesOut, TakesAll, Gives, Forgoes}
use Rattle.step_table.specs.declared.list_place.ListPlace.{ListPlace}
use Rattle.step_table.specs.declared.list_place.ListPlace.TheVariants.{Waiting}
use Rattle.step_table.specs.declared.list_place.ListWord.TheVariants.{Grant}
use Rattle.step_table.specs.declared.list_place.Ticket.{Ticket}
use Rattle.step_table.specs.declared.list_place.WaitRow.TheVariants.{W1}
use Rattle.step_rows.specs.declared.list_machine.ListMachine.TheInside.{Inside}
use Rattle.step_rows.specs.declared.list_machine.SeatRecord.{SeatRecord}
use Rattle.step_rows.specs.contracts.list_machine.ListMachine.{the_view}
use Rattle.step_table.specs.World.{put}
use Rattle.step_table.specs.ListWorld.{ListEntry, written, one_or_none, first_left, forgotten, forgotten_at, with_gone, is_queued, without_seat, passing}
use Rattle.step_table.specs.Wrapping.{less}
use Rattle.step_table.specs.ListSteps.{with_ticket, waiting}
use Rattle.step_rows.specs.ListStored.{StoredList, ListMoment, moment_of, world_at, world_of, seat_of, stored_seat, seats_in, placed, made, waits_in, AreLists, most_gone}
use Rattle.step_rows.proofs.Handing.{put_self, shown, grants_in, grants_shown, seat_at, grant_at, seats_set, grants_set, are_set, queue_kept, seats_hand}
use Rattle.step_rows.proofs.Handing.{are_hand, are_swapped, queue_here, seats_queue, are_queue}

-- the moment that the fields tell
abbrev pub told : Inside → ListMoment
told h =
    record {
      words = record {
        wait = h.wait;
        notify = h.notify;
        lock = h.lock;
        grants = grants_in h.seats.items;
        numbers = record { handed = h.handed; passed = h.passed; gone = h.gone_numbers.items };
        queue = waits_at h.waits h.queue;
        gone = h.gone.items;
      };
      seats = seats_in h.waits h.seats.items;
      count = length h.seats.items;
    }

pub told_is : (h : Inside) → moment_of (the_view h) ≡ told h
told_is h = λ j. record (told h) {
  words = record (told h).words { grants = grants_shown h.waits h.seats.items j };
  seats = shown h.waits h.seats.items j;
  count = length-map h.seats.items (stored_seat h.waits) j;
}

-- what is shown after a change, by what the fields tell
pub changed : (f : ListMoment → ListMoment) (h k : Inside) (l : StoredList) → the_view h ≡ l → told k ≡ f (told h)
    → moment_of (the_view k) ≡ f (moment_of l)
changed f h k l same e = told_is k ∙ e ∙ ap f (sym (told_is h) ∙ ap moment_of same)

pub made_nothing : (m : ListMoment) (i x : ℕ) → m ≡ made m i Nothing x
made_nothing m i x = λ j. record m { seats = put_self m.seats i (m.seats i) refl j }

-- a seat that waits with its ticket
abbrev pub with_waiting : ListMoment → ℕ → ListMoment
with_waiting m i = record m { seats = put m.seats i (with_ticket (m.seats i) (m.seats i).ticket) }

-- how many waits then fit
room_after : (is : Wait → Bool) (q : List Wait) (room after : ℕ) (r : Option Wait) → r ≡ first_sought is q → OnSome r (after ≡ room + 1)
    → (r ≡ None → after ≡ room) → after + length (without_sought is q) ≡ room + length q
room_after is q room after None e some none = let a = without-none is q (sym e) in let b = none refl in let c = ap length a in omega arith
room_after is q room after (Some w) e some none = let a = without-length is q (subst IsSome e refl) in omega arith

pub queued_found : (s : ℕ) (q : List Wait) → is_queued s q ≡ is_some (first_sought (is_sought (OfSeat s)) q)
queued_found s [] = refl
queued_found s (w ∷ q) = by (w.id.seat == s) (queued_found s q)
  where
    by : (b : Bool) → is_queued s q ≡ is_some (first_sought (is_sought (OfSeat s)) q)
        → b || is_queued s q ≡ is_some (if b then Some w else first_sought (is_sought (OfSeat s)) q)
    by true rest = refl
    by false rest = rest

seat_without : (s : ℕ) (q : List Wait) → without_sought (is_sought (OfSeat s)) q ≡ without_seat s q
seat_without s [] = refl
seat_without s (w ∷ q) = ap (λ l. if w.id.seat == s then q else w ∷ l) (seat_without s q)

-- the lists are in order, and there is room for gone tickets
abbrev pub AreKept : Inside → Type 0
AreKept h =
    AreLists h.waits h.queue h.seats.items
    × (most_gone (length h.seats.items) ≤ vec_capacity h.gone_numbers) × (most_gone (length h.seats.items) ≤ vec_capacity h.gone)

room_set : (seats : List SeatRecord) (n : ℕ) (t : SeatRecord) (room : ℕ) → most_gone (length seats) ≤ room → most_gone (length (set seats n t)) ≤ room
room_set seats n t room fits = let same = length-set seats n t in omega arith

-- the record of the seat i was read under its number n
pub record Reads (h : Inside) (l : StoredList) (i n : ℕ) (s : SeatRecord) : Type 0 where
  pub are : AreKept h
  pub same : the_view h ≡ l
  pub in_range : i < length l.seats
  pub number : n ≡ i
  pub value : s ≡ get_or h.seats.items n s

module _ (h : Inside) (l : StoredList) (i n : ℕ) (s : SeatRecord) (reads : Reads h l i n s) where
  pub below : n < length h.seats.items
  below =
      let a = ap (λ z. length z.seats) reads.same in let b = length-map h.seats.items (stored_seat h.waits) in
      let r = reads.in_range in let q = reads.number in
      omega arith

  pub at : slice_get h.seats.items n ≡ Some s
  at = slice_get-get_or h.seats.items n s below ∙ ap Some (sym reads.value)

  abbrev pub with_record : SeatRecord → Inside
  with_record t = record h { seats = with_item h.seats n t }

  all_kept : (waits : Lists) (queue : ℕ) (t : SeatRecord) → AreLists waits queue (set h.seats.items n t)
      → AreKept (record (with_record t) { waits = waits; queue = queue })
  all_kept waits queue t lists = (lists, room_set h.seats.items n t _ reads.are.1, room_set h.seats.items n t _ reads.are.2)

  pub record_kept : (t : SeatRecord) → t.hand ≡ s.hand → AreKept (with_record t)
  record_kept t same = all_kept h.waits h.queue t (are_set h.waits h.queue h.seats.items reads.are.0 n s at t same)

  grants_same : (t : SeatRecord) → t.grant ≡ s.grant → grants_in (set h.seats.items n t) ≡ grants_in h.seats.items
  grants_same t e = grants_set h.waits h.queue h.seats.items reads.are.0 n s at t
      ∙ sym (put_self (grants_in h.seats.items) n t.grant (grant_at h.waits h.queue h.seats.items reads.are.0 n s at ∙ sym e))

  seats_put : (t : SeatRecord) → seats_in h.waits (set h.seats.items n t) ≡ put (seats_in h.waits h.seats.items) n (seat_of (Some (stored_seat h.waits t)))
  seats_put t = seats_set h.waits h.queue h.seats.items reads.are.0 n s at t

  here : seats_in h.waits h.seats.items n ≡ seat_of (Some (stored_seat h.waits s))
  here = seat_at h.waits h.queue h.seats.items reads.are.0 n s at

  -- the number of the seat is i
  pub effected : (effect : ListEffect) (x : ℕ) (k : Inside) → told k ≡ made (told h) n effect x → moment_of (the_view k) ≡ made (moment_of l) i effect x
  effected effect x k e = changed (λ m. made m i effect x) h k l reads.same (e ∙ ap (λ z. made (told h) z effect x) reads.number)

  pub put_placed : (p : ListPlace) → moment_of (the_view (with_record (record s { place = p }))) ≡ placed (moment_of l) i p
  put_placed p = changed (λ m. placed m i p) h (with_record (record s { place = p })) l reads.same
      (told_placed ∙ ap (λ k. placed (told h) k p) reads.number)
    where
      told_placed : told (with_record (record s { place = p })) ≡ placed (told h) n p
      told_placed = λ j. record (told h) {
        words = record (told h).words { grants = grants_same (record s { place = p }) refl j };
        seats = (seats_put (record s { place = p }) ∙ ap (λ z. put (seats_in h.waits h.seats.items) n (record z { place = p })) (sym here)) j;
        count = length-set h.seats.items n (record s { place = p }) j;
      }

  pub begun : (t : Ticket) → s.ticket ≡ Some t
      → told (with_record (record s { place = Waiting t W1; ticket = None })) ≡ with_waiting (told h) n
  begun t e = λ j. record (told h) {
    words = record (told h).words { grants = grants_same (record s { place = Waiting t W1; ticket = None }) refl j };
    seats = (seats_put (record s { place = Waiting t W1; ticket = None })
        ∙ ap (λ o. put (seats_in h.waits h.seats.items) n (with_ticket (seat_of (Some (stored_seat h.waits s))) o)) (sym e)
        ∙ ap (λ z. put (seats_in h.waits h.seats.items) n (with_ticket z z.ticket)) (sym here)) j;
    count = length-set h.seats.items n (record s { place = Waiting t W1; ticket = None }) j;
  }

  pub not_begun : s.ticket ≡ None → told (with_record s) ≡ with_waiting (told h) n
  not_begun e = λ j. record (told h) {
    words = record (told h).words { grants = grants_same s refl j };
    seats = (seats_put s
        ∙ ap (λ o. put (seats_in h.waits h.seats.items) n (with_ticket (seat_of (Some (stored_seat h.waits s))) o)) (sym e)
        ∙ ap (λ z. put (seats_in h.waits h.seats.items) n (with_ticket z z.ticket)) (sym here)) j;
    count = length-set h.seats.items n s j;
  }

  pub in_world : (k : Inside) → told k ≡ with_waiting (told h) n → (journal : List ListEntry)
      → world_of (the_view k) journal ≡ waiting (world_of l journal) i
  in_world k e journal = ap (λ m. world_at m journal) (changed (λ m. with_waiting m i) h k l reads.same (e ∙ ap (with_waiting (told h)) reads.number))

  pub put_granted : (x : ℕ) → told (with_record (record s { grant = x })) ≡ record (told h) { words = written (told h).words (Grant n) x }
  put_granted x = λ j. record (told h) {
    words = record (told h).words { grants = grants_set h.waits h.queue h.seats.items reads.are.0 n s at (record s { grant = x }) j };
    seats = (seats_put (record s { grant = x }) ∙ sym (put_self (seats_in h.waits h.seats.items) n (seat_of (Some (stored_seat h.waits s))) here)) j;
    count = length-set h.seats.items n (record s { grant = x }) j;
  }

  pub put_ticket : (t : Ticket) (x : ℕ)
      → told (record (with_record (record s { ticket = Some t })) { handed = h.handed + 1 }) ≡ made (told h) n (HandsOut t) x
  put_ticket t x = λ j. record (told h) {
    words =
        record (told h).words {
          grants = grants_same (record s { ticket = Some t }) refl j;
          numbers = record (told h).words.numbers { handed = h.handed + 1 };
        };
    seats =
        (seats_put (record s { ticket = Some t })
        ∙ ap (λ z. put (seats_in h.waits h.seats.items) n (record z { ticket = Some t; hand = z.hand })) (sym here)) j;
    count = length-set h.seats.items n (record s { ticket = Some t }) j;
  }

  -- its first wait left its hand
  module _ (later : Lists) (ch : Changes h.waits later s.hand (Some (drop 1 (waits_at h.waits s.hand)))) where
    pub given : (x : ℕ) → told (record h { waits = later }) ≡ made (told h) n Gives x
    given x = λ j. record (told h) {
      words = record (told h).words { queue = queue_kept h.waits h.queue h.seats.items reads.are.0 n s at later _ ch j };
      seats = (seats_hand h.waits h.queue h.seats.items reads.are.0 n s at later _ ch
          ∙ ap (λ z. put (seats_in h.waits h.seats.items) n (record z { ticket = z.ticket; hand = drop 1 z.hand })) (sym here)) j;
    }

    pub given_kept : (r : Option Wait) → r ≡ slice_get (waits_at h.waits s.hand) 0 → OnSome r (later.room ≡ h.waits.room + 1)
        → IfNone r (later ≡ h.waits) → AreKept (record h { waits = later })
    given_kept r e some none = (
      are_hand h.waits h.queue h.seats.items reads.are.0 n s at later _ ch
          (popped (waits_at h.waits s.hand) (subst (λ o. OnSome o (later.room ≡ h.waits.room + 1)) e some) (subst (λ o. IfNone o (later ≡ h.waits)) e none)),
      reads.are.1,
      reads.are.2,
    )
      where
        popped : (l : List Wait) → OnSome (slice_get l 0) (later.room ≡ h.waits.room + 1) → IfNone (slice_get l 0) (later ≡ h.waits)
            → later.room + length (drop 1 l) ≡ h.waits.room + length l
        popped [] some none = ap (λ z. z.room + 0) none
        popped (w ∷ l) some none = omega arith

  -- the list went into its hand, which was empty
  module _ (empty : ((moment_of l).seats i).hand ≡ []) where
    none_in_hand : waits_at h.waits s.hand ≡ []
    none_in_hand = ap (λ z. z.hand) (sym here) ∙ ap (λ k. (seats_in h.waits h.seats.items k).hand) reads.number
        ∙ ap (λ m. (m.seats i).hand) (sym (told_is h) ∙ ap moment_of reads.same) ∙ empty

    abbrev pub all_taken : Inside
    all_taken = record (with_record (record s { hand = h.queue })) { queue = s.hand }

    pub taken_kept : AreKept all_taken
    taken_kept = all_kept h.waits s.hand (record s { hand = h.queue }) (are_swapped h.waits h.queue h.seats.items reads.are.0 n s at none_in_hand)

    pub taken : (x : ℕ) → told all_taken ≡ made (told h) n TakesAll x
    taken x = λ j. record (told h) {
      words = record (told h).words { grants = grants_same (record s { hand = h.queue }) refl j; queue = none_in_hand j };
      seats = (seats_put (record s { hand = h.queue })
          ∙ ap (λ q. put (seats_in h.waits h.seats.items) n (record (seat_of (Some (stored_seat h.waits s))) { hand = q ++ waits_at h.waits h.queue }))
          (sym none_in_hand)
          ∙ ap (λ z. put (seats_in h.waits h.seats.items) n (record z { ticket = z.ticket; hand = z.hand ++ waits_at h.waits h.queue })) (sym here)) j;
      count = length-set h.seats.items n (record s { hand = h.queue }) j;
    }

  -- no wait had the ticket t
  module _ (t : ℕ) (later : Lists) (ch : Changes h.waits later h.queue (Some (without_first t (waits_at h.waits h.queue)))) where
    pub none_out : first_with t (waits_at h.waits h.queue) ≡ None → (x : ℕ) → told (record h { waits = later }) ≡ made (told h) n (TakesOut t) x
    none_out none x = λ j. record (told h) {
      words = record (told h).words { queue = queue_here h.waits h.queue h.seats.items reads.are.0 later _ ch j };
      seats = (seats_queue h.waits h.queue h.seats.items reads.are.0 later _ ch
          ∙ put_self (seats_in h.waits h.seats.items) n _ (sym same_hand)) j;
    }
      where
        same_hand : record (seats_in h.waits h.seats.items n)
            { hand = (seats_in h.waits h.seats.items n).hand ++ one_or_none (first_with t (waits_at h.waits h.queue)) } ≡ seats_in h.waits h.seats.items n
        same_hand = λ j. record (seats_in h.waits h.seats.items n) {
          hand = (ap (λ o. (seats_in h.waits h.seats.items n).hand ++ one_or_none o) none ∙ append-nil (seats_in h.waits h.seats.items n).hand) j;
        }

    -- the wait w has it, and went into its hand
    module _ (w : Wait) (first : first_with t (waits_at h.waits h.queue) ≡ Some w) (room : later.room ≡ h.waits.room + 1) where
      pub middle : AreLists later h.queue h.seats.items
      middle = are_queue h.waits h.queue h.seats.items reads.are.0 later _ ch (let a = without-length (is_sought (OfTicket t)) (waits_at h.waits h.queue) (subst IsSome (sym first) refl) in omega arith)

      module _ (last : Lists) (put_in : Changes later last s.hand (Some (waits_at later s.hand ++ w ∷ []))) (less_room : last.room + 1 ≡ later.room) where
        pub one_out_kept : AreKept (record h { waits = last })
        one_out_kept = (
          are_hand later h.queue h.seats.items middle n s at last _ put_in (let a = length_push (waits_at later s.hand) w in omega arith),
          reads.are.1,
          reads.are.2,
        )

        hand_kept : waits_at later s.hand ≡ waits_at h.waits s.hand
        hand_kept = ap (λ o. unwrap_or o []) (ch.elsewhere s.hand (reads.are.0.apart n s at))

        pub one_out : (x : ℕ) → told (record h { waits = last }) ≡ made (told h) n (TakesOut t) x
        one_out x = λ j. record (told h) {
          words = record (told h).words {
            queue = (queue_kept later h.queue h.seats.items middle n s at last _ put_in ∙ queue_here h.waits h.queue h.seats.items reads.are.0 later _ ch) j;
          };
          seats = (seats_hand later h.queue h.seats.items middle n s at last _ put_in
              ∙ ap (λ f. put f n (record (seat_of (Some (stored_seat later s))) { hand = waits_at later s.hand ++ w ∷ [] }))
              (seats_queue h.waits h.queue h.seats.items reads.are.0 later _ ch)
              ∙ ap (λ q. put (seats_in h.waits h.seats.items) n (record (seat_of (Some (stored_seat h.waits s))) { hand = q ++ w ∷ [] })) hand_kept
              ∙ ap (λ o. put (seats_in h.waits h.seats.items) n
              (record (seat_of (Some (stored_seat h.waits s))) { hand = waits_at h.waits s.hand ++ one_or_none o })) (sym first)
              ∙ ap (λ z. put (seats_in h.waits h.seats.items) n
              (record z { ticket = z.ticket; hand = z.hand ++ one_or_none (first_with t (waits_at h.waits h.queue)) })) (sym here)) j;
        }

-- what changes no seat
module _ (h : Inside) (are : AreKept h) (i : ℕ) where
  stays : seats_in h.waits h.seats.items ≡ put (seats_in h.waits h.seats.items) i (seats_in h.waits h.seats.items i)
  stays = put_self (seats_in h.waits h.seats.items) i (seats_in h.waits h.seats.items i) refl

  -- the tickets up to there are passed
  module _ (upto x passed : ℕ) (numbers gone : Vec ℕ) (is : passed ≡ first_left suc h.gone_numbers.items upto)
      (numbers_are : numbers.items ≡ forgotten (λ m. nat_lt m passed) h.gone_numbers.items) (gone_are : gone.items ≡ forgotten_at x h.gone.items) where
    pub passed_made : told (record h { passed = passed; gone_numbers = numbers; gone = gone }) ≡ made (told h) i (Grants upto) x
    passed_made = λ j. record (told h) {
      words = record (told h).words {
        numbers = record {
          handed = h.handed;
          passed = is j;
          gone = (numbers_are ∙ ap (λ p. forgotten (λ m. nat_lt m p) h.gone_numbers.items) is) j;
        };
        gone = gone_are j;
      };
      seats = stays j;
    }

  -- the wait of the seat of w has left the queue, and its ticket is gone
  module _ (w : Wait) (x : ℕ) (later : Lists) (numbers gone : Vec ℕ)
      (ch : Changes h.waits later h.queue (Some (without_sought (is_sought (OfSeat w.id.seat)) (waits_at h.waits h.queue))))
      (numbers_are : numbers.items ≡ with_gone nat_lt w.id.turn h.gone_numbers.items) (gone_are : gone.items ≡ with_gone less w.ticket h.gone.items) where
    abbrev pub without_ticket : Inside
    without_ticket = record h { waits = later; gone_numbers = numbers; gone = gone }

    forgone_made : made (told without_ticket) i (Grants h.passed) x ≡ made (told h) i (Forgoes w) x
    forgone_made = λ j. record (told h) {
      words = record (told h).words {
        numbers = passing h.handed h.passed (numbers_are j);
        queue = (queue_here h.waits h.queue h.seats.items are.0 later _ ch ∙ seat_without w.id.seat (waits_at h.waits h.queue)) j;
        gone = forgotten_at x (gone_are j);
      };
      seats = (ap (λ f. put f i (f i)) (seats_queue h.waits h.queue h.seats.items are.0 later _ ch) ∙ sym stays ∙ stays) j;
    }

    pub forgone : (l : StoredList) → the_view h ≡ l → made (moment_of (the_view without_ticket)) i (Grants h.passed) x ≡ made (moment_of l) i (Forgoes w) x
    forgone l same =
        ap (λ m. made m i (Grants h.passed) x) (told_is without_ticket) ∙ forgone_made
        ∙ ap (λ m. made m i (Forgoes w) x) (sym (told_is h) ∙ ap moment_of same)

    pub without_kept : (r : Option Wait) → r ≡ first_sought (is_sought (OfSeat w.id.seat)) (waits_at h.waits h.queue)
        → OnSome r (later.room ≡ h.waits.room + 1) → IfNone r (later ≡ h.waits) → vec_capacity numbers ≡ vec_capacity h.gone_numbers
        → vec_capacity gone ≡ vec_capacity h.gone → AreKept without_ticket
    without_kept r e some none numbers_room gone_room = (
      are_queue h.waits h.queue h.seats.items are.0 later _ ch
          (room_after (is_sought (OfSeat w.id.seat)) (waits_at h.waits h.queue) h.waits.room later.room r e some
          (λ n. ap (λ z. z.room) (none_same r n none))),
      let room = are.1 in omega arith,
      let room = are.2 in omega arith,
    )
      where
        none_same : (o : Option Wait) → o ≡ None → IfNone o (later ≡ h.waits) → later ≡ h.waits
        none_same None n same = same
        none_same (Some v) n same = absurd (cc)

  module _ (w : Wait) (later : Lists) (ch : Changes h.waits later h.queue (Some (waits_at h.waits h.queue ++ w ∷ []))) where
    pub queue_made : (x : ℕ) → told (record h { waits = later }) ≡ made (told h) i (Queues w) x
    queue_made x = λ j. record (told h) {
      words = record (told h).words { queue = queue_here h.waits h.queue h.seats.items are.0 later _ ch j };
      seats = (seats_queue h.waits h.queue h.seats.items are.0 later _ ch ∙ stays) j;
    }

    pub queue_made_kept : later.room + 1 ≡ h.waits.room → AreKept (record h { waits = later })
    queue_made_kept e = (
      are_queue h.waits h.queue h.seats.items are.0 later _ ch (let a = length_push (waits_at h.waits h.queue) w in omega arith),
      are.1,
      are.2,
    )

  -- there is room for one more where fewer waits are held than there are seats
  pub fits : (l : StoredList) → the_view h ≡ l → waits_in (moment_of l).count (moment_of l).words (moment_of l).seats
      < (moment_of l).count → 0 < h.waits.room
  fits l same space =
      let m = sym (told_is h) ∙ ap moment_of same in
      let a : waits_in (told h).count (told h).words (told h).seats < (told h).count = subst (λ m. waits_in m.count m.words m.seats < m.count) (sym m) space in
      let r = are.0.room in omega arith
