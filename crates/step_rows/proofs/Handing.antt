-- The seats of a notify list and their hands, after a change of one record or one list.
use Rattle.std.proofs.Common.{◌≡◌, ◌≢◌, ℕ, ◌+◌, ◌<◌, ◌⊎◌, inl, inr, List, [], length, set, slice_get, map, Option, Some, None, refl}
use Rattle.std.proofs.Common.{sym, ap, ◌∙◌, subst, arith}
use Rattle.std.proofs.Common.{length-set, get_or-set_same, get_or-set_other}
use native.Mathlib.Decide.{ℕ_discrete, dec_lt}
use mathlib.Core.Path.{fun_ext}
use Rattle.std.proofs.lemmas.Option.{slice_get-map, slice_get_within, slice_get-get_or, slice_get_past}
use Rattle.std.specs.Option.{option_map}
use Rattle.std.specs.Prelude.{unwrap_or, IsSome}
use Rattle.waiters.specs.declared.wait.Wait.{Wait}
use Rattle.waiters.specs.Lists.{Lists, IsOpen, waits_at, Changes}
use Rattle.step_rows.specs.declared.list_machine.SeatRecord.{SeatRecord}
use Rattle.step_table.specs.World.{put}
use Rattle.step_rows.specs.ListStored.{seat_of, grant_of, stored_seat, seats_in, held, AreLists}
use Rattle.step_table.proofs.Sums.{put_here, put_else, total_same, total_change}

pub put_ext : {A : Type 0} (f g : ℕ → A) (i : ℕ) (x : A) → g i ≡ x → ((k : ℕ) → k ≢ i → g k ≡ f k) → g ≡ put f i x
put_ext {A} f g i x here else = fun_ext (λ k. by k (ℕ_discrete k i))
  where
    by : (k : ℕ) → Dec (k ≡ i) → g k ≡ put f i x k
    by k (yes e) = rw e (here ∙ sym (put_here f i x))
    by k (no ne) = else k ne ∙ sym (put_else f i x k ne)

pub put_self : {A : Type 0} (f : ℕ → A) (i : ℕ) (x : A) → f i ≡ x → f ≡ put f i x
put_self f i x e = put_ext f f i x e (λ k ne. refl)

pub put_put : {A : Type 0} (f : ℕ → A) (i : ℕ) (x y : A) → put (put f i x) i y ≡ put f i y
put_put f i x y = put_ext f (put (put f i x) i y) i y (put_here (put f i x) i y) (λ k ne. put_else (put f i x) i y k ne ∙ put_else f i x k ne)

get_same : {A : Type 0} (l : List A) (i : ℕ) (x : A) → i < length l → slice_get (set l i x) i ≡ Some x
get_same l i x h = let n = length-set l i x in slice_get-get_or (set l i x) i x (omega arith) ∙ ap Some (get_or-set_same l i x x h)

get_other : {A : Type 0} (l : List A) (i : ℕ) (x : A) (k : ℕ) → k ≢ i → slice_get (set l i x) k ≡ slice_get l k
get_other l i x k ne = by (dec_lt k (length l))
  where
    by : Dec (k < length l) → slice_get (set l i x) k ≡ slice_get l k
    by (yes h) = let n = length-set l i x in
        slice_get-get_or (set l i x) k x (omega arith) ∙ ap Some (get_or-set_other l i k x x ne) ∙ sym (slice_get-get_or l k x h)
    by (no h) = let n = length-set l i x in slice_get_past (set l i x) k (omega arith) ∙ sym (slice_get_past l k (omega arith))

-- what a clause calls the seats
pub shown : (waits : Lists) (seats : List SeatRecord) → (λ k. seat_of (slice_get (map (stored_seat waits) seats) k)) ≡ seats_in waits seats
shown waits seats = fun_ext (λ k. ap seat_of (slice_get-map (stored_seat waits) seats k))

abbrev pub grant_in : Option SeatRecord → ℕ
grant_in None = 0
grant_in (Some s) = s.grant

abbrev pub grants_in : List SeatRecord → ℕ → ℕ
grants_in seats = λ k. grant_in (slice_get seats k)

pub grants_shown : (waits : Lists) (seats : List SeatRecord) → (λ k. grant_of (slice_get (map (stored_seat waits) seats) k)) ≡ grants_in seats
grants_shown waits seats = fun_ext (λ k. ap grant_of (slice_get-map (stored_seat waits) seats k) ∙ by (slice_get seats k))
  where
    by : (o : Option SeatRecord) → grant_of (option_map (stored_seat waits) o) ≡ grant_in o
    by None = refl
    by (Some s) = refl

module _ (waits : Lists) (queue : ℕ) (seats : List SeatRecord) (are : AreLists waits queue seats) (i : ℕ) (s : SeatRecord)
    (at : slice_get seats i ≡ Some s) where
  pub within : i < length seats
  within = slice_get_within seats i s at

  pub seat_at : seats_in waits seats i ≡ seat_of (Some (stored_seat waits s))
  seat_at = ap (λ o. seat_of (option_map (stored_seat waits) o)) at

  pub grant_at : grants_in seats i ≡ s.grant
  grant_at = ap grant_in at

  -- another record of the seat
  module _ (t : SeatRecord) where
    pub seats_set : seats_in waits (set seats i t) ≡ put (seats_in waits seats) i (seat_of (Some (stored_seat waits t)))
    seats_set = put_ext (seats_in waits seats) (seats_in waits (set seats i t)) i (seat_of (Some (stored_seat waits t)))
        (ap (λ o. seat_of (option_map (stored_seat waits) o)) (get_same seats i t within))
        (λ k ne. ap (λ o. seat_of (option_map (stored_seat waits) o)) (get_other seats i t k ne))

    pub grants_set : grants_in (set seats i t) ≡ put (grants_in seats) i t.grant
    grants_set = put_ext (grants_in seats) (grants_in (set seats i t)) i t.grant (ap grant_in (get_same seats i t within))
        (λ k ne. ap grant_in (get_other seats i t k ne))

    -- a record of the new list has this hand, or is the old one
    found_set : (k : ℕ) (u : SeatRecord) → slice_get (set seats i t) k ≡ Some u → ((k ≡ i) × (u ≡ t))
        ⊎ ((k ≢ i) × (slice_get seats k ≡ Some u))
    found_set k u e = by (ℕ_discrete k i)
      where
        by : Dec (k ≡ i) → ((k ≡ i) × (u ≡ t)) ⊎ ((k ≢ i) × (slice_get seats k ≡ Some u))
        by (yes q) = let here = get_same seats i t within in let there = ap (slice_get (set seats i t)) q in let same : u ≡ t = cc in inl (q, same)
        by (no ne) = inr (ne, sym (get_other seats i t k ne) ∙ e)

    was : t.hand ≡ s.hand → (k : ℕ) (u : SeatRecord) → slice_get (set seats i t) k ≡ Some u → (v : SeatRecord)
        × (slice_get seats k ≡ Some v) × (v.hand ≡ u.hand)
    was same k u e =
        elim (found_set k u e) [ inl h ↦ (s, ap (slice_get seats) h.0 ∙ at, sym same ∙ ap (λ r. r.hand) (sym h.1)) | inr h ↦ (u, h.1, refl) ]

    held_set : t.hand ≡ s.hand → held (length (set seats i t)) (seats_in waits (set seats i t)) ≡ held (length seats) (seats_in waits seats)
    held_set same = ap (λ n. held n (seats_in waits (set seats i t))) (length-set seats i t)
        ∙ total_same (length seats) _ _ (λ k h. by k (ℕ_discrete k i))
      where
        by : (k : ℕ) → Dec (k ≡ i) → length (seats_in waits (set seats i t) k).hand ≡ length (seats_in waits seats k).hand
        by k (yes q) = rw q (ap (λ o. length (seat_of (option_map (stored_seat waits) o)).hand) (get_same seats i t within)
            ∙ ap (λ h. length (waits_at waits h)) same ∙ sym (ap (λ z. length z.hand) seat_at))
        by k (no ne) = ap (λ o. length (seat_of (option_map (stored_seat waits) o)).hand) (get_other seats i t k ne)

    pub are_set : t.hand ≡ s.hand → AreLists waits queue (set seats i t)
    are_set same = record {
      open_queue = are.open_queue;
      open_hand = λ k u e. let v = was same k u e in subst (IsOpen waits) v.2 (are.open_hand k v.0 v.1);
      apart = λ k u e q. let v = was same k u e in are.apart k v.0 v.1 (v.2 ∙ q);
      different = λ k l u w e f ne q. let v = was same k u e in let x = was same l w f in are.different k l v.0 x.0 v.1 x.1 ne (v.2 ∙ q ∙ sym x.2);
      room = let h = held_set same in let n = length-set seats i t in let r = are.room in omega arith;
    }

  -- another list in its hand
  module _ (later : Lists) (l : List Wait) (ch : Changes waits later s.hand (Some l)) where
    hand_here : waits_at later s.hand ≡ l
    hand_here = ap (λ o. unwrap_or o []) ch.there

    hand_else : (key : ℕ) → key ≢ s.hand → waits_at later key ≡ waits_at waits key
    hand_else key ne = ap (λ o. unwrap_or o []) (ch.elsewhere key ne)

    pub queue_kept : waits_at later queue ≡ waits_at waits queue
    queue_kept = hand_else queue (λ q. are.apart i s at (sym q))

    seat_else : (k : ℕ) → k ≢ i → (o : Option SeatRecord) → slice_get seats k ≡ o → seat_of (option_map (stored_seat later) o)
        ≡ seat_of (option_map (stored_seat waits) o)
    seat_else k ne None e = refl
    seat_else k ne (Some u) e = ap (λ h. record (seat_of (Some (stored_seat waits u))) { hand = h }) (hand_else u.hand (are.different k i u s e at ne))

    seat_here : seats_in later seats i ≡ record (seat_of (Some (stored_seat waits s))) { hand = l }
    seat_here = ap (λ o. seat_of (option_map (stored_seat later) o)) at ∙ ap (λ h. record (seat_of (Some (stored_seat waits s))) { hand = h }) hand_here

    pub seats_hand : seats_in later seats ≡ put (seats_in waits seats) i (record (seat_of (Some (stored_seat waits s))) { hand = l })
    seats_hand = put_ext (seats_in waits seats) (seats_in later seats) i (record (seat_of (Some (stored_seat waits s))) { hand = l }) seat_here
        (λ k ne. seat_else k ne (slice_get seats k) refl)

    opens : (key : ℕ) → IsOpen waits key → IsOpen later key
    opens key o = by (ℕ_discrete key s.hand)
      where
        by : Dec (key ≡ s.hand) → IsOpen later key
        by (yes q) = subst (IsOpen later) (sym q) (subst IsSome (sym ch.there) refl)
        by (no ne) = subst IsSome (sym (ch.elsewhere key ne)) o

    pub are_hand : later.room + length l ≡ waits.room + length (waits_at waits s.hand) → AreLists later queue seats
    are_hand e = record {
      open_queue = opens queue are.open_queue;
      open_hand = λ k u f. opens u.hand (are.open_hand k u f);
      apart = are.apart;
      different = are.different;
      room =
          let c : held (length seats) (seats_in later seats) + length (seats_in waits seats i).hand
          ≡ held (length seats) (seats_in waits seats) + length (seats_in later seats i).hand
          = total_change (length seats) (λ k. length (seats_in waits seats k).hand) (λ k. length (seats_in later seats k).hand) i within
          (λ k ne. ap (λ z. length z.hand) (seat_else k ne (slice_get seats k) refl)) in
          let a = ap (λ z. length z.hand) seat_at in let b = ap (λ z. length z.hand) seat_here in
          let q = ap length queue_kept in let r = are.room in omega arith;
    }

  -- the queue in its hand, where that was empty, and its hand as the queue
  module _ (empty : waits_at waits s.hand ≡ []) where
    abbrev pub swapped : List SeatRecord
    swapped = set seats i (record s { hand = queue })

    hands : (k : ℕ) (u : SeatRecord) → slice_get swapped k ≡ Some u → ((k ≡ i) × (u.hand ≡ queue))
        ⊎ ((k ≢ i) × (slice_get seats k ≡ Some u))
    hands k u e = elim (found_set (record s { hand = queue }) k u e) [ inl h ↦ inl (h.0, ap (λ r. r.hand) h.1) | inr h ↦ inr h ]

    pub are_swapped : AreLists waits s.hand swapped
    are_swapped = record {
      open_queue = are.open_hand i s at;
      open_hand = λ k u e. elim (hands k u e) [ inl h ↦ subst (IsOpen waits) (sym h.1) are.open_queue | inr h ↦ are.open_hand k u h.1 ];
      apart = λ k u e q. elim (hands k u e) [ inl h ↦ are.apart i s at (sym q ∙ h.1) | inr h ↦ are.different k i u s h.1 at h.0 q ];
      different = λ k l u w e f ne q. elim (hands k u e) [
        | inl h ↦ elim (hands l w f) [ inl g ↦ ne (h.0 ∙ sym g.0) | inr g ↦ are.apart l w g.1 (sym q ∙ h.1) ]
        | inr h ↦ elim (hands l w f) [ inl g ↦ are.apart k u h.1 (q ∙ g.1) | inr g ↦ are.different k l u w h.1 g.1 ne q ]
      ];
      room =
          let n = length-set seats i (record s { hand = queue }) in
          let m = ap (λ n. held n (seats_in waits swapped)) n in
          let c : held (length seats) (seats_in waits swapped) + length (seats_in waits seats i).hand
          ≡ held (length seats) (seats_in waits seats) + length (seats_in waits swapped i).hand
          = total_change (length seats) (λ k. length (seats_in waits seats k).hand) (λ k. length (seats_in waits swapped k).hand) i within
          (λ k ne. ap (λ o. length (seat_of (option_map (stored_seat waits) o)).hand) (get_other seats i (record s { hand = queue }) k ne)) in
          let a = ap (λ z. length z.hand) seat_at in
          let b = ap (λ o. length (seat_of (option_map (stored_seat waits) o)).hand) (get_same seats i (record s { hand = queue }) within) in
          let z = ap length empty in let r = are.room in omega arith;
    }

-- another list for the queue
module _ (waits : Lists) (queue : ℕ) (seats : List SeatRecord) (are : AreLists waits queue seats) (later : Lists) (l : List Wait)
    (ch : Changes waits later queue (Some l)) where
  pub queue_here : waits_at later queue ≡ l
  queue_here = ap (λ o. unwrap_or o []) ch.there

  seat_same : (k : ℕ) (o : Option SeatRecord) → slice_get seats k ≡ o → seat_of (option_map (stored_seat later) o)
      ≡ seat_of (option_map (stored_seat waits) o)
  seat_same k None e = refl
  seat_same k (Some u) e =
      ap (λ h. record (seat_of (Some (stored_seat waits u))) { hand = h }) (ap (λ o. unwrap_or o []) (ch.elsewhere u.hand (are.apart k u e)))

  pub seats_queue : seats_in later seats ≡ seats_in waits seats
  seats_queue = fun_ext (λ k. seat_same k (slice_get seats k) refl)

  still : (key : ℕ) → IsOpen waits key → IsOpen later key
  still key o = by (ℕ_discrete key queue)
    where
      by : Dec (key ≡ queue) → IsOpen later key
      by (yes q) = subst (IsOpen later) (sym q) (subst IsSome (sym ch.there) refl)
      by (no ne) = subst IsSome (sym (ch.elsewhere key ne)) o

  pub are_queue : later.room + length l ≡ waits.room + length (waits_at waits queue) → AreLists later queue seats
  are_queue e = record {
    open_queue = still queue are.open_queue;
    open_hand = λ k u f. still u.hand (are.open_hand k u f);
    apart = are.apart;
    different = are.different;
    room =
        let c = total_same (length seats) (λ k. length (seats_in later seats k).hand) (λ k. length (seats_in waits seats k).hand)
        (λ k h. ap (λ z. length z.hand) (seat_same k (slice_get seats k) refl)) in
        let q = ap length queue_here in let r = are.room in omega arith;
  }
