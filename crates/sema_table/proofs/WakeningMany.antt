-- A release of many units from the lock that it gives back on, to its end.
use Rattle.std.proofs.Common.{◌≡◌, ℕ, ◌+◌, ◌<◌, ◌≤◌, zero, suc, nat_lt, if◌then◌else◌, List, [], ◌∷◌, ◌++◌, length}
use Rattle.std.proofs.Common.{get_or, map, take, drop, sym, refl, ap, ◌∙◌, subst, arith, append-nil}
use Rattle.std.proofs.lemmas.Bool.{lt-ltb}
use Rattle.std.proofs.lemmas.List.{drop_more, take_more, take_all, drop_all}
use Rattle.waiters.specs.declared.wait.WaitId.{WaitId}
use Rattle.step_table.specs.declared.entry.Entry.{Entry}
use Rattle.step_table.specs.declared.place.ReleaseMany.{ReleaseMany}
use Rattle.step_table.specs.declared.place.ManyRow.TheVariants.{M3, M4, M6, M7}
use Rattle.step_table.specs.declared.place.Place.{Place}
use Rattle.step_table.specs.declared.place.Place.TheVariants.{Rest, ReleasingMany}
use Rattle.step_table.specs.World.{Layout, SeatState}
use Rattle.step_table.specs.Path.{runs}
use Rattle.step_table.specs.Counting.{wait}
use Rattle.sema_table.specs.Changes.{spent_by}
use Rattle.step_law_semaphores.specs.SemaPath.{SemaStride, row_event, word_of_deed}
use Rattle.sema_table.specs.declared.seat.Numbers.{Numbers}
use Rattle.sema_table.specs.Setting.{layout}
use Rattle.sema_table.specs.Places.{is_free}
use Rattle.sema_table.specs.Rule.{sight_by}
use Rattle.sema_table.specs.Seats.{Token, TableModel, seat_of, IsToken, IsSeat}
use Rattle.sema_table.specs.Calls.{TellsIn, ComesTo}
use Rattle.sema_table.specs.Walks.{Stands, Walked, moved_to}
use Rattle.sema_table.specs.Many.{leaves, GrantsFirst, GrantsEach, WakesMany}
use Rattle.sema_table.specs.ManyWalks.{to_grant, with_hand, MayGrant, GrantedFirst, GrantedSome}
use Rattle.sema_table.proofs.Walking.{walked_on, walked_none, walked_spends, token_after}
use Rattle.sema_table.proofs.Calling.{path_tells}
use Rattle.sema_table.proofs.PickingMany.{leaves_spend}

-- the lock was given back
pub may_grant : (z : TableModel) (s t : Token) (a : ReleaseMany) → Stands z s (ReleasingMany a M6)
    → Walked s (ReleasingMany a M6) t (moved_to s (to_grant a s.me.0.own.knows.hand)) [] 0 → MayGrant z t a
may_grant z s t a stands x = record {
  table_is = x.table_is ∙ stands.table_is;
  inside = stands.inside;
  place_is = ap (λ (q : SeatState). q.place) x.stands_is ∙ ap (to_grant a) (sym (ap (λ (q : SeatState). q.hand) x.stands_is));
  limited = let d = walked_spends s t (ReleasingMany a M6) (moved_to s (to_grant a s.me.0.own.knows.hand)) [] 0 x in let b = stands.limited in omega arith;
  few = x.few;
  most = x.most;
  counted = λ free. x.counted (ap (λ (q : SeatState). is_free q.place) (sym x.stands_is) ∙ free);
}

-- where the seat goes that has granted the first wait in hand
one_less : (a : ReleaseMany) (w : WaitId) (others : List WaitId)
    → (if nat_lt 1 (length (w ∷ others)) then ReleasingMany a M7 else Rest) ≡ to_grant a others
one_less a w [] = refl
one_less a w (x ∷ others) = ap (λ b. if b then ReleasingMany a M7 else Rest) (lt-ltb 1 (suc (suc (length others))) (omega arith))

-- the stride of M7 stores 1 in the grant word of the wait's seat
module _ (m : Layout) (i : ℕ) (a : ReleaseMany) (turn : ℕ) (w : WaitId) (others : List WaitId) (p : SemaStride) (did : p.deed ≡ runs)
    (stood : p.stood ≡ record { place = ReleasingMany a M7; turn = turn; hand = w ∷ others }) where
  pub grants_it : GrantsFirst m i a w p
  grants_it = record {
    did = did;
    row = ap (λ (q : SeatState). q.place) stood;
    others = others;
    hand_is = ap (λ (q : SeatState). q.hand) stood;
    word = λ j. word_of_deed m i (record p { stood = stood j }) (did j);
    stored = λ j. (row_event m i (record p { stood = stood j })).becomes p.read;
  }

-- one wait was granted
granted_it : (s t : Token) (a : ReleaseMany) (w : WaitId) (others : List WaitId) → s.me.0.own.knows.hand ≡ w ∷ others → GrantedFirst s a t
    → GrantedSome s (ReleasingMany a M7) a (w ∷ []) t (with_hand s (to_grant a others) others)
granted_it s t a w others hand x = subst (λ (q : SeatState). GrantedSome s (ReleasingMany a M7) a (w ∷ []) t q) ends record {
  walked = x.walked;
  granted = subst (GrantsEach (layout s.me.0.own.knows.setting) s.me.0.own.number a (w ∷ [])) (sym x.strides_are) (
    grants_it (layout s.me.0.own.knows.setting) s.me.0.own.number a s.me.0.own.knows.turn w others x.stride x.did
        (x.stood ∙ (λ i. record { place = ReleasingMany a M7; turn = s.me.0.own.knows.turn; hand = hand i })),
    tt,
  );
  slots = x.slots;
}
  where
    ends : with_hand s (if nat_lt 1 (length s.me.0.own.knows.hand) then ReleasingMany a M7 else Rest) (drop 1 s.me.0.own.knows.hand)
        ≡ with_hand s (to_grant a others) others
    ends = (λ i. with_hand s (if nat_lt 1 (length (hand i)) then ReleasingMany a M7 else Rest) (drop 1 (hand i)))
        ∙ ap (λ (p : Place). with_hand s p others) (one_less a w others)

each_append : (m : Layout) (i : ℕ) (a : ReleaseMany) (v w : List WaitId) (p q : List SemaStride) → GrantsEach m i a v p
    → GrantsEach m i a w q → GrantsEach m i a (v ++ w) (p ++ q)
each_append m i a [] w [] q x y = y
each_append m i a [] w (b ∷ p) q x y = absurd x
each_append m i a (c ∷ v) w [] q x y = absurd x
each_append m i a (c ∷ v) w (b ∷ p) q x y = (x.0, each_append m i a v w p q x.1 y)

-- waits after waits
granted_on : (s t u : Token) (from : Place) (a : ReleaseMany) (v w : List WaitId) (b c : SeatState) → GrantedSome s from a v t b
    → GrantedSome t b.place a w u c → GrantedSome s from a (v ++ w) u c
granted_on s t u from a v w b c x y = record {
  walked = walked_on s t u from b c [] [] 0 0 x.walked y.walked;
  granted = each_append (layout s.me.0.own.knows.setting) s.me.0.own.number a v w x.walked.strides y.walked.strides x.granted
      (subst (λ (q : TableModel × ℕ). GrantsEach (layout q.0.setting) q.1 a w y.walked.strides)
      (λ i. (x.walked.table_is i, x.walked.number_is i)) y.granted);
  slots = y.slots ∙ x.slots;
}

-- the first n waits in hand were granted
abbrev pub GrantedUpTo : Token → ReleaseMany → ℕ → Token → Type 0
GrantedUpTo s a n t = GrantedSome s (to_grant a s.me.0.own.knows.hand) a (take n s.me.0.own.knows.hand) t
    (with_hand s (to_grant a (drop n s.me.0.own.knows.hand)) (drop n s.me.0.own.knows.hand))

pub granted_none : (z : TableModel) (s : Token) (a : ReleaseMany) → MayGrant z s a → GrantedUpTo s a 0 s
granted_none z s a may =
    subst (λ (p : Place). GrantedSome s (to_grant a s.me.0.own.knows.hand) a [] s (with_hand s p s.me.0.own.knows.hand)) may.place_is record {
      walked = walked_none s (to_grant a s.me.0.own.knows.hand) may.place_is may.few may.most may.counted;
      granted = tt;
      slots = refl;
    }

-- the seat of the wait at this index
pub seat_at : (waits : List WaitId) (n : ℕ) → get_or (map (λ (w : WaitId). w.seat) waits) n 0 ≡ (get_or waits n (wait 0 0)).seat
seat_at [] n = refl
seat_at (w ∷ waits) zero = refl
seat_at (w ∷ waits) (suc n) = seat_at waits n

-- the wait that is granted next
abbrev pub nth : List WaitId → ℕ → WaitId
nth hand n = get_or hand n (wait 0 0)

module _ (s t : Token) (a : ReleaseMany) (n : ℕ) (x : GrantedUpTo s a n t) (low : n < length s.me.0.own.knows.hand) where
  pub left_is : t.me.0.own.knows.hand ≡ nth s.me.0.own.knows.hand n ∷ drop (n + 1) s.me.0.own.knows.hand
  left_is = ap (λ (q : SeatState). q.hand) x.walked.stands_is ∙ drop_more s.me.0.own.knows.hand n (wait 0 0) low

  goes_to : to_grant a (drop n s.me.0.own.knows.hand) ≡ ReleasingMany a M7
  goes_to = ap (to_grant a) (drop_more s.me.0.own.knows.hand n (wait 0 0) low)

  pub stands_granting : (z : TableModel) → MayGrant z s a → Stands z t (ReleasingMany a M7)
  stands_granting z may = record {
    table_is = x.walked.table_is ∙ may.table_is;
    inside = may.inside;
    place_is = ap (λ (q : SeatState). q.place) x.walked.stands_is ∙ goes_to;
    limited =
        let d = walked_spends s t (to_grant a s.me.0.own.knows.hand) (with_hand s (to_grant a (drop n s.me.0.own.knows.hand)) (drop n s.me.0.own.knows.hand))
        [] 0 x.walked in let b = may.limited in omega arith;
    few = x.walked.few;
    most = x.walked.most;
  }

  pub granted_more : (u : Token) → GrantedFirst t a u → GrantedUpTo s a (n + 1) u
  granted_more u y =
      let w = nth s.me.0.own.knows.hand n in let others = drop (n + 1) s.me.0.own.knows.hand in
      let one : GrantedSome t (to_grant a (drop n s.me.0.own.knows.hand)) a (w ∷ []) u (with_hand s (to_grant a others) others)
      = subst (λ (q : Place × ℕ). GrantedSome t q.0 a (w ∷ []) u (record { place = to_grant a others; turn = q.1; hand = others }))
      (λ i. (sym goes_to i, (x.walked.stands_is i).turn)) (granted_it t u a w others left_is y) in
      subst (λ (v : List WaitId). GrantedSome s (to_grant a s.me.0.own.knows.hand) a v u (with_hand s (to_grant a others) others))
      (sym (take_more s.me.0.own.knows.hand n (wait 0 0) low))
      (granted_on s t u (to_grant a s.me.0.own.knows.hand) a (take n s.me.0.own.knows.hand) (w ∷ [])
      (with_hand s (to_grant a (drop n s.me.0.own.knows.hand)) (drop n s.me.0.own.knows.hand)) (with_hand s (to_grant a others) others) x one)

pub granted_all : (s t : Token) (a : ReleaseMany) (n : ℕ) → length s.me.0.own.knows.hand ≤ n → GrantedUpTo s a n t
    → GrantedSome s (to_grant a s.me.0.own.knows.hand) a s.me.0.own.knows.hand t (with_hand s Rest [])
granted_all s t a n all x =
    subst (λ (q : List WaitId × List WaitId). GrantedSome s (to_grant a s.me.0.own.knows.hand) a q.0 t (with_hand s (to_grant a q.1) q.1))
    (λ i. (take_all n s.me.0.own.knows.hand all i, drop_all n s.me.0.own.knows.hand all i)) x

-- the whole call
module _ (s t1 t2 t3 : Token) (n : Numbers) (a : ReleaseMany) (is : IsToken s n) (x1 : Walked s (ReleasingMany a M3) t1 (moved_to s (ReleasingMany a M4)) [] 0)
    (x2 : Walked t1 (ReleasingMany a M4) t2 (with_hand t1 (ReleasingMany a M6) t2.me.0.own.knows.hand) (leaves t1.me.0.own.number a t2.me.0.own.knows.hand) 0)
    (x3 : Walked t2 (ReleasingMany a M6) t3 (moved_to t2 (to_grant a t2.me.0.own.knows.hand)) [] 0) where
  pub hand_stays : t3.me.0.own.knows.hand ≡ t2.me.0.own.knows.hand
  hand_stays = ap (λ (q : SeatState). q.hand) x3.stands_is

  turn_stays : t2.me.0.own.knows.turn ≡ s.me.0.own.knows.turn
  turn_stays = ap (λ (q : SeatState). q.turn) x2.stands_is ∙ ap (λ (q : SeatState). q.turn) x1.stands_is

  told_all : leaves t1.me.0.own.number a t2.me.0.own.knows.hand ++ [] ≡ leaves s.me.0.own.number a t3.me.0.own.knows.hand
  told_all = append-nil (leaves t1.me.0.own.number a t2.me.0.own.knows.hand) ∙ (λ i. leaves (x1.number_is i) a (sym hand_stays i))

  pub unlocked_many : Walked s (ReleasingMany a M3) t3 (with_hand s (to_grant a t3.me.0.own.knows.hand) t3.me.0.own.knows.hand)
      (leaves s.me.0.own.number a t3.me.0.own.knows.hand) 0
  unlocked_many =
      subst (λ (q : (ℕ × List WaitId) × List Entry). Walked s (ReleasingMany a M3) t3
      (record { place = to_grant a q.0.1; turn = q.0.0; hand = q.0.1 }) q.1 0)
      (λ i. ((turn_stays i, sym hand_stays i), told_all i))
      (walked_on s t2 t3 (ReleasingMany a M3) (with_hand t1 (ReleasingMany a M6) t2.me.0.own.knows.hand) (moved_to t2 (to_grant a t2.me.0.own.knows.hand))
      (leaves t1.me.0.own.number a t2.me.0.own.knows.hand) [] 0 0
      (walked_on s t1 t2 (ReleasingMany a M3) (moved_to s (ReleasingMany a M4)) (with_hand t1 (ReleasingMany a M6) t2.me.0.own.knows.hand) []
      (leaves t1.me.0.own.number a t2.me.0.own.knows.hand) 0 0 x1 x2) x3)

module _ (s t3 t4 : Token) (n : Numbers) (a : ReleaseMany) (is : IsToken s n)
    (x : Walked s (ReleasingMany a M3) t3 (with_hand s (to_grant a t3.me.0.own.knows.hand) t3.me.0.own.knows.hand)
    (leaves s.me.0.own.number a t3.me.0.own.knows.hand) 0)
    (y : GrantedSome t3 (to_grant a t3.me.0.own.knows.hand) a t3.me.0.own.knows.hand t4 (with_hand t3 Rest [])) where
  abbrev told : List Entry
  told = leaves s.me.0.own.number a t3.me.0.own.knows.hand

  abbrev whole : Walked s (ReleasingMany a M3) t4 (with_hand t3 Rest []) (leaves s.me.0.own.number a t3.me.0.own.knows.hand ++ []) 0
  whole = walked_on s t3 t4 (ReleasingMany a M3) (with_hand s (to_grant a t3.me.0.own.knows.hand) t3.me.0.own.knows.hand) (with_hand t3 Rest [])
      (leaves s.me.0.own.number a t3.me.0.own.knows.hand) [] 0 0 x y.walked

  nothing_spent : spent_by s.me.0.own.number (told ++ []) ≡ 0
  nothing_spent = ap (spent_by s.me.0.own.number) (append-nil told) ∙ leaves_spend s.me.0.own.number s.me.0.own.number a t3.me.0.own.knows.hand

  turn_is : t3.me.0.own.knows.turn ≡ s.me.0.own.knows.turn
  turn_is = ap (λ (q : SeatState). q.turn) x.stands_is

  pub woken_seat : t4.me.1 ≡ [] → IsSeat t4 n
  woken_seat bare = record {
    token_is = token_after s t4 (ReleasingMany a M3) (with_hand t3 Rest []) (told ++ []) 0 n n is whole bare refl (turn_is ∙ is.turns_are)
        (let q = nothing_spent in omega arith) (let q = nothing_spent in omega arith) refl (omega arith);
    free = ap (λ (q : SeatState). is_free q.place) whole.stands_is;
    counted = whole.counted refl;
  }

  pub same_seat : seat_of t4 n ≡ record (seat_of s n) { sight = sight_by t4.me.0.own.knows; strides = t4.me.0.own.gone }
  same_seat =
      λ i. record { table = whole.table_is i; number = n.seat; left = n.left; taken = n.taken; sight = sight_by t4.me.0.own.knows; strides = t4.me.0.own.gone }

  pub at_rest : ComesTo (seat_of s n) Rest (seat_of t4 n)
  at_rest = whole.stands_is ∙ (λ i. record { place = Rest; turn = turn_is i; hand = sym is.empty i })

  woke : (k : ℕ) → length t3.me.0.own.knows.hand ≡ k → WakesMany (record (seat_of s n) { number = s.me.0.own.number }) a (seat_of t4 n) k
  woke k count = record {
    waits = t3.me.0.own.knows.hand;
    count = count;
    call = record {
      strides = whole.strides;
      each = whole.each;
      path = whole.path;
      all = whole.all;
      told_is = whole.told_is ∙ append-nil told;
      seen = subst (λ l. TellsIn s.me.0.own.knows.seen l t4.me.0.own.knows.seen) (whole.told_is ∙ append-nil told)
          (path_tells _ _ _ _ whole.strides whole.path);
    };
    before = x.strides;
    grants = y.walked.strides;
    strides_are = refl;
    granted = subst (λ (q : TableModel × ℕ). GrantsEach (layout q.0.setting) q.1 a t3.me.0.own.knows.hand y.walked.strides)
        (λ i. (x.table_is i, x.number_is i)) y.granted;
  }

  -- and the seats of the waits that were in hand
  pub wakes_seats : (seats : List ℕ) → length t3.me.0.own.knows.hand ≡ length seats → seats ≡ map (λ w. w.seat) t3.me.0.own.knows.hand
      → (woken : WakesMany (seat_of s n) a (seat_of t4 n) (length seats)) × (seats ≡ map (λ w. w.seat) woken.waits)
  unfolding woke
  wakes_seats seats count told =
      subst (λ i. (woken : WakesMany (record (seat_of s n) { number = i }) a (seat_of t4 n) (length seats)) × (seats ≡ map (λ w. w.seat) woken.waits))
      is.number_is (woke (length seats) count, told)
