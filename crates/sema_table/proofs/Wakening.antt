-- A release from its root's lock on, to its end.
use Rattle.std.proofs.Common.{◌≡◌, ◌<◌, if◌then◌else◌, Bool, true, false, List, [], ◌∷◌, ◌++◌}
use Rattle.std.proofs.Common.{drop, Option, Some, None, IfSome}
use Rattle.std.proofs.Common.{IfNone, sym, refl, ap, ◌∙◌, subst, arith, append-nil}
use Rattle.waiters.specs.declared.wait.WaitId.{WaitId}
use Rattle.step_table.specs.declared.entry.Entry.{Entry}
use Rattle.step_table.specs.declared.entry.Entry.TheVariants.{Leave}
use Rattle.step_table.specs.declared.place.Release.{Release}
use Rattle.step_table.specs.declared.place.ReleaseRow.TheVariants.{R3, R4, R5, R6, R7, R10}
use Rattle.step_table.specs.declared.place.Place.{Place}
use Rattle.step_table.specs.declared.place.Place.TheVariants.{Rest, Releasing}
use Rattle.step_table.specs.World.{SeatState}
use Rattle.step_table.specs.Event.{by_first}
use Rattle.step_table.specs.Counting.{counter_at}
use Rattle.sema_table.specs.Changes.{spent_by}
use Rattle.sema_table.specs.declared.seat.Numbers.{Numbers}
use Rattle.sema_table.specs.declared.answers.Wake.TheVariants.{Nobody, One, Handed}
use Rattle.sema_table.specs.Places.{is_free}
use Rattle.sema_table.specs.Rule.{sight_by, lists_by}
use Rattle.sema_table.specs.Seats.{Token, TableModel, seat_of, IsToken, IsSeat}
use Rattle.sema_table.specs.Walks.{Stands, Walked, Granted, moved_to, taken_out, sought, trying, unlocked, granting, grant_of, taken_for}
use Rattle.sema_table.specs.Calls.{ComesTo}
use Rattle.sema_table.specs.Waking.{CallsGrant, Wakes}
use Rattle.sema_table.proofs.Walking.{walked_same, walked_on, walked_via, walked_then, stands_on, token_after}
use Rattle.sema_table.proofs.Calling.{calls, calls_grant}

-- nobody waits
module _ (s t1 t2 t3 : Token) (n : Numbers) (a : Release) (is : IsToken s n) (x1 : Walked s (Releasing a R3) t1 (moved_to s (Releasing a R4)) [] 0)
    (x2 : Walked t1 (Releasing a R4) t2 (moved_to t1 (Releasing a R6)) [] 0)
    (x3 : Walked t2 (Releasing a R6) t3 (moved_to t2 (unlocked t2 a)) [] 0) (bare : t3.me.1 ≡ []) where
  unlocks : SeatState → SeatState
  unlocks y = record y { place = by_first y.hand Rest (λ w. trying a) }

  ended : Walked s (Releasing a R3) t3 (moved_to s Rest) [] 0
  unfolding unlocks
  ended = subst (λ (l : List WaitId). Walked s (Releasing a R3) t3 (moved_to s (by_first l Rest (λ w. trying a))) [] 0) is.empty
      (walked_via s t2 t3 (Releasing a R3) (moved_to s (Releasing a R6)) unlocks [] [] 0 0
      (walked_then s t1 t2 (Releasing a R3) (Releasing a R4) (Releasing a R6) [] [] 0 0 x1 x2) x3)

  pub nobody_seat : IsSeat t3 n
  nobody_seat = record {
    token_is = token_after s t3 (Releasing a R3) (moved_to s Rest) [] 0 n n is ended bare is.empty is.turns_are (omega arith) (omega arith) refl (omega arith);
    free = ap (λ (q : SeatState). is_free q.place) ended.stands_is;
    counted = ended.counted refl;
  }

  pub wakes_nobody : (seat_of t3 n ≡ record (seat_of s n) { sight = sight_by t3.me.0.own.knows; strides = t3.me.0.own.gone })
      × ComesTo (seat_of s n) Rest (seat_of t3 n) × Wakes (seat_of s n) a (seat_of t3 n) Nobody
  wakes_nobody = (
    (λ i. record {
      table = ended.table_is i;
      number = n.seat;
      left = n.left;
      taken = n.taken;
      sight = sight_by t3.me.0.own.knows;
      strides = t3.me.0.own.gone;
    }),
    ended.stands_is,
    calls s t3 n n (Releasing a R3) (moved_to s Rest) [] 0 is ended,
  )

-- how a seat stands with one wait in hand
abbrev pub carrying : Token → Place → WaitId → SeatState
carrying s q w = record { place = q; turn = s.me.0.own.knows.turn; hand = w ∷ [] }

-- the first wait was taken out
module _ (s t1 t2 t3 : Token) (n : Numbers) (a : Release) (w : WaitId) (is : IsToken s n) (x1 : Walked s (Releasing a R3) t1 (moved_to s (Releasing a R4)) [] 0)
    (x2 : Walked t1 (Releasing a R4) t2 (taken_out t1 a w) (Leave a.counter w t1.me.0.own.number ∷ []) 0)
    (x3 : Walked t2 (Releasing a R6) t3 (moved_to t2 (unlocked t2 a)) [] 0) where
  abbrev left_it : List Entry
  left_it = Leave a.counter w t1.me.0.own.number ∷ []

  abbrev out : Walked s (Releasing a R3) t2 (record { place = Releasing a R6; turn = s.me.0.own.knows.turn; hand = s.me.0.own.knows.hand ++ w ∷ [] })
      left_it 0
  out =
      walked_via s t1 t2 (Releasing a R3) (moved_to s (Releasing a R4))
      (λ y. record { place = Releasing a R6; turn = y.turn; hand = y.hand ++ w ∷ [] }) [] left_it 0 0 x1 x2

  pub carried : Walked s (Releasing a R3) t3 (carrying s (trying a) w) (Leave a.counter w t1.me.0.own.number ∷ []) 0
  carried =
      subst (λ (l : List WaitId). Walked s (Releasing a R3) t3
      (record { place = by_first (l ++ w ∷ []) Rest (λ v. trying a); turn = s.me.0.own.knows.turn; hand = l ++ w ∷ [] }) left_it 0) is.empty
      (walked_via s t2 t3 (Releasing a R3) (record { place = Releasing a R6; turn = s.me.0.own.knows.turn; hand = s.me.0.own.knows.hand ++ w ∷ [] })
      (λ y. record y { place = by_first y.hand Rest (λ v. trying a) }) left_it [] 0 0 out x3)

-- and granted
module _ (s t1 t3 t4 t5 : Token) (n : Numbers) (a : Release) (w : WaitId) (handed : Bool) (is : IsToken s n) (own : t1.me.0.own.number ≡ s.me.0.own.number)
    (x3 : Walked s (Releasing a R3) t3 (carrying s (trying a) w) (Leave a.counter w t1.me.0.own.number ∷ []) 0)
    (x4 : Walked t3 (trying a) t4 (moved_to t3 (granting a handed)) (taken_for a w handed) 0) where
  abbrev told : List Entry
  told = Leave a.counter w t1.me.0.own.number ∷ taken_for a w handed

  abbrev pub settled : Walked s (Releasing a R3) t4 (carrying s (granting a handed) w) (Leave a.counter w t1.me.0.own.number ∷ taken_for a w handed) 0
  settled = walked_via s t3 t4 (Releasing a R3) (carrying s (trying a) w) (λ y. record y { place = granting a handed })
      (Leave a.counter w t1.me.0.own.number ∷ []) (taken_for a w handed) 0 0 x3 x4

  pub none_spent : (b : Bool) → spent_by s.me.0.own.number (Leave a.counter w t1.me.0.own.number ∷ taken_for a w b) ≡ 0
  none_spent true = refl
  none_spent false = refl

  module _ (x5 : Granted t4 (granting a handed) t5) (bare : t5.me.1 ≡ []) where
    abbrev all_ended : Walked s (Releasing a R3) t5 (record { place = Rest; turn = t4.me.0.own.knows.turn; hand = drop 1 t4.me.0.own.knows.hand }) (told ++ [])
        0
    all_ended =
        walked_on s t4 t5 (Releasing a R3) (carrying s (granting a handed) w)
        (record { place = Rest; turn = t4.me.0.own.knows.turn; hand = drop 1 t4.me.0.own.knows.hand }) told [] 0 0 settled x5.walked

    hand_is : t4.me.0.own.knows.hand ≡ w ∷ []
    hand_is = ap (λ (y : SeatState). y.hand) settled.stands_is

    nothing_spent : spent_by s.me.0.own.number (told ++ []) ≡ 0
    nothing_spent = ap (spent_by s.me.0.own.number) (append-nil told) ∙ none_spent handed

    pub granted_seat : IsSeat t5 n
    granted_seat = record {
      token_is = token_after s t5 (Releasing a R3) (record { place = Rest; turn = t4.me.0.own.knows.turn; hand = drop 1 t4.me.0.own.knows.hand }) (told ++ [])
          0 n n is all_ended bare (ap (drop 1) hand_is)
          (ap (λ (y : SeatState). y.turn) settled.stands_is ∙ is.turns_are) (let q = nothing_spent in omega arith)
          (let q = nothing_spent in omega arith) refl (omega arith);
      free = ap (λ (q : SeatState). is_free q.place) all_ended.stands_is;
      counted = all_ended.counted refl;
    }

    pub same_seat : seat_of t5 n ≡ record (seat_of s n) { sight = sight_by t5.me.0.own.knows; strides = t5.me.0.own.gone }
    same_seat =
        λ i. record {
          table = all_ended.table_is i;
          number = n.seat;
          left = n.left;
          taken = n.taken;
          sight = sight_by t5.me.0.own.knows;
          strides = t5.me.0.own.gone;
        }

    pub at_rest : ComesTo (seat_of s n) Rest (seat_of t5 n)
    at_rest = all_ended.stands_is ∙ (λ i. record { place = Rest; turn = (settled.stands_is i).turn; hand = (ap (drop 1) hand_is ∙ sym is.empty) i })

    pub last_granted : CallsGrant (seat_of s n) (Releasing a R3) (seat_of t5 n)
        (Leave a.counter w n.seat ∷ taken_for a w handed) (granting a handed) w (grant_of handed)
    last_granted =
        subst (λ i. CallsGrant (seat_of s n) (Releasing a R3) (seat_of t5 n) (Leave a.counter w i ∷ taken_for a w handed) (granting a handed) w
        (grant_of handed)) (own ∙ is.number_is)
        (subst (λ l. CallsGrant (seat_of s n) (Releasing a R3) (seat_of t5 n) l (granting a handed) w (grant_of handed)) (append-nil told)
        (calls_grant s t5 n n (Releasing a R3) (record { place = Rest; turn = t4.me.0.own.knows.turn; hand = drop 1 t4.me.0.own.knows.hand }) (told ++ [])
        0 settled.strides x5.stride a handed t4.me.0.own.knows.turn w is all_ended
        (ap (λ l. settled.strides ++ l) x5.strides_are) x5.did
        (x5.stood ∙ (λ i. record { place = granting a handed; turn = t4.me.0.own.knows.turn; hand = hand_is i }))))

-- what a caller is told of it
module _ (s t : Token) (n : Numbers) (a : Release) (w : WaitId) (handed : Bool)
    (last : CallsGrant (seat_of s n) (Releasing a R3) (seat_of t n) (Leave a.counter w n.seat ∷ taken_for a w handed)
    (granting a handed) w (grant_of handed)) where
  pub wakes_one : handed ≡ false → Wakes (seat_of s n) a (seat_of t n) (One w)
  wakes_one e =
      subst (λ b. CallsGrant (seat_of s n) (Releasing a R3) (seat_of t n) (Leave a.counter w n.seat ∷ taken_for a w b) (granting a b) w (grant_of b)) e last

  pub wakes_handed : handed ≡ true → a.handoff ≡ true → Wakes (seat_of s n) a (seat_of t n) (Handed w)
  wakes_handed e asked = (
    asked,
    subst (λ b. CallsGrant (seat_of s n) (Releasing a R3) (seat_of t n) (Leave a.counter w n.seat ∷ taken_for a w b) (granting a b) w (grant_of b)) e last,
  )

-- R4, and R5 where the counter has a wait
module _ (z : TableModel) (s t : Token) (a : Release) (before : Stands z s (Releasing a R4)) where
  pub stands_none : Walked s (Releasing a R4) t (moved_to s (Releasing a R6)) [] 0 → Stands z t (Releasing a R6)
  stands_none x = stands_on z s t (Releasing a R4) (moved_to s (Releasing a R6)) [] 0 before x refl refl

  module _ (x : Walked s (Releasing a R4) t (moved_to s (sought t a)) [] 0) where
    sought_counter : (l : List WaitId) → counter_at (by_first l (Releasing a R6) (λ w. Releasing a R5)) ≡ a.counter
    sought_counter [] = refl
    sought_counter (w ∷ l) = refl

    pub stands_sought : Stands z t (sought t a)
    stands_sought = stands_on z s t (Releasing a R4) (moved_to s (sought t a)) [] 0 before x refl
        (sought_counter (lists_by t.me.0.own.knows.setting t.me.0.own.knows.seen a.counter))

    module _ (u : Token) where
      out_after : (w : WaitId) → Walked t (Releasing a R5) u (taken_out t a w) (Leave a.counter w t.me.0.own.number ∷ []) 0
          → t.me.0.own.knows.place ≡ Releasing a R5
          → Walked s (Releasing a R4) u (taken_out s a w) (Leave a.counter w s.me.0.own.number ∷ []) 0
      out_after w y at = subst (λ i. Walked s (Releasing a R4) u (taken_out s a w) (Leave a.counter w i ∷ []) 0) x.number_is
          (walked_via s t u (Releasing a R4) (moved_to s (sought t a)) (λ q. record { place = Releasing a R6; turn = q.turn; hand = q.hand ++ w ∷ [] })
          [] (Leave a.counter w t.me.0.own.number ∷ []) 0 0 x
          (subst (λ q. Walked t q u (taken_out t a w) (Leave a.counter w t.me.0.own.number ∷ []) 0)
          (sym at ∙ ap (λ (y : SeatState). y.place) x.stands_is) y))

      pub first_out : (found : Option WaitId)
          → IfSome found (λ w. Walked t (Releasing a R5) u (taken_out t a w) (Leave a.counter w t.me.0.own.number ∷ []) 0
          × (t.me.0.own.knows.place ≡ Releasing a R5) × (w.seat < z.setting.seats))
          → IfSome found (λ w. Walked s (Releasing a R4) u (taken_out s a w) (Leave a.counter w s.me.0.own.number ∷ []) 0 × (w.seat < z.setting.seats))
      first_out (Some w) h = (out_after w h.0 h.1, h.2)
      first_out None h = h

      none_after : (t.me.0.own.knows.place ≡ Releasing a R6) → (u.table_id ≡ t.table_id) → (u.me.0 ≡ t.me.0)
          → Walked s (Releasing a R4) u (moved_to s (Releasing a R6)) [] 0
      none_after at same view =
          subst (λ (q : Place). Walked s (Releasing a R4) u (moved_to s q) [] 0) (sym (ap (λ (y : SeatState). y.place) x.stands_is) ∙ at)
          (walked_same s t u (Releasing a R4) (moved_to s (sought t a)) [] 0 x same view)

      pub first_none : (found : Option WaitId)
          → IfNone found ((t.me.0.own.knows.place ≡ Releasing a R6) × (u.table_id ≡ t.table_id) × (u.me.0 ≡ t.me.0))
          → IfNone found (Walked s (Releasing a R4) u (moved_to s (Releasing a R6)) [] 0)
      first_none (Some w) h = h
      first_none None h = none_after h.0 h.1 h.2

      pub stands_out : (found : Option WaitId)
          → IfSome found (λ w. Walked t (Releasing a R5) u (taken_out t a w) (Leave a.counter w t.me.0.own.number ∷ []) 0
          × (t.me.0.own.knows.place ≡ Releasing a R5) × (w.seat < z.setting.seats))
          → IfNone found ((t.me.0.own.knows.place ≡ Releasing a R6) × (u.table_id ≡ t.table_id) × (u.me.0 ≡ t.me.0)) → Stands z u (Releasing a R6)
      stands_out (Some w) h k =
          stands_on z s u (Releasing a R4) (taken_out s a w) (Leave a.counter w s.me.0.own.number ∷ []) 0 before (out_after w h.0 h.1) refl refl
      stands_out None h k = stands_on z s u (Releasing a R4) (moved_to s (Releasing a R6)) [] 0 before (none_after k.0 k.1 k.2) refl refl

pub trying_counter : (r : Release) → counter_at (trying r) ≡ r.counter
trying_counter r = by r.handoff
  where
    by : (b : Bool) → counter_at (if b then Releasing r R7 else Releasing r R10) ≡ r.counter
    by true = refl
    by false = refl

pub granting_counter : (r : Release) (b : Bool) → counter_at (granting r b) ≡ r.counter
granting_counter r true = refl
granting_counter r false = refl
