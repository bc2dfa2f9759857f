-- A release of many units takes waits out under the lock, one by one.
use Rattle.std.proofs.Common.{◌≡◌, ℕ, ◌+◌, ◌^◌, ◌≤◌, suc, nat_lt, ◌&&◌, if◌then◌else◌, Bool, true, false, List, [], ◌∷◌}
use Rattle.std.proofs.Common.{◌++◌, length, sym, refl, ap, ◌∙◌, subst, arith}
use Rattle.std.proofs.lemmas.Bool.{lt-ltb, le-ltb}
use Rattle.std.proofs.lemmas.List.{map-append}
use Rattle.waiters.specs.declared.wait.WaitId.{WaitId}
use Rattle.step_table.specs.declared.entry.Entry.{Entry}
use Rattle.step_table.specs.declared.entry.Entry.TheVariants.{Leave}
use Rattle.step_table.specs.declared.place.ReleaseMany.{ReleaseMany}
use Rattle.step_table.specs.declared.place.ManyRow.TheVariants.{M4, M5, M6}
use Rattle.step_table.specs.declared.place.Place.{Place}
use Rattle.step_table.specs.declared.place.Place.TheVariants.{ReleasingMany}
use Rattle.step_table.specs.World.{SeatState}
use Rattle.step_table.specs.Event.{by_first}
use Rattle.step_table.specs.Counting.{counter_at}
use Rattle.sema_table.specs.Changes.{spent_by}
use Rattle.step_law_semaphores.specs.SemaPath.{SemaPath, placed}
use Rattle.sema_table.specs.Rows.{SemaView}
use Rattle.sema_table.specs.Setting.{layout}
use Rattle.sema_table.specs.Places.{is_free}
use Rattle.sema_table.specs.Rule.{stands_by, sight_by}
use Rattle.sema_table.specs.Seats.{Token, TableModel}
use Rattle.sema_table.specs.Walks.{Stands, Walked, moved_to, lists_of}
use Rattle.sema_table.specs.Many.{leaves}
use Rattle.sema_table.specs.ManyWalks.{sought_many, picking, with_hand}
use Rattle.sema_table.proofs.Resting.{not_both}
use Rattle.sema_table.proofs.Walking.{walked_on, walked_yet, stands_on}
use Rattle.sema_table.proofs.GrantingMany.{picks, neither}

-- who takes waits out spends nothing
pub leaves_spend : (k i : ℕ) (a : ReleaseMany) (waits : List WaitId) → spent_by k (leaves i a waits) ≡ 0
leaves_spend k i a [] = refl
leaves_spend k i a (w ∷ waits) = leaves_spend k i a waits

busy_either : (a : ReleaseMany) (b : Bool) → is_free (if b then ReleasingMany a M5 else ReleasingMany a M6) ≡ false
busy_either a true = refl
busy_either a false = refl

counter_either : (a : ReleaseMany) (b : Bool) → counter_at (if b then ReleasingMany a M5 else ReleasingMany a M6) ≡ a.counter
counter_either a true = refl
counter_either a false = refl

picking_busy : (s : Token) (a : ReleaseMany) → is_free (picking s a) ≡ false
picking_busy s a = busy_either a (nat_lt (length s.me.0.own.knows.hand) a.units && nat_lt 0 (length (lists_of s a.counter)))

pub picking_counter : (s : Token) (a : ReleaseMany) → counter_at (picking s a) ≡ a.counter
picking_counter s a = counter_either a (nat_lt (length s.me.0.own.knows.hand) a.units && nat_lt 0 (length (lists_of s a.counter)))

-- with all its units in hand it goes on to the lock
pub picking_full : (s : Token) (a : ReleaseMany) → a.units ≤ length s.me.0.own.knows.hand → picking s a ≡ ReleasingMany a M6
picking_full s a full = ap (λ b. if b && nat_lt 0 (length (lists_of s a.counter)) then ReleasingMany a M5 else ReleasingMany a M6)
    (le-ltb (length s.me.0.own.knows.hand) a.units full)

-- the look under the lock, with nothing in hand
sought_picks : (s : Token) (a : ReleaseMany) → s.me.0.own.knows.hand ≡ [] → 1 ≤ a.units → sought_many s a ≡ picking s a
sought_picks s a empty some = by (lists_of s a.counter) ∙ ap (λ (h : List WaitId). picks a (length h) (length (lists_of s a.counter))) (sym empty)
  where
    by : (l : List WaitId) → by_first l (ReleasingMany a M6) (λ w. ReleasingMany a M5) ≡ picks a 0 (length l)
    by [] = sym (neither (nat_lt 0 a.units) a)
    by (w ∷ l) =
        λ i. if sym (lt-ltb 0 a.units (omega arith)) i && sym (lt-ltb 0 (suc (length l)) (omega arith)) i then ReleasingMany a M5 else ReleasingMany a M6

-- the seat stands under the lock
pub stands_looked : (z : TableModel) (s t : Token) (a : ReleaseMany) → Stands z s (ReleasingMany a M4) → s.me.0.own.knows.hand ≡ [] → 1 ≤ a.units
    → Walked s (ReleasingMany a M4) t (moved_to s (sought_many t a)) [] 0 → Stands z t (picking t a)
stands_looked z s t a stands empty some x = stands_on z s t (ReleasingMany a M4) (moved_to s (picking t a)) [] 0 stands
    (subst (λ (q : Place). Walked s (ReleasingMany a M4) t (moved_to s q) [] 0)
    (sought_picks t a (ap (λ (y : SeatState). y.hand) x.stands_is ∙ empty) some) x) refl (picking_counter t a)

-- no wait was taken out yet
pub pick_first : (z : TableModel) (s : Token) (a : ReleaseMany) → Stands z s (picking s a) → s.me.0.own.knows.hand ≡ []
    → Walked s (picking s a) s (with_hand s (picking s a) s.me.0.own.knows.hand) (leaves s.me.0.own.number a s.me.0.own.knows.hand) 0
pick_first z s a stands empty =
    subst (λ (h : List WaitId). Walked s (picking s a) s (with_hand s (picking s a) s.me.0.own.knows.hand) (leaves s.me.0.own.number a h) 0) (sym empty)
    (walked_yet z s (picking s a) (picking_busy s a) stands)

-- one more
pub pick_more : (s t u : Token) (a : ReleaseMany) (w : WaitId) → Walked s (picking s a) t (with_hand s (picking t a) t.me.0.own.knows.hand)
    (leaves s.me.0.own.number a t.me.0.own.knows.hand) 0 → t.me.0.own.knows.place ≡ ReleasingMany a M5
    → Walked t (ReleasingMany a M5) u (with_hand t (picking u a) (t.me.0.own.knows.hand ++ w ∷ [])) (Leave a.counter w t.me.0.own.number ∷ []) 0
    → Walked s (picking s a) u (with_hand s (picking u a) u.me.0.own.knows.hand) (leaves s.me.0.own.number a u.me.0.own.knows.hand) 0
pick_more s t u a w x at y =
    let from = sym at ∙ ap (λ (q : SeatState). q.place) x.stands_is in
    let more : Walked t (picking t a) u (with_hand t (picking u a) (t.me.0.own.knows.hand ++ w ∷ [])) (Leave a.counter w t.me.0.own.number ∷ []) 0
    = subst (λ (p : Place). Walked t p u (with_hand t (picking u a) (t.me.0.own.knows.hand ++ w ∷ [])) (Leave a.counter w t.me.0.own.number ∷ []) 0)
    from y in
    subst (λ (q : (ℕ × List WaitId) × List Entry). Walked s (picking s a) u (record { place = picking u a; turn = q.0.0; hand = q.0.1 }) q.1 0)
    (λ i. ((turn_is i, hand_is i), told_is i))
    (walked_on s t u (picking s a) (with_hand s (picking t a) t.me.0.own.knows.hand) (with_hand t (picking u a) (t.me.0.own.knows.hand ++ w ∷ []))
    (leaves s.me.0.own.number a t.me.0.own.knows.hand) (Leave a.counter w t.me.0.own.number ∷ []) 0 0 x more)
  where
    turn_is : t.me.0.own.knows.turn ≡ s.me.0.own.knows.turn
    turn_is = ap (λ (q : SeatState). q.turn) x.stands_is

    hand_is : t.me.0.own.knows.hand ++ w ∷ [] ≡ u.me.0.own.knows.hand
    hand_is = sym (ap (λ (q : SeatState). q.hand) y.stands_is)

    told_is : leaves s.me.0.own.number a t.me.0.own.knows.hand ++ Leave a.counter w t.me.0.own.number ∷ []
        ≡ leaves s.me.0.own.number a u.me.0.own.knows.hand
    told_is = ap (λ k. leaves s.me.0.own.number a t.me.0.own.knows.hand ++ Leave a.counter w k ∷ []) x.number_is
        ∙ sym (map-append (λ v. Leave a.counter v s.me.0.own.number) t.me.0.own.knows.hand (w ∷ [])) ∙ ap (leaves s.me.0.own.number a) hand_is

pub hand_more : (t u : Token) (a : ReleaseMany) (w : WaitId) (place : Place) (told : List Entry)
    → Walked t (ReleasingMany a M5) u (with_hand t place (t.me.0.own.knows.hand ++ w ∷ [])) told 0
    → u.me.0.own.knows.hand ≡ t.me.0.own.knows.hand ++ w ∷ []
hand_more t u a w place told y = ap (λ (q : SeatState). q.hand) y.stands_is

pub stands_picking : (z : TableModel) (s t : Token) (a : ReleaseMany) → Stands z s (picking s a)
    → Walked s (picking s a) t (with_hand s (picking t a) t.me.0.own.knows.hand) (leaves s.me.0.own.number a t.me.0.own.knows.hand) 0
    → Stands z t (picking t a)
stands_picking z s t a stands x = stands_on z s t (picking s a) (with_hand s (picking t a) t.me.0.own.knows.hand)
    (leaves s.me.0.own.number a t.me.0.own.knows.hand) 0 stands x (leaves_spend s.me.0.own.number s.me.0.own.number a t.me.0.own.knows.hand)
    (picking_counter t a ∙ sym (picking_counter s a))

-- all were taken out that can be
pub all_taken : (s0 s t : Token) (a : ReleaseMany) → s0.me.0.own.knows.hand ≡ [] → 1 ≤ a.units
    → Walked s0 (ReleasingMany a M4) s (moved_to s0 (sought_many s a)) [] 0
    → Walked s (picking s a) t (with_hand s (picking t a) t.me.0.own.knows.hand) (leaves s.me.0.own.number a t.me.0.own.knows.hand)
    0 → picking t a ≡ ReleasingMany a M6
    → Walked s0 (ReleasingMany a M4) t (with_hand s0 (ReleasingMany a M6) t.me.0.own.knows.hand) (leaves s0.me.0.own.number a t.me.0.own.knows.hand) 0
all_taken s0 s t a empty some x y ends =
    let looked : Walked s0 (ReleasingMany a M4) s (moved_to s0 (picking s a)) [] 0
    = subst (λ (q : Place). Walked s0 (ReleasingMany a M4) s (moved_to s0 q) [] 0)
    (sought_picks s a (ap (λ (q : SeatState). q.hand) x.stands_is ∙ empty) some) x in
    subst (λ (q : (Place × ℕ) × ℕ). Walked s0 (ReleasingMany a M4) t
    (record { place = q.0.0; turn = q.0.1; hand = t.me.0.own.knows.hand }) (leaves q.1 a t.me.0.own.knows.hand) 0)
    (λ i. ((ends i, (x.stands_is i).turn), x.number_is i))
    (walked_on s0 s t (ReleasingMany a M4) (moved_to s0 (picking s a)) (with_hand s (picking t a) t.me.0.own.knows.hand) []
    (leaves s.me.0.own.number a t.me.0.own.knows.hand) 0 0 looked y)

-- nothing has come of it
pub same_after : (s t u : Token) (from : Place) (b : SeatState) (told : List Entry) (j : ℕ) → is_free b.place ≡ false → u.table_id ≡ t.table_id
    → u.me.0 ≡ t.me.0 → Walked s from t b told j → Walked s from u b told j
same_after s t u from b told j busy same view x = record {
  table_is = (λ i. record { id = same i; setting = (view i).own.knows.setting }) ∙ x.table_is;
  number_is = ap (λ (v : SemaView). v.own.number) view ∙ x.number_is;
  stands_is = ap (λ (v : SemaView). stands_by v.own.knows) view ∙ x.stands_is;
  few = subst (λ (v : SemaView). v.own.knows.turn ≤ 2 ^ 62 + 2 ^ 16) (sym view) x.few;
  came = ap (λ (v : SemaView). v.own.knows.taken) view ∙ x.came;
  most = subst (λ (v : SemaView). v.own.knows.taken ≤ 2 ^ 62 + 2 ^ 48) (sym view) x.most;
  counted = λ free. not_both (is_free b.place) busy free;
  strides = x.strides;
  each = x.each;
  path =
      subst (λ (v : SemaView). SemaPath (layout s.me.0.own.knows.setting) s.me.0.own.number (placed from (sight_by s.me.0.own.knows)) x.strides
      (sight_by v.own.knows)) (sym view) x.path;
  all = ap (λ (v : SemaView). v.own.gone) view ∙ x.all;
  told_is = x.told_is;
}

-- the list has no more
pub taken_none : (s0 s t u : Token) (a : ReleaseMany) → s0.me.0.own.knows.hand ≡ [] → 1 ≤ a.units
    → Walked s0 (ReleasingMany a M4) s (moved_to s0 (sought_many s a)) [] 0
    → Walked s (picking s a) t (with_hand s (picking t a) t.me.0.own.knows.hand) (leaves s.me.0.own.number a t.me.0.own.knows.hand) 0
    → t.me.0.own.knows.place ≡ ReleasingMany a M6 → u.table_id ≡ t.table_id → u.me.0 ≡ t.me.0
    → Walked s0 (ReleasingMany a M4) u (with_hand s0 (ReleasingMany a M6) u.me.0.own.knows.hand) (leaves s0.me.0.own.number a u.me.0.own.knows.hand) 0
taken_none s0 s t u a empty some x y at same view =
    let ends : picking t a ≡ ReleasingMany a M6 = sym (ap (λ (q : SeatState). q.place) y.stands_is) ∙ at in
    let h : t.me.0.own.knows.hand ≡ u.me.0.own.knows.hand = ap (λ (v : SemaView). v.own.knows.hand) (sym view) in
    subst (λ (l : List WaitId). Walked s0 (ReleasingMany a M4) u (with_hand s0 (ReleasingMany a M6) l) (leaves s0.me.0.own.number a l) 0) h
    (same_after s0 t u (ReleasingMany a M4) (with_hand s0 (ReleasingMany a M6) t.me.0.own.knows.hand) (leaves s0.me.0.own.number a t.me.0.own.knows.hand)
    0 refl same view (all_taken s0 s t a empty some x y ends))
