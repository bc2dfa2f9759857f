-- Taking all waits out of the list.
use Rattle.std.proofs.Common.{◌≡◌, ℕ, ◌+◌, ◌<◌, ◌≤◌, List, [], ◌∷◌, ◌++◌, length, map, take, set, drop, slice_get, Some, None, sym}
use Rattle.std.proofs.Common.{refl, ap, ◌∙◌, subst, arith}
use Rattle.std.proofs.Common.{length-append, length-set, append-nil, append_assoc}
use Rattle.std.proofs.lemmas.List.{map-append, take_more_set}
use Rattle.running_rows.specs.Table.{rest}
use Rattle.running_rows.specs.Lent.{seat_with}
use Rattle.waiters.specs.declared.wait.Wait.{Wait}
use Rattle.waiters.specs.Lists.{Lists, waits_at, Changes}
use Rattle.step_table.specs.declared.list_place.AllRow.TheVariants.{L7, L8}
use Rattle.step_table.specs.declared.list_place.ListPlace.TheVariants.{Rest, NotifyingAll}
use Rattle.step_table.specs.ListErased.{erased_wait, erased_waits}
use Rattle.step_table.specs.ListEvent.{if_any}
use Rattle.step_table.specs.ListWorld.{ListSeat}
use Rattle.notify_list.specs.declared.view.Setting.{Setting}
use Rattle.notify_list.specs.declared.view.Record.{Record}
use Rattle.notify_list.specs.Places.{at_place}
use Rattle.notify_list.specs.Rule.{Guarded, IsRecord}
use Rattle.notify_list.specs.Plays.{Me, ListView}
use Rattle.notify_list.specs.Seats.{ListModel, Token, guarded_of, queue_of, with_queue, setting_of, stands_of}
use Rattle.notify_list.specs.Walks.{Walked, HasRecord, Edited}
use Rattle.notify_list.specs.Records.{HasGuarded, FirstOut}
use Rattle.notify_list.specs.GrantingAll.{MayReach, ReachedAll, MayTake, TakenAll, MayWake, with_waits}
use Rattle.notify_list.proofs.Allowing.{GivesBack}
use Rattle.notify_list.proofs.Leading.{Ran, Led, led, Gave, gave_from}
use Rattle.notify_list.proofs.Walking.{walked_row}
use Rattle.notify_list.proofs.Recording.{changed_open, gives_edited}

-- what is lent is the record
pub lent_waits : (s : Token) (lent : Record) (g : Guarded) → HasGuarded s g → s.me.1 ≡ (0, lent) ∷ rest s.me.1
    → IsRecord (setting_of s) lent g
lent_waits s lent g h value = subst (λ (y : Record). IsRecord (setting_of s) y g) (ap (first_of h.0) (sym h.1 ∙ value)) h.2
  where
    first_of : Record → List (ℕ × Record) → Record
    first_of y [] = y
    first_of y (x ∷ l) = x.1

pub written_back : (s : Token) (y : Record) (g left : Guarded) → HasGuarded s g
    → IsRecord (setting_of s) y left → Edited s left (seat_with s 0 y)
written_back s y g left h made = (refl, (y, (λ i. (s.me.0, (0, y) ∷ rest (h.1 i))), made))

-- no wait is left
pub first_none : (s : Token) (y : Record) (lists : Lists) (g : Guarded) → HasGuarded s g → IsRecord (setting_of s) y g
    → None ≡ slice_get (waits_at y.lists y.key) 0 → lists ≡ y.lists
    → FirstOut s g None (seat_with s 0 (record y { lists = lists }))
first_none s y lists g h is first same = (
  by g.queue (first ∙ ap (λ l. slice_get l 0) is.waits),
  written_back s (record y { lists = lists }) g g h (subst (λ (l : Lists). IsRecord (setting_of s) (record y { lists = l }) g) (sym same) is),
)
  where
    by : (q : List Wait) → None ≡ slice_get (erased_waits q) 0 → q ≡ []
    by [] e = refl
    by (w ∷ q) e = absurd cc

pub first_some : (s : Token) (y : Record) (lists : Lists) (g : Guarded) (wait : Wait) (seat : ℕ) → HasGuarded s g
    → IsRecord (setting_of s) y g → Some wait ≡ slice_get (waits_at y.lists y.key) 0
    → Changes y.lists lists y.key (Some (drop 1 (waits_at y.lists y.key))) → lists.room ≡ y.lists.room + 1 → seat ≡ wait.id.seat
    → FirstOut s g (Some seat) (seat_with s 0 (record y { lists = lists }))
first_some s y lists g wait seat h is first change room same = by g.queue refl (first ∙ ap (λ l. slice_get l 0) is.waits)
  where
    by : (q : List Wait) → g.queue ≡ q → Some wait ≡ slice_get (erased_waits q) 0
        → FirstOut s g (Some seat) (seat_with s 0 (record y { lists = lists }))
    by [] r e = absurd cc
    by (w ∷ q) r e =
        let is_it : wait ≡ erased_wait w = cc in
        let c = changed_open y.lists lists y.key (drop 1 (waits_at y.lists y.key)) change in (
          w,
          q,
          r,
          ap (λ (x : Wait). x.id.seat) (sym is_it) ∙ sym same,
          written_back s (record y { lists = lists }) g (with_queue q g) h
              (record {
                opened = c.0;
                waits = c.1 ∙ ap (drop 1) (is.waits ∙ ap erased_waits r);
                room = let a = is.room in let b = ap length r in omega (arith, room);
                live = is.live;
                fits = is.fits;
                early = is.early;
              }),
        )

-- of the waits of the list so many were taken out, and the room begins with their seats
pub record Emptied (s t : Token) (room : List ℕ) (count : ℕ) : Type 0 where
  pub gone : List Wait
  pub left : List Wait
  pub parts : queue_of s ≡ gone ++ left
  pub table : t.table_id ≡ s.table_id
  pub view : t.me.0 ≡ s.me.0
  pub has : HasGuarded t (with_queue left (guarded_of s))
  pub counted : count ≡ length gone
  pub items : take count room ≡ map (λ (w : Wait). w.id.seat) gone
  pub fits : length (queue_of s) ≤ length room

pub none_emptied : (s : Token) (room : List ℕ) → HasRecord s → length (queue_of s) ≤ length room → Emptied s s room 0
none_emptied s room h fits = record {
  gone = [];
  left = queue_of s;
  parts = refl;
  table = refl;
  view = refl;
  has = h;
  counted = refl;
  items = refl;
  fits = fits;
}

module _ (s t : Token) (room : List ℕ) (count : ℕ) (u : Token) (x : Emptied s t room count) where
  pub room_left : (seat : ℕ) → FirstOut t (with_queue x.left (guarded_of s)) (Some seat) u → count < length room
  room_left seat out =
      let a = ap length x.parts in let b = length-append x.gone x.left in let c = ap length out.2 in let d = x.counted in let f = x.fits in omega arith

  pub one_emptied : (seat : ℕ) → FirstOut t (with_queue x.left (guarded_of s)) (Some seat) u → Emptied s u (set room count seat) (count + 1)
  one_emptied seat out = record {
    gone = x.gone ++ out.0 ∷ [];
    left = out.1;
    parts = x.parts ∙ ap (λ l. x.gone ++ l) out.2 ∙ sym (append_assoc x.gone (out.0 ∷ []) out.1);
    table = out.4.0 ∙ x.table;
    view = ap (λ (m : Me). m.0) out.4.1.1 ∙ x.view;
    has = (
      out.4.1.0,
      ap (λ (m : Me). m.1) out.4.1.1,
      subst (λ (v : ListView). IsRecord v.own.knows.setting out.4.1.0 (with_queue out.1 (guarded_of s))) (sym (ap (λ (m : Me). m.0) out.4.1.1)) out.4.1.2,
    );
    counted = let a = x.counted in let b = length-append x.gone (out.0 ∷ []) in omega arith;
    items = take_more_set room count seat (room_left seat out) ∙ (λ i. x.items i ++ sym out.3 i ∷ [])
        ∙ sym (map-append (λ (w : Wait). w.id.seat) x.gone (out.0 ∷ []));
    fits = let a = length-set room count seat in let f = x.fits in omega arith;
  }

  module _ (out : FirstOut t (with_queue x.left (guarded_of s)) None u) where
    pub all_emptied : Edited s (with_queue [] (guarded_of s)) u
    all_emptied = (
      out.1.0 ∙ x.table,
      (
        out.1.1.0,
        out.1.1.1 ∙ (λ i. (x.view i, (0, out.1.1.0) ∷ [])),
        subst (λ (v : ListView). IsRecord v.own.knows.setting out.1.1.0 (with_queue [] (guarded_of s))) x.view
            (subst (λ l. IsRecord (setting_of t) out.1.1.0 (with_queue l (guarded_of s))) out.0 out.1.1.2),
      ),
    )

    gone_all : x.gone ≡ queue_of s
    gone_all = sym (append-nil x.gone) ∙ ap (λ l. x.gone ++ l) (sym out.0) ∙ sym x.parts

    pub all_counted : count ≡ length (queue_of s)
    all_counted = x.counted ∙ ap length gone_all

    pub all_seats : take count room ≡ map (λ (w : Wait). w.id.seat) (queue_of s)
    all_seats = x.items ∙ ap (map (λ (w : Wait). w.id.seat)) gone_all

-- L7
module _ (l : ListModel) (s : Token) (h n : ℕ) (may : MayTake l s h n) where
  abbrev at7 : ListSeat
  at7 = at_place (NotifyingAll h (L7 n)) (stands_of s)

  stands7 : stands_of s ≡ at7
  stands7 = λ i. record (stands_of s) { place = may.0.at i }

  pub gives_all : (k : Setting) (t : Token) → Edited s (with_queue [] (guarded_of s)) t → GivesBack k t.me
  gives_all k t E = gives_edited k s t at7 stands7 (with_queue [] (guarded_of s)) E refl
      (λ w e. (record { word = refl; there = tt; can = refl; becomes = refl }, ap (with_queue []) (sym e)))

  module _ (t u : Token) (E : Edited s (with_queue [] (guarded_of s)) t) (r : Gave t u) (same : u.table_id ≡ t.table_id) where
    row7 : Ran at7 s.me.0.own 1 u.me.0.own
    row7 = gave_from s t u at7 (ap (λ (m : Me). m.0.own) E.1.1) stands7 refl may.0.few (λ g. refl) r

    d7 : Led at7 s.me.0.own 1 u.me.0.own row7.stride
    d7 = led at7 s.me.0.own u.me.0.own 1 row7

    stands_after : stands_of u ≡ with_waits h (queue_of s) (stands_of s)
    stands_after = d7.stands ∙ (λ i. record {
      place = if_any (sym (d7.held refl) i).queue (NotifyingAll h L8) Rest;
      ticket = (stands_of s).ticket;
      hand = may.2 i ++ (sym (d7.held refl) i).queue;
      late = (stands_of s).late;
    })

    pub hand_after : (stands_of u).hand ≡ queue_of s
    hand_after = ap (λ (y : ListSeat). y.hand) stands_after

    pub taken_all : TakenAll s h n u
    taken_all = record {
      walked = subst (λ (y : ListSeat × List Wait). Walked s y.0 u (with_waits h y.1 (stands_of s)) [] ((NotifyingAll h (L7 n), 1) ∷ []))
          (λ i. (sym stands7 i, sym hand_after i))
          (walked_row s u at7 1 (with_waits h (queue_of s) (stands_of s)) [] row7 (same ∙ E.0) stands_after d7.told);
      bare = ap (λ (m : Me). m.1) r.3 ∙ ap (λ (m : Me). rest m.1) E.1.1;
    }

-- all waits may be taken out once all tickets are granted
pub may_take : (l : ListModel) (s v : Token) (h n : ℕ) → MayReach l s h → (stands_of s).hand ≡ [] → ReachedAll s h n v → MayTake l v h n
may_take l s v h n may empty R = (
  record {
    list_is = R.walked.list_is ∙ may.0.list_is;
    there = let q = ap (λ (z : ListModel). z.setting.seats) R.walked.list_is in let i = R.walked.number_is in let k = may.0.there in omega arith;
    few = let q = ap (λ (z : ListModel). z.setting.seats) R.walked.list_is in let k = may.0.few in omega arith;
    at = ap (λ (z : ListSeat). z.place) R.walked.stands_is;
    lands = R.walked.lands;
  },
  R.record_is,
  ap (λ (z : ListSeat). z.hand) R.walked.stands_is ∙ empty,
)

-- and granted, once they are
pub wakes_after : (l : ListModel) (s : Token) (h n : ℕ) → MayTake l s h n → (t : Token) → TakenAll s h n t → MayWake l t h
wakes_after l s h n may t T = record {
  list_is = T.walked.list_is ∙ may.0.list_is;
  there = let q = ap (λ (z : ListModel). z.setting.seats) T.walked.list_is in let i = T.walked.number_is in let k = may.0.there in omega arith;
  few = let q = ap (λ (z : ListModel). z.setting.seats) T.walked.list_is in let k = may.0.few in omega arith;
  at = ap (λ (z : ListSeat). z.place) T.walked.stands_is;
  lands = T.walked.lands;
}

-- no more waits are queued than there are seats, so a room for all seats has room for them
pub queue_fits : (l : ListModel) (s : Token) (h n : ℕ) → MayTake l s h n → length (queue_of s) ≤ l.setting.seats
queue_fits l s h n may = let q = ap (λ (z : ListModel). z.setting.seats) may.0.list_is in let r = may.1.2.room in omega arith

pub all_fit : (l : ListModel) (s : Token) (h n : ℕ) → MayTake l s h n → (room : List ℕ) → l.setting.seats ≤ length room
    → length (queue_of s) ≤ length room
all_fit l s h n may room seats = let f = queue_fits l s h n may in omega arith
