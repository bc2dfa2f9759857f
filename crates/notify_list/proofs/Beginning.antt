-- Where a seat may begin a row: what its steps keep holds there.
use Rattle.std.proofs.Common.{◌≡◌, ℕ, true, Option, Some, sym, refl, ap, ◌∙◌, subst, arith}
use mathlib.Core.Path.{fun_ext}
use native.Mathlib.Decide.{ℕ_discrete}
use Rattle.step_table.specs.declared.list_place.AllRow.TheVariants.{L1}
use Rattle.step_table.specs.declared.list_place.ListPlace.{ListPlace}
use Rattle.step_table.specs.declared.list_place.ListParkedRow.TheVariants.{E1}
use Rattle.step_table.specs.declared.list_place.ListPlace.TheVariants.{Rest, Adding, Waiting, NotifyingOne, NotifyingAll}
use Rattle.step_table.specs.declared.list_place.OneRow.TheVariants.{O1, O3}
use Rattle.step_table.specs.declared.list_place.Ticket.{Ticket}
use Rattle.step_table.specs.declared.list_place.WaitRow.TheVariants.{Parked}
use Rattle.step_table.specs.World.{put}
use Rattle.step_table.specs.ListWorld.{ListSeat, ListWorld}
use Rattle.step_table.specs.ListSteps.{ListStep, ListChoice, notify_one, notify_all, end_looks, leave, choose, add, wait, with_ticket}
use Rattle.step_table.proofs.Sums.{put_here, put_else, put_same}
use Rattle.step_law_lists.specs.ListLawful.{holds}
use Rattle.notify_list.specs.Places.{is_free, GoesEarly, at_place, waiting, Begins, stands, adds, ones, alls, waits, leaves}

put_put : {A : Type 0} (f : ℕ → A) (i : ℕ) (x y : A) → put (put f i x) i y ≡ put f i y
put_put f i x y = fun_ext (λ k. by k (ℕ_discrete k i))
  where
    by : (k : ℕ) → Dec (k ≡ i) → put (put f i x) i y k ≡ put f i y k
    by k (yes e) = rw e (put_here (put f i x) i y ∙ sym (put_here f i y))
    by k (no ne) = put_else (put f i x) i y k ne ∙ put_else f i x k ne ∙ sym (put_else f i y k ne)

-- the seat i stands so
abbrev pub with_seat : ListWorld → ℕ → ListSeat → ListWorld
with_seat s i a = record s { seats = put s.seats i a }

module _ (i : ℕ) (Q : ListWorld → Type 0)
    (kept : (s t : ListWorld) → ListStep s i t → GoesEarly (t.seats i).place (t.seats i).late → Q s → Q t) (s : ListWorld) where
  abbrev Sound : ListSeat → Type 0
  Sound a = Q (with_seat s i a)

  -- a step that makes the seat stand otherwise
  changed : (a : ListSeat) (to : ListSeat → ListSeat) → ListStep (with_seat s i a) i (with_seat (with_seat s i a) i (to (put s.seats i a i)))
      → GoesEarly (to a).place (to a).late → Sound a
      → Sound (to a)
  changed a to step early q =
      subst Q (λ k. record s { seats = (ap (λ (y : ListSeat). put (put s.seats i a) i (to y)) (put_here s.seats i a) ∙ put_put s.seats i a (to a)) k })
      (kept (with_seat s i a) (with_seat (with_seat s i a) i (to (put s.seats i a i))) step
      (subst (λ (y : ListSeat). GoesEarly y.place y.late)
      (sym (put_here (put s.seats i a) i (to (put s.seats i a i)) ∙ ap to (put_here s.seats i a))) early) q)

  chosen : (a : ListSeat) (p : ListPlace) → Sound a → ListChoice a.place p → GoesEarly p a.late → Sound (at_place p a)
  chosen a p q c early = changed a (at_place p) (choose (subst (λ (y : ListSeat). ListChoice y.place p) (sym (put_here s.seats i a)) c)) early q

  rested : (a : ListSeat) (p : ListPlace) → a.place ≡ p → is_free p ≡ true → Sound a → Sound (at_place Rest a)
  rested a Rest at free q = subst Sound (λ k. record a { place = at k }) q
  rested a (NotifyingOne h O3) at free q = chosen a Rest q (subst (λ p. ListChoice p Rest) (sym at) (end_looks h)) tt
  rested a _ at free q = absurd (cc)

  began : (a b : ListSeat) → Sound a → Begins a b → Sound b
  began a b q stands = q
  began a b q (adds free none) =
      let there : put s.seats i (at_place Rest a) i ≡ at_place Rest a = put_here s.seats i (at_place Rest a) in
      changed (at_place Rest a) (at_place Adding) (add (ap (λ (y : ListSeat). y.place) there) (ap (λ (y : ListSeat). y.ticket) there ∙ none)) tt
      (rested a a.place refl free q)
  began a b q (ones free) = chosen (at_place Rest a) (NotifyingOne 0 O1) (rested a a.place refl free q) notify_one tt
  began a b q (alls free) = chosen (at_place Rest a) (NotifyingAll 0 L1) (rested a a.place refl free q) notify_all tt
  began a b q (waits {t = t} rest some) =
      let there : put s.seats i a i ≡ a = put_here s.seats i a in
      changed a waiting (wait {t = t} (ap (λ (y : ListSeat). y.place) there ∙ rest) (ap (λ (y : ListSeat). y.ticket) there ∙ some))
      (subst (λ (k : Option Ticket). GoesEarly (with_ticket a k).place (with_ticket a k).late) (sym some) tt) q
  began a b q (leaves {t = t} at early fresh) =
      chosen a (Waiting t (Parked E1)) q (subst (λ p. ListChoice p (Waiting t (Parked E1))) (sym at) (leave t)) (early, fresh)

  -- what the seat's steps keep holds where it begins a row
  pub begun : (a : ListSeat) → Begins (s.seats i) a → Q s → Sound a
  begun a ok q = began (s.seats i) a (subst Q (λ k. record s { seats = sym (put_same s.seats i) k }) q) ok

  -- and where it comes to rest
  pub comes_to_rest : is_free (s.seats i).place ≡ true → Q s → Sound (at_place Rest (s.seats i))
  comes_to_rest free q = rested (s.seats i) (s.seats i).place refl free (subst Q (λ k. record s { seats = sym (put_same s.seats i) k }) q)

-- who begins a row holds no lock but that which it held
pub begins_holds : (a b : ListSeat) → Begins a b → holds b.place ≡ 1 → holds a.place ≡ 1
begins_holds a b stands h = h
begins_holds a b (adds free none) h = absurd (omega arith)
begins_holds a b (ones free) h = absurd (omega arith)
begins_holds a b (alls free) h = absurd (omega arith)
begins_holds a b (leaves at early fresh) h = absurd (omega arith)
begins_holds a b (waits {t = t} rest some) h =
    let e : holds (with_ticket a (Some t)).place ≡ 1 = ap (λ (k : Option Ticket). holds (with_ticket a k).place) (sym some) ∙ h in absurd (omega arith)
