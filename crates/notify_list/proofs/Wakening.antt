-- The rows by which a notification of all grants the waits that it took out.
use Rattle.std.proofs.Common.{◌≡◌, ℕ, ◌+◌, ◌<◌, ◌≤◌, nat_lt, if◌then◌else◌, Bool, List, [], ◌∷◌, ◌++◌, length, map, take, drop}
use Rattle.std.proofs.Common.{get_or, zero, suc, sym, refl, ap, ◌∙◌}
use Rattle.std.proofs.Common.{subst, arith, append-nil, lt-ltb}
use Rattle.std.proofs.lemmas.List.{map-append, drop_more, take_more, take_all, drop_all}
use Rattle.std.proofs.lemmas.List.Elements.{All-nil}
use Rattle.waiters.specs.declared.wait.Wait.{Wait}
use Rattle.step_table.specs.declared.list_place.AllRow.TheVariants.{L8}
use Rattle.step_table.specs.declared.list_place.ListEffect.TheVariants.{Gives}
use Rattle.step_table.specs.declared.list_place.ListPlace.TheVariants.{Rest, NotifyingAll}
use Rattle.step_table.specs.ListEvent.{if_any}
use Rattle.step_table.specs.ListWorld.{ListSeat}
use Rattle.step_table.specs.declared.list_place.ListWord.TheVariants.{Grant}
use Rattle.step_table.specs.Path.{runs}
use Rattle.step_law_lists.specs.ListPath.{ListStride}
use Rattle.running_rows.specs.Strides.{Went, RanRow, here}
use Rattle.notify_list.specs.Setting.{address}
use Rattle.notify_list.specs.Rows.{list_rows, HasStored}
use Rattle.notify_list.specs.Plays.{Me}
use Rattle.notify_list.specs.Seats.{ListModel, Token, setting_of, stands_of}
use Rattle.notify_list.specs.Walks.{Walked}
use Rattle.notify_list.specs.NotifyingAll.{wake_rows, StoresGrants}
use Rattle.notify_list.specs.GrantingAll.{MayWake, with_waits, WokenFirst, WokenSome}
use Rattle.notify_list.specs.Heirs.{IsSame}
use Rattle.notify_list.specs.Rule.{Lands}
use Rattle.notify_list.proofs.Leading.{Ran, Led, led, ran_from}
use Rattle.notify_list.proofs.Walking.{walked_row, walked_on}
use Rattle.notify_list.proofs.Resting.{grants_in, stands_there}

one_less : (h : ℕ) (w : Wait) (rest : List Wait) → (if nat_lt 1 (length (w ∷ rest)) then NotifyingAll h L8 else Rest)
    ≡ if_any rest (NotifyingAll h L8) Rest
one_less h w [] = refl
one_less h w (x ∷ rest) = ap (λ (b : Bool). if b then NotifyingAll h L8 else Rest) (lt-ltb 1 (length (w ∷ x ∷ rest)) (omega arith))

module _ (l : ListModel) (s : Token) (h : ℕ) (w : Wait) (rest : List Wait) (may : MayWake l s h) (hand : (stands_of s).hand ≡ w ∷ rest) where
  abbrev at8 : ListSeat
  at8 = record { place = NotifyingAll h L8; ticket = (stands_of s).ticket; hand = w ∷ rest; late = (stands_of s).late }

  pub stands8 : stands_of s ≡ record { place = NotifyingAll h L8; ticket = (stands_of s).ticket; hand = w ∷ rest; late = (stands_of s).late }
  stands8 =
      λ i. record {
        place = (may.at ∙ ap (λ (q : List Wait). if_any q (NotifyingAll h L8) Rest) hand) i;
        ticket = (stands_of s).ticket;
        hand = hand i;
        late = (stands_of s).late;
      }

  pub waiter_there : w.id.seat < (setting_of s).seats
  waiter_there =
      (grants_in (setting_of s) may.lands.world s.me.0.own.number at8 w.id.seat
      ((if nat_lt 1 (length (w ∷ rest)) then NotifyingAll h L8 else Rest), Gives) may.few may.lands.met may.there
      (stands_there s.me.0.own may.lands may.there may.few ∙ stands8) (λ g. refl)).there

  module _ (t : Token) (n : ℕ) (r : RanRow list_rows here s.me n t.me) (same : t.table_id ≡ s.table_id) where
    row8 : Ran at8 s.me.0.own n t.me.0.own
    row8 = ran_from s t at8 n stands8 r

    d8 : Led at8 s.me.0.own n t.me.0.own row8.stride
    d8 = led at8 s.me.0.own t.me.0.own n row8

    zero8 : n ≡ 0
    zero8 =
        d8.read ∙ (grants_in (setting_of s) d8.world s.me.0.own.number at8 w.id.seat
        ((if nat_lt 1 (length (w ∷ rest)) then NotifyingAll h L8 else Rest), Gives) may.few d8.met may.there d8.stood (λ g. refl)).unset

    pub woken_first : WokenFirst s h w rest t
    woken_first = record {
      walked = subst (λ (y : ListSeat). Walked s y t (with_waits h rest (stands_of s)) [] ((NotifyingAll h L8, 0) ∷ [])) (sym stands8)
          (subst (λ k. Walked s at8 t (with_waits h rest (stands_of s)) [] ((NotifyingAll h L8, k) ∷ [])) zero8
          (walked_row s t at8 n (with_waits h rest (stands_of s)) [] row8 same
          (d8.stands ∙ (λ i. record { place = one_less h w rest i; ticket = (stands_of s).ticket; hand = rest; late = (stands_of s).late })) d8.told));
      slots = ap (λ (m : Me). m.1) r.1;
    }

pub a_wait : Wait
a_wait = record { id = record { seat = 0; turn = 0 }; ticket = 0 }

pub seat_at : (waits : List Wait) (n : ℕ) → n < length waits → (get_or waits n a_wait).id.seat ≡ get_or (map (λ (w : Wait). w.id.seat) waits) n 0
seat_at [] n low = absurd (omega arith)
seat_at (w ∷ waits) zero low = refl
seat_at (w ∷ waits) (suc n) low = seat_at waits n (omega arith)

-- so many of the waits in hand were granted
abbrev pub WokenUpTo : Token → ℕ → ℕ → Token → Type 0
WokenUpTo s h n t = WokenSome s h (take n (stands_of s).hand) (drop n (stands_of s).hand) t

pub woken_none : (l : ListModel) (s t : Token) (h : ℕ) → MayWake l s h → IsSame s t → WokenUpTo s h 0 t
woken_none l s t h may same = record {
  walked = record {
    list_is = λ i. record { id = same.0 i; setting = (same.1 i).0.own.knows.setting };
    number_is = ap (λ (m : Me). m.0.own.number) same.1;
    stands_is = ap (λ (m : Me). m.0.own.knows.sight.stands) same.1 ∙ (λ i. record (stands_of s) { place = may.at i });
    lands = subst (λ (m : Me). Lands m.0.own.number m.0.own.knows) (sym same.1) may.lands;
    strides = [];
    path = ap (λ (m : Me). m.0.own.knows.sight) same.1;
    ran = All-nil (λ (p : ListStride). p.deed ≡ runs);
    rows_are = refl;
    told_is = refl;
    all = ap (λ (m : Me). m.0.own.gone) same.1 ∙ sym (append-nil s.me.0.own.gone);
  };
  slots = ap (λ (m : Me). m.1) same.1;
}

module _ (l : ListModel) (s t : Token) (h n : ℕ) (may : MayWake l s h) (x : WokenUpTo s h n t) where
  pub may_next : MayWake l t h
  may_next = record {
    list_is = x.walked.list_is ∙ may.list_is;
    there = let e = ap (λ (y : ListModel). y.setting.seats) x.walked.list_is in let i = x.walked.number_is in let k = may.there in omega arith;
    few = let e = ap (λ (y : ListModel). y.setting.seats) x.walked.list_is in let k = may.few in omega arith;
    at = ap (λ (y : ListSeat). y.place) x.walked.stands_is ∙ ap (λ (q : List Wait). if_any q (NotifyingAll h L8) Rest)
        (sym (ap (λ (y : ListSeat). y.hand) x.walked.stands_is));
    lands = x.walked.lands;
  }

  pub hand_next : n < length (stands_of s).hand → (stands_of t).hand ≡ get_or (stands_of s).hand n a_wait ∷ drop (n + 1) (stands_of s).hand
  hand_next low = ap (λ (y : ListSeat). y.hand) x.walked.stands_is ∙ drop_more (stands_of s).hand n a_wait low

  pub woken_more : (u : Token) → n < length (stands_of s).hand
      → WokenFirst t h (get_or (stands_of s).hand n a_wait) (drop (n + 1) (stands_of s).hand) u → WokenUpTo s h (n + 1) u
  woken_more u low y =
      let w : Wait = get_or (stands_of s).hand n a_wait in
      let hand : List Wait = (stands_of s).hand in
      let a : ListSeat = with_waits h (drop n hand) (stands_of s) in
      let b : ListSeat = with_waits h (drop (n + 1) hand) (stands_of s) in record {
        walked =
            subst (λ rows. Walked s (stands_of s) u b [] rows)
            (sym (ap (wake_rows h) (take_more hand n a_wait low) ∙ map-append (λ (v : Wait). (NotifyingAll h L8, 0)) (take n hand) (w ∷ [])))
            (walked_on s t u (stands_of s) a b [] [] (wake_rows h (take n hand)) ((NotifyingAll h L8, 0) ∷ []) x.walked
            (subst (λ (q : ListSeat). Walked t q u (with_waits h (drop (n + 1) hand) q) [] ((NotifyingAll h L8, 0) ∷ [])) x.walked.stands_is y.walked));
        slots = y.slots ∙ x.slots;
      }

pub woken_all : (s t : Token) (h n : ℕ) → length (stands_of s).hand ≤ n → WokenUpTo s h n t → WokenSome s h (stands_of s).hand [] t
woken_all s t h n all x =
    subst (λ (q : List Wait × List Wait). WokenSome s h q.0 q.1 t) (λ i. (take_all n (stands_of s).hand all i, drop_all n (stands_of s).hand all i)) x

-- one more grant was stored
pub stores_more : (seats : List ℕ) (before mid now : List ListStride) (seat : ℕ) → StoresGrants seats before mid
    → StoresGrants (seat ∷ []) mid now → StoresGrants (seats ++ seat ∷ []) before now
stores_more [] before mid now seat stored one = subst (λ l. StoresGrants (seat ∷ []) l now) stored one
stores_more (k ∷ seats) before mid now seat stored one = (stored.0, stored.1, stores_more seats (before ++ stored.0 ∷ []) mid now seat stored.2 one)

-- a row that stored a grant
pub stored_one : (s t : Token) (place seat : ℕ) (n : ℕ) (w : Went list_rows here runs s.me.0.own n t.me.0.own) → HasStored w.stride place 1
    → place ≡ address (Grant seat) → StoresGrants (seat ∷ []) s.me.0.own.gone t.me.0.own.gone
stored_one s t place seat n w stored is = (w.stride, subst (λ i. HasStored w.stride i 1) is stored, w.one)

-- the seat may go on then
pub may_same : (l : ListModel) (s t : Token) (h : ℕ) → MayWake l s h → IsSame s t → MayWake l t h
may_same l s t h may same = record {
  list_is = (λ i. record { id = same.0 i; setting = (same.1 i).0.own.knows.setting }) ∙ may.list_is;
  there = subst (λ (m : Me). m.0.own.number < m.0.own.knows.setting.seats) (sym same.1) may.there;
  few = subst (λ (m : Me). m.0.own.knows.setting.seats ≤ 65536) (sym same.1) may.few;
  at = subst (λ (m : Me). m.0.own.knows.sight.stands.place ≡ if_any m.0.own.knows.sight.stands.hand (NotifyingAll h L8) Rest) (sym same.1) may.at;
  lands = subst (λ (m : Me). Lands m.0.own.number m.0.own.knows) (sym same.1) may.lands;
}

pub woken_since : (l : ListModel) (s t u : Token) (h : ℕ) → MayWake l s h → IsSame s t → WokenSome t h (stands_of t).hand [] u
    → WokenSome s h (stands_of s).hand [] u
woken_since l s t u h may same y =
    let x = woken_none l s t h may same in
    let hand : List Wait = (stands_of s).hand in
    let a : ListSeat = with_waits h hand (stands_of s) in record {
      walked = walked_on s t u (stands_of s) a (with_waits h [] (stands_of s)) [] [] [] (wake_rows h hand) x.walked
          (subst (λ (q : ListSeat). Walked t q u (with_waits h [] q) [] (wake_rows h q.hand)) x.walked.stands_is y.walked);
      slots = y.slots ∙ x.slots;
    }
