-- A notification of one, from its lock on and as a whole.
use Rattle.std.proofs.Common.{◌≡◌, ◌≢◌, ◌⊎◌, ℕ, ◌+◌, ◌≤◌, ◌==◌, if◌then◌else◌, List, [], ◌∷◌, ◌++◌, Option}
use Rattle.std.proofs.Common.{Some, None, inl, inr, ⊎_elim, sym, refl, ap, ◌∙◌}
use Rattle.std.proofs.Common.{subst, arith}
use Rattle.running_rows.specs.Table.{rest}
use Rattle.step_table.specs.declared.list_place.ListPlace.{ListPlace}
use Rattle.step_table.specs.declared.list_place.ListPlace.TheVariants.{Rest, NotifyingOne}
use Rattle.step_table.specs.declared.list_place.OneRow.TheVariants.{O3, O4, O5, O6, O7}
use Rattle.step_table.specs.declared.list_place.Ticket.{Ticket}
use Rattle.step_table.specs.ListWorld.{ListSeat, ListEntry, Granted}
use Rattle.step_table.specs.ListSteps.{with_ticket}
use Rattle.step_table.specs.Path.{GoesOn}
use Rattle.step_table.proofs.Paths.{goes_on_more}
use Rattle.step_law_lists.specs.ListLawful.{told}
use Rattle.step_law_lists.specs.ListCalls.{Concludes, one_locked}
use Rattle.running_rows.specs.Strides.{RanRow, here}
use Rattle.notify_list.specs.declared.view.Setting.{Setting}
use Rattle.notify_list.specs.Places.{at_place, is_free, waiting, locked, takes_lock, Begins, stands}
use Rattle.notify_list.specs.Rows.{list_rows}
use Rattle.notify_list.specs.Plays.{Me}
use Rattle.notify_list.specs.Seats.{ListModel, Token, list_of, seat_of, IsToken, IsSeat, seen_of, setting_of, stands_of}
use Rattle.notify_list.specs.Walks.{Walked, MayLock, Locked, HasRecord}
use Rattle.notify_list.specs.Calls.{Calls, ComesTo}
use Rattle.notify_list.specs.Notifying.{finds_none, finds_one, grants_it, EndsOne}
use Rattle.notify_list.specs.Granting.{MayGrant, GrantedOne, grant_rows}
use Rattle.notify_list.proofs.Keeping.{laws_of}
use Rattle.notify_list.proofs.Leading.{Ran, Led, led, ran_from, Gave, gave_from, if_equal, if_unequal}
use Rattle.notify_list.proofs.Walking.{walked_row, walked_on, walked_later, token_after, calls, comes_to}
use Rattle.notify_list.proofs.Looking.{seen_all}
use Rattle.notify_list.proofs.Recording.{record_kept}
use Rattle.notify_list.proofs.Resting.{empty_there, there_of}

module _ (s : Token) (n h : ℕ) (seat : IsSeat s n) (at : (stands_of s).place ≡ NotifyingOne h O3) where
  abbrev a : ListPlace → ListSeat
  a p = at_place p (stands_of s)

  -- a seat that holds no ticket goes to the lock by the row at which it stands
  waits_so : waiting (stands_of s) ≡ stands_of s
  waits_so = ap (λ (k : Option Ticket). with_ticket (stands_of s) k) seat.holds_none

  begun : waiting (stands_of s) ≡ a (NotifyingOne h O3)
  begun = waits_so ∙ (λ i. record (stands_of s) { place = at i })

  pub may_lock : (l : ListModel) → list_of s ≡ l → MayLock l s
  may_lock l own = record {
    list_is = own;
    begins = subst (Begins (stands_of s)) (sym waits_so) stands;
    takes = ap (λ (y : ListSeat). takes_lock y.place) begun;
    bare = seat.token_is.bare;
  }

  module _ (t : Token) (L : Locked s t) where
    w3 : Walked s (a (NotifyingOne h O3)) t (a (NotifyingOne h O4)) [] ((NotifyingOne h O3, 0) ∷ [])
    w3 = subst (λ (y : ListSeat). Walked s y t (at_place (locked y.place) y) [] ((y.place, 0) ∷ [])) begun L.walked

    pub stands4 : stands_of t ≡ at_place (NotifyingOne h O4) (stands_of s)
    stands4 = w3.stands_is

    -- O4
    module _ (u : Token) (ticket : ℕ) (r : RanRow list_rows here t.me ticket u.me) (same : u.table_id ≡ t.table_id) where
      row4 : Ran (a (NotifyingOne h O4)) t.me.0.own ticket u.me.0.own
      row4 = ran_from t u (a (NotifyingOne h O4)) ticket stands4 r

      d4 : Led (a (NotifyingOne h O4)) t.me.0.own ticket u.me.0.own row4.stride
      d4 = led (a (NotifyingOne h O4)) t.me.0.own u.me.0.own ticket row4

      pub w4 : Walked s (at_place (NotifyingOne h O3) (stands_of s)) u (at_place (NotifyingOne h (O5 ticket)) (stands_of s)) []
          ((NotifyingOne h O3, 0) ∷ (NotifyingOne h O4, ticket) ∷ [])
      w4 = walked_on s t u (a (NotifyingOne h O3)) (a (NotifyingOne h O4)) (a (NotifyingOne h (O5 ticket))) [] []
          ((NotifyingOne h O3, 0) ∷ []) ((NotifyingOne h O4, ticket) ∷ []) w3
          (walked_row t u (a (NotifyingOne h O4)) ticket (a (NotifyingOne h (O5 ticket))) [] row4 same d4.stands d4.told)

      record4 : HasRecord u
      record4 = record_kept t u L.record_is (ap (λ (m : Me). m.1) r.1) row4.same.1 (d4.guarded ∙ sym (d4.held refl))

      -- O5
      module _ (x : Token) (waited : ℕ) (q : RanRow list_rows here u.me waited x.me) (again : x.table_id ≡ u.table_id) where
        row5 : Ran (a (NotifyingOne h (O5 ticket))) u.me.0.own waited x.me.0.own
        row5 = ran_from u x (a (NotifyingOne h (O5 ticket))) waited w4.stands_is q

        d5 : Led (a (NotifyingOne h (O5 ticket))) u.me.0.own waited x.me.0.own row5.stride
        d5 = led (a (NotifyingOne h (O5 ticket))) u.me.0.own x.me.0.own waited row5

        abbrev rows5 : List (ListPlace × ℕ)
        rows5 = (NotifyingOne h O3, 0) ∷ (NotifyingOne h O4, ticket) ∷ (NotifyingOne h (O5 ticket), waited) ∷ []

        w5 : (p : ListPlace) → (if waited == ticket then NotifyingOne h O6 else NotifyingOne h (O7 ticket)) ≡ p
            → Walked s (a (NotifyingOne h O3)) x (a p) [] rows5
        w5 p e = walked_on s u x (a (NotifyingOne h O3)) (a (NotifyingOne h (O5 ticket))) (a p) [] []
            ((NotifyingOne h O3, 0) ∷ (NotifyingOne h O4, ticket) ∷ []) ((NotifyingOne h (O5 ticket), waited) ∷ []) w4
            (walked_row u x (a (NotifyingOne h (O5 ticket))) waited (a p) [] row5 again (d5.stands ∙ ap a e) d5.told)

        pub record5 : HasRecord x
        record5 = record_kept u x record4 (ap (λ (m : Me). m.1) q.1) row5.same.1 (d5.guarded ∙ sym (d5.held refl))

        equal5 : waited ≡ ticket → (if waited == ticket then NotifyingOne h O6 else NotifyingOne h (O7 ticket)) ≡ NotifyingOne h O6
        equal5 e = if_equal waited ticket (NotifyingOne h O6) (NotifyingOne h (O7 ticket)) e

        unequal5 : waited ≢ ticket → (if waited == ticket then NotifyingOne h O6 else NotifyingOne h (O7 ticket)) ≡ NotifyingOne h (O7 ticket)
        unequal5 ne = if_unequal waited ticket (NotifyingOne h O6) (NotifyingOne h (O7 ticket)) ne

        pub stands6 : waited ≡ ticket → stands_of x ≡ at_place (NotifyingOne h O6) (stands_of s)
        stands6 e = (w5 (NotifyingOne h O6) (equal5 e)).stands_is

        setting5 : setting_of x ≡ setting_of s
        setting5 = ap (λ (l : ListModel). l.setting) (w5 (if waited == ticket then NotifyingOne h O6 else NotifyingOne h (O7 ticket)) refl).list_is

        number5 : x.me.0.own.number ≡ s.me.0.own.number
        number5 = (w5 (if waited == ticket then NotifyingOne h O6 else NotifyingOne h (O7 ticket)) refl).number_is

        few5 : (setting_of x).seats ≤ 65536
        few5 = let e = ap (λ (z : Setting). z.seats) setting5 in let f = seat.token_is.few in omega arith

        -- O6, and the end
        module _ (z : Token) (equal : waited ≡ ticket) (p : Gave x z) (last : z.table_id ≡ x.table_id) where
          row6 : Ran (a (NotifyingOne h O6)) x.me.0.own 1 z.me.0.own
          row6 = gave_from x x z (a (NotifyingOne h O6)) refl (stands6 equal) refl few5 (λ g. refl) p

          d6 : Led (a (NotifyingOne h O6)) x.me.0.own 1 z.me.0.own row6.stride
          d6 = led (a (NotifyingOne h O6)) x.me.0.own z.me.0.own 1 row6

          w6 : Walked s (stands_of s) z (a Rest) [] (finds_none h ticket)
          w6 = subst (λ (y : ListSeat). Walked s y z (a Rest) [] (finds_none h ticket)) (λ i. record (stands_of s) { place = sym at i })
              (subst (λ k. Walked s (a (NotifyingOne h O3)) z (a Rest) []
              ((NotifyingOne h O3, 0) ∷ (NotifyingOne h O4, ticket) ∷ (NotifyingOne h (O5 ticket), k) ∷ (NotifyingOne h O6, 1) ∷ [])) equal
              (walked_on s x z (a (NotifyingOne h O3)) (a (NotifyingOne h O6)) (a Rest) [] [] rows5
              ((NotifyingOne h O6, 1) ∷ []) (w5 (NotifyingOne h O6) (equal5 equal))
              (walked_row x z (a (NotifyingOne h O6)) 1 (a Rest) [] row6 last d6.stands d6.told)))

          pub seat_none : IsSeat z n
          seat_none = record {
            token_is = token_after s z n (stands_of s) (a Rest) [] (finds_none h ticket) seat.token_is w6 (ap (λ (m : Me). m.1) p.3 ∙ ap rest record5.1);
            free = ap (λ (y : ListSeat). is_free y.place) w6.stands_is;
            holds_none = ap (λ (y : ListSeat). y.ticket) w6.stands_is ∙ seat.holds_none;
          }

          pub ends_none : EndsOne (seat_of s n) h None (seat_of z n)
          ends_none = (
            comes_to s z n (stands_of s) (a Rest) [] (finds_none h ticket) w6,
            (ticket, calls s z n (stands_of s) (a Rest) [] (finds_none h ticket) seat.token_is w6),
            (let laws = laws_of (setting_of x) d6.world d6.met in
                let c = laws.calls.notified x.me.0.own.number h row6.also.there
                (subst (λ (y : ListPlace). Concludes d6.world y h) (sym (ap (λ (y : ListSeat). y.place) d6.stood)) (one_locked h)) in
                subst (λ (l : List ListEntry). h ≤ (told l).passed) (sym (seen_all row6 d6 d6.told)) c),
          )

        -- the rows that grant, and the end
        module _ (unequal : waited ≢ ticket) where
          abbrev w7 : Walked s (at_place (NotifyingOne h O3) (stands_of s)) x (at_place (NotifyingOne h (O7 ticket)) (stands_of s)) [] rows5
          w7 = w5 (NotifyingOne h (O7 ticket)) (unequal5 unequal)

          pub may_grant : (l : ListModel) → list_of s ≡ l → MayGrant l x h ticket
          may_grant l own = record {
            list_is = w7.list_is ∙ own;
            there = let e = ap (λ (z : Setting). z.seats) setting5 in let i = number5 in let k = there_of s n seat.token_is in omega arith;
            few = few5;
            empty = ap (λ (y : ListSeat). y.hand) w7.stands_is ∙ empty_there s.me.0.own seat.token_is.lands
                (there_of s n seat.token_is) seat.token_is.few seat.free;
            at = ap (λ (y : ListSeat). y.place) w7.stands_is;
            lands = w7.lands;
            record_is = record5;
          }

          module _ (z : Token) (G : GrantedOne x h ticket z) where
            abbrev told9 : List ListEntry
            told9 = Granted ((told G.before).passed + 1) s.me.0.own.number ∷ []

            -- the rows before and those that granted
            whole : (rows : List (ListPlace × ℕ))
                → Walked x (stands_of x) z (at_place Rest (stands_of x)) (Granted ((told G.before).passed + 1) x.me.0.own.number ∷ []) rows
                → Walked s (stands_of s) z (a Rest) told9 (rows5 ++ rows)
            whole rows y = subst (λ (b : ListSeat). Walked s b z (a Rest) told9 (rows5 ++ rows)) (λ i. record (stands_of s) { place = sym at i })
                (walked_on s x z (a (NotifyingOne h O3)) (a (NotifyingOne h (O7 ticket))) (a Rest) [] told9 rows5 rows w7
                (subst (λ (b : ListSeat × ℕ). Walked x b.0 z (at_place Rest b.0) (Granted ((told G.before).passed + 1) b.1 ∷ []) rows)
                (λ i. (w7.stands_is i, number5 i)) y))

            either : (Walked s (stands_of s) z (a Rest) told9 (rows5 ++ grant_rows h ticket))
                ⊎ (Walked s (stands_of s) z (a Rest) told9 (rows5 ++ (grant_rows h ticket ++ grants_it h)))
            either = ⊎_elim (λ y. inl (whole (grant_rows h ticket) y)) (λ y. inr (whole (grant_rows h ticket ++ grants_it h) y)) G.walked

            abbrev ending : Type 0
            ending = (IsToken z n) × (stands_of z ≡ a Rest) × ComesTo (seat_of s n) (a Rest) (seat_of z n)
                × (Calls (seat_of s n) (stands_of s) (seat_of z n) told9 (finds_one h ticket waited)
                ⊎ Calls (seat_of s n) (stands_of s) (seat_of z n) told9 (finds_one h ticket waited ++ grants_it h))

            ends : ending
            ends = ⊎_elim
                (λ y. (
                  token_after s z n (stands_of s) (a Rest) told9 (finds_one h ticket waited) seat.token_is y G.bare,
                  y.stands_is,
                  comes_to s z n (stands_of s) (a Rest) told9 (finds_one h ticket waited) y,
                  inl (calls s z n (stands_of s) (a Rest) told9 (finds_one h ticket waited) seat.token_is y),
                ))
                (λ y. (
                  token_after s z n (stands_of s) (a Rest) told9 (finds_one h ticket waited ++ grants_it h) seat.token_is y G.bare,
                  y.stands_is,
                  comes_to s z n (stands_of s) (a Rest) told9 (finds_one h ticket waited ++ grants_it h) y,
                  inr (calls s z n (stands_of s) (a Rest) told9 (finds_one h ticket waited ++ grants_it h) seat.token_is y),
                ))
                either

            pub seat_some : IsSeat z n
            seat_some = record {
              token_is = ends.0;
              free = ap (λ (y : ListSeat). is_free y.place) ends.1;
              holds_none = ap (λ (y : ListSeat). y.ticket) ends.1 ∙ seat.holds_none;
            }

            pub ends_some : EndsOne (seat_of s n) h (Some ticket) (seat_of z n)
            ends_some = (
              ends.2,
              (
                waited,
                (told G.before).passed + 1,
                unequal,
                subst (λ i. Calls (seat_of s n) (stands_of s) (seat_of z n) (Granted ((told G.before).passed + 1) i ∷ []) (finds_one h ticket waited)
                    ⊎ Calls (seat_of s n) (stands_of s) (seat_of z n) (Granted ((told G.before).passed + 1) i ∷ [])
                    (finds_one h ticket waited ++ grants_it h))
                    seat.token_is.number_is ends.3,
              ),
              record {
                before = G.before;
                later =
                    goes_on_more (seen_of s) (seen_of x) G.before
                    (walked_later s x (a (NotifyingOne h O3)) (a (NotifyingOne h (O7 ticket))) [] rows5 w7) G.later;
                seen =
                    subst (λ i. GoesOn (seen_of z) (G.before ++ Granted ((told G.before).passed + 1) i ∷ [])) (number5 ∙ seat.token_is.number_is) G.seen;
                handed = G.handed;
                word_is = G.word_is ∙ ap (λ (z : Setting). Rattle.step_table.specs.Wrapping.word_of z.first (told G.before).passed) setting5;
              },
            )
