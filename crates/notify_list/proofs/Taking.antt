-- What a seat has that took a ticket.
use Rattle.std.proofs.Common.{◌≡◌, ℕ, ◌+◌, ◌<◌, ◌%◌, ◌^◌, [], ◌∷◌, ◌++◌, Some, sym, refl, ap, ◌∙◌, subst, arith}
use Rattle.step_table.specs.declared.list_place.ListPlace.TheVariants.{Adding}
use Rattle.step_table.specs.declared.list_place.Ticket.{Ticket}
use Rattle.step_table.specs.Wrapping.{word_of, next_word}
use Rattle.step_table.specs.ListWorld.{Numbers, ListSeat, Took}
use Rattle.step_law_lists.specs.ListLawful.{told}
use Rattle.step_law_lists.specs.ListPath.{ListSight}
use Rattle.step_law_lists.specs.ListPlaces.{ReachedList}
use Rattle.running_rows.specs.Strides.{RanRow}
use Rattle.running_rows.proofs.Telling.{went_from}
use Rattle.notify_list.specs.Places.{at_place}
use Rattle.notify_list.specs.Rows.{list_rows}
use Rattle.notify_list.specs.Plays.{Me, standing, at_ticket}
use Rattle.notify_list.specs.Seats.{Token, seat_of, IsToken, IsSeat, IsHolding, setting_of, stands_of}
use Rattle.notify_list.specs.Walks.{Walked}
use Rattle.notify_list.specs.Tickets.{with_held, IsAdded, HasTicket}
use Rattle.notify_list.proofs.Keeping.{laws_of}
use Rattle.notify_list.proofs.Leading.{Ran, Led, led}
use Rattle.notify_list.proofs.Walking.{walked_row, token_after, calls, comes_to}

pub next_is : (n : ℕ) → (n + 1) % 2 ^ 64 ≡ next_word n
unfolding next_word
next_is n = refl

-- N1
module _ (s t : Token) (n word : ℕ) (seat : IsSeat s n) (x : RanRow list_rows at_ticket s.me word t.me) (same : t.table_id ≡ s.table_id) where
  r : Ran (at_place Adding (stands_of s)) s.me.0.own word t.me.0.own
  r = went_from list_rows at_ticket (standing (at_place Adding (stands_of s))) s.me.0.own t.me.0.own word refl x.0

  d : Led (at_place Adding (stands_of s)) s.me.0.own word t.me.0.own r.stride
  d = led (at_place Adding (stands_of s)) s.me.0.own t.me.0.own word r

  abbrev ticket : Ticket
  ticket = record { word = word; number = d.world.words.numbers.handed }

  abbrev walked : Walked s (at_place Adding (stands_of s)) t (with_held ticket (stands_of s)) (Took s.me.0.own.number ∷ []) ((Adding, word) ∷ [])
  walked = walked_row s t (at_place Adding (stands_of s)) word (with_held ticket (stands_of s)) (Took s.me.0.own.number ∷ []) r same d.stands d.told

  laws : ReachedList (setting_of s).first (setting_of s).seats d.world
  laws = laws_of (setting_of s) d.world d.met

  pub added : IsAdded (seat_of s n) (seat_of t n)
  added = subst (λ k. IsAdded (record (seat_of s n) { number = k }) (record (seat_of t n) { number = k })) seat.token_is.number_is (record {
    ticket = ticket;
    comes = let c = comes_to s t s.me.0.own.number (at_place Adding (stands_of s)) (with_held ticket (stands_of s))
        (Took s.me.0.own.number ∷ []) ((Adding, word) ∷ []) walked in c;
    call = calls s t s.me.0.own.number (at_place Adding (stands_of s)) (with_held ticket (stands_of s)) (Took s.me.0.own.number ∷ [])
        ((Adding, word) ∷ []) own_token walked;
    next = record {
      before = r.stride.seen;
      seen_is = d.seen ∙ ap (λ l. r.stride.seen ++ l) d.told;
      number_is = ap (λ (x : Numbers). x.handed) (numbers_are ∙ ap told (sym d.seen_is));
      word_is = d.read ∙ laws.lawful.journal.1 ∙ ap (λ (x : Numbers). word_of (setting_of s).first x.handed) (sym numbers_are);
    };
  })
    where
      own_token : IsToken s s.me.0.own.number
      own_token = subst (IsToken s) (sym seat.token_is.number_is) seat.token_is

      numbers_are : d.world.words.numbers ≡ told d.world.journal
      numbers_are = laws.invariant.numbers

  pub holding : IsHolding t n word
  holding = record {
    token_is = token_after s t n (at_place Adding (stands_of s)) (with_held ticket (stands_of s)) (Took s.me.0.own.number ∷ []) ((Adding, word) ∷ [])
        seat.token_is walked (ap (λ (m : Me). m.1) x.1 ∙ seat.token_is.bare);
    rests = ap (λ (a : ListSeat). a.place) walked.stands_is;
    ticket = ticket;
    held = ap (λ (a : ListSeat). a.ticket) walked.stands_is;
    word_is = refl;
  }

-- the ticket that a seat holds
pub has_ticket : (t : Token) (n word : ℕ) → IsHolding t n word → HasTicket (seat_of t n) word
has_ticket t n word x =
    let L = x.token_is.lands in
    let laws = laws_of (setting_of t) L.world L.met in
    let there : t.me.0.own.number < (setting_of t).seats = (let a = x.token_is.number_is in let b = x.token_is.there in omega arith) in
    let held : (L.world.seats t.me.0.own.number).ticket ≡ Some x.ticket = ap (λ (v : ListSight). v.stands.ticket) (sym L.sees) ∙ x.held in
    let H = laws.lawful.held t.me.0.own.number x.ticket there held in record {
      ticket = x.ticket;
      held = x.held;
      word_is = sym x.word_is;
      shown = sym x.word_is ∙ H.0;
      handed = subst (λ (v : ListSight). x.ticket.number < (told v.seen).handed) (sym L.sees) H.1;
    }
