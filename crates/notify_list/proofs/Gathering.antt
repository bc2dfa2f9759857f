-- Seats that are gathered into one view, one after the other from the end of a row.
use Rattle.std.proofs.Common.{◌≡◌, ℕ, ◌+◌, ◌<◌, List, [], ◌∷◌, ◌++◌, length, slice_index, slice_index_or, length-append, zero, suc}
use Rattle.std.proofs.Common.{sym, refl, ap, ◌∙◌, subst}
use Rattle.std.proofs.Common.{arith, append-nil, append_assoc}
use Rattle.std.proofs.lemmas.List.{get_or-append-add}
use Rattle.std.specs.List.{All, remove}
use mathlib.Core.Option.{some, some-injective, some-ne-none}
use lib.ListN.{get_elem?}
use Rattle.running_rows.specs.Sitting.{sitting}
use Rattle.notify_list.specs.Plays.{Me, OneSeat}
use Rattle.notify_list.specs.Seats.{ListModel, SeatModel, Token, list_of, seat_of, IsSeat}
use Rattle.notify_list.specs.Closing.{IsSeatOf, AreSeatsOf}

-- of these seats those behind `now` sit with the token's own seat
pub record Gathered (l : ListModel) (items : List SeatModel) (first : OneSeat) (now : List SeatModel) (token : Token) : Type 0 where
  pub own : list_of token ≡ l
  pub view : token.me.0.own ≡ first
  pub gone : List SeatModel
  pub parts : items ≡ now ++ gone
  pub are : AreSeatsOf token.me.0.guests gone

pub none_gathered : (l : ListModel) (items : List SeatModel) (token : Token) → list_of token ≡ l → token.me.0.guests ≡ []
    → Gathered l items token.me.0.own items token
none_gathered l items token own alone = record {
  own = own;
  view = refl;
  gone = [];
  parts = sym (append-nil items);
  are = subst (λ (gs : List OneSeat). AreSeatsOf gs []) (sym alone) tt;
}

seat_is : (s : Token) (n : ℕ) → IsSeat s n → IsSeatOf s.me.0.own (seat_of s n)
seat_is s n is = record { number_is = is.token_is.number_is; free = is.free; holds_none = is.holds_none; seen = refl; went = refl }

seat_at : (s : Token) (n : ℕ) (seat : SeatModel) (g : OneSeat) → seat_of s n ≡ seat → IsSeat s n → s.me.0.own ≡ g
    → IsSeatOf g seat
seat_at s n seat g seen is at = subst (λ (q : OneSeat × SeatModel). IsSeatOf q.0 q.1) (λ i. (at i, seen i)) (seat_is s n is)

pub one_gathered : (l : ListModel) (items : List SeatModel) (first : OneSeat) (now rest : List SeatModel) (token after : Token)
    (seat : SeatModel) (s o : Token) (n : ℕ)
    → Gathered l items first now token → now ≡ rest ++ seat ∷ [] → seat_of s n ≡ seat → IsSeat s n → o.me.0.own ≡ s.me.0.own
    → after.table_id ≡ token.table_id → after.me ≡ (sitting token.me.0 o.me.0, token.me.1)
    → Gathered l items first rest after
one_gathered l items first now rest token after seat s o n x last seen is alike same joined = record {
  own = (λ i. record { id = same i; setting = (joined i).0.own.knows.setting }) ∙ x.own;
  view = ap (λ (m : Me). m.0.own) joined ∙ x.view;
  gone = seat ∷ x.gone;
  parts = x.parts ∙ ap (λ k. k ++ x.gone) last ∙ append_assoc rest (seat ∷ []) x.gone;
  are = subst (λ (gs : List OneSeat). AreSeatsOf gs (seat ∷ x.gone)) (sym (ap (λ (m : Me). m.0.guests) joined))
      (seat_at s n seat o.me.0.own seen is (sym alike), x.are);
}

-- the first of a row, and the rest
pub first_and_rest : (items rest : List SeatModel) (first : SeatModel) → 0 < length items → first ≡ slice_index_or items 0 first
    → rest ≡ remove items 0 → items ≡ first ∷ rest
first_and_rest [] rest first any is left = absurd (omega arith)
first_and_rest (x ∷ items) rest first any is left = λ i. sym is i ∷ sym left i

-- the seat at the end of a row is of the list that all are of
pub popped_own : (l : ListModel) (items now gone rest : List SeatModel) (seat : SeatModel) → All (λ s. s.list ≡ l) items
    → items ≡ now ++ gone → now ≡ rest ++ seat ∷ [] → seat.list ≡ l
popped_own l items now gone rest seat all parts last =
    subst (λ (s : SeatModel). s.list ≡ l) (get_or-append-add rest (seat ∷ gone) 0 seat)
    ((subst (All (λ s. s.list ≡ l)) (parts ∙ ap (λ k. k ++ gone) last
    ∙ append_assoc rest (seat ∷ []) gone) all) (length rest + 0) seat (let n = length-append rest (seat ∷ gone) in omega arith))

-- what stands at a place of a list
pub read_at : (l : List ℕ) (i a : ℕ) → get_elem? l i ≡ some a → a ≡ slice_index l i
read_at [] i a e = absurd (some-ne-none a (sym e))
read_at (x ∷ l) zero a e = sym (some-injective x a e)
read_at (x ∷ l) (suc i) a e = read_at l i a e
