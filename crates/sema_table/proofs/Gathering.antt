-- Seats that are gathered into one view, one after the other from the end of a row.
use Rattle.std.proofs.Common.{◌≡◌, ℕ, ◌+◌, ◌-◌, ◌*◌, ◌^◌, ◌<◌, ◌≤◌, List, [], ◌∷◌, ◌++◌, length, slice_index, slice_index_or}
use Rattle.std.proofs.Common.{length-append, zero, suc, sym, refl}
use Rattle.std.proofs.Common.{ap, ◌∙◌, subst, arith, append-nil, append_assoc}
use Rattle.std.proofs.lemmas.List.{get_or-append-add}
use Rattle.std.specs.List.{All, remove}
use mathlib.Core.Option.{some, some-injective, some-ne-none}
use lib.ListN.{get_elem?}
use Rattle.running_rows.specs.Sitting.{sitting}
use Rattle.sema_table.specs.Rows.{SemaSeat}
use Rattle.sema_table.specs.declared.seat.Numbers.{Numbers}
use Rattle.sema_table.specs.Rows.{Me}
use Rattle.sema_table.specs.Seats.{TableModel, SeatModel, Token, table_of, seat_of, IsSeat}
use Rattle.sema_table.specs.Closing.{sum_by, has_added, was_given, IsOfSeat, AreOfSeats}
use Rattle.step_law_semaphores.specs.Balances.{added_by}
use Rattle.sema_table.proofs.Reckoning.{seat_is}

-- of these seats those behind `now` sit with the token's own seat: with its counts, they have added and were given so many units
pub record Gathered (t : TableModel) (items : List SeatModel) (own_seat : SemaSeat) (now : List SeatModel) (token : Token)
    (added_first given_first releases acquires : ℕ) : Type 0 where
  pub own : table_of token ≡ t
  pub view : token.me.0.own ≡ own_seat
  pub gone : List SeatModel
  pub parts : items ≡ now ++ gone
  pub are : AreOfSeats t.setting token.me.0.guests gone
  pub added : releases ≡ added_first + sum_by has_added gone
  pub given : acquires ≡ given_first + sum_by was_given gone
  pub few_added : releases ≤ (length gone + 1) * t.setting.limit
  pub few_given : acquires ≤ (length gone + 1) * (2 ^ 62 + 2 ^ 48)

pub none_gathered : (t : TableModel) (items : List SeatModel) (token : Token) (added given : ℕ) → table_of token ≡ t → token.me.0.guests ≡ []
    → added ≤ t.setting.limit → given ≤ 2 ^ 62 + 2 ^ 48
    → Gathered t items token.me.0.own items token added given added given
none_gathered t items token added given own alone few most = record {
  own = own;
  view = refl;
  gone = [];
  parts = sym (append-nil items);
  are = subst (λ (l : List SemaSeat). AreOfSeats t.setting l []) (sym alone) tt;
  added = omega arith;
  given = omega arith;
  few_added = omega arith;
  few_given = omega arith;
}

-- what a view has of a seat of this table
of_table : (t : TableModel) (s : Token) (n : Numbers) (seat : SeatModel) (g : SemaSeat) → seat_of s n ≡ seat → IsSeat s n → table_of s ≡ t
    → s.me.0.own ≡ g → IsOfSeat t.setting g seat
of_table t s n seat g seen is own at =
    subst (λ (q : TableModel × (SemaSeat × SeatModel)). IsOfSeat q.0.setting q.1.0 q.1.1) (λ i. (own i, (at i, seen i))) (seat_is s n is)

-- what it has added
pub added_is : (t : TableModel) (s : Token) (n : Numbers) (seat : SeatModel) (limit : ℕ) → seat_of s n ≡ seat → IsSeat s n → table_of s ≡ t
    → limit ≡ t.setting.limit → limit - n.left - n.withdrawn ≡ has_added seat
added_is t s n seat limit seen is own limited =
    let l = is.token_is.left_is in let w = is.token_is.withdrawn_is in let z = ap (λ (y : TableModel). y.setting.limit) own in
    let k : added_by s.me.0.own.number s.me.0.own.knows.seen ≡ has_added seat = ap (λ i. added_by i s.me.0.own.knows.seen) is.token_is.number_is ∙ ap has_added seen in
    omega (arith, limited, k)

pub one_gathered : (t : TableModel) (items : List SeatModel) (own_seat : SemaSeat) (now rest : List SeatModel) (token after : Token)
    (added_first given_first releases acquires limit : ℕ) (seat : SeatModel) (s : Token) (n : Numbers)
    → Gathered t items own_seat now token added_first given_first releases acquires → now ≡ rest ++ seat ∷ [] → seat_of s n ≡ seat → IsSeat s n
    → table_of s ≡ t → limit ≡ t.setting.limit
    → after.table_id ≡ token.table_id → after.me ≡ (sitting token.me.0 s.me.0, token.me.1)
    → Gathered t items own_seat rest after added_first given_first (releases + (limit - n.left - n.withdrawn)) (acquires + n.taken)
one_gathered t items own_seat now rest token after added_first given_first releases acquires limit seat s n x last seen is own limited same joined =
    record {
      own = (λ i. record { id = same i; setting = (joined i).0.own.knows.setting }) ∙ x.own;
      view = ap (λ (m : Me). m.0.own) joined ∙ x.view;
      gone = seat ∷ x.gone;
      parts = x.parts ∙ ap (λ l. l ++ x.gone) last ∙ append_assoc rest (seat ∷ []) x.gone;
      are = subst (λ (l : List SemaSeat). AreOfSeats t.setting l (seat ∷ x.gone)) (sym (ap (λ (m : Me). m.0.guests) joined))
          (of_table t s n seat s.me.0.own seen is own refl, x.are);
      added = let a = x.added in let h = added_is t s n seat limit seen is own limited in omega arith;
      given = let a = x.given in let l = ap (λ (y : SeatModel). y.taken) seen in omega arith;
      few_added = let a = x.few_added in omega arith;
      few_given = let a = x.few_given in let m = is.token_is.most in omega arith;
    }

-- the first of a row, and the rest
pub first_and_rest : (items rest : List SeatModel) (first : SeatModel) → 0 < length items → first ≡ slice_index_or items 0 first
    → rest ≡ remove items 0 → items ≡ first ∷ rest
first_and_rest [] rest first any is left = absurd (omega arith)
first_and_rest (x ∷ items) rest first any is left = λ i. sym is i ∷ sym left i

-- the seat at the end of a row is of the table that all are of
pub popped_own : (t : TableModel) (items now gone rest : List SeatModel) (seat : SeatModel) → All (λ s. s.table ≡ t) items → items ≡ now ++ gone
    → now ≡ rest ++ seat ∷ [] → seat.table ≡ t
popped_own t items now gone rest seat all parts last =
    subst (λ (s : SeatModel). s.table ≡ t) (get_or-append-add rest (seat ∷ gone) 0 seat)
    ((subst (All (λ s. s.table ≡ t)) (parts ∙ ap (λ l. l ++ gone) last ∙ append_assoc rest (seat ∷ []) gone) all) (length rest + 0) seat
    (let n = length-append rest (seat ∷ gone) in omega arith))

-- what stands at a place of a list
pub read_at : (l : List ℕ) (i a : ℕ) → get_elem? l i ≡ some a → a ≡ slice_index l i
read_at [] i a e = absurd (some-ne-none a (sym e))
read_at (x ∷ l) zero a e = sym (some-injective x a e)
read_at (x ∷ l) (suc i) a e = read_at l i a e
