-- Rows one after the other, and what they leave of a token.
use Rattle.std.proofs.Common.{◌≡◌, ℕ, List, [], ◌∷◌, ◌++◌, sym, refl, ap, ◌∙◌, subst, arith, append-nil, append_assoc}
use Rattle.std.proofs.lemmas.List.{map-append}
use Rattle.std.proofs.lemmas.List.Elements.{All-nil, All-cons, All-append}
use Rattle.step_table.specs.declared.list_place.ListPlace.{ListPlace}
use Rattle.step_table.specs.ListWorld.{ListSeat, ListEntry}
use Rattle.step_table.specs.Path.{GoesOn, runs, all_told}
use Rattle.step_table.proofs.Paths.{goes_on_more, goes_on_here, stride_told, stride_later}
use Rattle.step_law_lists.specs.ListPath.{ListSight, ListStride, ListPath, notify_list}
use Rattle.step_law_lists.proofs.ListPaths.{the_list_paths}
use Rattle.step_law_lists.specs.ListLawful.{IsInReach}
use Rattle.notify_list.specs.declared.view.Known.{Known}
use Rattle.notify_list.specs.declared.view.Setting.{Setting}
use Rattle.notify_list.specs.Rule.{Lands}
use Rattle.notify_list.specs.Seats.{ListModel, SeatModel, Token, seat_of, IsToken, seen_of, setting_of, stands_of}
use Rattle.notify_list.specs.Walks.{Walked}
use Rattle.notify_list.specs.Calls.{TellsIn, Calls, ComesTo, AreRows, rows_of}
use Rattle.notify_list.proofs.Leading.{Ran}

told_append : (a b : List ListStride) → all_told (a ++ b) ≡ all_told a ++ all_told b
told_append [] b = refl
told_append (p ∷ a) b = ap (λ l. p.told ++ l) (told_append a b) ∙ sym (append_assoc p.told (all_told a) (all_told b))

rows_append : (a b : List ListStride) → rows_of (a ++ b) ≡ rows_of a ++ rows_of b
rows_append a b = map-append (λ (p : ListStride). (p.stood.place, p.read)) a b

ran_append : (a b : List ListStride) → AreRows a → AreRows b → AreRows (a ++ b)
ran_append a b = All-append (λ (p : ListStride). p.deed ≡ runs) a b

-- one row
pub walked_row : (s t : Token) (from : ListSeat) (n : ℕ) (stands : ListSeat) (entries : List ListEntry) (r : Ran from s.me.0.own n t.me.0.own)
    → t.table_id ≡ s.table_id
    → stands_of t ≡ stands → r.stride.told ≡ entries → Walked s from t stands entries ((from.place, n) ∷ [])
walked_row s t from n stands entries r same at told = record {
  list_is = λ i. record { id = same i; setting = r.same.1 i };
  number_is = r.same.0;
  stands_is = at;
  lands = subst (λ k. Lands k t.me.0.own.knows) (sym r.same.0) r.also.lands;
  strides = r.stride ∷ [];
  path = ((the_list_paths.paths (setting_of s).first (setting_of s).seats).single s.me.0.own.number (record { stands = from; seen = seen_of s })
      t.me.0.own.knows.sight r.stride).0 r.ran;
  ran = let row = λ (p : ListStride). p.deed ≡ runs in All-cons row r.stride [] r.did (All-nil row);
  rows_are = λ i. ((r.ran.stood i).place, r.read i) ∷ [];
  told_is = append-nil r.stride.told ∙ told;
  all = r.one;
}

-- rows after rows
pub walked_on : (s t u : Token) (from a b : ListSeat) (told more : List ListEntry) (rows others : List (ListPlace × ℕ))
    → Walked s from t a told rows → Walked t a u b more others
    → Walked s from u b (told ++ more) (rows ++ others)
walked_on s t u from a b told more rows others x y = record {
  list_is = y.list_is ∙ x.list_is;
  number_is = y.number_is ∙ x.number_is;
  stands_is = y.stands_is;
  lands = y.lands;
  strides = x.strides ++ y.strides;
  path = (the_list_paths.paths (setting_of s).first (setting_of s).seats).joined s.me.0.own.number (record { stands = from; seen = seen_of s })
      t.me.0.own.knows.sight u.me.0.own.knows.sight x.strides y.strides x.path
      (subst (λ (q : Setting × (ℕ × ListSight)). ListPath q.0.first q.0.seats q.1.0 q.1.1 y.strides u.me.0.own.knows.sight)
      (λ i. ((x.list_is i).setting, (x.number_is i, record { stands = sym x.stands_is i; seen = seen_of t }))) y.path);
  ran = ran_append x.strides y.strides x.ran y.ran;
  rows_are = rows_append x.strides y.strides ∙ (λ i. x.rows_are i ++ y.rows_are i);
  told_is = told_append x.strides y.strides ∙ (λ i. x.told_is i ++ y.told_is i);
  all = y.all ∙ ap (λ l. l ++ y.strides) x.all ∙ append_assoc s.me.0.own.gone x.strides y.strides;
}

-- the same rows, told of otherwise
pub walked_so : (s t : Token) (from a b : ListSeat) (told : List ListEntry) (rows : List (ListPlace × ℕ)) → Walked s from t a told rows
    → a ≡ b → Walked s from t b told rows
walked_so s t from a b told rows x e = subst (λ (y : ListSeat). Walked s from t y told rows) e x

-- a token after rows
pub token_after : (s t : Token) (n : ℕ) (from a : ListSeat) (told : List ListEntry) (rows : List (ListPlace × ℕ)) → IsToken s n
    → Walked s from t a told rows → t.me.1 ≡ [] → IsToken t n
token_after s t n from a told rows is x bare = record {
  bare = bare;
  number_is = x.number_is ∙ is.number_is;
  there = let q = ap (λ (y : ListModel). y.setting.seats) x.list_is in let h = is.there in omega arith;
  few = let q = ap (λ (y : ListModel). y.setting.seats) x.list_is in let h = is.few in omega arith;
  lands = x.lands;
}

pub tells_later : (a b told now : List ListEntry) → GoesOn b a → TellsIn b told now → TellsIn a told now
tells_later a b [] now later tells = goes_on_more a b now later tells
tells_later a b (e ∷ told) now later tells =
    (later.more ++ tells.0, subst (λ l. TellsIn (l ++ e ∷ []) told now) (ap (λ l. l ++ tells.0) later.is ∙ append_assoc a later.more tells.0) tells.1)

tells_first : (seen told rest now : List ListEntry) → TellsIn (seen ++ told) rest now → TellsIn seen (told ++ rest) now
tells_first seen [] rest now tells = subst (λ l. TellsIn l rest now) (append-nil seen) tells
tells_first seen (e ∷ told) rest now tells = (
  [],
  tells_first ((seen ++ []) ++ e ∷ []) told rest now
      (subst (λ l. TellsIn l rest now) (sym (append_assoc seen (e ∷ []) told) ∙ ap (λ l. (l ++ e ∷ []) ++ told) (sym (append-nil seen))) tells),
)

pub path_tells : (first seats i : ℕ) (v w : ListSight) (strides : List ListStride) → ListPath first seats i v strides w
    → TellsIn v.seen (all_told strides) w.seen
path_tells first seats i v w [] path = subst (λ (x : ListSight). GoesOn x.seen v.seen) (sym path) (goes_on_here v.seen)
path_tells first seats i v w (p ∷ strides) path =
    tells_later v.seen p.seen (p.told ++ all_told strides) w.seen (stride_later (notify_list first seats) i v path.0 p path.1)
    (tells_first p.seen p.told (all_told strides) w.seen
    (subst (λ l. TellsIn l (all_told strides) w.seen) (stride_told (notify_list first seats) i v path.0 p path.1)
    (path_tells first seats i path.0 w strides path.2)))

-- of what a seat has seen the laws speak
pub reach_there : (i : ℕ) (v : Known) → Lands i v → IsInReach v.sight.seen
reach_there i v L = subst (λ (y : ListSight). IsInReach y.seen) (sym L.sees) L.met.reach

-- what a caller reads of the rows
pub calls : (s t : Token) (n : ℕ) (from a : ListSeat) (told : List ListEntry) (rows : List (ListPlace × ℕ)) → IsToken s n → Walked s from t a told rows
    → Calls (seat_of s n) from (seat_of t n) told rows
calls s t n from a told rows is x = subst (λ i. Calls (record (seat_of s n) { number = i }) from (seat_of t n) told rows) is.number_is (record {
  strides = x.strides;
  path = x.path;
  ran = x.ran;
  rows_are = x.rows_are;
  told_is = x.told_is;
  all = x.all;
  seen = subst (λ l. TellsIn (seen_of s) l (seen_of t)) x.told_is
      (path_tells (setting_of s).first (setting_of s).seats s.me.0.own.number (record { stands = from; seen = seen_of s })
      t.me.0.own.knows.sight x.strides x.path);
  reach = reach_there t.me.0.own.number t.me.0.own.knows x.lands;
})

pub comes_to : (s t : Token) (n : ℕ) (from a : ListSeat) (told : List ListEntry) (rows : List (ListPlace × ℕ)) → Walked s from t a told rows
    → ComesTo (seat_of s n) a (seat_of t n)
comes_to s t n from a told rows x = record {
  same = λ i. record { list = x.list_is i; number = n; sight = t.me.0.own.knows.sight; strides = t.me.0.own.gone };
  stands_is = x.stands_is;
}

-- what was seen at first is seen still
pub walked_later : (s t : Token) (from a : ListSeat) (told : List ListEntry) (rows : List (ListPlace × ℕ))
    → Walked s from t a told rows → GoesOn (seen_of t) (seen_of s)
walked_later s t from a told rows x = (the_list_paths.paths (setting_of s).first (setting_of s).seats).grows s.me.0.own.number
    (record { stands = from; seen = seen_of s }) t.me.0.own.knows.sight x.strides x.path

-- a call after a call
pub calls_then : (s u t : SeatModel) (begun : ListSeat) (told more : List ListEntry) (rows others : List (ListPlace × ℕ))
    → u ≡ record s { sight = u.sight; strides = u.strides }
    → Calls s begun u told rows → Calls u u.sight.stands t more others → Calls s begun t (told ++ more) (rows ++ others)
calls_then s u t begun told more rows others same x y =
    let first : ℕ = s.list.setting.first in let seats : ℕ = s.list.setting.seats in
    let path : ListPath first seats s.number (record { stands = begun; seen = s.sight.seen }) (x.strides ++ y.strides) t.sight
    = (the_list_paths.paths first seats).joined s.number (record { stands = begun; seen = s.sight.seen }) u.sight t.sight x.strides y.strides x.path
    (subst (λ (q : SeatModel). ListPath q.list.setting.first q.list.setting.seats q.number u.sight y.strides t.sight) same y.path) in
    record {
      strides = x.strides ++ y.strides;
      path = path;
      ran = ran_append x.strides y.strides x.ran y.ran;
      rows_are = rows_append x.strides y.strides ∙ (λ i. x.rows_are i ++ y.rows_are i);
      told_is = told_append x.strides y.strides ∙ (λ i. x.told_is i ++ y.told_is i);
      all = y.all ∙ ap (λ l. l ++ y.strides) x.all ∙ append_assoc s.strides x.strides y.strides;
      seen = subst (λ l. TellsIn s.sight.seen l t.sight.seen) (told_append x.strides y.strides ∙ (λ i. x.told_is i ++ y.told_is i))
          (path_tells first seats s.number (record { stands = begun; seen = s.sight.seen }) t.sight (x.strides ++ y.strides) path);
      reach = y.reach;
    }
