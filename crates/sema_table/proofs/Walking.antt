-- Rows one after the other, and what they leave of a token.
use Rattle.std.proofs.Common.{◌≡◌, ℕ, ◌+◌, ◌^◌, ◌≤◌, true, false, List, [], ◌∷◌, ◌++◌, sym, refl, ap, ◌∙◌, subst, arith}
use Rattle.std.proofs.Common.{append-nil, append_assoc}
use Rattle.std.proofs.lemmas.List.Elements.{All-nil, All-cons, All-append}
use Rattle.step_table.specs.declared.entry.Entry.{Entry}
use Rattle.step_table.specs.declared.place.Place.{Place}
use Rattle.step_table.specs.declared.word.Word.{Word}
use Rattle.step_table.specs.Event.{Next}
use Rattle.step_table.specs.World.{SeatState, seat_after}
use Rattle.step_table.specs.Counting.{counter_at}
use Rattle.step_table.specs.Journal.{takes}
use Rattle.step_table.specs.Path.{Deed, runs, all_told, own_entries}
use Rattle.step_law_semaphores.specs.Balances.{withdrawn_by}
use Rattle.step_law_semaphores.specs.Served.{gains}
use Rattle.step_law_semaphores.specs.SemaPath.{SemaSight, SemaStride, SemaPath, placed, semaphores, entries_of}
use Rattle.step_law_semaphores.proofs.SemaPaths.{the_sema_paths}
use Rattle.step_law_semaphores.proofs.Telling.{count_append}
use Rattle.sema_table.specs.declared.view.Setting.{Setting}
use Rattle.sema_table.specs.Setting.{layout}
use Rattle.sema_table.specs.Changes.{spent_by}
use Rattle.sema_table.specs.Places.{is_free}
use Rattle.sema_table.specs.Rule.{stands_by, sight_by}
use Rattle.sema_table.specs.Rows.{SemaView, gains_by}
use Rattle.sema_table.specs.Starts.{begin}
use Rattle.running_rows.specs.Strides.{here}
use Rattle.sema_table.proofs.Striding.{Strode, Ran, ran_at}
use Rattle.sema_table.specs.declared.seat.Numbers.{Numbers}
use Rattle.sema_table.specs.Seats.{TableModel, Token, IsToken}
use Rattle.sema_table.specs.Strides.{IsRow}
use Rattle.sema_table.specs.Walks.{Stands, Went, Walked, moved_to}
use Rattle.sema_table.proofs.Leading.{Goes}
use Rattle.sema_table.proofs.Resting.{not_both}
use Rattle.sema_table.proofs.Spending.{CountsOwn, withdrawn_own, spent_own, own_only}

pub told_append : (a b : List SemaStride) → all_told (a ++ b) ≡ all_told a ++ all_told b
told_append [] b = refl
told_append (p ∷ a) b = ap (λ l. p.told ++ l) (told_append a b) ∙ sym (append_assoc p.told (all_told a) (all_told b))

-- one stride, from this place
abbrev pub walked_by : (s t : Token) (from : Place) (deed : Deed Word) (n : ℕ) (stands : SeatState) (told : List Entry) (gained : ℕ)
    → (r : Strode (begin from) deed s.me.0.own n t.me.0.own)
    → gains_by deed from stands.place ≡ gained → t.table_id ≡ s.table_id → stands_by t.me.0.own.knows ≡ stands → r.stride.told ≡ told
    → Went (λ p. p.deed ≡ deed) s from t stands told gained
walked_by s t from deed n stands told gained r come same at entries = record {
  table_is = λ i. record { id = same i; setting = r.same.1 i };
  number_is = r.same.0;
  stands_is = at;
  few = r.also.few;
  came = r.also.came ∙ (λ i. s.me.0.own.knows.taken + gains_by (r.did i) from (at i).place) ∙ ap (λ k. s.me.0.own.knows.taken + k) come;
  most = r.also.most;
  counted = λ free. ap (λ k. takes k t.me.0.own.knows.seen) r.same.0 ∙ r.also.counted (ap (λ (q : SeatState). is_free q.place) at ∙ free);
  strides = r.stride ∷ [];
  each = All-cons (λ (p : SemaStride). p.deed ≡ deed) r.stride [] r.did (All-nil (λ (p : SemaStride). p.deed ≡ deed));
  path = ((the_sema_paths.paths (layout s.me.0.own.knows.setting)).single s.me.0.own.number (placed from (sight_by s.me.0.own.knows))
      (sight_by t.me.0.own.knows) r.stride).0 r.ran;
  all = r.one;
  told_is = append-nil r.stride.told ∙ entries;
}

-- one row that went on so
abbrev pub walked_row : (s t : Token) (from : Place) (n : ℕ) (next : Next) (r : Ran (begin from) s.me.0.own n t.me.0.own)
    → Goes s.me.0.own r.stride next t.me.0.own
    → t.table_id ≡ s.table_id → Walked s from t (seat_after next.1 next.0 (stands_by s.me.0.own.knows)) (entries_of next.1) (gains from next.0)
walked_row s t from n next r g same =
    walked_by s t from runs n (seat_after next.1 next.0 (stands_by s.me.0.own.knows)) (entries_of next.1) (gains from next.0) r refl same g.stands g.told

-- no row
abbrev pub walked_none : (s : Token) (from : Place) → s.me.0.own.knows.place ≡ from → s.me.0.own.knows.turn ≤ 2 ^ 62 + 2 ^ 16
    → s.me.0.own.knows.taken ≤ 2 ^ 62 + 2 ^ 48 → (is_free s.me.0.own.knows.place ≡ true → takes s.me.0.own.number s.me.0.own.knows.seen
    ≡ s.me.0.own.knows.taken) → Walked s from s (stands_by s.me.0.own.knows) [] 0
walked_none s from at few most counted = record {
  table_is = refl;
  number_is = refl;
  stands_is = refl;
  few = few;
  came = omega arith;
  most = most;
  counted = counted;
  strides = [];
  each = All-nil IsRow;
  all = sym (append-nil s.me.0.own.gone);
  path = λ i. record { stands = record (stands_by s.me.0.own.knows) { place = at i }; seen = s.me.0.own.knows.seen };
  told_is = refl;
}

-- rows after rows
abbrev pub walked_on : (s t u : Token) (from : Place) (a b : SeatState) (told more : List Entry) (j k : ℕ) → Walked s from t a told j
    → Walked t a.place u b more k → Walked s from u b (told ++ more) (j + k)
walked_on s t u from a b told more j k x y = record {
  table_is = y.table_is ∙ x.table_is;
  number_is = y.number_is ∙ x.number_is;
  stands_is = y.stands_is;
  few = y.few;
  came = let c = x.came in let d = y.came in omega arith;
  most = y.most;
  counted = y.counted;
  strides = x.strides ++ y.strides;
  each = All-append IsRow x.strides y.strides x.each y.each;
  path = (the_sema_paths.paths (layout s.me.0.own.knows.setting)).joined s.me.0.own.number (placed from (sight_by s.me.0.own.knows)) (sight_by t.me.0.own.knows)
      (sight_by u.me.0.own.knows) x.strides y.strides x.path
      (subst (λ (q : Setting × (ℕ × SemaSight)). SemaPath (layout q.0) q.1.0 q.1.1 y.strides (sight_by u.me.0.own.knows))
      (λ i. ((x.table_is i).setting, (x.number_is i, record { stands = stays i; seen = t.me.0.own.knows.seen })))
      y.path);
  all = y.all ∙ ap (λ l. l ++ y.strides) x.all ∙ append_assoc s.me.0.own.gone x.strides y.strides;
  told_is = told_append x.strides y.strides ∙ (λ i. x.told_is i ++ y.told_is i);
}
  where
    stays : record (stands_by t.me.0.own.knows) { place = a.place } ≡ stands_by t.me.0.own.knows
    stays = λ i. record (stands_by t.me.0.own.knows) { place = (sym x.stands_is i).place }

-- rows end as well where what they left was only seen again
pub walked_same : (s t u : Token) (from : Place) (a : SeatState) (told : List Entry) (j : ℕ) → Walked s from t a told j → u.table_id ≡ t.table_id
    → u.me.0 ≡ t.me.0 → Walked s from u a told j
walked_same s t u from a told j x same view = record {
  table_is = (λ i. record { id = same i; setting = (view i).own.knows.setting }) ∙ x.table_is;
  number_is = ap (λ (v : SemaView). v.own.number) view ∙ x.number_is;
  stands_is = ap (λ (v : SemaView). stands_by v.own.knows) view ∙ x.stands_is;
  few = subst (λ (v : SemaView). v.own.knows.turn ≤ 2 ^ 62 + 2 ^ 16) (sym view) x.few;
  came = ap (λ (v : SemaView). v.own.knows.taken) view ∙ x.came;
  most = subst (λ (v : SemaView). v.own.knows.taken ≤ 2 ^ 62 + 2 ^ 48) (sym view) x.most;
  counted = λ free. subst (λ (v : SemaView). takes v.own.number v.own.knows.seen ≡ v.own.knows.taken) (sym view) (x.counted free);
  strides = x.strides;
  each = x.each;
  path = subst (λ (v : SemaView). SemaPath (layout s.me.0.own.knows.setting) s.me.0.own.number (placed from (sight_by s.me.0.own.knows))
      x.strides (sight_by v.own.knows)) (sym view) x.path;
  all = ap (λ (v : SemaView). v.own.gone) view ∙ x.all;
  told_is = x.told_is;
}

-- what is counted of the seat alone grew by what its rows told
pub walked_counts : (count : ℕ → List Entry → ℕ) → CountsOwn count → {IsOne : SemaStride → Type 0} (s t : Token) (from : Place) (a : SeatState)
    (told : List Entry) (j : ℕ) → Went IsOne s from t a told j
    → count t.me.0.own.number t.me.0.own.knows.seen ≡ count s.me.0.own.number s.me.0.own.knows.seen + count s.me.0.own.number told
walked_counts count counts s t from a told j x =
    let k : ℕ = s.me.0.own.number in let m = layout s.me.0.own.knows.setting in
    let own = (the_sema_paths.paths m).own k (placed from (sight_by s.me.0.own.knows)) (sight_by t.me.0.own.knows) x.strides x.path in
    ap (λ i. count i t.me.0.own.knows.seen) x.number_is ∙ sym (own_only count counts k t.me.0.own.knows.seen) ∙ ap (count k) own
    ∙ count_append (count k) (counts k).0 (own_entries (semaphores m) k s.me.0.own.knows.seen) (own_entries (semaphores m) k (all_told x.strides))
    ∙ (λ i. own_only count counts k s.me.0.own.knows.seen i + own_only count counts k (x.told_is i) i)

-- what rows spent, of the same share
pub record Spends (s t : Token) (told : List Entry) : Type 0 where
  pub spent : spent_by t.me.0.own.number t.me.0.own.knows.seen
      ≡ spent_by s.me.0.own.number s.me.0.own.knows.seen + spent_by s.me.0.own.number told
  pub limit : t.me.0.own.knows.setting.limit ≡ s.me.0.own.knows.setting.limit

pub walked_spends : {IsOne : SemaStride → Type 0} (s t : Token) (from : Place) (a : SeatState) (told : List Entry) (j : ℕ) → Went IsOne s from t a told j
    → Spends s t told
walked_spends s t from a told j x =
    record { spent = walked_counts spent_by spent_own s t from a told j x; limit = ap (λ (q : TableModel). q.setting.limit) x.table_is }

pub stands_on : (z : TableModel) (s t : Token) (from : Place) (a : SeatState) (told : List Entry) (j : ℕ) → Stands z s from → Walked s from t a told j
    → spent_by s.me.0.own.number told ≡ 0
    → counter_at a.place ≡ counter_at from → Stands z t a.place
stands_on z s t from a told j x y none same = record {
  table_is = y.table_is ∙ x.table_is;
  inside = let i = x.inside in omega arith;
  place_is = ap (λ (q : SeatState). q.place) y.stands_is;
  limited = let a = walked_spends s t from a told j y in let b = x.limited in omega arith;
  few = y.few;
  most = y.most;
}

-- a token after rows that spent so much
pub token_after : {IsOne : SemaStride → Type 0} (s t : Token) (from : Place) (a : SeatState) (told : List Entry) (j : ℕ) (n k : Numbers)
    → IsToken s n → Went IsOne s from t a told j
    → t.me.1 ≡ [] → a.hand ≡ [] → a.turn ≡ k.turns → k.left + spent_by s.me.0.own.number told ≡ n.left
    → k.withdrawn ≡ n.withdrawn + withdrawn_by s.me.0.own.number told → k.seat ≡ n.seat
    → k.taken ≡ n.taken + j → IsToken t k
token_after s t from a told j n k is x bare empty turned less gone same more = record {
  bare = bare;
  number_is = x.number_is ∙ is.number_is ∙ sym same;
  there = let q = ap (λ (y : TableModel). y.setting.seats) x.table_is in let h = is.there in omega arith;
  narrow = let h = is.narrow in omega arith;
  left_is = let b = walked_spends s t from a told j x in let l = is.left_is in let q = ap (λ (y : TableModel). y.setting.limit) x.table_is in omega arith;
  withdrawn_is = let b = walked_counts withdrawn_by withdrawn_own s t from a told j x in let w = is.withdrawn_is in omega arith;
  limited = let l = is.limited in let q = ap (λ (y : TableModel). y.setting.limit) x.table_is in omega arith;
  turns_are = ap (λ (q : SeatState). q.turn) x.stands_is ∙ turned;
  few = let f = x.few in let q = ap (λ (y : SeatState). y.turn) x.stands_is in omega arith;
  taken_is = let c = x.came in let b = is.taken_is in omega arith;
  most = let c = x.came in let b = is.taken_is in let d = x.most in omega arith;
  empty = ap (λ (q : SeatState). q.hand) x.stands_is ∙ empty;
}

-- a seat that may add so many units more has spent little
pub spent_few : (s : Token) (n : Numbers) (k : ℕ) → IsToken s n → k ≤ n.left → spent_by s.me.0.own.number s.me.0.own.knows.seen + k ≤ s.me.0.own.knows.setting.limit
spent_few s n k is h = let l = is.left_is in let m = is.limited in omega arith

-- the row at which the seat stands
abbrev pub ran_from : (s t : Token) (from : Place) (n : ℕ) → s.me.0.own.knows.place ≡ from → Ran here s.me.0.own n t.me.0.own
    → Ran (begin from) s.me.0.own n t.me.0.own
ran_from s t from n at = ran_at s.me.0.own t.me.0.own from n at

-- rows after rows, by what they make of how the seat stands
abbrev pub walked_via : (s t u : Token) (from : Place) (a : SeatState) (to : SeatState → SeatState) (told more : List Entry) (j k : ℕ)
    → Walked s from t a told j → Walked t a.place u (to (stands_by t.me.0.own.knows)) more k
    → Walked s from u (to a) (told ++ more) (j + k)
walked_via s t u from a to told more j k x y = subst (λ (w : SeatState). Walked s from u (to w) (told ++ more) (j + k)) x.stands_is
    (walked_on s t u from a (to (stands_by t.me.0.own.knows)) told more j k x y)

-- rows after rows that left all but the place
abbrev pub walked_then : (s t u : Token) (from p q : Place) (told more : List Entry) (j k : ℕ)
    → Walked s from t (moved_to s p) told j → Walked t p u (moved_to t q) more k
    → Walked s from u (moved_to s q) (told ++ more) (j + k)
walked_then s t u from p q told more j k x y = subst (λ (w : SeatState). Walked s from u (record w { place = q }) (told ++ more) (j + k)) x.stands_is
    (walked_on s t u from (moved_to s p) (moved_to t q) told more j k x y)

-- no row yet, in the middle of a call
pub walked_yet : (z : TableModel) (s : Token) (p : Place) → is_free p ≡ false → Stands z s p → Walked s p s (moved_to s p) [] 0
walked_yet z s p busy x = subst (λ (q : Place). Walked s p s (moved_to s q) [] 0) x.place_is
    (walked_none s p x.place_is x.few x.most (λ free. not_both (is_free p) busy (ap is_free (sym x.place_is) ∙ free)))
