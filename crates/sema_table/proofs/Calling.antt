-- What a caller reads of the rows that a call ran.
use Rattle.std.proofs.Common.{◌≡◌, inl, ℕ, Bool, true, false, List, [], ◌∷◌, ◌++◌, sym, ap, ◌∙◌, subst, append-nil, append_assoc}
use Rattle.std.specs.List.{All}
use Rattle.std.proofs.lemmas.List.Elements.{All-nil, All-append, All-weaker}
use Rattle.step_table.specs.declared.entry.Entry.{Entry}
use Rattle.step_table.specs.declared.place.Place.{Place}
use Rattle.step_table.specs.declared.place.Release.{Release}
use Rattle.step_table.specs.declared.word.Word.TheVariants.{Grant}
use Rattle.step_table.specs.World.{Layout, SeatState}
use Rattle.step_table.specs.Path.{GoesOn, runs, all_told}
use Rattle.step_table.proofs.Paths.{goes_on_more, goes_on_here, stride_told, stride_later}
use Rattle.step_law_semaphores.specs.SemaPath.{SemaSight, SemaStride, SemaPath, semaphores, placed, row_event, word_of_deed, word_of_stride}
use Rattle.sema_table.specs.Rows.{SemaSeat}
use Rattle.sema_table.specs.declared.seat.Numbers.{Numbers}
use Rattle.sema_table.specs.Starts.{begin}
use Rattle.sema_table.proofs.Striding.{Ran}
use Rattle.sema_table.specs.Seats.{SeatModel, TableModel, Token, seat_of, IsToken}
use Rattle.step_law_semaphores.proofs.SemaPaths.{the_sema_paths}
use Rattle.sema_table.specs.Setting.{layout}
use Rattle.sema_table.specs.Rule.{stands_by, sight_by}
use Rattle.sema_table.proofs.Walking.{told_append}
use Rattle.sema_table.specs.Walks.{Walked, moved_to, granting, grant_of}
use Rattle.waiters.specs.declared.wait.WaitId.{WaitId}
use Rattle.sema_table.specs.Waking.{FindsNoGrant, RunsOrWaits, CallsGranted, CallsGrant}
use Rattle.sema_table.specs.Strides.{IsRow}
use Rattle.sema_table.specs.Calls.{TellsIn, Calls, RunsRows, CallsRows, rows_of}

pub tells_later : (a b told now : List Entry) → GoesOn b a → TellsIn b told now → TellsIn a told now
tells_later a b [] now later tells = goes_on_more a b now later tells
tells_later a b (e ∷ told) now later tells =
    (later.more ++ tells.0, subst (λ l. TellsIn (l ++ e ∷ []) told now) (ap (λ l. l ++ tells.0) later.is ∙ append_assoc a later.more tells.0) tells.1)

tells_first : (seen told rest now : List Entry) → TellsIn (seen ++ told) rest now → TellsIn seen (told ++ rest) now
tells_first seen [] rest now tells = subst (λ l. TellsIn l rest now) (append-nil seen) tells
tells_first seen (e ∷ told) rest now tells = (
  [],
  tells_first ((seen ++ []) ++ e ∷ []) told rest now
      (subst (λ l. TellsIn l rest now) (sym (append_assoc seen (e ∷ []) told) ∙ ap (λ l. (l ++ e ∷ []) ++ told) (sym (append-nil seen))) tells),
)

pub path_tells : (m : Layout) (i : ℕ) (v w : SemaSight) (strides : List SemaStride) → SemaPath m i v strides w → TellsIn v.seen (all_told strides) w.seen
path_tells m i v w [] path = subst (λ (x : SemaSight). GoesOn x.seen v.seen) (sym path) (goes_on_here v.seen)
path_tells m i v w (p ∷ strides) path =
    tells_later v.seen p.seen (p.told ++ all_told strides) w.seen (stride_later (semaphores m) i v path.0 p path.1)
    (tells_first p.seen p.told (all_told strides) w.seen
    (subst (λ l. TellsIn l (all_told strides) w.seen) (stride_told (semaphores m) i v path.0 p path.1) (path_tells m i path.0 w strides path.2)))

pub calls : (s t : Token) (n k : Numbers) (from : Place) (a : SeatState) (told : List Entry) (j : ℕ) → IsToken s n → Walked s from t a told j
    → RunsRows (seat_of s n) from (seat_of t k) told
calls s t n k from a told j is x = subst (λ i. RunsRows (record (seat_of s n) { number = i }) from (seat_of t k) told) is.number_is (record {
  strides = x.strides;
  each = x.each;
  path = x.path;
  all = x.all;
  told_is = x.told_is;
  seen = subst (λ l. TellsIn s.me.0.own.knows.seen l t.me.0.own.knows.seen) x.told_is (path_tells _ _ _ _ x.strides x.path);
})

pub calls_rows : (s t : Token) (n k : Numbers) (from : Place) (a : SeatState) (told : List Entry) (j : ℕ) (rows : List (Place × ℕ)) → IsToken s n
    → (x : Walked s from t a told j) → rows_of x.strides ≡ rows
    → CallsRows (seat_of s n) from (seat_of t k) told rows
calls_rows s t n k from a told j rows is x at =
    subst (λ i. CallsRows (record (seat_of s n) { number = i }) from (seat_of t k) told rows) is.number_is (record {
      call = record {
        strides = x.strides;
        each = x.each;
        path = x.path;
        all = x.all;
        told_is = x.told_is;
        seen = subst (λ l. TellsIn s.me.0.own.knows.seen l t.me.0.own.knows.seen) x.told_is (path_tells _ _ _ _ x.strides x.path);
      };
      rows_are = at;
    })

-- the row that a stride ran, with what it read
pub row_is : (v w : SemaSeat) (from : Place) (n : ℕ) (r : Ran (begin from) v n w)
    → ◌≡◌ {A = Place × ℕ} (r.stride.stood.place, r.stride.read) (from, n)
row_is v w from n r = λ i. ((r.ran.stood i).place, r.read i)

-- a call that went on after rows that told nothing
pub calls_after : (s t : Token) (n : Numbers) (u : SeatModel) (from p : Place) (told : List Entry) (j : ℕ) → IsToken s n
    → Walked s from t (moved_to s p) [] j → RunsRows (seat_of t n) p u told → RunsRows (seat_of s n) from u told
calls_after s t n u from p told j is x c = record {
  strides = x.strides ++ c.strides;
  each = All-append IsRow x.strides c.strides x.each c.each;
  path = (the_sema_paths.paths (layout s.me.0.own.knows.setting)).joined n.seat (placed from (sight_by s.me.0.own.knows))
      (sight_by t.me.0.own.knows) u.sight x.strides c.strides
      (subst (λ i. SemaPath (layout s.me.0.own.knows.setting) i (placed from (sight_by s.me.0.own.knows)) x.strides (sight_by t.me.0.own.knows))
      is.number_is x.path)
      (subst (λ (q : TableModel × SemaSight). SemaPath (layout q.0.setting) n.seat q.1 c.strides u.sight)
      (λ i. (x.table_is i, record { stands = stays i; seen = t.me.0.own.knows.seen })) c.path);
  all = c.all ∙ ap (λ l. l ++ c.strides) x.all ∙ append_assoc s.me.0.own.gone x.strides c.strides;
  told_is = told_append x.strides c.strides ∙ (λ i. x.told_is i ++ c.told_is i);
  seen =
      tells_later s.me.0.own.knows.seen t.me.0.own.knows.seen told u.sight.seen
      ((the_sema_paths.paths (layout s.me.0.own.knows.setting)).grows s.me.0.own.number (placed from (sight_by s.me.0.own.knows))
      (sight_by t.me.0.own.knows) x.strides x.path) c.seen;
}
  where
    stays : record (stands_by t.me.0.own.knows) { place = p } ≡ stands_by t.me.0.own.knows
    stays = λ i. record (stands_by t.me.0.own.knows) { place = (sym x.stands_is i).place }

-- the row that takes a grant
pub calls_granted : (s t : Token) (n k : Numbers) (from : Place) (a : SeatState) (j : ℕ) (last : SemaStride) (found : ℕ) → IsToken s n
    → (x : Walked s from t a [] j) → x.strides ≡ last ∷ []
    → last.deed ≡ runs → last.stood.place ≡ from → last.read ≡ found → CallsGranted (seat_of s n) from (seat_of t k) [] found
calls_granted s t n k from a j last found is x one did row read =
    subst (λ i. CallsGranted (record (seat_of s n) { number = i }) from (seat_of t k) [] found) is.number_is (record {
      call = record {
        strides = x.strides;
        each = All-weaker IsRow (RunsOrWaits s.me.0.own.number) (λ p. inl) x.strides x.each;
        path = x.path;
        all = x.all;
        told_is = x.told_is;
        seen = subst (λ l. TellsIn s.me.0.own.knows.seen l t.me.0.own.knows.seen) x.told_is (path_tells _ _ _ _ x.strides x.path);
      };
      last = last;
      strides_are = one;
      looked = All-nil (FindsNoGrant s.me.0.own.number);
      did = did;
      row = row;
      found = read;
    })

-- the row that grants stores in the grant word of the wait's seat
module _ (m : Layout) (i : ℕ) (a : Release) (turn : ℕ) (w : WaitId) (last : SemaStride) where
  granted_word : (handed : Bool) → last.deed ≡ runs → last.stood ≡ record { place = granting a handed; turn = turn; hand = w ∷ [] }
      → word_of_stride m i last ≡ Grant w.seat
  granted_word true did stood = λ j. word_of_deed m i (record last { stood = stood j }) (did j)
  granted_word false did stood = λ j. word_of_deed m i (record last { stood = stood j }) (did j)

  granted_number : (handed : Bool) → last.stood ≡ record { place = granting a handed; turn = turn; hand = w ∷ [] }
      → (row_event m i last).becomes last.read ≡ grant_of handed
  granted_number true stood = λ j. (row_event m i (record last { stood = stood j })).becomes last.read
  granted_number false stood = λ j. (row_event m i (record last { stood = stood j })).becomes last.read

pub calls_grant : (s t : Token) (n k : Numbers) (from : Place) (b : SeatState) (told : List Entry) (j : ℕ) (before : List SemaStride) (last : SemaStride)
    (a : Release) (handed : Bool) (turn : ℕ) (w : WaitId) → IsToken s n
    → (x : Walked s from t b told j) → x.strides ≡ before ++ last ∷ [] → last.deed ≡ runs
    → last.stood ≡ record { place = granting a handed; turn = turn; hand = w ∷ [] }
    → CallsGrant (seat_of s n) from (seat_of t k) told (granting a handed) w (grant_of handed)
calls_grant s t n k from b told j before last a handed turn w is x ends did stood =
    subst (λ i. CallsGrant (record (seat_of s n) { number = i }) from (seat_of t k) told (granting a handed) w (grant_of handed)) is.number_is (record {
      call = record {
        strides = x.strides;
        each = x.each;
        path = x.path;
        all = x.all;
        told_is = x.told_is;
        seen = subst (λ l. TellsIn s.me.0.own.knows.seen l t.me.0.own.knows.seen) x.told_is (path_tells _ _ _ _ x.strides x.path);
      };
      before = before;
      last = last;
      strides_are = ends;
      did = did;
      row = ap (λ (q : SeatState). q.place) stood;
      hand_is = ap (λ (q : SeatState). q.hand) stood;
      word = granted_word (layout s.me.0.own.knows.setting) s.me.0.own.number a turn w last handed did stood;
      stored = granted_number (layout s.me.0.own.knows.setting) s.me.0.own.number a turn w last handed stood;
    })

-- a seat that stands at a place is there by no choice
pub placed_at : (place : Place) (v : SemaSight) → v.stands.place ≡ place → placed place v ≡ v
placed_at place v at = λ i. record v { stands = record v.stands { place = sym at i } }

-- a call by its path
abbrev pub call_of : {IsOne : SemaStride → Type 0} (s t : SeatModel) (from : Place) (told : List Entry) (strides : List SemaStride) → All IsOne strides
    → SemaPath (layout s.table.setting) s.number (placed from s.sight) strides t.sight
    → t.strides ≡ s.strides ++ strides → all_told strides ≡ told → Calls IsOne s from t told
call_of s t from told strides each path all told_is = record {
  strides = strides;
  each = each;
  path = path;
  all = all;
  told_is = told_is;
  seen = subst (λ l. TellsIn s.sight.seen l t.sight.seen) told_is (path_tells (layout s.table.setting) s.number (placed from s.sight) t.sight strides path);
}

-- rows alone, as a call that may sleep
pub sleepless : (i : ℕ) (s t : SeatModel) (from : Place) (told : List Entry) → RunsRows s from t told → Calls (RunsOrWaits i) s from t told
sleepless i s t from told x = call_of s t from told x.strides (All-weaker IsRow (RunsOrWaits i) (λ p. inl) x.strides x.each) x.path x.all x.told_is

-- a call after a call
pub calls_then : {IsOne : SemaStride → Type 0} (s u t : SeatModel) (from place : Place) (told more : List Entry) → u.table ≡ s.table
    → u.number ≡ s.number → u.sight.stands.place ≡ place → Calls IsOne s from u told
    → Calls IsOne u place t more → Calls IsOne s from t (told ++ more)
calls_then {IsOne = IsOne} s u t from place told more tables numbers at x y =
    call_of s t from (told ++ more) (x.strides ++ y.strides) (All-append IsOne x.strides y.strides x.each y.each)
    ((the_sema_paths.paths (layout s.table.setting)).joined s.number (placed from s.sight) u.sight t.sight x.strides y.strides x.path
    (subst (λ (q : SemaSight × (TableModel × ℕ)). SemaPath (layout q.1.0.setting) q.1.1 q.0 y.strides t.sight)
    (λ i. (placed_at place u.sight at i, (tables i, numbers i))) y.path))
    (y.all ∙ ap (λ l. l ++ y.strides) x.all ∙ append_assoc s.strides x.strides y.strides)
    (told_append x.strides y.strides ∙ (λ i. x.told_is i ++ y.told_is i))
