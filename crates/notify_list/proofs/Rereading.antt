-- What a row of a call that told nothing found in the wait word or the notify word, by what was seen then.
use Rattle.std.proofs.Common.{◌≡◌, ℕ, List, [], ◌∷◌, ◌++◌, sym, ap, ◌∙◌, append-nil}
use Rattle.std.proofs.lemmas.List.Elements.{All-head, All-tail}
use Rattle.step_table.specs.declared.list_place.ListPlace.{ListPlace}
use Rattle.step_table.specs.declared.list_place.ListWord.{ListWord}
use Rattle.step_table.specs.declared.list_place.ListWord.TheVariants.{Wait, Notify}
use Rattle.step_table.specs.Wrapping.{word_of}
use Rattle.step_table.specs.ListWorld.{ListSeat, first_list}
use Rattle.step_table.specs.ListTable.{list_event_at}
use Rattle.step_table.specs.Path.{GoesOn, runs, all_told}
use Rattle.step_table.proofs.Paths.{goes_on_more, goes_on_by, stride_told, stride_later, stride_grows}
use Rattle.step_law_lists.specs.ListLawful.{told, IsInReach}
use Rattle.step_law_lists.specs.ListPath.{ListSight, ListStride, ListPath, ListRan, notify_list, word_of_deed, word_of_stride}
use Rattle.step_law_lists.proofs.ListPaths.{the_list_paths}
use Rattle.notify_list.specs.Seats.{SeatModel}
use Rattle.notify_list.specs.Calls.{Calls, AreRows, rows_of}
use Rattle.notify_list.proofs.Parting.{none_first, none_rest}
use Rattle.notify_list.proofs.Early.{reach_then}

-- a path that told nothing has this row, before these
pub record HasRun (first seats i : ℕ) (from to : ListSight) (place : ListPlace) (read : ℕ) (rest : List (ListPlace × ℕ)) : Type 0 where
  pub stride : ListStride
  pub before : ListSight
  pub after : ListSight
  pub ran : ListRan first seats i before stride after
  pub did : stride.deed ≡ runs
  pub stood : stride.stood.place ≡ place
  pub read_is : stride.read ≡ read
  pub later : GoesOn stride.seen from.seen
  pub now : GoesOn to.seen stride.seen
  pub last : rest ≡ [] → to.seen ≡ stride.seen

same_rows : (q r : ListPlace × ℕ) (a b : List (ListPlace × ℕ)) → q ∷ a ≡ r ∷ b → (q ≡ r) × (a ≡ b)
same_rows q r a b is = (cc, cc)

stays : (first seats i : ℕ) (v w : ListSight) (strides : List ListStride) → ListPath first seats i v strides w → rows_of strides ≡ [] → w ≡ v
stays first seats i v w [] path none = path
stays first seats i v w (p ∷ strides) path none = absurd cc

has_run : (first seats i : ℕ) (v w : ListSight) (strides : List ListStride) (earlier rest : List (ListPlace × ℕ)) (place : ListPlace) (read : ℕ)
    → ListPath first seats i v strides w → AreRows strides
    → all_told strides ≡ [] → rows_of strides ≡ earlier ++ (place, read) ∷ rest → HasRun first seats i v w place read rest
has_run first seats i v w [] [] rest place read path ran none is = absurd cc
has_run first seats i v w [] (r ∷ earlier) rest place read path ran none is = absurd cc
has_run first seats i v w (p ∷ strides) [] rest place read path ran none is =
    let same = same_rows (p.stood.place, p.read) (place, read) (rows_of strides) rest is in
    let told_it : path.0.seen ≡ p.seen ++ p.told = stride_told (notify_list first seats) i v path.0 p path.1 in record {
      stride = p;
      before = v;
      after = path.0;
      ran = path.1;
      did = All-head (λ (q : ListStride). q.deed ≡ runs) p strides ran;
      stood = ap (λ (q : ListPlace × ℕ). q.0) same.0;
      read_is = ap (λ (q : ListPlace × ℕ). q.1) same.0;
      later = stride_later (notify_list first seats) i v path.0 p path.1;
      now = goes_on_more p.seen path.0.seen w.seen (goes_on_by path.0.seen p.seen p.told told_it)
          ((the_list_paths.paths first seats).grows i path.0 w strides path.2);
      last = λ e. ap (λ (x : ListSight). x.seen) (stays first seats i path.0 w strides path.2 (same.1 ∙ e)) ∙ told_it
          ∙ ap (λ l. p.seen ++ l) (none_first p.told (all_told strides) none) ∙ append-nil p.seen;
    }
has_run first seats i v w (p ∷ strides) (r ∷ earlier) rest place read path ran none is =
    let same = same_rows (p.stood.place, p.read) r (rows_of strides) (earlier ++ (place, read) ∷ rest) is in
    let x = has_run first seats i path.0 w strides earlier rest place read path.2 (All-tail (λ (q : ListStride). q.deed ≡ runs) p strides ran)
    (none_rest p.told (all_told strides) none) same.1 in record {
      stride = x.stride;
      before = x.before;
      after = x.after;
      ran = x.ran;
      did = x.did;
      stood = x.stood;
      read_is = x.read_is;
      later = goes_on_more v.seen path.0.seen x.stride.seen (stride_grows (notify_list first seats) i v path.0 p path.1) x.later;
      now = x.now;
      last = x.last;
    }

-- a row of a call
pub call_ran : (s t : SeatModel) (begun : ListSeat) (earlier rest : List (ListPlace × ℕ)) (place : ListPlace) (read : ℕ)
    → Calls s begun t [] (earlier ++ (place, read) ∷ rest)
    → HasRun s.list.setting.first s.list.setting.seats s.number (record { stands = begun; seen = s.sight.seen }) t.sight place read rest
call_ran s t begun earlier rest place read call =
    has_run s.list.setting.first s.list.setting.seats s.number (record { stands = begun; seen = s.sight.seen }) t.sight call.strides earlier rest place
    read call.path call.ran call.told_is call.rows_are

module _ {first seats i : ℕ} {from to : ListSight} {place : ListPlace} {read : ℕ} {rest : List (ListPlace × ℕ)}
    (reach_now : IsInReach to.seen) (x : HasRun first seats i from to place read rest) where
  reach : IsInReach x.stride.seen
  reach = reach_then to.seen x.stride.seen x.now reach_now

  -- the row's word
  on : (word : ListWord) → ((seat : ListSeat) → (list_event_at i seat (first_list 0).words place).word ≡ word) → word_of_stride i x.stride ≡ word
  on word is = ap (word_of_deed i x.stride) x.did ∙ ap (λ q. (list_event_at i x.stride.stood (first_list 0).words q).word) x.stood ∙ is x.stride.stood

  pub finds_handed : ((seat : ListSeat) → (list_event_at i seat (first_list 0).words place).word ≡ Wait)
      → read ≡ word_of first (told x.stride.seen).handed
  finds_handed is = sym x.read_is ∙ the_list_paths.reads_wait first seats i x.before x.after x.stride reach x.ran (on Wait is)

  pub finds_granted : ((seat : ListSeat) → (list_event_at i seat (first_list 0).words place).word ≡ Notify)
      → read ≡ word_of first (told x.stride.seen).passed
  finds_granted is = sym x.read_is ∙ the_list_paths.reads_notify first seats i x.before x.after x.stride reach x.ran (on Notify is)
