-- What the rows of a call leave of a seat, in its caller's words.
use Rattle.std.proofs.Common.{◌≡◌, ℕ, ◌≤◌, List, [], ◌∷◌, ◌++◌, refl, sym, ap, ◌∙◌, subst, arith, append-nil, append_assoc}
use Rattle.std.proofs.Common.{eq-eqb}
use Rattle.std.proofs.lemmas.List.Elements.{filter-append}
use Rattle.step_table.specs.declared.list_place.ListPlace.{ListPlace}
use Rattle.step_table.specs.ListWorld.{ListSeat, ListEntry, Granted}
use Rattle.step_table.specs.Path.{GoesOn}
use Rattle.step_law_lists.specs.ListLawful.{Follows}
use Rattle.step_law_lists.specs.ListPath.{ListSight, is_own}
use Rattle.step_law_lists.proofs.ListPaths.{the_list_paths}
use Rattle.step_law_lists.proofs.ListPromises.{the_list_law}
use Rattle.notify_list.specs.Seats.{ListModel, SeatModel, Token, seat_of, IsToken, setting_of}
use Rattle.notify_list.specs.Calls.{Calls, ComesTo}
use Rattle.notify_list.specs.Callers.{IsSeatAfter}
use Rattle.notify_list.proofs.Parting.{own_of, follows_first, own_between, own_before}
use Rattle.notify_list.proofs.Early.{reach_then}

-- a seat of a list of few, which has seen what is lawful
pub record IsSound (s : SeatModel) : Type 0 where
  pub few : s.list.setting.seats ≤ 65536
  pub lawful : Follows s.sight.seen

-- the seat of a token is so
pub is_sound : (t : Token) (n : ℕ) → IsToken t n → IsSound (seat_of t n)
is_sound t n is = record {
  few = is.few;
  lawful = subst (λ (v : ListSight). Follows v.seen) (sym is.lands.sees)
      (the_list_law.reached (setting_of t).first (setting_of t).seats is.lands.world is.lands.met.reach is.lands.met.reached).journal.0;
}

-- the list of a seat has few seats, where another seat of it is so
pub few_then : (s t : SeatModel) → t.list ≡ s.list → IsSound t → s.list.setting.seats ≤ 65536
few_then s t same is = let e = ap (λ (l : ListModel). l.setting.seats) same in let few = is.few in omega arith

-- a call's rows, by which these entries were told
pub seat_after : (s t : SeatModel) (begun stands : ListSeat) (entries : List ListEntry) (rows : List (ListPlace × ℕ)) → Follows t.sight.seen
    → ComesTo s stands t → Calls s begun t entries rows
    → IsSeatAfter s entries t
seat_after s t begun stands entries rows lawful comes call =
    let first : ℕ = s.list.setting.first in let seats : ℕ = s.list.setting.seats in
    let v : ListSight = record { stands = begun; seen = s.sight.seen } in record {
      list = ap (λ (y : SeatModel). y.list) comes.same;
      number = ap (λ (y : SeatModel). y.number) comes.same;
      tells = call.seen;
      own = (the_list_paths.paths first seats).own s.number v t.sight call.strides call.path
          ∙ ap (λ l. own_of s.number s.sight.seen ++ own_of s.number l) call.told_is
          ∙ sym (filter-append (is_own s.number) s.sight.seen entries);
      lawful = lawful;
      reach = call.reach;
    }

-- the seat as it had seen this journal
abbrev pub seen_as : SeatModel → List ListEntry → SeatModel
seen_as s journal = record s { sight = record { stands = s.sight.stands; seen = journal } }

-- where a call told nothing, the seat as it had seen a journal between
module _ (s t : SeatModel) (journal : List ListEntry) (x : IsSeatAfter s [] t) (later : GoesOn journal s.sight.seen) (now : GoesOn t.sight.seen journal) where
  pub seat_between : IsSeatAfter s [] (seen_as s journal)
  seat_between = record {
    list = refl;
    number = refl;
    tells = later;
    own = own_between s.number s.sight.seen journal t.sight.seen later now x.own ∙ ap (own_of s.number) (sym (append-nil s.sight.seen));
    lawful = follows_first t.sight.seen journal now x.lawful;
    reach = reach_then t.sight.seen journal now x.reach;
  }

  pub seat_since : IsSeatAfter (seen_as s journal) [] t
  seat_since = record {
    list = x.list;
    number = x.number;
    tells = now;
    own = x.own ∙ ap (own_of s.number) (append-nil s.sight.seen) ∙ sym (own_between s.number s.sight.seen journal t.sight.seen later now x.own)
        ∙ ap (own_of s.number) (sym (append-nil journal));
    lawful = x.lawful;
    reach = x.reach;
  }

-- where it granted by one entry, the seat as it had seen the journal up to that entry
module _ (s t : SeatModel) (journal : List ListEntry) (upto granted : ℕ)
    (x : IsSeatAfter s (Granted upto s.number ∷ []) t) (later : GoesOn journal s.sight.seen)
    (now : GoesOn t.sight.seen (journal ++ Granted granted s.number ∷ [])) where
  parts : (own_of s.number journal ≡ own_of s.number s.sight.seen) × (Granted granted s.number ≡ Granted upto s.number)
  parts = own_before s.number s.sight.seen journal t.sight.seen (Granted upto s.number) (Granted granted s.number) later now x.own
      (eq-eqb s.number s.number refl) (eq-eqb s.number s.number refl)

  goes_on : GoesOn t.sight.seen journal
  goes_on = record { more = Granted granted s.number ∷ now.more; is = now.is ∙ append_assoc journal (Granted granted s.number ∷ []) now.more }

  pub seat_before : IsSeatAfter s [] (seen_as s journal)
  seat_before = record {
    list = refl;
    number = refl;
    tells = later;
    own = parts.0 ∙ ap (own_of s.number) (sym (append-nil s.sight.seen));
    lawful = follows_first t.sight.seen journal goes_on x.lawful;
    reach = reach_then t.sight.seen journal goes_on x.reach;
  }

  pub granted_it : IsSeatAfter s (Granted granted s.number ∷ []) t
  granted_it = subst (λ e. IsSeatAfter s (e ∷ []) t) (sym parts.1) x
