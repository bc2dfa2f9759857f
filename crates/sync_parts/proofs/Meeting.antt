-- What two locks keep that met, and that they aren't both held.
use Rattle.std.proofs.Common.{◌≡◌, ℕ, Bool, true, List, [], ◌∷◌, ◌++◌, Some, refl, sym, ap, ◌∙◌, subst}
use Rattle.step_table.specs.declared.entry.Entry.{Entry}
use Rattle.step_table.specs.declared.entry.Entry.TheVariants.{Take}
use Rattle.step_table.specs.declared.word.Word.{Word}
use Rattle.step_table.specs.declared.word.Word.TheVariants.{Counter}
use Rattle.step_table.specs.Journal.{takes}
use Rattle.sema_table.specs.Seats.{TableModel, SeatModel}
use Rattle.sema_table.specs.Tries.{LooksAt}
use Rattle.sema_table.specs.Meeting.{HasMet}
use Rattle.sync_parts.specs.Lock.{uses, lock_of, IsLock}
use Rattle.sync_parts.specs.Exclusion.{OnlyLocks, HasLooked, HaveMet}
use Rattle.sync_parts.proofs.Calling.{uses_looked, lawful_look}
use Rattle.sync_parts.proofs.Locks.{kept, own_table}
use Rattle.sync_parts.proofs.Turns.{the_locks}

module _ (z : TableModel) (s t : SeatModel) (w : Word) (n c : ℕ) (held : Bool) (is : IsLock z (Some s) c held)
    (counted : takes t.number t.sight.seen ≡ t.taken) (look : LooksAt s w n t) where
  number_is : t.number ≡ s.number
  number_is = ap (λ (x : SeatModel). x.number) look.same

  pub uses_same : uses c t.number t.sight.seen ≡ uses c s.number s.sight.seen
  uses_same =
      ap (λ i. uses c i t.sight.seen) number_is
      ∙ uses_looked s t w n c
      (ap (λ i. takes i t.sight.seen) (sym number_is) ∙ counted ∙ ap (λ (x : SeatModel). x.taken) look.same
      ∙ sym (kept z s c held is)) look

  pub looked_keeps : IsLock z (Some t) c held
  looked_keeps = record {
    mine = t;
    seat_is = refl;
    own = ap (λ (x : SeatModel). x.table) look.same ∙ own_table z s c held is;
    inside = is.inside;
    counted = counted;
    took = λ e. let last = is.took e in (last.0, uses_same ∙ last.1 ∙ ap (λ i. last.0 ++ Take c i ∷ []) (sym number_is));
  }

  pub looked : HasLooked (lock_of z (Some s) c held) (lock_of z (Some t) c held)
  looked = record {
    table = ap (λ (x : SeatModel). x.table) look.same;
    number = number_is;
    left = ap (λ (x : SeatModel). x.left) look.same;
    taken = ap (λ (x : SeatModel). x.taken) look.same;
    is = refl;
    later = look.later;
    calls = uses_same;
  }

module _ (z y : TableModel) (s o t u : SeatModel) (c d : ℕ) (held theirs : Bool) (is : IsLock z (Some s) c held) (its : IsLock y
    (Some o) d theirs)
    (counted : takes t.number t.sight.seen ≡ t.taken) (its_counted : takes u.number u.sight.seen ≡ u.taken) (same : d ≡ c)
    (met : HasMet s o t u) where
  not_both : OnlyLocks s.table c t.sight.seen → ¬ ((held ≡ true) × (theirs ≡ true))
  not_both only both =
      let mine = (looked_keeps z s t (Counter 0) met.number c held is counted met.one_looked).took both.0 in
      let other = (looked_keeps y o u (Counter 0) met.number d theirs its its_counted met.other_looked).took both.1 in
      let one = the_locks s.table c t.sight.seen (lawful_look s t (Counter 0) met.number met.one_looked) only t.number u.number mine
      (subst (λ (q : ℕ × List Entry). (before : List Entry) × (uses q.0 u.number q.1 ≡ before ++ Take q.0 u.number ∷ [])) (λ j.
      (same j, sym met.same j)) other) in
      met.two (sym (ap (λ (x : SeatModel). x.number) met.one_looked.same) ∙ one ∙ ap (λ (x : SeatModel). x.number) met.other_looked.same)

  pub have_met : HaveMet (lock_of z (Some s) c held) (lock_of y (Some o) d theirs) (lock_of z (Some t) c held) (lock_of y
      (Some u) d theirs)
  have_met = record {
    one_looked = looked z s t (Counter 0) met.number c held is counted met.one_looked;
    other_looked = looked y o u (Counter 0) met.number d theirs its its_counted met.other_looked;
    two = met.two;
    same = met.same;
    one_holder = not_both;
  }
