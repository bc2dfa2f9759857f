-- A seat after strides: the same seat, which has told just their entries, and what it has seen is lawful.
use Rattle.std.proofs.Common.{◌≡◌, ◌⊎◌, ℕ, ◌+◌, ◌<◌, ◌≤◌, IsTrue, true, false, List, [], ◌∷◌, ◌++◌, refl, sym, ap}
use Rattle.std.proofs.Common.{◌∙◌, subst, inl, inr, arith, append_assoc}
use Rattle.std.proofs.Common.{append-nil}
use Rattle.std.specs.List.{filter}
use Rattle.std.proofs.lemmas.Bool.{cases_lt}
use Rattle.std.proofs.lemmas.List.Elements.{filter-append}
use Rattle.step_table.specs.declared.entry.Entry.{Entry}
use Rattle.step_table.specs.declared.place.Place.{Place}
use Rattle.step_table.specs.declared.place.Place.TheVariants.{Rest}
use Rattle.step_table.specs.declared.word.Word.{Word}
use Rattle.step_table.specs.World.{Layout, SemaWorld, SeatState, first_world, seat_after}
use Rattle.step_table.specs.Table.{event_at}
use Rattle.step_table.specs.Steps.{Step, turn, choose, IsReached, event_of, finds}
use Rattle.step_table.specs.Journal.{plain_start, IsLawful}
use Rattle.step_table.specs.Path.{Deed, runs, looks, Did, OnlyLooked, all_told, ArePaths}
use Rattle.step_table.proofs.Sums.{put_else}
use Rattle.step_table.proofs.Turns.{steps_keep}
use Rattle.step_law_semaphores.specs.SemaPath.{SemaSight, SemaStride, SemaRan, SemaPath, SemaDid, semaphores, placed, is_own}
use Rattle.step_law_semaphores.proofs.SemaPaths.{the_sema_paths}
use Rattle.step_law_semaphores.proofs.Promises.{the_law}
use Rattle.sema_table.specs.Setting.{layout}
use Rattle.sema_table.specs.Seats.{TableModel, SeatModel}
use Rattle.sema_table.specs.Calls.{TellsIn, Calls}
use Rattle.sema_table.specs.Tries.{LooksAt}
use Rattle.sema_table.specs.Callers.{IsSeatAfter}
use Rattle.sema_table.proofs.Calling.{tells_later, path_tells}

abbrev paths : (m : Layout) → ArePaths (semaphores m)
paths m = the_sema_paths.paths m

-- a seat that isn't there stays at rest
never_moved : (m : Layout) (i : ℕ) → m.seats ≤ i → (s : SemaWorld) → IsReached m s → (s.seats i).place ≡ Rest
never_moved m i out s reached =
    steps_keep (Step m) m.seats (λ s. (s.seats i).place ≡ Rest) (λ s t j low at step. by s j low at step) (first_world m.starts) s reached refl
  where
    by : (s : SemaWorld) (j : ℕ) → j < m.seats → (s.seats i).place ≡ Rest → {t : SemaWorld} → Step m s j t
        → (t.seats i).place ≡ Rest
    by s j low at (turn row) =
        let next = (event_of s j).leads (finds m.root s j) in
        ap (λ (x : SemaWorld). (x.seats i).place) row.is
        ∙ ap (λ (x : SeatState). x.place) (put_else s.seats j (seat_after next.1 next.0 (s.seats j)) i (λ e. absurd (omega arith))) ∙ at
    by s j low at (choose {place} choice) =
        ap (λ (x : SeatState). x.place) (put_else s.seats j (record (s.seats j) { place = place }) i (λ e. absurd (omega arith))) ∙ at

module _ (m : Layout) (i : ℕ) where
  module _ (v w : SemaSight) (p : SemaStride) (r : SemaRan m i v p w) where
    -- a seat that ran a row is there
    pub there : p.deed ≡ runs → i < m.seats
    there did = by (cases_lt i m.seats)
      where
        ran : (d : Deed Word) → d ≡ runs → Did (semaphores m) r.world i d p.read p.told w → m.seats ≤ i → ⊥
        ran runs e x out =
            let never : false ≡ true = subst (λ (z : Place). IsTrue ((event_at i (r.world.seats i) r.world.words.lists z).can (finds m.root r.world i)))
            (never_moved m i out r.world r.meets.met) x.can in cc
        ran (looks word) e x out = absurd cc

        by : (i < m.seats) ⊎ (m.seats ≤ i) → i < m.seats
        by (inl low) = low
        by (inr out) = absurd (ran p.deed did r.did out)

    lawful_after : IsLawful (plain_start m.starts) w.seen
    lawful_after = by p.deed refl r.did
      where
        lawful_in : (t : SemaWorld) → IsReached m t → IsLawful (plain_start m.starts) t.journal
        lawful_in t reached = (the_law.reached m t reached).journal.1

        by : (d : Deed Word) → p.deed ≡ d → Did (semaphores m) r.world i d p.read p.told w
            → IsLawful (plain_start m.starts) w.seen
        by runs e x = let o = the_sema_paths.ends m i v w p (there e) r in
            subst (λ (z : SemaSight). IsLawful (plain_start m.starts) z.seen) (sym o.2) (lawful_in o.0 o.1)
        by (looks word) e x = subst (λ (z : SemaSight). IsLawful (plain_start m.starts) z.seen) (sym x.leads) (lawful_in r.world r.meets.met)

  -- what is seen after strides is lawful
  lawful_on : (v w : SemaSight) (p : SemaStride) (strides : List SemaStride) → SemaPath m i v (p ∷ strides) w
      → IsLawful (plain_start m.starts) w.seen
  lawful_on v w p [] path = subst (λ (z : SemaSight). IsLawful (plain_start m.starts) z.seen) (sym path.2) (lawful_after v path.0 p path.1)
  lawful_on v w p (q ∷ strides) path = lawful_on path.0 w q strides path.2

  lawful_path : (v w : SemaSight) (strides : List SemaStride) → (strides ≡ [] → ⊥) → SemaPath m i v strides w
      → IsLawful (plain_start m.starts) w.seen
  lawful_path v w [] some path = absurd (some refl)
  lawful_path v w (p ∷ strides) some path = lawful_on v w p strides path

-- a seat after strides, where what it has seen is lawful
pub after_path : (s t : SeatModel) (from : Place) (added given : ℕ) (told : List Entry) (strides : List SemaStride)
    → SemaPath (layout s.table.setting) s.number (placed from s.sight) strides t.sight → all_told strides ≡ told
    → t.table ≡ s.table → t.number ≡ s.number → t.left + added ≡ s.left → t.taken ≡ s.taken + given
    → IsLawful (plain_start (layout s.table.setting).starts) t.sight.seen → IsSeatAfter s added given told t
after_path s t from added given told strides path told_is tables numbers left taken lawful =
    let m = layout s.table.setting in let v = placed from s.sight in record {
      table = tables;
      number = numbers;
      left = left;
      taken = taken;
      tells = subst (λ l. TellsIn s.sight.seen l t.sight.seen) told_is (path_tells m s.number v t.sight strides path);
      own = (paths m).own s.number v t.sight strides path ∙ sym (filter-append (is_own s.number) s.sight.seen (all_told strides))
          ∙ ap (λ l. filter (is_own s.number) (s.sight.seen ++ l)) told_is;
      lawful = lawful;
    }

pub after_strides : (s t : SeatModel) (from : Place) (added given : ℕ) (told : List Entry) (strides : List SemaStride)
    → SemaPath (layout s.table.setting) s.number (placed from s.sight) strides t.sight → all_told strides ≡ told
    → (strides ≡ [] → ⊥)
    → t.table ≡ s.table → t.number ≡ s.number → t.left + added ≡ s.left → t.taken ≡ s.taken + given
    → IsSeatAfter s added given told t
after_strides s t from added given told strides path told_is some tables numbers left taken =
    after_path s t from added given told strides path told_is tables numbers left taken
    (lawful_path (layout s.table.setting) s.number (placed from s.sight) t.sight strides some path)

-- a seat that came to another place has gone some stride
pub some_stride : (m : Layout) (i : ℕ) (v w : SemaSight) (from to : Place) (strides : List SemaStride)
    → SemaPath m i (placed from v) strides w → w.stands.place ≡ to → (from ≡ to → ⊥) → strides ≡ [] → ⊥
some_stride m i v w from to [] path at ne e = ne (sym (ap (λ (x : SemaSight). x.stands.place) path) ∙ at)
some_stride m i v w from to (p ∷ strides) path at ne e = cc

-- a seat after a call that led to another place
module _ {IsOne : SemaStride → Type 0} (s t : SeatModel) (from to : Place) (l k : ℕ)
    (same : t ≡ record s { left = l; taken = k; sight = t.sight; strides = t.strides }) (told : List Entry) (c : Calls IsOne s from t told)
    (at : t.sight.stands.place ≡ to) (ne : from ≡ to → ⊥) where
  pub after_call : (added given : ℕ) → l + added ≡ s.left → k ≡ s.taken + given → IsSeatAfter s added given told t
  after_call added given left taken =
      after_strides s t from added given told c.strides c.path c.told_is
      (some_stride (layout s.table.setting) s.number s.sight t.sight from to c.strides c.path at ne)
      (ap (λ (x : SeatModel). x.table) same) (ap (λ (x : SeatModel). x.number) same)
      (ap (λ (x : SeatModel). x.left + added) same ∙ left) (ap (λ (x : SeatModel). x.taken) same ∙ taken)

-- a seat after a look
pub after_look : (s t : SeatModel) (w : Word) (n : ℕ) → LooksAt s w n t → IsSeatAfter s 0 0 [] t
after_look s t w n x =
    let m = layout s.table.setting in
    let looked : OnlyLooked x.stride t.sight = subst (SemaDid m s.number x.stride t.sight) x.did
    (the_sema_paths.does m s.number s.sight t.sight x.stride x.ran) in
    after_strides s t s.sight.stands.place 0 0 [] (x.stride ∷ []) (((paths m).single s.number s.sight t.sight x.stride).0 x.ran)
    (append-nil x.stride.told ∙ looked.told) (λ e. cc)
    (ap (λ (y : SeatModel). y.table) x.same) (ap (λ (y : SeatModel). y.number) x.same)
    (let e = ap (λ (y : SeatModel). y.left) x.same in omega arith) (let e = ap (λ (y : SeatModel). y.taken) x.same in omega arith)

-- what was told, and then more
tells_then : (seen told more now later : List Entry) → TellsIn seen told now → TellsIn now more later
    → TellsIn seen (told ++ more) later
tells_then seen [] more now later x y = tells_later seen now more later x y
tells_then seen (e ∷ told) more now later x y = (x.0, tells_then ((seen ++ x.0) ++ e ∷ []) told more now later x.1 y)

-- a seat after a seat after a seat
pub after_then : (s u t : SeatModel) (a b g h : ℕ) (told more : List Entry) → IsSeatAfter s a g told u → IsSeatAfter u b h more t
    → IsSeatAfter s (a + b) (g + h) (told ++ more) t
after_then s u t a b g h told more x y =
    let own = filter (is_own s.number) in record {
      table = y.table ∙ x.table;
      number = y.number ∙ x.number;
      left = let p = x.left in let q = y.left in omega arith;
      taken = let p = x.taken in let q = y.taken in omega arith;
      tells = tells_then s.sight.seen told more u.sight.seen t.sight.seen x.tells y.tells;
      own = subst (λ i. filter (is_own i) t.sight.seen ≡ filter (is_own i) (u.sight.seen ++ more)) x.number y.own
          ∙ filter-append (is_own s.number) u.sight.seen more
          ∙ ap (λ l. l ++ own more) x.own ∙ sym (filter-append (is_own s.number) (s.sight.seen ++ told) more)
          ∙ ap own (append_assoc s.sight.seen told more);
      lawful = subst (λ (z : TableModel). IsLawful (plain_start (layout z.setting).starts) t.sight.seen) x.table y.lawful;
    }
