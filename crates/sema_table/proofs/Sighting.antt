-- A moment within a path: what its seat sees then, after it has told so much, and before the rest.
use Rattle.std.proofs.Common.{◌≡◌, ℕ, List, [], ◌∷◌, ◌++◌, refl, sym, ap, ◌∙◌, subst, arith, append-nil}
use Rattle.step_table.specs.declared.entry.Entry.{Entry}
use Rattle.step_table.specs.declared.place.Place.{Place}
use Rattle.step_table.specs.declared.word.Word.TheVariants.{Counter}
use Rattle.step_table.specs.World.{Layout}
use Rattle.step_table.specs.Path.{GoesOn, all_told, look_in, sight, ArePaths}
use Rattle.step_table.proofs.Paths.{meets_sight}
use Rattle.step_law_semaphores.specs.SemaPath.{SemaSight, SemaStride, SemaRan, SemaPath, semaphores, placed}
use Rattle.step_law_semaphores.proofs.SemaPaths.{the_sema_paths}
use Rattle.sema_table.specs.Setting.{layout}
use Rattle.sema_table.specs.Seats.{SeatModel}
use Rattle.sema_table.specs.Callers.{IsSeatAfter}
use Rattle.sema_table.proofs.Walking.{told_append}
use Rattle.sema_table.proofs.After.{after_strides, after_path}

-- within the path from v to w there is a sight u of which this holds, after these entries were told and before the rest
pub record Sighted (m : Layout) (i : ℕ) (v w : SemaSight) (told rest : List Entry) (Holds : List Entry → Type 0) : Type 0 where
  pub before : List SemaStride
  pub after : List SemaStride
  pub u : SemaSight
  pub to : SemaPath m i v before u
  pub on : SemaPath m i u after w
  pub some : before ≡ [] → ⊥
  pub told_is : all_told before ≡ told
  pub rest_is : all_told after ≡ rest
  pub holds : Holds u.seen

not_nil : (a : List SemaStride) (p : SemaStride) → a ++ p ∷ [] ≡ [] → ⊥
not_nil [] p e = cc
not_nil (q ∷ a) p e = cc

module _ (m : Layout) (i : ℕ) where
  abbrev paths : ArePaths (semaphores m)
  paths = the_sema_paths.paths m

  -- just before a stride, by a look there
  pub at_stride : (v w : SemaSight) (before after : List SemaStride) (p : SemaStride) (Holds : List Entry → Type 0)
      → SemaPath m i v (before ++ p ∷ after) w → Holds p.seen
      → Sighted m i v w (all_told before) (all_told (p ∷ after)) Holds
  at_stride v w before after p Holds path holds =
      let parts = paths.parted i v w before (p ∷ after) path in let ran : SemaRan m i parts.0 p parts.2.0 = parts.2.1 in
      let look : SemaStride = look_in (semaphores m) ran.world i (Counter 0) in record {
        before = before ++ look ∷ [];
        after = p ∷ after;
        u = sight (semaphores m) ran.world i;
        to = paths.more i v parts.0 (sight (semaphores m) ran.world i) before look parts.1 (paths.looked i ran.world parts.0 (Counter 0) ran.meets);
        on = (
          parts.2.0,
          record {
            world = ran.world;
            meets = meets_sight (semaphores m) ran.world i ran.meets.met;
            stood = ran.stood ∙ sym ran.meets.stands;
            seen = ran.seen;
            did = ran.did;
          },
          parts.2.2,
        );
        some = not_nil before look;
        told_is = told_append before (look ∷ []) ∙ append-nil (all_told before);
        rest_is = refl;
        holds = subst Holds ran.seen holds;
      }

  -- just after a stride
  pub after_stride : (v x w : SemaSight) (after : List SemaStride) (p : SemaStride) (Holds : List Entry → Type 0)
      → SemaRan m i v p x → SemaPath m i x after w → Holds x.seen
      → Sighted m i v w p.told (all_told after) Holds
  after_stride v x w after p Holds ran path holds = record {
    before = p ∷ [];
    after = after;
    u = x;
    to = (paths.single i v x p).0 ran;
    on = path;
    some = λ e. cc;
    told_is = append-nil p.told;
    rest_is = refl;
    holds = holds;
  }

  -- after one stride more
  pub one_later : (v x w : SemaSight) (p : SemaStride) (told rest : List Entry) (Holds : List Entry → Type 0) → SemaRan m i v p x
      → Sighted m i x w told rest Holds → Sighted m i v w (p.told ++ told) rest Holds
  one_later v x w p told rest Holds ran x_seen = record {
    before = p ∷ x_seen.before;
    after = x_seen.after;
    u = x_seen.u;
    to = (x, ran, x_seen.to);
    on = x_seen.on;
    some = λ e. cc;
    told_is = ap (λ l. p.told ++ l) x_seen.told_is;
    rest_is = x_seen.rest_is;
    holds = x_seen.holds;
  }

-- the seat at that moment
module _ (s t : SeatModel) (from : Place) (told rest : List Entry) (Holds : List Entry → Type 0)
    (x : Sighted (layout s.table.setting) s.number (placed from s.sight) t.sight told rest Holds) where
  abbrev pub seat_then : SeatModel
  seat_then = record s { sight = x.u }

  pub until_then : IsSeatAfter s 0 0 told seat_then
  until_then = after_strides s seat_then from 0 0 told x.before x.to x.told_is x.some refl refl (omega arith) (omega arith)

  pub goes_on : GoesOn t.sight.seen x.u.seen
  goes_on = (the_sema_paths.paths (layout s.table.setting)).grows s.number x.u t.sight x.after x.on

  pub since_then : (added given : ℕ) (all : List Entry) → IsSeatAfter s added given all t
      → IsSeatAfter seat_then added given rest t
  since_then added given all whole =
      after_path seat_then t x.u.stands.place added given rest x.after x.on x.rest_is whole.table whole.number whole.left whole.taken whole.lawful
