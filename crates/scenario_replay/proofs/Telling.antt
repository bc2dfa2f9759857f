-- One line more, and the whole table.
use Rattle.std.proofs.Common.{◌≡◌, ℕ, zero, suc, ◌+◌, ◌<◌, List, [], ◌∷◌, ◌++◌, Option, Some, None, IfSome, length, replicate}
use Rattle.std.proofs.Common.{slice_get, get_or}
use Rattle.std.proofs.Common.{take, refl, sym, ap, ◌∙◌, subst, arith}
use mathlib.Core.Path.{fun_ext}
use Rattle.std.proofs.lemmas.List.{length-replicate}
use Rattle.std.proofs.lemmas.Option.{slice_get-get_or}
use Rattle.step_table.specs.declared.entry.Entry.{Entry}
use Rattle.step_table.specs.declared.parts.Parts.{Parts}
use Rattle.step_table.specs.declared.standing.Standing.{Standing}
use Rattle.step_table.specs.declared.standing.Standing.TheVariants.{Rest, AtCounter, AtList, AtGroup, Left, Failed}
use Rattle.step_table.specs.declared.refusal.StepRefused.{StepRefused}
use Rattle.step_law_alike.specs.declared.variant.Variant.{Variant}
use Rattle.step_table.specs.World.{put}
use Rattle.step_table.specs.Core.{CoreLayout}
use Rattle.step_table.specs.Row.{phase_doing, phase_in}
use Rattle.step_table.specs.Run.{Run, layout, start, refusal}
use Rattle.step_rows.specs.Stored.{each}
use Rattle.step_core.specs.Finding.{found_doing, found_by}
use Rattle.step_core.specs.Stepping.{stepped_by}
use Rattle.step_core.specs.State.{WholeMachine, Moment, IsStarted, and_then, core_of, run_of, run_at, telling}
use Rattle.step_core.proofs.Moving.{same_refusal}
use Rattle.scenario_replay.specs.declared.line.StepLine.{StepLine}
use Rattle.scenario_replay.specs.StepLine.{call_begun, HasTold}
use Rattle.scenario_replay.specs.Lines.{Past, past_with, past_from, past_of, Shows, TellsStepOf, IsLine, EndsBy}

-- neither how far a seat has come nor what its row finds hangs on the journal
phase_of : (h : WholeMachine) (journal : List Entry) (i : ℕ) (x : Standing) → phase_doing (core_of h []) i x ≡ phase_doing (core_of h journal) i x
phase_of h journal i Rest = refl
phase_of h journal i (AtCounter after) = refl
phase_of h journal i (AtList l ending) = refl
phase_of h journal i (AtGroup g row) = refl
phase_of h journal i (Left skips) = refl
phase_of h journal i (Failed misuse) = refl

found_of : (m : CoreLayout) (h : WholeMachine) (journal : List Entry) (i : ℕ) (x : Standing)
    → found_doing m (core_of h journal) i x ≡ found_doing m (core_of h []) i x
found_of m h journal i Rest = refl
found_of m h journal i (AtCounter after) = refl
found_of m h journal i (AtList l ending) = refl
found_of m h journal i (AtGroup g row) = refl
found_of m h journal i (Left skips) = refl
found_of m h journal i (Failed misuse) = refl

past_more : (change : Option Variant) (parts : Parts) (from : Past) (past : List ℕ) (i : ℕ)
    → past_from change parts from (past ++ i ∷ []) ≡ past_with change parts (past_from change parts from past) i
past_more change parts from [] i = refl
past_more change parts from (k ∷ past) i = past_more change parts (past_with change parts from k) past i

-- how a run stands to which these steps led, which told this, and how many calls each seat had begun before its
-- last one
pub record SoFar (change : Option Variant) (parts : Parts) (past : List ℕ) (r : Moment) (told : List ℕ) (journal : List Entry) : Type 0 where
  pub parts_are : r.parts ≡ parts
  pub table_is : r.table ≡ change
  pub run : run_of (telling r journal) ≡ (past_of change parts past).run
  pub count : length told ≡ length parts.calls
  pub told_is : each 0 told ≡ (past_of change parts past).told

none_told : (n k : ℕ) → ◌≡◌ {A = ℕ} (get_or (replicate n 0) k 0) 0
none_told zero k = refl
none_told (suc n) zero = refl
none_told (suc n) (suc k) = none_told n k

pub at_start : (change : Option Variant) (parts : Parts) (r : Moment) (told : List ℕ) → IsStarted parts (telling r []) → r.table ≡ change
    → told ≡ replicate (length parts.calls) 0 → SoFar change parts [] r told []
at_start change parts r told started table none = record {
  parts_are = started.parts;
  table_is = table;
  run = started.run;
  count = ap (λ (l : List ℕ). length l) none ∙ length-replicate (length parts.calls) 0;
  told_is = ap (each 0) none ∙ fun_ext (λ k. none_told (length parts.calls) k);
}

module _ (change : Option Variant) (parts : Parts) (past : List ℕ) (r : Moment) (told : List ℕ) (journal : List Entry)
    (before : SoFar change parts past r told journal) where
  abbrev was : Moment
  was = r

  abbrev run : Run
  run = (past_of change parts past).run

  -- what the run answers of a seat's refusal is what the moment answers
  refused_here : (i : ℕ) (cause : Option StepRefused) → refusal was.parts (run_at was) i ≡ cause → refusal parts run i ≡ cause
  refused_here i cause is =
      (λ j. refusal (sym before.parts_are j) (sym before.run j) i) ∙ same_refusal was journal i ∙ is

  module _ (i : ℕ) (s : Moment) (now : List ℕ) (line : StepLine) (is : HasTold r told i s now line) where
    stays : s.parts ≡ r.parts
    stays = (is.steps.steps []).parts

    abbrev now_told : List Entry
    now_told = and_then journal line.entry

    stepped_so : run_of (telling s now_told) ≡ stepped_by change parts run i
    stepped_so = (is.steps.steps journal).run ∙ (λ j. stepped_by (before.table_is j) (before.parts_are j) (before.run j) i)

    more : past_of change parts (past ++ i ∷ []) ≡ past_with change parts (past_of change parts past) i
    more = past_more change parts _ past i

    pub one_more : SoFar change parts (past ++ i ∷ []) s now (and_then journal line.entry)
    one_more = record {
      parts_are = stays ∙ before.parts_are;
      table_is = is.steps.table ∙ before.table_is;
      run = stepped_so ∙ sym (ap (λ (p : Past). p.run) more);
      count = is.count ∙ before.count;
      told_is =
          is.told_now ∙ (λ j. put (before.told_is j) i ((before.run j).begun i)) ∙ sym (ap (λ (p : Past). p.told) more);
    }

    pub tells : TellsStepOf change parts (past_of change parts past) i line
    tells = record {
      seat = is.seat;
      enabled = refused_here i None is.enabled;
      row =
          is.row ∙ phase_of was.machine journal i (each Rest was.machine.standing i)
          ∙ (λ j. phase_in (before.run j).core i);
      found =
          (λ j. found_by (sym before.parts_are j) (sym before.run j) i)
          ∙ found_of (layout was.parts) was.machine journal i (each Rest was.machine.standing i) ∙ is.found;
      call = is.call ∙ (λ j. call_begun (before.parts_are j) i (before.told_is j i) ((before.run j).begun i));
      entry = ap (λ (x : Run). x.core.journal) (sym stepped_so) ∙ ap (λ (x : Run). and_then x.core.journal line.entry) before.run;
      after = record {
        table_is = ap (λ (m : Moment). m.table) is.after ∙ is.steps.table ∙ before.table_is;
        parts_are = ap (λ (m : Moment). m.parts) is.after ∙ stays ∙ before.parts_are;
        run_is = (now_told, ap (λ (m : Moment). run_of (telling m now_told)) is.after ∙ stepped_so);
      };
    }

-- ---- the lines

lines_more : {A : Type 0} (P : ℕ → A → Type 0) (l : List A) (x : A) → ((k : ℕ) → IfSome (slice_get l k) (P k)) → P (length l) x
    → (k : ℕ) → IfSome (slice_get (l ++ x ∷ []) k) (P k)
lines_more P [] x all here zero = here
lines_more P [] x all here (suc k) = tt
lines_more P (y ∷ l) x all here zero = all zero
lines_more P (y ∷ l) x all here (suc k) = lines_more (λ n. P (suc n)) l x (λ n. all (suc n)) here k

-- the table of the first so many steps of a schedule, and how the run stands then
pub record TableSoFar (change : Option Variant) (parts : Parts) (schedule : List ℕ) (first : Moment) (at : ℕ) (r : Moment)
    (told : List ℕ) (lines : List StepLine) (journal : List Entry) : Type 0 where
  pub begins : Shows change first parts (start parts)
  pub so_far : SoFar change parts (take at schedule) r told journal
  pub count : length lines ≡ at
  pub each_line : (k : ℕ) → IfSome (slice_get lines k) (IsLine change parts schedule k)

pub no_line : (change : Option Variant) (parts : Parts) (schedule : List ℕ) (first : Moment) (r : Moment) (told : List ℕ)
    → IsStarted parts (telling r []) → r.table ≡ change → first ≡ r → told ≡ replicate (length parts.calls) 0
    → TableSoFar change parts schedule first 0 r told [] []
no_line change parts schedule first r told started table shows none = record {
  begins = record {
    table_is = ap (λ (m : Moment). m.table) shows ∙ table;
    parts_are = ap (λ (m : Moment). m.parts) shows ∙ started.parts;
    run_is = ([], ap run_at shows ∙ started.run);
  };
  so_far = at_start change parts r told started table none;
  count = refl;
  each_line = λ k. tt;
}

module _ (change : Option Variant) (parts : Parts) (schedule : List ℕ) (first : Moment) (at i : ℕ) (r : Moment) (told : List ℕ)
    (lines : List StepLine) (journal : List Entry) (before : TableSoFar change parts schedule first at r told lines journal) (there : at < length schedule)
    (is_seat : i ≡ get_or schedule at i) where
  step_is : slice_get schedule at ≡ Some i
  step_is = slice_get-get_or schedule at i there ∙ ap Some (sym is_seat)

  pub line_more : take (at + 1) schedule ≡ take at schedule ++ i ∷ [] → (s : Moment) (now : List ℕ) (line : StepLine) → HasTold r told i s now line
      → TableSoFar change parts schedule first (at + 1) s now (lines ++ line ∷ []) (and_then journal line.entry)
  line_more taken s now line is = record {
    begins = before.begins;
    so_far = subst (λ past. SoFar change parts past s now (and_then journal line.entry)) (sym taken)
        (one_more change parts (take at schedule) r told journal before.so_far i s now line is);
    count = longer lines ∙ ap (λ n. n + 1) before.count;
    each_line = lines_more (IsLine change parts schedule) lines line before.each_line
        (subst (λ n. IsLine change parts schedule n line) (sym before.count) (record {
          step = step_is ∙ ap Some (sym is.seat);
          tells = subst (λ k. TellsStepOf change parts (past_of change parts (take at schedule)) k line) (sym is.seat)
              (tells change parts (take at schedule) r told journal before.so_far i s now line is);
        }));
  }
    where
      longer : (l : List StepLine) → length (l ++ line ∷ []) ≡ length l + 1
      longer [] = refl
      longer (x ∷ l) = omega (arith, longer l)

  pub ends_here : (cause : StepRefused) → refusal r.parts (run_at r) i ≡ Some cause
      → EndsBy change parts schedule (length lines) (Some (record { at = at; cause = cause }))
  ends_here cause is =
      subst (λ n. EndsBy change parts schedule n (Some (record { at = at; cause = cause }))) (sym before.count)
      (refl, i, step_is, refused_here change parts (take at schedule) r told journal before.so_far i (Some cause) is)

-- the run so far stands where its lines lead, and has this journal
module _ (change : Option Variant) (parts : Parts) (schedule : List ℕ) (first : Moment) (at : ℕ) (r : Moment) (told : List ℕ)
    (lines : List StepLine) (journal : List Entry) (before : TableSoFar change parts schedule first at r told lines journal) where
  pub tells_so : run_of (telling r journal) ≡ (past_of change parts (take (length lines) schedule)).run
  tells_so = before.so_far.run ∙ ap (λ n. (past_of change parts (take n schedule)).run) (sym before.count)

  pub stands_at : Shows change r parts (past_of change parts (take (length lines) schedule)).run
  stands_at = record {
    table_is = before.so_far.table_is;
    parts_are = before.so_far.parts_are;
    run_is = (journal, tells_so);
  }
