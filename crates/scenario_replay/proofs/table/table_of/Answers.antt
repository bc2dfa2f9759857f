use Rattle.std.proofs.Common.{◌≡◌, ℕ, ◌+◌, List, [], ◌∷◌, ◌++◌, Result, length, replicate, take, sym, ap, ◌∙◌, subst, arith}
use Rattle.std.proofs.lemmas.List.{take_more}
use Rattle.step_table.specs.declared.entry.Entry.{Entry}
use Rattle.step_table.specs.declared.refusal.StepRefused.{StepRefused}
use Rattle.scenario_replay.specs.declared.line.StepLine.{StepLine}
use Rattle.scenario_replay.specs.StepLine.{TellsStep}
use Rattle.step_core.specs.State.{Moment, and_then, run_of, telling}
use Rattle.scenario_replay.specs.Lines.{past_of, Shows}
use Rattle.scenario_replay.proofs.Telling.{TableSoFar, no_line, line_more, ends_here, stands_at, tells_so}
use Rattle.scenario_replay.proofs.table.table_of.Goals as goal

pub loop-at-init : goal.loop-at-init
loop-at-init c =
    subst (λ (journal : List Entry). TableSoFar c.args.change c.args.scenario.now c.args.schedule.now c.in_ok-start.start 0 c.in_ok-running.running
    c.in_ok-told.told.items c.new-lines.result.items journal) (sym c.new-journal.ensures.items)
    (subst (λ (lines : List StepLine). TableSoFar c.args.change c.args.scenario.now c.args.schedule.now c.in_ok-start.start 0 c.in_ok-running.running
    c.in_ok-told.told.items lines []) (sym c.new-lines.ensures.items)
    (no_line c.args.change c.args.scenario.now c.args.schedule.now _ _ _ c.in_ok-running.ensures.start c.in_ok-running.ensures.table
    c.in_ok-start.ensures
    (c.in_ok-told.ensures ∙ ap (λ (n : ℕ). replicate {A = ℕ} n 0) c.seats.ensures)))

pub returns-in-Err : goal.returns-in-Err
returns-in-Err c =
    let told = subst (λ (answer : Result StepLine StepRefused). TellsStep c.loop-at.running c.loop-at.told.items c.index-schedule-at.result
    c.step_line.new.running c.step_line.new.told.items answer) c.in-Err.is c.in_ok-line.ensures in
    let lines : List StepLine = c.loop-at.lines.items in
    let there = (past_of c.args.change c.args.scenario.now (take (length lines) c.args.schedule.now)).run in
    record {
      begins = c.loop-at.invariant.begins;
      lines = c.loop-at.invariant.each_line;
      ends = ends_here c.args.change c.args.scenario.now c.args.schedule.now _ _ _ _ _ _ _ c.loop-at.invariant c.loop-at-test.true
          c.index-schedule-at.is c.in-Err.cause told.1;
      ends_at = subst (λ (r : Moment). Shows c.args.change r c.args.scenario.now there) (sym told.0)
          (stands_at c.args.change c.args.scenario.now c.args.schedule.now _ _ _ _ _ _ c.loop-at.invariant);
      tells = subst (λ (r : Moment). run_of (telling r c.loop-at.journal.items) ≡ there) (sym told.0)
          (tells_so c.args.change c.args.scenario.now c.args.schedule.now _ _ _ _ _ _ c.loop-at.invariant);
    }

pub loop-at-preserved : goal.loop-at-preserved
loop-at-preserved c =
    let seat = c.index-schedule-at.result in
    let past : List ℕ = take c.loop-at.at c.args.schedule.now in
    let more : take (c.loop-at.at + 1) c.args.schedule.now ≡ past ++ seat ∷ []
    = take_more c.args.schedule.now c.loop-at.at seat c.loop-at-test.true ∙ ap (λ (i : ℕ). past ++ i ∷ []) (sym c.index-schedule-at.is) in
    let told = subst (λ (answer : Result StepLine StepRefused). TellsStep c.loop-at.running c.loop-at.told.items seat
    c.step_line.new.running c.step_line.new.told.items answer) c.in-Ok.is c.in_ok-line.ensures in
    let added = c.push_reserved.ensures.items ∙ ap (λ (lines : List StepLine). lines ++ c.in-Ok.line ∷ []) c.in_ok-reserve-in-Ok.ensures.items in
    subst (λ (both : List StepLine × List Entry). TableSoFar c.args.change c.args.scenario.now c.args.schedule.now c.loop-at.start (c.loop-at.at + 1)
    c.step_line.new.running c.step_line.new.told.items both.0 both.1)
    (λ i. (sym added i, sym c.in_ok-write_down-in-Ok.ensures i))
    (line_more c.args.change c.args.scenario.now c.args.schedule.now _ _ _ _ _ _ _ c.loop-at.invariant c.loop-at-test.true
    c.index-schedule-at.is more _ _ c.in-Ok.line told)

pub returns : goal.returns
returns c = record {
  begins = c.loop-at.invariant.begins;
  lines = c.loop-at.invariant.each_line;
  ends =
      let count = c.loop-at.invariant.count in
      let past = c.loop-at-test.false in
      let end = c.loop-at.auto.at-end in omega arith;
  ends_at = stands_at c.args.change c.args.scenario.now c.args.schedule.now _ _ _ _ _ _ c.loop-at.invariant;
  tells = tells_so c.args.change c.args.scenario.now c.args.schedule.now _ _ _ _ _ _ c.loop-at.invariant;
}
