use Rattle.std.proofs.Common.{◌<◌, ◌-◌, length, set, subst, sym, arith}
use Rattle.std.proofs.Common.{eq-eqb, ne_eqb}
use Rattle.program_rows.specs.Stored.{Stored, AreThere}
use Rattle.program_rows.proofs.Waking.{Waking, starts, passed, wakes, ends_all_woken, ends_all_seen}
use Rattle.program_rows.proofs.state.ProgramState.wake.Goals as goal

pub loop-at-init : goal.loop-at-init
loop-at-init c =
    let inside : Stored
    = record { words = c.self.inside.words.items; sleepers = c.self.inside.sleepers.items; seats = c.self.inside.seats.items } in
    subst (λ (s : Stored). Waking c.args.word c.args.many s inside c.args.many 0) c.self.view_is
    (starts c.args.word c.args.many inside (subst AreThere (sym c.self.view_is) c.requires))

pub loop-at-preserved-then-sleeper-word : goal.loop-at-preserved-then-sleeper-word
loop-at-preserved-then-sleeper-word c =
    let within : c.loop-at.at < length c.loop-at.self-inside.sleepers.items
    = let t = c.loop-at-test.true in let e = c.len.ensures in let o = c.loop-at.self-inside.sleepers.ok.0 in omega arith in
    let now : Stored = record {
      words = c.loop-at.self-inside.words.items;
      sleepers = c.loop-at.self-inside.sleepers.items;
      seats = c.loop-at.self-inside.seats.items;
    } in
    subst (λ sleepers. Waking c.args.word c.args.many c.args.self.now (record {
      words = now.words;
      sleepers = sleepers;
      seats = set now.seats c.number.result (record c.index_mut.result.now { grant = 1 });
    }) (c.loop-at.left - 1) c.loop-at.at) (sym c.remove.ensures.items)
    (wakes c.args.word c.args.many c.args.self.now now c.loop-at.left c.loop-at.at c.loop-at.invariant within c.index-sleeper.result.now
    c.index-sleeper.ensures c.if-left-gt0.true c.number.result c.number.ensures c.index_mut.result.now c.index_mut.ensures.value
    (eq-eqb _ _ c.if-sleeper-word.true))

pub loop-at-preserved : goal.loop-at-preserved
loop-at-preserved c =
    passed c.args.word c.args.many c.args.self.now _ c.loop-at.left c.loop-at.at c.loop-at.invariant
    (let t = c.loop-at-test.true in let e = c.len.ensures in let o = c.loop-at.self-inside.sleepers.ok.0 in omega arith) _
    c.index-sleeper.ensures c.if-left-gt0.true (ne_eqb _ _ c.if-sleeper-word.false)

pub returns-else-left-gt0 : goal.returns-else-left-gt0
returns-else-left-gt0 c =
    ends_all_woken c.args.word c.args.many c.args.self.now _ c.loop-at.left c.loop-at.at c.loop-at.invariant
    (let t = c.if-left-gt0.false in omega arith)

pub returns-after-loop-at : goal.returns-after-loop-at
returns-after-loop-at c =
    ends_all_seen c.args.word c.args.many c.args.self.now _ c.loop-at.left c.loop-at.at c.loop-at.invariant
    (let t = c.loop-at-test.false in let e = c.len.ensures in let o = c.loop-at.self-inside.sleepers.ok.0 in omega arith)
