use Rattle.std.proofs.Common.{◌≡◌, ℕ, ◌<◌, List, rules, arith, get_or, vec_len, length, length-append, [], ◌∷◌, ◌++◌, refl, sym, ap, ◌∙◌, subst}
use Rattle.std.proofs.lemmas.Bool.{eqb-true}
use Rattle.std.proofs.lemmas.List.{length_push, nil_from_length}
use Rattle.std.specs.Vec.Iter.{into_iter_items, into_iter_len}
use Rattle.std.proofs.lemmas.List.{append-nil, append_assoc}
use Rattle.std.proofs.lemmas.List.Elements.{All-append, All-same}
use Rattle.sema_table.specs.Seats.{SeatModel}
use Rattle.explorer_commands.specs.Threads.{Worker, IsWorker, HasWorked, HasStopped}
use Rattle.explorer_commands.proofs.Working.{kept, one_more, shifted, worked_stopped, new_stopped}
use Rattle.explorer_commands.proofs.threads.work_in.Goals as goal

pub loop-worker-init : goal.loop-worker-init
loop-worker-init g c = (
  [],
  record {
    back = sym (append-nil _);
    left = search rules;
    next = λ k d low. search rules;
    each = λ k d low. absurd (omega arith);
    room = search rules;
  },
)

-- the worker that is joined stood first among the rest, so it has the seat of the next number
pub loop-worker-preserved : goal.loop-worker-preserved
loop-worker-preserved g c =
    let xs = c.loop-worker.invariant.0 in let was = c.loop-worker.invariant.1 in let step = c.in-Some.ensures.steps in
    let first = c.into_iter-worker-iterator.result in let gives = c.into_iter-worker-iterator.ensures.into_iter_gives in
    let t = c.args.table.now in let n = c.args.rounds in let w = c.in-Some.worker in let s = c.join.result in
    let next : w ≡ get_or (into_iter_items first) (length xs) w = (let h = was.next 0 w in grind rules) in
    let low : length xs < into_iter_len first = search rules in
    let each = c.start_all.ensures.begun.each in
    let is : IsWorker t (length xs) n w = subst (λ (x : Worker). IsWorker t (length xs) n x) (sym next)
    (subst (λ (ws : List Worker). IsWorker t (length xs) n (get_or ws (length xs) w)) (sym gives.0) (each (length xs) w (omega (arith, low, gives.1)))) in
    let worked : HasWorked t (length xs) n s = kept t (length xs) n w s is c.join.ensures in
    let pushed = c.push_reserved.ensures in let longer = length_push xs s in (
      xs ++ s ∷ [],
      record {
        back = pushed.items ∙ ap (λ (l : List SeatModel). l ++ s ∷ []) was.back ∙ append_assoc _ xs (s ∷ []);
        left = omega (arith, longer, was.left, step.1);
        next = shifted _ _ (into_iter_items first) w (length xs) _ _ step.0 longer (λ k d b. was.next k d (omega (arith, b, step.1)));
        each = λ k d b. one_more (λ (i : ℕ) (x : SeatModel). HasWorked t i n x) (length xs) xs (xs ++ s ∷ []) s refl refl was.each worked k d
            (omega (arith, b, longer));
        room = (let cap = pushed.capacity in omega (arith, cap, was.room));
      },
    )

-- without memory no seat was given to a thread
pub returns-in_default-clause-home : goal.returns-in_default-clause-home
returns-in_default-clause-home g c =
    record { count = refl; each = new_stopped c.args.table.now c.args.rounds c.args.seats.items c.requires.seats }

pub returns-in_default-with_capacity-clause-home : goal.returns-in_default-with_capacity-clause-home
returns-in_default-with_capacity-clause-home g c =
    record { count = refl; each = new_stopped c.args.table.now c.args.rounds c.args.seats.items c.requires.seats }

-- none had come back before the joins, so the seats are those that were joined
pub returns-then-has_all-clause-worked : goal.returns-then-has_all-clause-worked
returns-then-has_all-clause-worked g c =
    let xs = c.loop-worker.invariant.0 in let was = c.loop-worker.invariant.1 in let begun = c.start_all.ensures.begun in
    let t = c.args.table.now in let n = c.args.rounds in let before = c.start_all.new.back in let started = c.start_all.new.started in
    let gives = c.into_iter-worker-iterator.ensures.into_iter_gives in let end = c.in-None.ensures.steps.0 in
    let none = eqb-true (vec_len before) 0 (sym c.is_empty-has_all.ensures ∙ c.if-has_all.true) in
    let empty : length before.items ≡ 0 = omega (arith, none, before.ok.0) in
    let is : c.loop-worker.back.items ≡ xs = was.back ∙ ap (λ (l : List SeatModel). l ++ xs) (nil_from_length before.items empty) in
    let all : length xs ≡ length c.args.seats.items = omega (arith, was.left, end, gives.1, started.ok.0, begun.count, empty) in record {
      count = ap length is ∙ all;
      each = λ k d low. subst (λ (l : List SeatModel). HasWorked t k n (get_or l k d)) (sym is) (was.each k d (omega (arith, low, all)));
    }

-- those that came back at once have stopped, and those that were joined have worked
pub returns-else-has_all-clause-home : goal.returns-else-has_all-clause-home
returns-else-has_all-clause-home g c =
    let xs = c.loop-worker.invariant.0 in let was = c.loop-worker.invariant.1 in let begun = c.start_all.ensures.begun in
    let t = c.args.table.now in let n = c.args.rounds in let before = c.start_all.new.back in let started = c.start_all.new.started in
    let gives = c.into_iter-worker-iterator.ensures.into_iter_gives in let end = c.in-None.ensures.steps.0 in
    let long = length-append before.items xs in record {
      count = ap length was.back ∙ omega (arith, long, was.left, end, gives.1, started.ok.0, begun.count);
      each = All-same (HasStopped t n) _ _ was.back
          (All-append (HasStopped t n) before.items xs begun.others (worked_stopped t n (length xs) xs refl was.each));
    }
