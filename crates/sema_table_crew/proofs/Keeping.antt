-- What a thread of a crew has kept, of which its promise is known; and one turn more.
use Rattle.std.proofs.Common.{◌≡◌, true, false, ℕ, ◌+◌, ◌%◌, ◌==◌, length, add-one, sym, ap, subst}
use Rattle.sema_table.specs.Seats.{TableModel, SeatModel}
use Rattle.sema_table_crew.specs.declared.work.Way.{Way}
use Rattle.sema_table_crew.specs.declared.work.Work.{Work}
use Rattle.sema_table_crew.specs.declared.crew.Plan.{Plan}
use Rattle.sema_table_crew.specs.declared.work.Work.TheVariants.{Rounds}
use Rattle.sema_table_crew.specs.Turns.{GoesRound, plain, way_of, IsTurn, HasRun, HasWorked}
use Rattle.sema_table_crew.specs.Crew.{Worker, IsWorker}

pub kept : (t : TableModel) (plan : Plan) (w : Worker) (s : SeatModel) → IsWorker t plan w
    → HasWorked w.promise.table.now w.promise.plan.work w.promise.plan.turns s → HasWorked t plan.work plan.turns s
kept t plan w s is h =
    subst (λ (u : TableModel). HasWorked u plan.work plan.turns s) is.table_is
    (subst (λ (p : Plan). HasWorked w.promise.table.now p.work p.turns s) is.plan_is h)

pub one_more : (work : Work) (first : SeatModel) (n : ℕ) (s t : SeatModel) → HasRun work first n s
    → IsTurn work (length first.table.setting.starts) first.number n s t → HasRun work first (n + 1) t
one_more work first n s t ran turn = subst (λ (k : ℕ). HasRun work first k t) (sym (add-one n)) (s, ran, turn)

-- one round more, of a counter that is 0: the even ones are plain, and the others have handoff and lifo
pub one_round : (first : SeatModel) (m : ℕ) (s : SeatModel) (k : ℕ) (way : Way) (t : SeatModel) → HasRun Rounds first m s → k ≡ 0
    → way ≡ way_of m → GoesRound s k way t → HasRun Rounds first (m + 1) t
one_round first m s k way t ran zero is went =
    one_more Rounds first m s t ran (subst (λ n. GoesRound s n (way_of m) t) zero (subst (λ w. GoesRound s k w t) is went))

pub plain_way : (m : ℕ) → m % 2 ≡ 0 → plain ≡ way_of m
plain_way m even = let is : false ≡ (m % 2 == 1) = sym (ap (λ n. n == 1) even) in λ i. record { lifo = is i; handoff = is i }

pub odd_way : (m : ℕ) → m % 2 ≡ 1 → record { lifo = true; handoff = true } ≡ way_of m
odd_way m odd = let is : true ≡ (m % 2 == 1) = sym (ap (λ n. n == 1) odd) in λ i. record { lifo = is i; handoff = is i }
