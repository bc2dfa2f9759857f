use Rattle.std.proofs.Common.{◌≡◌, ℕ, ◌<◌, ◌≤◌, length, get_or, sym, ap, ◌∙◌, subst, arith}
use Rattle.std.proofs.lemmas.List.{length-map}
use Rattle.waiters.specs.declared.wait.WaitId.{WaitId}
use Rattle.step_table.specs.Event.{waiter}
use Rattle.step_table.specs.Counting.{wait}
use Rattle.sema_table.proofs.WakeningMany.{seat_at, left_is, stands_granting, granted_none, granted_more, granted_all}
use Rattle.sema_table.proofs.sema_table.SemaTable.grant_all.Goals as goal

pub loop-seat-init : goal.loop-seat-init
loop-seat-init g c = granted_none c.args.self.now c.args.token.now c.args.call.now c.requires.seat

pub grant_one-requires-clause-seat : goal.grant_one-requires-clause-seat
grant_one-requires-clause-seat g c =
    let s = c.args.token.now in let t = c.loop-seat.token in let a = c.args.call.now in let n : ℕ = c.loop-seat.seat-index in let x = c.loop-seat.invariant in
    let all : length c.args.seats.now ≡ length s.me.0.own.knows.hand = ap length c.requires.seats
    ∙ length-map s.me.0.own.knows.hand (λ (w : WaitId). w.seat) in
    let low : n < length s.me.0.own.knows.hand = (let h = c.loop-seat-test.true in omega arith) in (
      stands_granting s t a n x low c.args.self.now c.requires.seat,
      ap (waiter t.me.0.own.number) (left_is s t a n x low) ∙ sym (seat_at s.me.0.own.knows.hand n) ∙ ap (λ l. get_or l n 0) (sym c.requires.seats),
    )

pub grant_one-requires-clause-there : goal.grant_one-requires-clause-there
grant_one-requires-clause-there g c =
    let s = c.args.token.now in let n : ℕ = c.loop-seat.seat-index in
    let all : length c.args.seats.now ≡ length s.me.0.own.knows.hand = ap length c.requires.seats
    ∙ length-map s.me.0.own.knows.hand (λ (w : WaitId). w.seat) in
    let low : n < length s.me.0.own.knows.hand = (let h = c.loop-seat-test.true in omega arith) in
    subst (λ k. k < c.args.self.now.setting.seats) (sym (seat_at s.me.0.own.knows.hand n) ∙ ap (λ l. get_or l n 0) (sym c.requires.seats))
    (c.requires.there n (wait 0 0) low)

pub loop-seat-preserved : goal.loop-seat-preserved
loop-seat-preserved g c =
    let s = c.args.token.now in let n : ℕ = c.loop-seat.seat-index in
    let all : length c.args.seats.now ≡ length s.me.0.own.knows.hand = ap length c.requires.seats
    ∙ length-map s.me.0.own.knows.hand (λ (w : WaitId). w.seat) in
    let low : n < length s.me.0.own.knows.hand = (let h = c.loop-seat-test.true in omega arith) in
    granted_more s c.loop-seat.token c.args.call.now n c.loop-seat.invariant low c.grant_one.new.token c.grant_one.ensures

pub returns : goal.returns
returns g c =
    let s = c.args.token.now in let n : ℕ = c.loop-seat.seat-index in
    let all : length c.args.seats.now ≡ length s.me.0.own.knows.hand = ap length c.requires.seats
    ∙ length-map s.me.0.own.knows.hand (λ (w : WaitId). w.seat) in
    let most : length s.me.0.own.knows.hand ≤ n = (let h = c.loop-seat-test.false in omega arith) in
    granted_all s c.loop-seat.token c.args.call.now n most c.loop-seat.invariant
