use Rattle.std.proofs.Common.{◌≡◌, ℕ, ◌+◌, ◌<◌, ◌≤◌, length, drop, get_or, take, refl, sym, ap, ◌∙◌, subst, arith}
use Rattle.std.proofs.lemmas.List.{length-map, take_more, take_all}
use Rattle.notify_list.specs.NotifyingAll.{StoresGrants}
use Rattle.waiters.specs.declared.wait.Wait.{Wait}
use Rattle.notify_list.proofs.Wakening.{a_wait, seat_at, woken_none, may_next, hand_next, woken_more, woken_all, stores_more}
use Rattle.notify_list.specs.Seats.{stands_of}
use Rattle.notify_list.proofs.notify_list.NotifyList.grant_seats.Goals as goal

pub loop-seat-init : goal.loop-seat-init
loop-seat-init g c = ((λ h may. woken_none c.args.self.now c.args.token.now c.args.token.now h may (refl, refl)), refl)

pub grant_first-requires-clause-seat : goal.grant_first-requires-clause-seat
grant_first-requires-clause-seat g c =
    let s = c.args.token.now in let t = c.loop-seat.token in let n : ℕ = c.loop-seat.seat-index in let h : ℕ = c.requires.seat.0 in
    let may = c.requires.seat.1 in let x = c.loop-seat.invariant.0 h may in
    let all : length c.args.seats.now ≡ length (stands_of s).hand = ap length c.requires.seats ∙ length-map (stands_of s).hand (λ (w : Wait). w.id.seat) in
    let low : n < length (stands_of s).hand = (let k = c.loop-seat-test.true in omega arith) in (
      h,
      get_or (stands_of s).hand n a_wait,
      drop (n + 1) (stands_of s).hand,
      may_next c.args.self.now s t h n may x,
      hand_next c.args.self.now s t h n may x low,
      seat_at (stands_of s).hand n low ∙ ap (λ l. get_or l n 0) (sym c.requires.seats),
    )

pub loop-seat-preserved : goal.loop-seat-preserved
loop-seat-preserved g c = (
  (λ h may.
      let s = c.args.token.now in let t = c.loop-seat.token in let n : ℕ = c.loop-seat.seat-index in let x = c.loop-seat.invariant.0 h may in
      let all : length c.args.seats.now ≡ length (stands_of s).hand = ap length c.requires.seats ∙ length-map (stands_of s).hand (λ (w : Wait). w.id.seat) in
      let low : n < length (stands_of s).hand = (let k = c.loop-seat-test.true in omega arith) in
      woken_more c.args.self.now s t h n may x c.grant_first.new.token low
      (c.grant_first.ensures.rows h (get_or (stands_of s).hand n a_wait) (drop (n + 1) (stands_of s).hand) (may_next c.args.self.now s t h n may x)
      (hand_next c.args.self.now s t h n may x low))),
  (let n : ℕ = c.loop-seat.seat-index in let low : n < length c.args.seats.now = (let k = c.loop-seat-test.true in omega arith) in
      subst (λ l. StoresGrants l c.args.token.now.me.0.own.gone c.grant_first.new.token.me.0.own.gone) (sym (take_more c.args.seats.now n 0 low))
      (stores_more (take n c.args.seats.now) c.args.token.now.me.0.own.gone c.loop-seat.token.me.0.own.gone c.grant_first.new.token.me.0.own.gone
      (get_or c.args.seats.now n 0) c.loop-seat.invariant.1 c.grant_first.ensures.stored)),
)

pub returns-clause-stored : goal.returns-clause-stored
returns-clause-stored g c = let n : ℕ = c.loop-seat.seat-index in let most : length c.args.seats.now ≤ n = (let k = c.loop-seat-test.false in omega arith) in
    subst (λ l. StoresGrants l c.args.token.now.me.0.own.gone c.loop-seat.token.me.0.own.gone) (take_all n c.args.seats.now most) c.loop-seat.invariant.1

pub returns-clause-rows : goal.returns-clause-rows
returns-clause-rows g c h may =
    let s = c.args.token.now in let n : ℕ = c.loop-seat.seat-index in
    let all : length c.args.seats.now ≡ length (stands_of s).hand = ap length c.requires.seats ∙ length-map (stands_of s).hand (λ (w : Wait). w.id.seat) in
    let most : length (stands_of s).hand ≤ n = (let k = c.loop-seat-test.false in omega arith) in
    woken_all s c.loop-seat.token h n most (c.loop-seat.invariant.0 h may)
