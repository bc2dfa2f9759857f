use Rattle.std.proofs.Common.{◌≡◌, ℕ, ◌+◌, Option, Some, None, refl, sym, ap, ◌∙◌, subst, arith}
use Rattle.step_table.specs.declared.list_place.ListPlace.TheVariants.{NotifyingOne}
use Rattle.step_table.specs.declared.list_place.OneRow.TheVariants.{O7}
use Rattle.notify_list.specs.Places.{at_place}
use Rattle.step_table.specs.declared.list_place.ListWord.TheVariants.{Grant}
use Rattle.waiters.specs.declared.wait.Wait.{Wait}
use Rattle.step_table.specs.ListWorld.{ListSeat}
use Rattle.notify_list.specs.Seats.{ListModel, list_of, stands_of}
use Rattle.notify_list.specs.Plays.{Me}
use Rattle.notify_list.specs.Shared.{list_by}
use Rattle.notify_list.specs.Rows.{HasStored}
use Rattle.notify_list.specs.Granting.{GrantsLast}
use Rattle.notify_list.proofs.Owned.{low_word, grant_low, owned, lock_futex, grant_futex, serves}
use Rattle.notify_list.proofs.Futexes.{plain_low}
use Rattle.notify_list.proofs.Allowing.{stores_at, grants_at}
use Rattle.notify_list.proofs.Granting.{gives_out, edited_by, stands7, stands8, ended_none, to9, seat_there, ended_some, gave_last, record8, stores_next}
use Rattle.notify_list.proofs.notify_list.NotifyList.grant_passed.Goals as goal

pub store-requires : goal.store-requires
store-requires g c =
    let x = c.self.inside in let s = c.args.token.now in let may = c.requires.seat.1 in let at = may.list_is ∙ sym c.self.view_is in (
      omega arith,
      (
        owned x c.self.invariant s at,
        (
          low_word x c.self.invariant 1 (omega arith),
          (
            plain_low x.words.table.shared.key 1 (omega arith),
            stores_at _ s.me 1 (at_place (NotifyingOne c.requires.seat.0 (O7 c.args.ticket)) (stands_of s)) (stands7 c.args.self.now s c.requires.seat.0 c.args.ticket c.args.next may)
                c.args.next (λ e. absurd (omega arith))
                (λ w n known. record {
                  word = refl;
                  there = tt;
                  can = refl;
                  becomes = stores_next s c.requires.seat.0 c.args.ticket c.args.next w may.next_is known.laws known.met.reach known.there
                      (ap (λ (y : ListSeat). y.place) known.knows.meets.stands) (known.knows.held refl);
                }),
          ),
        ),
      ),
    )

pub remove-waiter-requires : goal.remove-waiter-requires
remove-waiter-requires g c =
    let s = c.args.token.now in let l = c.args.self.now in let h : ℕ = c.requires.seat.0 in
    let k : ℕ = c.args.ticket in let may = c.requires.seat.1 in let t = c.store.new.token in let E = c.store.ensures in let n : ℕ = E.went.0 in (
      (λ i. record { id = E.own i; setting = E.went.1.0.same.1 i }) ∙ may.list_is,
      record8 l s h k c.args.next may t n E.went.1 E.own (ap (λ (m : Me). m.1) E.went.1.1),
    )

pub give_lock-requires : goal.give_lock-requires
give_lock-requires g c =
    let x = c.self.inside in let s = c.args.token.now in let l = c.args.self.now in let h : ℕ = c.requires.seat.0 in
    let k : ℕ = c.args.ticket in let may = c.requires.seat.1 in
    let t = c.store.new.token in let E = c.store.ensures in let n : ℕ = E.went.0 in
    let at : list_of t ≡ list_by x = (λ i. record { id = E.own i; setting = E.went.1.0.same.1 i }) ∙ may.list_is ∙ sym c.self.view_is in
    let out = c.remove-waiter.ensures in
    let futex = lock_futex x c.self.view_is c.sleepers_word.ensures.at c.sleepers_word.ensures.low in (
      omega arith,
      (
        owned x c.self.invariant c.remove-waiter.new.token ((edited_by t c.remove-waiter.new.token k c.remove-waiter.result out).0 ∙ at),
        (
          (low_word x c.self.invariant 2 (omega arith), futex.0),
          (
            serves c.self.inside c.self.view_is g.N.Kernel.serves c.requires.kernel,
            (
              futex.1,
              gives_out _ t c.remove-waiter.new.token h k c.remove-waiter.result (stands8 l s h k c.args.next may t n E.went.1 E.own) out,
            ),
          ),
        ),
      ),
    )

pub asleep_word-requires : goal.asleep_word-requires
asleep_word-requires g c =
    let s = c.args.token.now in let l = c.args.self.now in let h : ℕ = c.requires.seat.0 in let k : ℕ = c.args.ticket in let may = c.requires.seat.1 in
    let t = c.store.new.token in let E = c.store.ensures in let n : ℕ = E.went.0 in let y = c.remove-waiter.new.token in
    let u = c.give_lock.new.token in let F = c.give_lock.ensures in let found = c.in-Some.ensures in let w : Wait = found.0 in
    let low = seat_there l s h k c.args.next may t n E.went.1 E.own y u (Some c.in-Some.seat) found F.went F.own w found.1 in
    let mine = ap (λ (l : ListModel). l.setting.seats) may.list_is in let same = found.2 in let from = c.from-seat.ensures in
    omega (arith, low, mine, same, from)

pub grant-requires : goal.grant-requires
grant-requires g c =
    let x = c.self.inside in let s = c.args.token.now in let l = c.args.self.now in let h : ℕ = c.requires.seat.0 in
    let k : ℕ = c.args.ticket in let may = c.requires.seat.1 in
    let t = c.store.new.token in let E = c.store.ensures in let n : ℕ = E.went.0 in let y = c.remove-waiter.new.token in
    let u = c.give_lock.new.token in let F = c.give_lock.ensures in
    let found = c.in-Some.ensures in let w : Wait = found.0 in
    let R = to9 l s h k c.args.next may t n E.went.1 E.own y u (Some c.in-Some.seat) found F.went F.own w found.1 in
    let low = seat_there l s h k c.args.next may t n E.went.1 E.own y u (Some c.in-Some.seat) found F.went F.own w found.1 in
    let at = R.list_is ∙ may.list_is ∙ sym c.self.view_is in let same = found.2 in let word = c.grant_word.ensures in
    let mine = ap (λ (l : ListModel). l.setting.seats) (may.list_is ∙ sym c.self.view_is) in
    let his = ap (λ (l : ListModel). l.setting.seats) R.list_is in let A = c.asleep_word.ensures in let from = c.from-seat.ensures in
    let futex = grant_futex x c.from-seat.result c.self.view_is (let own = ap (λ (l : ListModel). l.setting.seats) may.list_is in omega (arith, low, own, same, from))
    word A.at A.low in (
      omega arith,
      (
        owned x c.self.invariant u at,
        (
          ((let g = grant_low x c.self.invariant w.id.seat (omega (arith, mine, low)) in omega (arith, same, word, from)), futex.0),
          (
            serves c.self.inside c.self.view_is g.N.Kernel.serves c.requires.kernel,
            (
              futex.1,
              grants_at _ u.me c.grant_word.result _ R.stands_is (Grant w.id.seat) 1 _ (λ g. refl) (omega (arith, same, word, from)) (omega (arith, his, low))
                  (λ e. absurd (omega (arith, word, e))),
            ),
          ),
        ),
      ),
    )

pub returns-in-Some-clause-rows : goal.returns-in-Some-clause-rows
returns-in-Some-clause-rows g c h may =
    let s = c.args.token.now in let l = c.args.self.now in let k : ℕ = c.args.ticket in
    let t = c.store.new.token in let E = c.store.ensures in let n : ℕ = E.went.0 in let y = c.remove-waiter.new.token in
    let u = c.give_lock.new.token in let F = c.give_lock.ensures in
    let found = c.in-Some.ensures in let w : Wait = found.0 in let G = c.grant.ensures in
    ended_some l s h k c.args.next may t n E.went.1 E.own y u (Some c.in-Some.seat) found F.went F.own w found.1 c.grant.new.token G.went.0 (G.went.1, G.went.3) G.own

pub returns-in_default-clause-rows : goal.returns-in_default-clause-rows
returns-in_default-clause-rows g c h may =
    let s = c.args.token.now in let l = c.args.self.now in let k : ℕ = c.args.ticket in
    let t = c.store.new.token in let E = c.store.ensures in let n : ℕ = E.went.0 in let y = c.remove-waiter.new.token in
    let u = c.give_lock.new.token in let F = c.give_lock.ensures in
    let found = c.in_default.ensures in
    ended_none l s h k c.args.next may t n E.went.1 E.own y u None found F.went F.own found.0

pub returns-in-Some-clause-wait : goal.returns-in-Some-clause-wait
returns-in-Some-clause-wait g c =
    let s = c.args.token.now in let l = c.args.self.now in let h : ℕ = c.requires.seat.0 in let k : ℕ = c.args.ticket in let may = c.requires.seat.1 in
    let t = c.store.new.token in let E = c.store.ensures in let n : ℕ = E.went.0 in let y = c.remove-waiter.new.token in
    let u = c.give_lock.new.token in let F = c.give_lock.ensures in
    let found = c.in-Some.ensures in let w : Wait = found.0 in let G = c.grant.ensures.went in
    let low = seat_there l s h k c.args.next may t n E.went.1 E.own y u (Some c.in-Some.seat) found F.went F.own w found.1 in
    let mine = ap (λ (l : ListModel). l.setting.seats) may.list_is in let same = found.2 in (
      omega (arith, low, mine, same),
      record {
        before = u.me.0.own.gone;
        stride = G.1.stride;
        last = G.1.one;
        stored = subst (λ i. HasStored G.1.stride i 1) (c.grant_word.ensures ∙ ap (λ k. 3 + k) c.from-seat.ensures) G.2;
      },
    )

pub returns-in_default-clause-wait : goal.returns-in_default-clause-wait
returns-in_default-clause-wait g c =
    let s = c.args.token.now in let l = c.args.self.now in let h : ℕ = c.requires.seat.0 in let k : ℕ = c.args.ticket in let may = c.requires.seat.1 in
    let t = c.store.new.token in let E = c.store.ensures in let n : ℕ = E.went.0 in let y = c.remove-waiter.new.token in
    let u = c.give_lock.new.token in let F = c.give_lock.ensures in
    subst (λ (o : Option ℕ). GrantsLast l k o u) (sym c.in_default.is)
    (gave_last l s h k c.args.next may t n E.went.1 E.own y u None c.in_default.ensures F.went F.own)
