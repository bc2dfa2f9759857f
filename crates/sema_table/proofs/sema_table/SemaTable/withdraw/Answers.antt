use Rattle.std.proofs.Common.{◌≡◌, ◌+◌, ◌%◌, ◌^◌, ℕ, Bool, true, if◌then◌else◌, [], ◌∷◌, sym, ap, refl, ◌∙◌, subst, arith}
use Rattle.step_table.specs.declared.place.Acquire.{Acquire}
use Rattle.step_table.specs.declared.place.AcquireRow.TheVariants.{Parked}
use Rattle.step_table.specs.declared.place.ParkedRow.TheVariants.{D2, D3, D5}
use Rattle.step_table.specs.declared.place.Place.{Place}
use Rattle.step_table.specs.declared.place.Place.TheVariants.{Acquiring}
use Rattle.step_table.specs.declared.word.Word.TheVariants.{Waiters}
use Rattle.step_table.specs.World.{put, stands_in, without}
use Rattle.sema_root.specs.Treap.{Treap}
use Rattle.running_rows.specs.Strides.{RanRow, here}
use Rattle.running_rows.specs.Owing.{Owes}
use Rattle.running_rows.specs.Rule.{IsSomeones}
use Rattle.sema_table.specs.declared.view.Known.{Known}
use Rattle.sema_table.specs.declared.view.Setting.{Setting}
use Rattle.sema_table.specs.declared.view.Record.TheVariants.{Root}
use Rattle.sema_table.specs.Setting.{root, address}
use Rattle.sema_table.specs.Rule.{setting_of, IsRecord}
use Rattle.sema_table.specs.Rows.{Me, semaphore_rows}
use Rattle.sema_table.specs.Seats.{TableModel, Token}
use Rattle.sema_table.specs.Walks.{Stands, lists_of, sought_own}
use Rattle.sema_table.proofs.Striding.{Ran, slots_are}
use Rattle.sema_table.proofs.Owned.{word_in, someones, waiters_apart}
use Rattle.sema_table.proofs.Allowing.{owes_here}
use Rattle.sema_table.proofs.Stepping.{waiters_down, lowered_own}
use Rattle.sema_table.proofs.Locking.{locked_counter}
use Rattle.sema_table.proofs.Leaving.{withdrawn_walk, withdrawn_holds}
use Rattle.sema_table.proofs.sema_table.SemaTable.withdraw.Goals as goal

-- where the seat stands, by whether its wait is queued
stands_by_wait : (s : Token) (t : TableModel) (a : Acquire) (turn i : ℕ) (queued : Bool) → Stands t s (sought_own s a turn) → i ≡ s.me.0.own.number
    → queued ≡ stands_in i (lists_of s a.counter)
    → s.me.0.own.knows.place ≡ (if queued then Acquiring a (Parked turn D3) else Acquiring a (Parked turn D5))
stands_by_wait s t a turn i queued r own found = r.place_is
    ∙ ap (λ (b : Bool). if b then Acquiring a (Parked turn D3) else Acquiring a (Parked turn D5))
    (ap (λ k. stands_in k (lists_of s a.counter)) (sym own) ∙ sym found)

pub remove_own-requires : goal.remove_own-requires
remove_own-requires c =
    let s = c.args.token.now in let r = c.requires.seat.0 in let a = c.args.call.now in
    let same = locked_counter s.me.0.own.number (lists_of s) (Acquiring a (Parked c.args.turn D2)) refl in
    (r.table_is, c.requires.seat.1, (let h = r.inside in omega arith))

pub subtract-requires : goal.subtract-requires
subtract-requires c =
    let s = c.args.token.now in let v : Known = s.me.0.own.knows in let a = c.args.call.now in let k : ℕ = a.counter in
    let r = c.requires.seat.0 in let z : Setting = v.setting in let d3 : Place = Acquiring a (Parked c.args.turn D3) in
    let E = c.if-not-remove_own.ensures.removed in let q : Treap = E.1.0 in
    let m : Me = (s.me.0, (root z k, Root q) ∷ []) in
    let at = r.table_is ∙ sym c.self.view_is in
    let place : v.place ≡ d3 = stands_by_wait s c.args.self.now a c.args.turn c.args.seat true r c.requires.own c.if-not-remove_own.ensures.found in
    let word : address z (Waiters k) ≡ c.waiter_word-word.result = ap (λ (y : TableModel). address y.setting (Waiters k)) r.table_is
    ∙ sym c.waiter_word-word.ensures.at in
    let low = word_in c.self.inside s c.self.invariant at (Waiters k) tt in
    let key : Setting = setting_of c.self.inside.words.table.shared.key in (
      omega arith,
      (
        (
          E.0 ∙ ap (λ (t : TableModel). t.id) at,
          subst (λ (x : Me). IsSomeones semaphore_rows x.0) (sym E.1.1) (someones c.self.inside c.self.invariant s at),
        ),
        (
          omega arith,
          (
            waiters_apart c.self.inside c.self.invariant c.self.view_is k c.waiter_word-word.ensures.at,
            subst (λ (x : Me). Owes semaphore_rows key x c.waiter_word-word.result (λ n. (n + 18446744073709551615) % 2 ^ 64)
                (λ n u. RanRow semaphore_rows here x n u)) (sym E.1.1)
                (owes_here key c.waiter_word-word.result m d3 place c.requires.seat.2 (λ n. (n + 18446744073709551615) % 2 ^ 64)
                (λ b n known. record {
                  fits = record { word = word; there = tt; can = refl; becomes = waiters_down known k word (lowered_own known a c.args.turn refl) };
                  apart = refl;
                })),
          ),
        ),
      ),
    )

pub returns-clause-settled : goal.returns-clause-settled
returns-clause-settled c =
    let s = c.args.token.now in let a = c.args.call.now in let E = c.if-not-remove_own.ensures.removed in
    let place = stands_by_wait s c.args.self.now a c.args.turn c.args.seat true c.requires.seat.0 c.requires.own c.if-not-remove_own.ensures.found in
    let u = c.subtract.new.token in let n : ℕ = c.subtract.result in
    let row : Ran here s.me.0.own n u.me.0.own = subst (λ (x : Me). Ran here x.0.own n u.me.0.own) E.1.1 c.subtract.ensures.went.0 in
    (withdrawn_walk s u a c.args.turn n place row (c.subtract.ensures.own ∙ E.0), place)

pub returns-clause-record : goal.returns-clause-record
returns-clause-record c =
    let s = c.args.token.now in let a = c.args.call.now in let z : Setting = s.me.0.own.knows.setting in let E = c.if-not-remove_own.ensures.removed in
    let place = stands_by_wait s c.args.self.now a c.args.turn c.args.seat true c.requires.seat.0 c.requires.own c.if-not-remove_own.ensures.found in
    let u = c.subtract.new.token in let n : ℕ = c.subtract.result in
    let row : Ran here s.me.0.own n u.me.0.own = subst (λ (x : Me). Ran here x.0.own n u.me.0.own) E.1.1 c.subtract.ensures.went.0 in
    withdrawn_holds s u a c.args.turn n place row (c.subtract.ensures.own ∙ E.0) E.1.0
    ((slots_are c.subtract.ensures.went.1) ∙ ap (λ (x : Me). x.1) E.1.1)
    (subst (λ i. IsRecord z (root z a.counter) E.1.0 (put (lists_of s) a.counter (without i (lists_of s a.counter)))) c.requires.own E.1.2)
