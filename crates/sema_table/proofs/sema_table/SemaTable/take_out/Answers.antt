use Rattle.std.proofs.Common.{◌≡◌, ◌+◌, ◌%◌, ◌^◌, ◌<◌, ℕ, [], ◌∷◌, length, sym, ap, refl, ◌∙◌, subst, arith}
use Rattle.step_table.specs.declared.place.ReleaseRow.TheVariants.{R5, R6}
use Rattle.step_table.specs.declared.place.Place.TheVariants.{Releasing}
use Rattle.step_table.specs.declared.word.Word.TheVariants.{Waiters}
use Rattle.sema_table.specs.declared.view.Known.{Known}
use Rattle.sema_table.specs.declared.view.Setting.{Setting}
use Rattle.sema_table.specs.declared.view.Record.TheVariants.{Root}
use Rattle.sema_table.specs.Setting.{root, address}
use Rattle.sema_table.proofs.Striding.{slots_are}
use Rattle.sema_table.proofs.Striding.{Ran}
use Rattle.sema_table.specs.Seats.{TableModel, Token}
use Rattle.sema_table.specs.Walks.{Stands, sought}
use Rattle.sema_table.proofs.Allowing.{owes_here}
use Rattle.sema_table.proofs.Owned.{word_in, someones, waiters_apart}
use Rattle.sema_table.proofs.Stepping.{waiters_down}
use Rattle.std.proofs.Common.{List, drop}
use Rattle.waiters.specs.declared.wait.WaitId.{WaitId}
use Rattle.step_table.specs.Event.{by_first}
use Rattle.step_table.specs.Counting.{counter_at}
use Rattle.step_table.specs.declared.place.Release.{Release}
use Rattle.sema_root.specs.Treap.{Treap}
use Rattle.running_rows.specs.Strides.{RanRow, here}
use Rattle.running_rows.specs.Owing.{Owes}
use Rattle.running_rows.specs.Rule.{IsSomeones}
use Rattle.sema_table.specs.Rule.{lists_by, setting_of}
use Rattle.sema_table.specs.Rows.{Me, semaphore_rows}
use Rattle.sema_table.proofs.Stepping.{lowered_some}
use Rattle.sema_table.proofs.Granting.{out_walk, out_there, out_record}
use Rattle.sema_table.proofs.sema_table.SemaTable.take_out.Goals as goal

-- the call's counter is one of the table
inside_of : (s : Token) (a : Release) (t : TableModel) → Stands t s (sought s a) → a.counter < length t.setting.starts
inside_of s a t r = by (lists_by s.me.0.own.knows.setting s.me.0.own.knows.seen a.counter) r.inside
  where
    by : (l : List WaitId) → counter_at (by_first l (Releasing a R6) (λ w. Releasing a R5)) < length t.setting.starts → a.counter < length t.setting.starts
    by [] h = h
    by (w ∷ l) h = h

pub remove_first-requires : goal.remove_first-requires
remove_first-requires c =
    let s = c.args.token.now in let r = c.requires.seat.0 in (r.table_is, c.requires.seat.1, inside_of s c.args.call.now c.args.self.now r)

pub subtract-requires : goal.subtract-requires
subtract-requires c =
    let s = c.args.token.now in let v : Known = s.me.0.own.knows in let a = c.args.call.now in let k : ℕ = a.counter in
    let r = c.requires.seat.0 in let z : Setting = v.setting in
    let R = c.in_ok-id.ensures.some in let first = R.0 in let E = R.1 in let q : Treap = E.1.0 in
    let m : Me = (s.me.0, (root z k, Root q) ∷ []) in
    let at = r.table_is ∙ sym c.self.view_is in
    let place : v.place ≡ Releasing a R5 = r.place_is ∙ ap (λ (y : List WaitId). by_first y (Releasing a R6) (λ x. Releasing a R5)) first in
    let word : address z (Waiters k) ≡ c.waiter_word-word.result = ap (λ (y : TableModel). address y.setting (Waiters k)) r.table_is
    ∙ sym c.waiter_word-word.ensures.at in
    let low = word_in c.self.inside s c.self.invariant at (Waiters k) tt in
    let key : Setting = setting_of c.self.inside.words.table.shared.key in (
      omega arith,
      (
        (
          E.0 ∙ ap (λ (t : TableModel). t.id) at,
          subst (λ (x : Me). IsSomeones semaphore_rows x.0) (sym E.1.1) (someones c.self.inside c.self.invariant s at),
        ),
        (
          omega arith,
          (
            waiters_apart c.self.inside c.self.invariant c.self.view_is k c.waiter_word-word.ensures.at,
            subst (λ (x : Me). Owes semaphore_rows key x c.waiter_word-word.result (λ n. (n + 18446744073709551615) % 2 ^ 64)
                (λ n u. RanRow semaphore_rows here x n u)) (sym E.1.1)
                (owes_here key c.waiter_word-word.result m (Releasing a R5) place (let b = r.limited in omega arith) (λ n. (n + 18446744073709551615) % 2 ^ 64)
                (λ b n known. record {
                  fits = record { word = word; there = tt; can = refl; becomes = waiters_down known k word (lowered_some known a refl) };
                  apart = refl;
                })),
          ),
        ),
      ),
    )

pub returns-clause-record : goal.returns-clause-record
returns-clause-record c =
    let s = c.args.token.now in let v : Known = s.me.0.own.knows in let a = c.args.call.now in let k : ℕ = a.counter in
    let r = c.requires.seat.0 in let z : Setting = v.setting in
    let R = c.in_ok-id.ensures.some in let first = R.0 in let E = R.1 in
    let place : v.place ≡ Releasing a R5 = r.place_is ∙ ap (λ (y : List WaitId). by_first y (Releasing a R6) (λ x. Releasing a R5)) first in
    let u = c.subtract.new.token in let n : ℕ = c.subtract.result in
    let row : Ran here s.me.0.own n u.me.0.own = subst (λ (x : Me). Ran here x.0.own n u.me.0.own) E.1.1 c.subtract.ensures.went.0 in
    out_record s u a n c.in_ok-id.id (drop 1 (lists_by z v.seen k)) place row (c.subtract.ensures.own ∙ E.0) first E.1.0
    ((slots_are c.subtract.ensures.went.1) ∙ ap (λ (x : Me). x.1) E.1.1) E.1.2

pub returns-clause-some : goal.returns-clause-some
returns-clause-some c =
    let s = c.args.token.now in let v : Known = s.me.0.own.knows in let a = c.args.call.now in let k : ℕ = a.counter in
    let r = c.requires.seat.0 in let z : Setting = v.setting in
    let R = c.in_ok-id.ensures.some in let first = R.0 in let E = R.1 in
    let place : v.place ≡ Releasing a R5 = r.place_is ∙ ap (λ (y : List WaitId). by_first y (Releasing a R6) (λ x. Releasing a R5)) first in
    let u = c.subtract.new.token in let n : ℕ = c.subtract.result in
    let row : Ran here s.me.0.own n u.me.0.own = subst (λ (x : Me). Ran here x.0.own n u.me.0.own) E.1.1 c.subtract.ensures.went.0 in
    let tail : List WaitId = drop 1 (lists_by z v.seen k) in
    let same = c.subtract.ensures.own ∙ E.0 in
    let seats = ap (λ (y : TableModel). y.setting.seats) r.table_is in
    let there = out_there s u a n c.in_ok-id.id tail place row same first c.requires.seat.2 in
    (out_walk s u a n c.in_ok-id.id tail place row same first, place, (omega arith))
