use Rattle.std.proofs.Common.{◌≡◌, ℕ, [], ◌∷◌, ◌++◌, sym, ap, refl, ◌∙◌, subst, arith}
use Rattle.step_table.specs.declared.effect.Effect.TheVariants.{Tells}
use Rattle.step_table.specs.declared.entry.Entry.TheVariants.{Queue}
use Rattle.step_table.specs.declared.place.AcquireRow.TheVariants.{A7, Parked}
use Rattle.step_table.specs.declared.place.ParkedRow.TheVariants.{P}
use Rattle.step_table.specs.declared.place.Place.TheVariants.{Acquiring}
use Rattle.step_table.specs.declared.word.Word.TheVariants.{Lock}
use Rattle.step_table.proofs.Sums.{on_here}
use Rattle.sema_table.specs.declared.view.Known.{Known}
use Rattle.sema_table.specs.declared.view.Setting.{Setting}
use Rattle.sema_table.specs.declared.view.Record.TheVariants.{Root}
use Rattle.sema_table.specs.Setting.{root, address}
use Rattle.sema_table.specs.Starts.{begin}
use Rattle.sema_table.proofs.Striding.{Ran}
use Rattle.sema_table.specs.Seats.{TableModel}
use Rattle.sema_table.specs.Walks.{Walked, parked}
use Rattle.sema_table.proofs.Allowing.{owes_give}
use Rattle.sema_table.proofs.Owned.{word_in, someones, lock_sleeps, serves}
use Rattle.sema_table.proofs.Striding.{slots_are}
use Rattle.sema_table.proofs.Leading.{led}
use Rattle.sema_table.proofs.Walking.{walked_row, ran_from}
use Rattle.running_rows.specs.Table.{step, rest}
use Rattle.waiters.specs.declared.wait.WaitId.{WaitId}
use mathlib.Core.Option.{none}
use Rattle.step_table.specs.World.{put, insert_wait}
use Rattle.sema_root.specs.Treap.{Treap}
use Rattle.running_rows.specs.Strides.{runs_unlock, here}
use Rattle.running_rows.specs.Owing.{Owes}
use Rattle.running_rows.specs.Rule.{IsSomeones}
use Rattle.sema_table.specs.Rule.{lists_by, IsRecord, setting_of}
use Rattle.sema_table.specs.Rows.{Me, semaphore_rows}
use Rattle.step_table.proofs.Paths.{stride_told}
use Rattle.step_law_semaphores.specs.SemaPath.{semaphores}
use Rattle.sema_table.specs.Setting.{layout}
use Rattle.sema_table.specs.Rule.{sight_by}
use Rattle.sema_table.specs.Walks.{IsLast}
use Rattle.sema_table.proofs.sema_table.SemaTable.queue.Goals as goal

pub insert-requires : goal.insert-requires
insert-requires g c = let r = c.requires.seat.0 in record { seat = (r.table_is, c.requires.seat.1, c.requires.seat.2); call = r.inside }

pub give_lock-requires : goal.give_lock-requires
give_lock-requires g c =
    let s = c.args.token.now in let v : Known = s.me.0.own.knows in let a = c.args.call.now in let r = c.requires.seat.0 in let z : Setting = v.setting in
    let E = c.insert.ensures in let q : Treap = E.1.0 in
    let m : Me = (s.me.0, (root z a.counter, Root q) ∷ []) in let at = r.table_is ∙ sym c.self.view_is in
    let word : address z (Lock a.counter) ≡ c.lock_word-word.result = ap (λ (y : TableModel). address y.setting (Lock a.counter))
    r.table_is ∙ sym c.lock_word-word.ensures.at in
    let sleeps = lock_sleeps c.self.inside c.self.invariant c.self.view_is a.counter c.lock_word-word.ensures.at
    c.sleepers_word-sleepers.ensures.at c.sleepers_word-sleepers.ensures.low in
    let low = word_in c.self.inside s c.self.invariant at (Lock a.counter) tt in
    let told = subst (λ (w : WaitId). IsRecord z (root z a.counter) q (put (lists_by z v.seen) a.counter (insert_wait a.lifo w (lists_by z v.seen a.counter))))
    c.requires.wait E.1.2 in
    let key : Setting = setting_of c.self.inside.words.table.shared.key in (
      omega arith,
      (
        (
          E.0 ∙ ap (λ (t : TableModel). t.id) at,
          subst (λ (x : Me). IsSomeones semaphore_rows x.0) (sym E.1.1) (someones c.self.inside c.self.invariant s at),
        ),
        (
          (omega arith, sleeps.0),
          (
            serves c.self.inside c.self.view_is g.N.Kernel.serves c.requires.kernel,
            (
              sleeps.1,
              subst (λ (x : Me). Owes semaphore_rows key x c.lock_word-word.result (λ _. 0)
                  (λ _ u. runs_unlock semaphore_rows (step 0 0 0 0 none) x 0 u)) (sym E.1.1)
                  (owes_give key c.lock_word-word.result m (Acquiring a A7) r.place_is (let b = r.limited in omega arith) q 0 refl
                  (λ b n known. record {
                    fits = record { word = word; there = tt; can = refl; becomes = refl };
                    word_is = refl;
                    holds_it =
                        on_here (root z a.counter) 1;
                    is_record = told;
                  })),
            ),
          ),
        ),
      ),
    )

pub returns : goal.returns
returns g c =
    let s = c.args.token.now in let v : Known = s.me.0.own.knows in let u = c.give_lock.new.token in let a = c.args.call.now in
    let r = c.requires.seat.0 in let z : Setting = v.setting in
    let E = c.insert.ensures in let is = E.1.1 in
    let X = c.give_lock.ensures.went in let n : ℕ = X.0 in
    let row = ran_from s u (Acquiring a A7) n r.place_is (subst (λ (x : Me). Ran here x.0.own n u.me.0.own) is X.1) in
    let g = led s.me.0.own u.me.0.own (Acquiring a A7) n row in
    let x = walked_row s u (Acquiring a A7) n (Acquiring a (Parked v.turn P), Tells (Queue a.counter (record { seat = s.me.0.own.number; turn = v.turn }) a.lifo))
    row g (c.give_lock.ensures.own ∙ E.0) in
    record {
      walked = subst (λ w. Walked s (Acquiring a A7) u (parked s a) (Queue a.counter w a.lifo ∷ []) 0) (sym c.requires.wait) x;
      bare = slots_are X.3 ∙ ap (λ (x : Me). rest x.1) is;
      last = subst (λ w. IsLast u (Queue a.counter w a.lifo)) (sym c.requires.wait) (
        row.stride.seen,
        stride_told (semaphores (layout z)) s.me.0.own.number (sight_by (begin (Acquiring a A7) v)) (sight_by u.me.0.own.knows)
            row.stride row.ran ∙ ap (λ l. row.stride.seen ++ l) g.told,
      );
    }
