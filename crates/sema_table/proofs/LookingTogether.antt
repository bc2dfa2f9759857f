-- What two seats have that met.
use Rattle.std.proofs.Common.{◌≡◌, ℕ, ◌++◌, [], sym, ap, ◌∙◌, subst, append-nil}
use Rattle.step_table.specs.declared.word.Word.{Word}
use Rattle.step_table.specs.Path.{looks, OnlyLooked}
use Rattle.step_table.specs.World.{SemaWorld}
use Rattle.step_table.proofs.Paths.{stride_told}
use Rattle.step_law_semaphores.specs.SemaPath.{SemaDid, semaphores}
use Rattle.step_law_semaphores.proofs.SemaPaths.{the_sema_paths}
use Rattle.running_rows.specs.Strides.{here}
use Rattle.running_rows.specs.Sitting.{Met}
use Rattle.step_table.specs.declared.word.Word.TheVariants.{Counter}
use Rattle.sema_table.specs.declared.seat.Numbers.{Numbers}
use Rattle.sema_table.specs.Setting.{layout}
use Rattle.sema_table.specs.Rule.{sight_by}
use Rattle.sema_table.specs.Rows.{SemaSeat, semaphore_rows}
use Rattle.sema_table.specs.Seats.{Token, seat_of, IsSeat}
use Rattle.sema_table.specs.Meeting.{HasMet}
use Rattle.sema_table.proofs.Striding.{Strode}
use Rattle.sema_table.proofs.Trying.{looks_at, looked_seat}

-- after a look a seat has seen all that was told
sees_all : (u w : SemaSeat) (x : Word) (n : ℕ) → (r : Strode here (looks x) u n w) → w.knows.seen ≡ r.ran.world.journal
sees_all u w x n r =
    let m = layout u.knows.setting in
    let only : OnlyLooked r.stride (sight_by w.knows) = subst (SemaDid m u.number r.stride (sight_by w.knows)) r.did
    (the_sema_paths.does m u.number (sight_by u.knows) (sight_by w.knows) r.stride r.ran) in
    stride_told (semaphores m) u.number (sight_by u.knows) (sight_by w.knows) r.stride r.ran ∙ ap (λ l. r.stride.seen ++ l) only.told
    ∙ append-nil r.stride.seen ∙ r.ran.seen

module _ (s o a b : Token) (n k : Numbers) (q : ℕ) (seat_s : IsSeat s n) (seat_o : IsSeat o k)
    (met : Met semaphore_rows (Counter 0) s.me.0.own o.me.0.own q a.me.0.own b.me.0.own)
    (same_a : a.table_id ≡ s.table_id) (same_b : b.table_id ≡ o.table_id) (slots_a : a.me.1 ≡ s.me.1) (slots_b : b.me.1 ≡ []) where
  bare_b : b.me.1 ≡ o.me.1
  bare_b = slots_b ∙ sym seat_o.token_is.bare

  pub one_seat : IsSeat a n
  one_seat = looked_seat s a n (Counter 0) q seat_s met.one same_a slots_a

  pub other_seat : IsSeat b k
  other_seat = looked_seat o b k (Counter 0) q seat_o met.other same_b bare_b

  pub have_met : HasMet (seat_of s n) (seat_of o k) (seat_of a n) (seat_of b k)
  have_met = record {
    number = q;
    one_looked = looks_at s a n (Counter 0) q seat_s.token_is met.one same_a slots_a;
    other_looked = looks_at o b k (Counter 0) q seat_o.token_is met.other same_b bare_b;
    same = sees_all s.me.0.own a.me.0.own (Counter 0) q met.one ∙ ap (λ (w : SemaWorld). w.journal) met.together
        ∙ sym (sees_all o.me.0.own b.me.0.own (Counter 0) q met.other);
    two = λ e. met.two (seat_s.token_is.number_is ∙ e ∙ sym seat_o.token_is.number_is);
  }
