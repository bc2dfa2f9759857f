use Rattle.std.proofs.Common.{◌≡◌, ◌⊎◌, ◌↔◌, ℕ, IsTrue, [], eqb, eq-eqb, inl, inr, sym, ◌∙◌, subst}
use Rattle.std.proofs.lemmas.Bool.{eqb-true}
use Rattle.program_machine.specs.Beginning.{CanBegin}
use Rattle.program_machine.proofs.layer.can_begin.Goals as goal

on_either : {A B C : Type 0} → (A → C) → (B → C) → A ⊎ B → C
on_either f g (inl a) = f a
on_either f g (inr b) = g b

-- the lock that was read is free
is_free : (n lock : ℕ) → n ≡ lock → IsTrue (eqb n 0) ↔ (lock ≡ 0)
is_free n lock read = ((λ t. sym read ∙ eqb-true n 0 t), (λ e. eq-eqb n 0 (read ∙ e)))

pub returns-in-Wait : goal.returns-in-Wait
returns-in-Wait c =
    let free = is_free c.list_number.result _ (c.list_number.ensures []) in
    on_either (λ e. subst (λ call. CanBegin c.args.layer.now call (eqb c.list_number.result 0)) (sym e) free)
    (λ e. subst (λ call. CanBegin c.args.layer.now call (eqb c.list_number.result 0)) (sym e.1) free) c.in-Wait.is
