use Rattle.std.proofs.Common.{◌≡◌, ℕ, ◌<◌, ◌≤◌, List, length, refl, sym, ap, ◌∙◌, subst}
use Rattle.step_table.specs.Wrapping.{next_word}
use Rattle.step_table.proofs.Wrapping.{word_next}
use Rattle.notify_list.proofs.LiveTickets.{found_none, found_last, found_some}
use Rattle.notify_list.proofs.live.Live.pass.Goals as goal

pub returns-in_default-clause-live : goal.returns-in_default-clause-live
returns-in_default-clause-live c first passed gone live at next left is same =
    found_none live next left is same _ (subst (λ (l : List ℕ). length l ≤ 0) c.deref.ensures.value c.in_default.ensures.item.3) refl
    (c.next_word-self.ensures ∙ ap next_word at ∙ word_next first passed)

pub returns-in-Some-first-clause-live : goal.returns-in-Some-first-clause-live
returns-in-Some-first-clause-live c first passed gone live at next left is same =
    found_some live next left is same _ c.in-Some-first.next.now (subst (λ (l : List ℕ). 0 < length l) c.deref.ensures.value c.in-Some.ensures.item.3.0)
    c.remove.ensures.items (subst (λ (l : List ℕ). 0 < length l) c.deref-2.ensures.value c.in-Some-first.ensures.item.3.0)
    (c.in-Some-first.ensures.item.1 ∙ ap (λ (l : List ℕ). Rattle.std.proofs.Common.get_or l 0 c.in-Some-first.next.now) c.deref-2.ensures.value) refl

pub returns-in-None-clause-live : goal.returns-in-None-clause-live
returns-in-None-clause-live c first passed gone live at next left is same =
    found_last live next left is same _ (subst (λ (l : List ℕ). 0 < length l) c.deref.ensures.value c.in-Some.ensures.item.3.0)
    c.remove.ensures.items (subst (λ (l : List ℕ). length l ≤ 0) c.deref-2.ensures.value c.in-None.ensures.item.3) refl
