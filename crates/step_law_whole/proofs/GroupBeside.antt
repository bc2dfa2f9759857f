-- Where rows of a wait group leave their seat on the counters: at rest, or with its wait queued on the group's semaphore.
use Rattle.std.proofs.Common.{◌≡◌, ℕ, ◌+◌, ◌<◌, ◌==◌, ◌&&◌, ◌||◌, not, pos, int_lt, int_eq}
use Rattle.std.proofs.Common.{ap, ◌∙◌, subst, arith}
use Rattle.step_table.specs.declared.call.GivingUp.{GivingUp}
use Rattle.step_table.specs.declared.group_word.GroupWord.{GroupWord}
use Rattle.step_table.specs.declared.place.Acquire.{Acquire}
use Rattle.step_table.specs.declared.place.AcquireRow.TheVariants.{Parked}
use Rattle.step_table.specs.declared.place.ParkedRow.TheVariants.{D3}
use Rattle.step_table.specs.declared.place.Place.{Place}
use Rattle.step_table.specs.declared.place.Place.TheVariants.{Acquiring}
use Rattle.step_table.specs.declared.place.Place.TheVariants as on_counter
use Rattle.step_table.specs.declared.standing.After.TheVariants.{LooksAgain}
use Rattle.step_table.specs.declared.standing.Ending.TheVariants.{GaveUp}
use Rattle.step_table.specs.declared.standing.GroupNext.{GroupNext}
use Rattle.step_table.specs.declared.standing.GroupNext.TheVariants as group
use Rattle.step_table.specs.declared.standing.GroupRow.{GroupRow}
use Rattle.step_table.specs.declared.standing.GroupRow.TheVariants.{G1, G2, G3, V1, V2, V3, V4, V5}
use Rattle.step_table.specs.Steps.{Choice, stay}
use Rattle.step_table.specs.Core.{CoreLayout}
use Rattle.step_table.specs.CoreSteps.{staying}
use Rattle.step_table.specs.Group.{empty_word, same_word, plus, group_row}
use Rattle.step_law_semaphores.specs.Lawful.{IsGrantOf}
use Rattle.step_law_whole.specs.CoreLaw.{IsCallBefore, IsNotGivenUp, IsQueuedOn, IsBesideGroup}
use Rattle.step_law_whole.proofs.CoreRows.{IsSameCall, of_either}

-- where a row of a group that leads to this leaves its seat on the counters
abbrev pub IsBesideNext : CoreLayout → ℕ → GroupNext → Place → Type 0
IsBesideNext m g (group.Goes row) p = IsBesideGroup m g row p
IsBesideNext m g (group.Acquires ending) p = (p ≡ on_counter.Rest) × IsNotGivenUp ending
IsBesideNext m g (group.SleepsOn how) p = IsQueuedOn m g p
IsBesideNext m g (group.Withdraws how) p = IsQueuedOn m g p
IsBesideNext m g next p = p ≡ on_counter.Rest

pub leads_beside : (m : CoreLayout) (g : ℕ) (row : GroupRow) (w : GroupWord) (p : Place) → IsBesideGroup m g row p
    → IsBesideNext m g (group_row row w).1 p
leads_beside m g (G1 d) w p off =
    let now : GroupWord = plus w d in
    of_either (λ next. IsBesideNext m g next p) (int_lt now.counter (pos 0)) _ _ off
    (of_either (λ next. IsBesideNext m g next p) (not (now.waits == 0) && int_lt (pos 0) d && int_eq now.counter d) _ _ off
    (of_either (λ next. IsBesideNext m g next p) (int_lt (pos 0) now.counter || (now.waits == 0)) _ _ off off))
leads_beside m g (G2 seen) w p off = of_either (λ next. IsBesideNext m g next p) (same_word seen w) _ _ off off
leads_beside m g (G3 seen) w p off = off
leads_beside m g (V1 ending) w p beside = of_either (λ next. IsBesideNext m g next p) (int_eq w.counter (pos 0)) _ _ beside.0 beside
leads_beside m g (V2 ending seen) w p beside = of_either (λ next. IsBesideNext m g next p) (same_word seen w) _ _ beside beside
leads_beside m g (V3 ending) w p off = of_either (λ next. IsBesideNext m g next p) (same_word w empty_word) _ _ off off
leads_beside m g (V4 how) w p queued =
    of_either (λ next. IsBesideNext m g next p) (int_eq w.counter (pos 0) || (w.waits == 0)) _ _ queued queued
leads_beside m g (V5 how seen) w p queued = of_either (λ next. IsBesideNext m g next p) (same_word seen w) _ _ queued queued

-- a wait of a group that has given up finds itself queued
pub queued_now : (m : CoreLayout) (g : ℕ) (how : GivingUp) (p : Place) (a : Acquire) (u : ℕ) → IsCallBefore m (LooksAgain g (GaveUp how)) p
    → IsSameCall p (Acquiring a (Parked u D3)) → IsQueuedOn m g (Acquiring a (Parked u D3)) × (g < m.groups)
queued_now m g how (Acquiring b row) a u before same =
    ((ap (λ (a : Acquire). a.counter) same ∙ before.0, ap (λ (a : Acquire). a.lifo) same ∙ before.1), before.2)
queued_now m g how _ a u before same = absurd before

-- it sleeps on, or goes
pub stays_on : (m : CoreLayout) (g : ℕ) (p : Place) → IsQueuedOn m g p → Choice (m.counters + m.groups) p (staying p)
stays_on m g (Acquiring a (Parked u D3)) queued = stay a u
stays_on m g _ queued = absurd queued

pub stays_before : (m : CoreLayout) (g : ℕ) (how : GivingUp) (p : Place) → g < m.groups → IsQueuedOn m g p
    → IsCallBefore m (LooksAgain g (GaveUp how)) (staying p)
stays_before m g how (Acquiring a (Parked u D3)) there queued = (queued.0, queued.1, there, tt)
stays_before m g how _ there queued = absurd queued

pub withdraws_before : (m : CoreLayout) (g : ℕ) (how : GivingUp) (p : Place) → g < m.groups → IsQueuedOn m g p
    → IsCallBefore m (LooksAgain g (GaveUp how)) p
withdraws_before m g how (Acquiring a (Parked u D3)) there queued = (queued.0, queued.1, there, tt)
withdraws_before m g how _ there queued = absurd queued

-- no grant is stored for a seat at a row of a group
unset_at : (m : CoreLayout) (g : ℕ) (p : Place) (grant : ℕ) → IsQueuedOn m g p → IsGrantOf p grant → grant ≡ 0
unset_at m g (Acquiring a (Parked u D3)) grant queued granted = omega arith
unset_at m g _ grant queued granted = absurd queued

unset_rest : (p : Place) (grant : ℕ) → p ≡ on_counter.Rest → IsGrantOf p grant → grant ≡ 0
unset_rest p grant off granted = subst (λ p. IsGrantOf p grant) off granted

pub unset : (m : CoreLayout) (g : ℕ) (row : GroupRow) (p : Place) (grant : ℕ) → IsBesideGroup m g row p → IsGrantOf p grant → grant ≡ 0
unset m g (V1 ending) p grant beside granted = unset_rest p grant beside.0 granted
unset m g (V2 ending w) p grant beside granted = unset_rest p grant beside.0 granted
unset m g (V4 how) p grant queued granted = unset_at m g p grant queued granted
unset m g (V5 how w) p grant queued granted = unset_at m g p grant queued granted
unset m g row p grant off granted = unset_rest p grant off granted
