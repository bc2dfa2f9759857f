-- Whose each entry is, and that it names counters and seats that are there.
use Rattle.std.proofs.Common.{◌≡◌, ℕ, ◌<◌, List, refl, ap, inl, inr, arith}
use Rattle.std.specs.List.{All}
use Rattle.std.proofs.lemmas.List.Elements.{All-nil, All-push}
use Rattle.waiters.specs.declared.wait.WaitId.{WaitId}
use Rattle.step_table.specs.declared.entry.Entry.{Entry}
use Rattle.step_table.specs.declared.effect.Effect.{Effect}
use Rattle.step_table.specs.declared.effect.Effect.TheVariants.{Tells}
use Rattle.step_table.specs.World.{Layout, Words, SeatState, SemaWorld, journal_after}
use Rattle.step_table.specs.Steps.{IsReached}
use Rattle.step_table.specs.Steps as steps
use Rattle.step_table.specs.Counting.{times, IsWithin}
use Rattle.step_law_semaphores.specs.Invariant.{IsInvariant}
use Rattle.step_law_semaphores.proofs.Lines.{Line, a2_won, a6_won, a7, a11_won, r1, r5, r8_won, m1, m5_more, m5_last, Step, own, post, d3}
use Rattle.step_law_semaphores.proofs.Placing.{same_here}
use Rattle.step_law_semaphores.proofs.Parking.{in_a_list, in_a_hand}
use Rattle.step_law_semaphores.specs.Entries.{IsNamed, IsOwn, TellsOwn}
use Rattle.step_law_semaphores.proofs.Reaching.{cases, holds_reached}

-- what holds of the entry of an effect
abbrev Telling : (Entry → Type 0) → Effect → Type 0
Telling P (Tells e) = P e
Telling P _ = Unit {0}

-- what a row tells is its seat's own
own_line : {m : Layout} {i : ℕ} {g h : Words} {p q : SeatState} {e : Effect} → Line m i g p q h e → Telling (IsOwn i p) e
own_line (a2_won _) = (refl, refl)
own_line (a6_won _) = (refl, refl)
own_line a7 = (refl, refl, refl)
own_line (a11_won _) = (refl, refl)
own_line r1 = (refl, refl)
own_line (r5 _) = (refl, refl)
own_line (r8_won _) = (refl, refl)
own_line m1 = (refl, refl, refl)
own_line (m5_more _ _ _) = (refl, refl)
own_line (m5_last _ _) = (refl, refl)
own_line (d3 _) = (refl, refl)
own_line _ = tt

says : (i : ℕ) (s t : SemaWorld) (e : Effect) → t.journal ≡ journal_after e s.journal → Telling (IsOwn i (s.seats i)) e → TellsOwn i s t
says i s t (Tells e) is tells = inr (e, is, tells)
says i s t _ is tells = inl is

told_by : {m : Layout} {s : SemaWorld} {i : ℕ} {t : SemaWorld} → Step m s i t → TellsOwn i s t
told_by {s = s} {i = i} {t = t} (own {e = e} line) = says i s t e refl (own_line line)
told_by (post _) = inl refl

pub told : (m : Layout) (s t : SemaWorld) (i : ℕ) → i < m.seats → IsInvariant m s → steps.Step m s i t → TellsOwn i s t
told m s t i in_range inv step = told_by (cases in_range inv step)

-- the waits in lists and in the hand are of seats that are there
named_line : {m : Layout} {i : ℕ} {g h : Words} {p q : SeatState} {e : Effect} → Line m i g p q h e
    → i < m.seats → IsWithin m.counters p.place
    → ((c : ℕ) (w : WaitId) → 0 < times w (g.lists c) → w.seat < m.seats) → ((w : WaitId) → 0 < times w p.hand → w.seat < m.seats)
    → Telling (IsNamed m) e
named_line (a2_won _) h within listed handed = (within, h)
named_line (a6_won _) h within listed handed = (within, h)
named_line a7 h within listed handed = (within, h)
named_line (a11_won _) h within listed handed = (within, h)
named_line r1 h within listed handed = (within, h)
named_line (r5 {r = r} {w = w} {l = l} out) h within listed handed =
    (within, listed r.counter w (let here = same_here w in let has = ap (times w) out in omega arith), h)
named_line (r8_won {w = w} _) h within listed handed = (within, handed w (let here = same_here w in omega arith))
named_line m1 h within listed handed = (within.0, h)
named_line (m5_more {r = r} {w = w} {l = l} out _ _) h within listed handed =
    (within.0, listed r.counter w (let here = same_here w in let has = ap (times w) out in omega arith), h)
named_line (m5_last {r = r} {w = w} {l = l} out _) h within listed handed =
    (within.0, listed r.counter w (let here = same_here w in let has = ap (times w) out in omega arith), h)
named_line (d3 _) h within listed handed = (within, h)
named_line _ h within listed handed = tt

more : (m : Layout) (e : Effect) (j : List Entry) → Telling (IsNamed m) e → All (IsNamed m) j → All (IsNamed m) (journal_after e j)
more m (Tells e) j named all = All-push (IsNamed m) j e all named
more m _ j named all = all

named_step : {m : Layout} {s : SemaWorld} {i : ℕ} {t : SemaWorld} → i < m.seats → IsInvariant m s → Step m s i t
    → All (IsNamed m) s.journal → All (IsNamed m) t.journal
named_step {m = m} {s = s} {i = i} h inv (own {e = e} line) before =
    more m e s.journal
    (named_line line h (inv.seats i).within (λ c w some. (in_a_list m s inv.placed c w some).5)
    (λ w some. (in_a_hand m s inv.placed i w h some).5)) before
named_step h inv (post _) before = before

pub named : (m : Layout) (s : SemaWorld) → IsReached m s → All (IsNamed m) s.journal
named m = holds_reached m (λ s. All (IsNamed m) s.journal) (All-nil (IsNamed m))
    (λ s t i h inv step before. named_step h inv step before)
