-- What a row spends: a release adds its units at its first row, and who gives up withdraws its wait at one.
use Rattle.std.proofs.Common.{◌≡◌, ◌≢◌, ℕ, ◌+◌, ◌<◌, ◌≤◌, List, [], ◌∷◌, sym, refl, ap, ◌∙◌, arith, Bool}
use Rattle.std.proofs.Common.{true, false, cond, eqb, eq-eqb}
use Rattle.step_table.specs.declared.entry.Entry.{Entry}
use Rattle.step_table.specs.declared.entry.Entry.TheVariants.{Add, AddMany, Withdraw}
use Rattle.std.specs.List.{filter}
use Rattle.step_table.specs.Path.{Meets}
use Rattle.step_law_semaphores.specs.SemaPath.{SemaSight, semaphores, is_own}
use Rattle.step_table.specs.declared.effect.Effect.{Effect}
use Rattle.step_table.specs.declared.place.AcquireRow.TheVariants.{Parked}
use Rattle.step_table.specs.declared.place.ParkedRow.TheVariants.{D3}
use Rattle.step_table.specs.declared.place.ReleaseRow.TheVariants.{R1}
use Rattle.step_table.specs.declared.place.ManyRow.TheVariants.{M1}
use Rattle.step_table.specs.declared.place.Place.{Place}
use Rattle.step_table.specs.declared.place.Place.TheVariants.{Acquiring, Releasing, ReleasingMany}
use Rattle.step_table.specs.World.{Layout, Words, SeatState, SemaWorld}
use Rattle.step_table.specs.Steps as steps
use Rattle.step_table.proofs.Sums.{on_here, on_else}
use Rattle.step_law_semaphores.specs.Balances.{added_by, withdrawn_by}
use Rattle.step_law_semaphores.specs.Invariant.{IsInvariant}
use Rattle.step_law_semaphores.proofs.Lines.{Line, r1, m1, d3, begin_acquire, Step, own, post}
use Rattle.step_law_semaphores.proofs.Cases.{step_of}
use Rattle.step_law_semaphores.proofs.Telling.{entries, Counts, count_after}
use Rattle.sema_table.specs.Changes.{spent_by}
use Rattle.sema_table.proofs.Resting.{not_both}

-- how much the row spends
abbrev pub spending : Place → ℕ
spending (Releasing r R1) = 1
spending (ReleasingMany r M1) = r.units
spending (Acquiring a (Parked turn D3)) = 1
spending _ = 0

-- what is counted of each seat by entries that the seat alone can tell
abbrev pub CountsOwn : (ℕ → List Entry → ℕ) → Type 0
CountsOwn count = (k : ℕ) → Counts (count k) × ((e : Entry) → is_own k e ≡ false → count k (e ∷ []) ≡ 0)

differs : (k s : ℕ) → eqb s k ≡ false → k ≢ s
differs k s unequal same = not_both (eqb s k) unequal (eq-eqb s k (sym same))

pub added_own : CountsOwn added_by
added_own k = ((refl, by), none)
  where
    by : (e : Entry) (es : List Entry) → added_by k (e ∷ es) ≡ added_by k (e ∷ []) + added_by k es
    by (Add c s) es = omega arith
    by (AddMany c n s) es = omega arith
    by _ es = omega arith

    none : (e : Entry) → is_own k e ≡ false → added_by k (e ∷ []) ≡ 0
    none (Add c s) other = let o = on_else k s 1 (differs k s other) in omega arith
    none (AddMany c n s) other = let o = on_else k s n (differs k s other) in omega arith
    none _ other = refl

pub withdrawn_own : CountsOwn withdrawn_by
withdrawn_own k = ((refl, by), none)
  where
    by : (e : Entry) (es : List Entry) → withdrawn_by k (e ∷ es) ≡ withdrawn_by k (e ∷ []) + withdrawn_by k es
    by (Withdraw c w) es = omega arith
    by _ es = omega arith

    none : (e : Entry) → is_own k e ≡ false → withdrawn_by k (e ∷ []) ≡ 0
    none (Withdraw c w) other = let o = on_else k w.seat 1 (differs k w.seat other) in omega arith
    none _ other = refl

pub spent_own : CountsOwn spent_by
spent_own k = let a = added_own k in let w = withdrawn_own k in (
  (refl, (λ e es. let b = a.0.1 e es in let v = w.0.1 e es in omega arith)),
  (λ e other. let b = a.1 e other in let v = w.1 e other in omega arith),
)

-- only a seat's own entries count for it
pub own_only : (count : ℕ → List Entry → ℕ) → CountsOwn count → (k : ℕ) (es : List Entry) → count k (filter (is_own k) es) ≡ count k es
own_only count counts k [] = refl
own_only count counts k (e ∷ es) = by (own_only count counts k es) (is_own k e) refl
  where
    by : count k (filter (is_own k) es) ≡ count k es → (b : Bool) → is_own k e ≡ b
        → count k (cond b (e ∷ filter (is_own k) es) (filter (is_own k) es)) ≡ count k (e ∷ es)
    by rest true its = let a = (counts k).0.1 e (filter (is_own k) es) in let b = (counts k).0.1 e es in omega arith
    by rest false other = let a = (counts k).1 e other in let b = (counts k).0.1 e es in omega arith

-- what a seat has told it has seen
pub own_seen : (count : ℕ → List Entry → ℕ) → CountsOwn count → (m : Layout) (s : SemaWorld) (i : ℕ) (v : SemaSight) → Meets (semaphores m) s i v
    → count i s.journal ≡ count i v.seen
own_seen count counts m s i v meets = sym (own_only count counts i s.journal) ∙ ap (count i) meets.quiet ∙ own_only count counts i v.seen

line_spends : {m : Layout} {i : ℕ} {g h : Words} {p q : SeatState} {e : Effect} → Line m i g p q h e → spent_by i (entries e) ≤ spending p.place
line_spends {i = i} r1 = let o = on_here i 1 in omega arith
line_spends {i = i} (m1 {r = r}) = let o = on_here i r.units in omega arith
line_spends {i = i} (d3 _) = let o = on_here i 1 in omega arith
line_spends (begin_acquire _) = omega arith
line_spends _ = omega arith

line_spends_else : {m : Layout} {i : ℕ} {g h : Words} {p q : SeatState} {e : Effect} → Line m i g p q h e → (k : ℕ)
    → k ≢ i → spent_by k (entries e) ≡ 0
line_spends_else {i = i} r1 k ne = let o = on_else k i 1 ne in omega arith
line_spends_else {i = i} (m1 {r = r}) k ne = let o = on_else k i r.units ne in omega arith
line_spends_else {i = i} (d3 _) k ne = let o = on_else k i 1 ne in omega arith
line_spends_else (begin_acquire _) k ne = refl
line_spends_else _ k ne = refl

by_line : {m : Layout} {s : SemaWorld} {i : ℕ} {t : SemaWorld} → Step m s i t
    → (spent_by i t.journal ≤ spent_by i s.journal + spending (s.seats i).place) × ((k : ℕ) → k ≢ i → spent_by k t.journal ≡ spent_by k s.journal)
by_line {s = s} {i = i} (own {e = e} line) =
    let a = count_after (spent_by i) (spent_own i).0 e s.journal in let l = line_spends line in (
      omega arith,
      (λ k ne. let b = count_after (spent_by k) (spent_own k).0 e s.journal in let o = line_spends_else line k ne in omega arith),
    )
by_line {s = s} {i = i} (post p) = (omega arith, (λ k ne. refl))

pub step_spends : (m : Layout) (s t : SemaWorld) (i : ℕ) → i < m.seats → IsInvariant m s → steps.Step m s i t
    → (spent_by i t.journal ≤ spent_by i s.journal + spending (s.seats i).place) × ((k : ℕ) → k ≢ i → spent_by k t.journal ≡ spent_by k s.journal)
step_spends m s t i there known step = by_line (step_of m s t i (known.seats i) (known.finds i there) step)
