-- The calls that are left out where one is given up.
use Rattle.std.proofs.Common.{◌≡◌, ℕ, ◌+◌, ◌-◌, ◌≤◌, List, ◌++◌, length, take, drop, sym, ap, ◌∙◌, arith}
use Rattle.std.specs.List.{list_any}
use Rattle.std.proofs.lemmas.List.{take-append-drop, take-take, drop-take, take_all, length-drop}
use Rattle.scenario_text.specs.declared.reader.call.SpelledCall.{SpelledCall}
use Rattle.scenario_text.specs.Causes.{is_changed, changes_tickets}

-- calls up to an end, in two parts
seam : (calls : List SpelledCall) (here end : ℕ) → here ≤ end → take end calls ≡ take here calls ++ take (end - here) (drop here calls)
seam calls here end le =
    let more : here + (end - here) ≡ end = omega arith in
    sym (take-append-drop here (take end calls))
    ∙ (λ i. take-take here end calls le i ++ (ap (λ (n : ℕ). drop here (take n calls)) (sym more) ∙ drop-take here (end - here) calls) i)

-- as many calls as are asked for, or all
pub asked : (calls : List SpelledCall) (here end more : ℕ) → end ≡ here + more
    → (here ≤ end) × (take (end - here) (drop here calls) ≡ take more (drop here calls))
asked calls here end more e = (omega arith, ap (λ (n : ℕ). take n (drop here calls)) (omega arith))

pub all_left : (calls : List SpelledCall) (here end more : ℕ) → here ≤ length calls → end ≡ length calls → length calls - here ≤ more
    → (here ≤ end) × (take (end - here) (drop here calls) ≡ take more (drop here calls))
all_left calls here end more le e few = (
  omega arith,
  take_all (end - here) (drop here calls) (omega (arith, length-drop here calls))
      ∙ sym (take_all more (drop here calls) (omega (arith, length-drop here calls))),
)

pub looks : (calls : List SpelledCall) (here end more : ℕ) → (here ≤ end) × (take (end - here) (drop here calls) ≡ take more (drop here calls))
    → list_any (is_changed (take here calls) (take end calls)) (take (end - here) (drop here calls))
    ≡ changes_tickets (take here calls) (take more (drop here calls))
looks calls here end more h =
    ap (λ (after : List SpelledCall). list_any (is_changed (take here calls) after) (take (end - here) (drop here calls))) (seam calls here end h.0)
    ∙ ap (λ (cs : List SpelledCall). changes_tickets (take here calls) cs) h.1
