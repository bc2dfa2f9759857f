use Rattle.std.proofs.Common.{◌≡◌, ℕ, ◌≤◌, List, vec_capacity}
use Rattle.step_table.specs.Wrapping.{minus}
use Rattle.notify_list.specs.LiveTickets.{AreKept, MayBeGone}
use Rattle.notify_list.proofs.live.Live.reach.Given as goal

-- the tickets up to the end are live, which comes no later than the one that goes
abbrev pub invariant-loop-self : goal.invariant-loop-self
invariant-loop-self l =
    (vec_capacity l.self.words ≡ vec_capacity l.initial.self.words)
    × ((first passed m : ℕ) (gone : List ℕ) → (kept : AreKept first l.initial.self passed gone) → kept.end ≤ m
    → MayBeGone first passed m gone l.ticket (vec_capacity l.initial.self.words)
    → (now : AreKept first l.self passed gone) × (now.end ≤ m))

abbrev pub decreases-loop-self : goal.decreases-loop-self
decreases-loop-self l = minus l.ticket l.self.end
