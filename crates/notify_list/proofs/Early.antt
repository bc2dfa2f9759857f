-- A seat that gives up stays one that may: which row leads to which.
use Rattle.std.proofs.Common.{ℕ, ◌==◌, Bool, true, false, nat_lt, if◌then◌else◌, List, [], ◌∷◌, length, Option, Some, None, subst}
use Rattle.waiters.specs.declared.wait.Wait.{Wait}
use Rattle.waiters.specs.Lists.{first_with}
use Rattle.step_table.specs.declared.list_place.AllRow.TheVariants.{L1, L2, L3, L4, L5, L6, L7, L8}
use Rattle.step_table.specs.declared.list_place.ListEffect.TheVariants.{TakesOut}
use Rattle.step_table.specs.declared.list_place.ListParkedRow.TheVariants.{P, E1, E2, E3, E5}
use Rattle.step_table.specs.declared.list_place.ListPlace.{ListPlace}
use Rattle.step_table.specs.declared.list_place.ListPlace.TheVariants.{Rest, Adding, Waiting, NotifyingOne, NotifyingAll}
use Rattle.step_table.specs.declared.list_place.OneRow.TheVariants.{O1, O2, O3, O4, O5, O6, O7, O8, O9}
use Rattle.step_table.specs.declared.list_place.WaitRow.TheVariants.{W1, W2, W3, W4, E4, Parked}
use Rattle.step_table.specs.ListEvent.{to, by_found, if_any}
use Rattle.step_table.specs.ListTable.{list_event_at}
use Rattle.step_table.specs.ListWorld.{ListWords, ListSeat, is_queued, late_after}
use Rattle.step_table.specs.Path.{GoesOn}
use Rattle.step_table.specs.ListWorld.{ListEntry}
use Rattle.step_table.specs.Wrapping.{less}
use Rattle.step_law_lists.specs.ListLawful.{IsInReach}
use Rattle.step_law_lists.proofs.ListJournals.{reach_before}
use Rattle.notify_list.specs.Places.{GoesEarly}

one_of : (b : Bool) (p q : ListPlace) (late : ℕ) → GoesEarly p late → GoesEarly q late → GoesEarly (if b then p else q) late
one_of true p q late x y = x
one_of false p q late x y = y

-- each row leads a seat that may give up to such a place
pub row_early : (i : ℕ) (seat : ListSeat) (g : ListWords) (p : ListPlace) (n passed late : ℕ) → GoesEarly p late
    → GoesEarly ((list_event_at i seat g p).leads n).0 (late_after p passed late)
row_early i seat g Rest n passed late home = tt
row_early i seat g Adding n passed late home = tt
row_early i seat g (Waiting t W1) n passed late home = tt
row_early i seat g (Waiting t W2) n passed late home =
    one_of (less t.word n) (Waiting t W3) (Waiting t W4) (late_after (Waiting t W2) passed late) tt tt
row_early i seat g (Waiting t W3) n passed late home = tt
row_early i seat g (Waiting t W4) n passed late home = tt
row_early i seat g (Waiting t E4) n passed late home = tt
row_early i seat g (Waiting t (Parked P)) n passed late home = tt
row_early i seat g (Waiting t (Parked E1)) n passed late home =
    one_of (is_queued i g.queue) (Waiting t (Parked E2)) (Waiting t (Parked E5)) late home tt
row_early i seat g (Waiting t (Parked E2)) n passed late home = home
row_early i seat g (Waiting t (Parked (E3 v))) n passed late home = tt
row_early i seat g (Waiting t (Parked E5)) n passed late home = tt
row_early i seat g (NotifyingOne h O1) n passed late home = tt
row_early i seat g (NotifyingOne h (O2 a)) n passed late home = one_of (a == n) Rest (NotifyingOne h O3) late tt tt
row_early i seat g (NotifyingOne h O3) n passed late home = tt
row_early i seat g (NotifyingOne h O4) n passed late home = tt
row_early i seat g (NotifyingOne h (O5 t)) n passed late home = one_of (n == t) (NotifyingOne h O6) (NotifyingOne h (O7 t)) late tt tt
row_early i seat g (NotifyingOne h O6) n passed late home = tt
row_early i seat g (NotifyingOne h (O7 t)) n passed late home = tt
row_early i seat g (NotifyingOne h (O8 t)) n passed late home = by (first_with t g.queue)
  where
    by : (found : Option Wait) → GoesEarly (by_found found (to Rest) (λ w. (NotifyingOne h O9, TakesOut t))).0 late
    by None = tt
    by (Some w) = tt
row_early i seat g (NotifyingOne h O9) n passed late home = tt
row_early i seat g (NotifyingAll h L1) n passed late home = tt
row_early i seat g (NotifyingAll h (L2 a)) n passed late home = one_of (a == n) Rest (NotifyingAll h L3) late tt tt
row_early i seat g (NotifyingAll h L3) n passed late home = tt
row_early i seat g (NotifyingAll h L4) n passed late home = tt
row_early i seat g (NotifyingAll h (L5 t)) n passed late home = tt
row_early i seat g (NotifyingAll h (L6 r)) n passed late home = tt
row_early i seat g (NotifyingAll h (L7 m)) n passed late home = by g.queue
  where
    by : (queue : List Wait) → GoesEarly (if_any queue (NotifyingAll h L8) Rest) late
    by [] = tt
    by (w ∷ queue) = tt
row_early i seat g (NotifyingAll h L8) n passed late home = one_of (nat_lt 1 (length seat.hand)) (NotifyingAll h L8) Rest late tt tt

-- what is seen before a journal of which the laws speak is such a one
pub reach_then : (journal seen : List ListEntry) → GoesOn journal seen → IsInReach journal → IsInReach seen
reach_then journal seen later reach = reach_before seen later.more (subst IsInReach later.is reach)
