-- What a wait with a time-out is to its caller.
use Rattle.std.proofs.Common.{◌≡◌, ℕ, [], ◌∷◌, None, sym, ap, ◌∙◌, subst}
use Rattle.step_table.specs.declared.list_place.ListPlace.TheVariants.{Rest, Waiting}
use Rattle.step_table.specs.declared.list_place.ListParkedRow.TheVariants.{P}
use Rattle.step_table.specs.declared.list_place.Ticket.{Ticket}
use Rattle.step_table.specs.declared.list_place.WaitRow.TheVariants.{Parked as Asleep}
use Rattle.step_table.specs.ListWorld.{ListSeat, Forgone}
use Rattle.step_law_lists.specs.ListLawful.{IsGranted as IsTicketGranted}
use Rattle.notify_list.specs.declared.waited.Waited.TheVariants as waited
use Rattle.notify_list.specs.declared.waited.WaitedUntil.{WaitedUntil}
use Rattle.notify_list.specs.declared.waited.WaitedUntil.TheVariants.{AtOnce, Parked, TimedOut}
use Rattle.notify_list.specs.declared.waited.Entered.TheVariants as entered
use Rattle.notify_list.specs.declared.waited.Polled.TheVariants as polled
use Rattle.notify_list.specs.declared.waited.GaveUp.TheVariants as gave
use Rattle.notify_list.specs.Seats.{SeatModel}
use Rattle.notify_list.specs.Leaving.{Leaves, HasLeft}
use Rattle.notify_list.specs.Callers.{IsSeatAfter, StandsOn, WaitsForGrant, EntersWait, IsParkedWith, PollsGrant}
use Rattle.notify_list.specs.CallersTimed.{SleepsInTime, TimesOut, WaitsInTime}
use Rattle.notify_list.proofs.CallersLeaving.{after_then}
use Rattle.notify_list.proofs.Walking.{tells_later}

-- a seat is parked with one ticket alone
one_ticket : (x : SeatModel) (ticket k : Ticket) → IsParkedWith x ticket → IsParkedWith x k → k ≡ ticket
one_ticket x ticket k parked at = let both : Waiting k (Asleep P) ≡ Waiting ticket (Asleep P) = sym at ∙ parked in cc

-- a seat that queued its wait, and took its grant
pub granted_then : (s x t : SeatModel) → EntersWait s (entered.Queued x) → x.sight.stands.ticket ≡ None → PollsGrant x (polled.Granted t)
    → WaitsForGrant s waited.Parked t
granted_then s x t (before, (ticket, held, parked, (u, looks, later))) none (after, same, (k, at, granted)) = (
  after_then s x t [] before after,
  same ∙ none,
  (
    ticket,
    held,
    subst (λ (j : Ticket). IsTicketGranted j.number t.sight.seen) (one_ticket x ticket k parked at) granted,
    (u, looks, tells_later u.sight.seen x.sight.seen [] t.sight.seen later after.tells),
  ),
)

-- or left
left_then : (s x t : SeatModel) → EntersWait s (entered.Queued x) → x.sight.stands.ticket ≡ None → SleepsInTime x TimedOut t → TimesOut s t
left_then s x t (before, (ticket, held, parked, (u, looks, later))) none ((k, at, after, same, gone), rests) =
    let one = one_ticket x ticket k parked at in
    let told : IsSeatAfter x (Forgone ticket.number s.number ∷ []) t
    = subst (λ (q : ℕ × ℕ). IsSeatAfter x (Forgone q.0 q.1 ∷ []) t) (λ i. ((one i).number, before.number i)) after in (
      ticket,
      held,
      subst (λ (j : Ticket). HasLeft j.number t.sight.seen) one gone,
      after_then s x t (Forgone ticket.number s.number ∷ []) before told,
      rests,
      same ∙ none,
      (u, looks, tells_later u.sight.seen x.sight.seen (Forgone ticket.number s.number ∷ []) t.sight.seen later told.tells),
    )

pub then_sleeps : (s x t : SeatModel) (how : WaitedUntil) → EntersWait s (entered.Queued x) → x.sight.stands.ticket ≡ None
    → SleepsInTime x how t → WaitsInTime s how t
then_sleeps s x t AtOnce queued none sleeps = absurd sleeps
then_sleeps s x t Parked queued none sleeps = granted_then s x t queued none sleeps
then_sleeps s x t TimedOut queued none sleeps = left_then s x t queued none sleeps

-- nothing was done before
pub sleeps_on : (s x t : SeatModel) (how : WaitedUntil) → StandsOn s x → SleepsInTime x how t → SleepsInTime s how t
sleeps_on s x t AtOnce still sleeps = absurd sleeps
sleeps_on s x t Parked (before, stands) (after, same, (k, at, granted)) = (
  after_then s x t [] before after,
  same ∙ ap (λ (a : ListSeat). a.ticket) stands,
  (k, ap (λ (a : ListSeat). a.place) (sym stands) ∙ at, granted),
)
sleeps_on s x t TimedOut (before, stands) ((k, at, after, same, gone), rests) = (
  (
    k,
    ap (λ (a : ListSeat). a.place) (sym stands) ∙ at,
    subst (λ i. IsSeatAfter s (Forgone k.number i ∷ []) t) before.number (after_then s x t (Forgone k.number x.number ∷ []) before after),
    same ∙ ap (λ (a : ListSeat). a.ticket) stands,
    gone,
  ),
  rests,
)

-- a seat that left rests
pub left_rests : (s t : SeatModel) → Leaves s (gave.Left t) → t.sight.stands.place ≡ Rest
left_rests s t (u, still, (ticket, notified, at, call, comes, gone)) = ap (λ (a : ListSeat). a.place) comes.stands_is

-- the seat that comes back is one of the same list
pub same_list : (s t : SeatModel) (how : WaitedUntil) → WaitsInTime s how t → t.list ≡ s.list
same_list s t AtOnce waits = waits.0.list
same_list s t Parked waits = waits.0.list
same_list s t TimedOut waits = waits.3.list
