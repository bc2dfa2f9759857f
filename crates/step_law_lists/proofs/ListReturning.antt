-- No call on a list ends without what it is for.
use Rattle.std.proofs.Common.{◌≡◌, ℕ, ◌==◌, if◌then◌else◌, IsTrue, Bool, true, false, inl, inr, refl, sym, ap, ◌∙◌, eqb-true, ltb-true}
use Rattle.step_table.specs.declared.list_place.AllRow.TheVariants.{L1, L2, L3, L4, L5, L6, L7, L8}
use Rattle.step_table.specs.declared.list_place.ListPlace.{ListPlace}
use Rattle.step_table.specs.declared.list_place.ListPlace.TheVariants.{Rest, Adding, Waiting, NotifyingOne, NotifyingAll}
use Rattle.step_table.specs.declared.list_place.OneRow.TheVariants.{O1, O2, O3, O4, O5, O6, O7, O8, O9}
use Rattle.step_table.specs.declared.list_place.WaitRow.TheVariants.{W1, W2, W3, W4, E4, Parked}
use Rattle.step_table.specs.declared.list_place.ListParkedRow.TheVariants.{P, E1, E2, E3, E5}
use Rattle.step_table.specs.Wrapping.{less}
use Rattle.step_table.specs.ListWorld.{ListSeat, ListWorld, found, is_queued}
use Rattle.step_table.specs.ListEvent.{ListNext, ListEvent}
use Rattle.step_table.specs.ListTable.{list_event_at}
use Rattle.step_table.specs.ListSteps.{seat_after, ListTurn}
use Rattle.step_law_lists.specs.ListCalls.{one_equal, one_locked, all_equal, all_stored, all_given}
use Rattle.step_law_lists.specs.ListReturns.{HasDone, EndsDone}
use Rattle.step_table.proofs.Sums.{put_here}

-- the event at this place, what it finds, and where it leads
abbrev event_there : ListWorld → ℕ → ListPlace → ListEvent
event_there s i p = list_event_at i (s.seats i) s.words p

abbrev found_there : ListWorld → ℕ → ListPlace → ℕ
found_there s i p = found s.words (event_there s i p).word

abbrev next_there : ListWorld → ℕ → ListPlace → ListNext
next_there s i p = (event_there s i p).leads (found_there s i p)

neither : (b : Bool) (x y : ListPlace) → (x ≡ Rest → ⊥) → (y ≡ Rest → ⊥) → (if b then x else y) ≡ Rest → ⊥
neither true x y p q e = p e
neither false x y p q e = q e

only_if : (b : Bool) (x : ListPlace) → (x ≡ Rest → ⊥) → (if b then Rest else x) ≡ Rest → b ≡ true
only_if true x p e = refl
only_if false x p e = absurd (p e)

done : (s : ListWorld) (i : ℕ) (p : ListPlace) → p ≡ (s.seats i).place → IsTrue ((event_there s i p).can (found_there s i p))
    → (next_there s i p).0 ≡ Rest → HasDone s i p
done s i Rest at can rest = absurd cc
done s i Adding at can rest = tt
done s i (Waiting t W1) at can rest = absurd cc
done s i (Waiting t W2) at can rest =
    absurd (neither (less t.word s.words.notify) (Waiting t W3) (Waiting t W4) (λ e. cc) (λ e. cc) rest)
done s i (Waiting t W3) at can rest = inl (inl (sym at))
done s i (Waiting t W4) at can rest = absurd cc
done s i (Waiting t E4) at can rest = inr (sym at)
done s i (Waiting t (Parked P)) at can rest = inl (inr (sym at, ltb-true 0 (s.words.grants i) can))
done s i (Waiting t (Parked E1)) at can rest =
    absurd (neither (is_queued i s.words.queue) (Waiting t (Parked E2)) (Waiting t (Parked E5)) (λ e. cc) (λ e. cc) rest)
done s i (Waiting t (Parked E2)) at can rest = absurd cc
done s i (Waiting t (Parked (E3 v))) at can rest = absurd cc
done s i (Waiting t (Parked E5)) at can rest = absurd cc
done s i (NotifyingOne h O1) at can rest = absurd cc
done s i (NotifyingOne h (O2 a)) at can rest =
    one_equal h a (eqb-true a s.words.notify (only_if (a == s.words.notify) (NotifyingOne h O3) (λ e. cc) rest))
done s i (NotifyingOne h O3) at can rest = absurd cc
done s i (NotifyingOne h O4) at can rest = absurd cc
done s i (NotifyingOne h (O5 t)) at can rest =
    absurd (neither (s.words.wait == t) (NotifyingOne h O6) (NotifyingOne h (O7 t)) (λ e. cc) (λ e. cc) rest)
done s i (NotifyingOne h O6) at can rest = one_locked h
done s i (NotifyingOne h (O7 t)) at can rest = absurd cc
done s i (NotifyingOne h (O8 t)) at can rest = tt
done s i (NotifyingOne h O9) at can rest = tt
done s i (NotifyingAll h L1) at can rest = absurd cc
done s i (NotifyingAll h (L2 a)) at can rest =
    all_equal h a (eqb-true a s.words.notify (only_if (a == s.words.notify) (NotifyingAll h L3) (λ e. cc) rest))
done s i (NotifyingAll h L3) at can rest = absurd cc
done s i (NotifyingAll h L4) at can rest = absurd cc
done s i (NotifyingAll h (L5 t)) at can rest = absurd cc
done s i (NotifyingAll h (L6 r)) at can rest = absurd cc
done s i (NotifyingAll h (L7 n)) at can rest = all_stored h n
done s i (NotifyingAll h L8) at can rest = all_given h

pub ends_done : (s t : ListWorld) (i : ℕ) → ListTurn s i t → EndsDone i s t
ends_done s t i turn rest = done s i (s.seats i).place refl turn.can (sym place_is ∙ rest)
  where
    place_is : (t.seats i).place ≡ (next_there s i (s.seats i).place).0
    place_is =
        ap (λ (u : ListWorld). (u.seats i).place) turn.is
        ∙ ap (λ (z : ListSeat). z.place) (put_here s.seats i (seat_after s.words (next_there s i (s.seats i).place) (s.seats i)))
