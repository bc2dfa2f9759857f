-- Where a seat may begin a row: where it stands, or at another place by its caller's choice.
use Rattle.std.proofs.Common.{◌≡◌, ℕ, true, List, inl, inr, sym, refl, ap, ◌∙◌, subst, arith}
use mathlib.Core.Path.{fun_ext}
use native.Mathlib.Decide.{ℕ_discrete}
use Rattle.step_table.specs.declared.place.AcquireRow.TheVariants.{A1, A3, Parked}
use Rattle.step_table.specs.declared.place.ParkedRow.TheVariants.{P, D2, D3, D5}
use Rattle.step_table.specs.declared.place.Acquire.{Acquire}
use Rattle.step_table.specs.declared.place.ReleaseRow.TheVariants.{R1, R3}
use Rattle.step_table.specs.declared.place.ManyRow.TheVariants.{M1}
use Rattle.step_table.specs.declared.place.Place.{Place}
use Rattle.step_table.specs.declared.place.Place.TheVariants.{Rest, Acquiring, Releasing, ReleasingMany}
use Rattle.step_table.specs.World.{Layout, SemaWorld, SeatState, put}
use Rattle.step_table.specs.Steps.{moved, Choice, acquire, enter, release, release_many, give_up, give_up_lock, decide, leave, stay, Step, choose}
use Rattle.step_table.proofs.Sums.{put_here, put_else, put_same}
use Rattle.step_law_semaphores.specs.Lawful.{holds}
use Rattle.step_law_semaphores.specs.Served.{carries}
use Rattle.waiters.specs.declared.wait.WaitId.{WaitId}
use Rattle.sema_table.specs.Places.{is_free, IsFirst, Decides, Begins}

first_choice : (n : ℕ) (p : Place) → IsFirst n p → Choice n Rest p
first_choice n (Acquiring a A1) f = acquire a f
first_choice n (Acquiring a A3) f = enter a f
first_choice n (Releasing r R1) f = release r f
first_choice n (ReleasingMany r M1) f = release_many r f.0 f.1 f.2
first_choice n _ f = absurd f

first_holds : (n : ℕ) (root : ℕ → ℕ) (r : ℕ) (p : Place) → IsFirst n p → holds root r p ≡ 0
first_holds n root r (Acquiring a A1) f = refl
first_holds n root r (Acquiring a A3) f = refl
first_holds n root r (Releasing q R1) f = refl
first_holds n root r (ReleasingMany q M1) f = refl
first_holds n root r _ f = absurd f

decided : (n : ℕ) (from to : Place) → Decides from to → Choice n from to
decided n (Releasing r R3) (Releasing q R3) d =
    subst (λ k. Choice n (Releasing r R3) (Releasing (record { counter = k; handoff = q.handoff }) R3)) d (decide r q.handoff)
decided n (Acquiring a (Parked turn P)) (Acquiring b (Parked t D2)) d =
    subst (λ (x : Acquire × ℕ). Choice n (Acquiring a (Parked turn P)) (Acquiring x.0 (Parked x.1 D2))) (λ i. (d.0 i, d.1 i)) (leave a turn)
decided n (Acquiring a (Parked turn D3)) (Acquiring b (Parked t D5)) d =
    subst (λ (x : Acquire × ℕ). Choice n (Acquiring a (Parked turn D3)) (Acquiring x.0 (Parked x.1 D5))) (λ i. (d.0 i, d.1 i)) (stay a turn)
decided n _ _ d = absurd d

decided_holds : (root : ℕ → ℕ) (r : ℕ) (from to : Place) → Decides from to → holds root r to ≡ holds root r from
decided_holds root r (Releasing _ R3) (Releasing _ R3) d = refl
decided_holds root r (Acquiring _ (Parked _ P)) (Acquiring _ (Parked _ D2)) d = refl
decided_holds root r (Acquiring a (Parked _ D3)) (Acquiring b (Parked _ D5)) d =
    ap (λ (x : Acquire). holds root r (Acquiring x (Parked 0 D5))) (sym d.0)
decided_holds root r _ _ d = absurd d

put_put : {A : Type 0} (f : ℕ → A) (i : ℕ) (x y : A) → put (put f i x) i y ≡ put f i y
put_put f i x y = fun_ext (λ k. by k (ℕ_discrete k i))
  where
    by : (k : ℕ) → Dec (k ≡ i) → put (put f i x) i y k ≡ put f i y k
    by k (yes e) = rw e (put_here (put f i x) i y ∙ sym (put_here f i y))
    by k (no ne) = put_else (put f i x) i y k ne ∙ put_else f i x k ne ∙ sym (put_else f i y k ne)

-- who begins a row holds no lock but that which it held
pub begins_holds : (n : ℕ) (root : ℕ → ℕ) (r : ℕ) (from to : Place) → Begins n from to → holds root r to ≡ 1 → holds root r from ≡ 1
begins_holds n root r from to (inl same) h = ap (holds root r) same ∙ h
begins_holds n root r from to (inr (inl f)) h = let e = first_holds n root r to f.1 in absurd (omega arith)
begins_holds n root r from to (inr (inr d)) h = sym (decided_holds root r from to d) ∙ h

first_carries : (n k : ℕ) (hand : List WaitId) (p : Place) → IsFirst n p → carries k p hand ≡ 0
first_carries n k hand (Acquiring a A1) f = refl
first_carries n k hand (Acquiring a A3) f = refl
first_carries n k hand (Releasing q R1) f = refl
first_carries n k hand (ReleasingMany q M1) f = refl
first_carries n k hand _ f = absurd f

free_carries : (k : ℕ) (hand : List WaitId) (p : Place) → is_free p ≡ true → carries k p hand ≡ 0
free_carries k hand Rest f = refl
free_carries k hand (Acquiring a A1) f = refl
free_carries k hand (Acquiring a A3) f = refl
free_carries k hand _ f = absurd (cc)

decided_carries : (k : ℕ) (hand : List WaitId) (from to : Place) → Decides from to → carries k to hand ≡ carries k from hand
decided_carries k hand (Releasing _ R3) (Releasing _ R3) d = refl
decided_carries k hand (Acquiring _ (Parked _ P)) (Acquiring _ (Parked _ D2)) d = refl
decided_carries k hand (Acquiring _ (Parked _ D3)) (Acquiring _ (Parked _ D5)) d = refl
decided_carries k hand _ _ d = absurd d

-- who begins a row carries what it carried
pub begins_carries : (n k : ℕ) (hand : List WaitId) (from to : Place) → Begins n from to → carries k to hand ≡ carries k from hand
begins_carries n k hand from to (inl same) = ap (λ p. carries k p hand) (sym same)
begins_carries n k hand from to (inr (inl f)) = first_carries n k hand to f.1 ∙ sym (free_carries k hand from f.0)
begins_carries n k hand from to (inr (inr d)) = decided_carries k hand from to d

module _ (m : Layout) (i : ℕ) (Q : SemaWorld → Type 0) (kept : (s t : SemaWorld) → Step m s i t → Q s → Q t) where
  chosen : (w : SemaWorld) (a p : Place) → (w.seats i).place ≡ a → Choice m.counters a p → Q w → Q (moved w i p)
  chosen w a p at c = kept w (moved w i p) (choose (subst (λ x. Choice m.counters x p) (sym at) c))

  again : (w : SemaWorld) (a p : Place) → moved (moved w i a) i p ≡ moved w i p
  again w a p = let x : SeatState = record (w.seats i) { place = a } in
      let e : put (put w.seats i x) i (record (put w.seats i x i) { place = p }) ≡ put w.seats i (record (w.seats i) { place = p })
      = ap (λ (y : SeatState). put (put w.seats i x) i (record y { place = p })) (put_here w.seats i x) ∙ put_put w.seats i x (record x { place = p }) in
      λ k. record w { seats = e k }

  given_up : (w : SemaWorld) (a p : Place) → (w.seats i).place ≡ a → Choice m.counters a Rest → IsFirst m.counters p → Q w → Q (moved w i p)
  given_up w a p at c f q = subst Q (again w Rest p)
      (chosen (moved w i Rest) Rest p (ap (λ (y : SeatState). y.place) (put_here w.seats i (record (w.seats i) { place = Rest })))
      (first_choice m.counters p f)
      (chosen w a Rest at c q))

  free_begins : (w : SemaWorld) (a p : Place) → (w.seats i).place ≡ a → is_free a ≡ true → IsFirst m.counters p → Q w → Q (moved w i p)
  free_begins w Rest p at free f = chosen w Rest p at (first_choice m.counters p f)
  free_begins w (Acquiring a A1) p at free f = given_up w (Acquiring a A1) p at (give_up a) f
  free_begins w (Acquiring a A3) p at free f = given_up w (Acquiring a A3) p at (give_up_lock a) f
  free_begins w _ p at free f = absurd (cc)

  stays_put : (w : SemaWorld) (p : Place) → (w.seats i).place ≡ p → w ≡ moved w i p
  stays_put w p at = let e : w.seats ≡ put w.seats i (record (w.seats i) { place = p })
      = sym (put_same w.seats i) ∙ ap (λ (x : Place). put w.seats i (record (w.seats i) { place = x })) at in λ k. record w { seats = e k }

  -- what the seat's steps keep holds where it begins a row
  pub begun : (w : SemaWorld) (a p : Place) → (w.seats i).place ≡ a → Begins m.counters a p → Q w → Q (moved w i p)
  begun w a p at (inl same) q = subst Q (stays_put w p (at ∙ same)) q
  begun w a p at (inr (inl b)) q = free_begins w a p at b.0 b.1 q
  begun w a p at (inr (inr d)) q = chosen w a p at (decided m.counters a p d) q
