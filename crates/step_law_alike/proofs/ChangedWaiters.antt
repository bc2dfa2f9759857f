-- A waiter word counts the waits of its root, and the seats that have raised it, by a changed table too.
use Rattle.std.proofs.Common.{◌≡◌, ◌≢◌, ℕ, ◌+◌, ◌-◌, ◌<◌, refl, ap, ◌∙◌, IsTrue, arith}
use Rattle.waiters.specs.declared.wait.WaitId.{WaitId}
use Rattle.step_table.specs.declared.effect.Effect.{Effect}
use Rattle.step_table.specs.declared.place.Acquire.{Acquire as AcquireCall}
use Rattle.step_table.specs.declared.place.Release.{Release as ReleaseCall}
use Rattle.step_table.specs.declared.place.ReleaseMany.{ReleaseMany as ManyCall}
use Rattle.step_table.specs.declared.place.AcquireRow.{AcquireRow}
use Rattle.step_table.specs.declared.place.AcquireRow.TheVariants.{A1, A3, A4, A5, A6, Parked}
use Rattle.step_table.specs.declared.place.ReleaseRow.TheVariants.{R1}
use Rattle.step_table.specs.declared.place.ManyRow.TheVariants.{M1}
use Rattle.step_table.specs.declared.place.Place.{Place}
use Rattle.step_table.specs.declared.place.ParkedRow.{ParkedRow}
use Rattle.step_table.specs.declared.place.Place.TheVariants.{Rest, Acquiring, Releasing, ReleasingMany}
use Rattle.step_law_alike.specs.declared.variant.Variant.{Variant}
use Rattle.step_law_alike.specs.declared.variant.Variant.TheVariants.{NoLook, LateCount, PlainLess}
use Rattle.step_table.specs.World.{Layout, Words, SeatState, SemaWorld, insert_wait}
use Rattle.step_table.specs.Steps.{moved, turned, turn, can_turn}
use Rattle.step_law_semaphores.specs.Lawful.{raises, waits_of}
use Rattle.step_table.specs.Counting.{total, wait}
use Rattle.step_law_alike.specs.Changed.{changed_row, changed_place}
use Rattle.step_law_alike.specs.ChangedInvariant.{raises_late, raises_in, WaitersRaisedIn}
use Rattle.step_law_semaphores.specs.WellFormed.{IsWellFormedWorld}
use Rattle.step_table.proofs.Sums.{put_here, put_else, total_change, total_has, on_here, up, down}
use Rattle.step_law_semaphores.proofs.Lines.{Line, begin_acquire, a4, a7, a8, r5, m5_more, m5_last, Post, r9, r10, m7_last, m7_more, Step, own, post, d3}
use Rattle.step_law_semaphores.proofs.Cases.{step_of}
use Rattle.step_law_semaphores.proofs.Raising.{Raised, rows, one_less, waits_up, lists_below, one_out}
use Rattle.step_table.proofs.Sums as sums

-- the change without a second look, and the plain comparison, lead no seat to where it has raised more or less
as_raised : (root : ℕ → ℕ) (r : ℕ) (b : AcquireCall) (from next : AcquireRow)
    → raises root r (Acquiring b (changed_row NoLook from next)) ≡ raises root r (Acquiring b next)
as_raised root r b A4 A5 = refl
as_raised root r b from next = refl

no_look : (root : ℕ → ℕ) (r : ℕ) (p q : Place) → raises root r (changed_place NoLook p q) ≡ raises root r q
no_look root r (Acquiring a from) (Acquiring b next) = as_raised root r b from next
no_look root r p q = refl

plain_less : (root : ℕ → ℕ) (r : ℕ) (p q : Place) → raises root r (changed_place PlainLess p q) ≡ raises root r q
plain_less root r (Acquiring a from) (Acquiring b next) = refl
plain_less root r p q = refl

late_rows : {m : Layout} {i : ℕ} {g h : Words} {p q : SeatState} {e : Effect} → Line m i g p q h e
    → Raised (λ r. raises_late m.root r p.place) m g p.place
    → (r : ℕ) → h.waiters r + waits_of m r g + raises_late m.root r p.place
    ≡ g.waiters r + waits_of m r h + raises_late m.root r (changed_place LateCount p.place q.place)
late_rows (begin_acquire _) known r = refl
late_rows {m = m} {g = g} (a4 {a = a}) known r = let x = m.root a.counter in let raised = up g.waiters x (g.waiters x + 1) r refl in omega arith
late_rows {m = m} {i = i} {g = g} (a7 {a = a} {t = t}) known r =
    let l = g.lists a.counter in
    let queued = waits_up m r a.counter g.lists (insert_wait a.lifo (wait i t) l) known.within (sums.length_insert a.lifo (wait i t) l) in omega arith
late_rows {m = m} {g = g} (a8 {a = a}) known r =
    let x = m.root a.counter in
    let some = known.own x in let one = on_here x 1 in
    let lowered = down g.waiters x (g.waiters x - 1) r (omega arith) in omega arith
late_rows {m = m} {i = i} {g = g} (d3 {a = a} {u = u} stands) known r = let left = one_out known a.counter (wait i u) known.within stands r in omega arith
late_rows (r5 {r = q} {w = w} {l = l} first) known r = let left = one_less known q.counter w l known.within first r in omega arith
late_rows (m5_more {r = q} {w = w} {l = l} first _ _) known r = let left = one_less known q.counter w l known.within.0 first r in omega arith
late_rows (m5_last {r = q} {w = w} {l = l} first _) known r = let left = one_less known q.counter w l known.within.0 first r in omega arith
late_rows _ known r = refl

rows_in : (v : Variant) {m : Layout} {i : ℕ} {g h : Words} {p q : SeatState} {e : Effect} → Line m i g p q h e
    → Raised (λ r. raises_in v m.root r p.place) m g p.place
    → (r : ℕ) → h.waiters r + waits_of m r g + raises_in v m.root r p.place
    ≡ g.waiters r + waits_of m r h + raises_in v m.root r (changed_place v p.place q.place)
rows_in NoLook {m = m} {p = p} {q = q} line known r = let row = rows line known r in let same = no_look m.root r p.place q.place in omega arith
rows_in LateCount line known r = late_rows line known r
rows_in PlainLess {m = m} {p = p} {q = q} line known r = let row = rows line known r in let same = plain_less m.root r p.place q.place in omega arith

posts_in : (v : Variant) {p q : SeatState} {c x : ℕ} {w : WaitId} → Post p q c w x → (root : ℕ → ℕ) (r : ℕ)
    → raises_in v root r p.place ≡ raises_in v root r (changed_place v p.place q.place)
posts_in NoLook r9 root r = refl
posts_in NoLook r10 root r = refl
posts_in NoLook m7_last root r = refl
posts_in NoLook m7_more root r = refl
posts_in LateCount r9 root r = refl
posts_in LateCount r10 root r = refl
posts_in LateCount m7_last root r = refl
posts_in LateCount m7_more root r = refl
posts_in PlainLess r9 root r = refl
posts_in PlainLess r10 root r = refl
posts_in PlainLess m7_last root r = refl
posts_in PlainLess m7_more root r = refl

-- a change leads nobody away from where a call begins, waits for the lock, sleeps or has ended, and there nothing is
-- raised
pub data Starts : Place → Type 0 where
  at_rest : Starts Rest
  acquires : {a : AcquireCall} → Starts (Acquiring a A1)
  release : {q : ReleaseCall} → Starts (Releasing q R1)
  releases_many : {q : ManyCall} → Starts (ReleasingMany q M1)
  at_lock : {a : AcquireCall} → Starts (Acquiring a A3)
  parked : {a : AcquireCall} {u : ℕ} {row : ParkedRow} → Starts (Acquiring a (Parked u row))

row_stays : (v : Variant) (from : AcquireRow) → changed_row v from A1 ≡ A1
row_stays NoLook A4 = refl
row_stays LateCount A3 = refl
row_stays LateCount A4 = refl
row_stays LateCount A5 = refl
row_stays LateCount (A6 left) = refl
row_stays v from = refl

lock_stays : (v : Variant) (from : AcquireRow) → changed_row v from A3 ≡ A3
lock_stays NoLook A4 = refl
lock_stays LateCount A3 = refl
lock_stays LateCount A4 = refl
lock_stays LateCount A5 = refl
lock_stays LateCount (A6 left) = refl
lock_stays v from = refl

sleep_stays : (v : Variant) (from : AcquireRow) (u : ℕ) (row : ParkedRow) → changed_row v from (Parked u row) ≡ Parked u row
sleep_stays NoLook A4 u row = refl
sleep_stays LateCount A3 u row = refl
sleep_stays LateCount A4 u row = refl
sleep_stays LateCount A5 u row = refl
sleep_stays LateCount (A6 left) u row = refl
sleep_stays v from u row = refl

stays : (v : Variant) (p : Place) {q : Place} → Starts q → changed_place v p q ≡ q
stays v (Acquiring a from) (acquires {a = b}) = ap (Acquiring b) (row_stays v from)
stays v (Acquiring a from) (at_lock {a = b}) = ap (Acquiring b) (lock_stays v from)
stays v (Acquiring a from) (parked {a = b} {u = u} {row = row}) = ap (Acquiring b) (sleep_stays v from u row)
stays v p starts = refl

pub raised_none : (v : Variant) (root : ℕ → ℕ) (r : ℕ) {q : Place} → Starts q → raises_in v root r q ≡ 0
raised_none NoLook root r at_rest = refl
raised_none LateCount root r at_rest = refl
raised_none PlainLess root r at_rest = refl
raised_none v root r starts = refl

none_raised : (v : Variant) (root : ℕ → ℕ) (r : ℕ) (p : Place) {q : Place} → Starts q → raises_in v root r (changed_place v p q) ≡ 0
none_raised v root r p starts = ap (raises_in v root r) (stays v p starts) ∙ raised_none v root r starts

-- a place that hasn't changed is no place to which a row leads
row_still : (v : Variant) (row : AcquireRow) → changed_row v row row ≡ row
row_still NoLook A4 = refl
row_still LateCount A3 = refl
row_still LateCount A4 = refl
row_still LateCount A5 = refl
row_still LateCount (A6 left) = refl
row_still v row = refl

still : (v : Variant) (p : Place) → changed_place v p p ≡ p
still v (Acquiring a row) = ap (Acquiring a) (row_still v row)
still v p = refl

-- the world u came from s by a row of seat i, from where the change hasn't yet led it elsewhere
pub record IsHalfway (v : Variant) (m : Layout) (i : ℕ) (s u : SemaWorld) : Type 0 where
  pub words : (r : ℕ) → u.words.waiters r + waits_of m r s.words + raises_in v m.root r (s.seats i).place
      ≡ s.words.waiters r + waits_of m r u.words + raises_in v m.root r (changed_place v (s.seats i).place (u.seats i).place)
  pub others : (k : ℕ) → k ≢ i → (u.seats k).place ≡ (s.seats k).place

module _ (v : Variant) (m : Layout) (i : ℕ) (s : SemaWorld) where
  pub not_yet : IsHalfway v m i s s
  not_yet = record {
    words = λ r. (let same = ap (raises_in v m.root r) (still v (s.seats i).place) in omega arith);
    others = λ k ne. refl;
  }

  -- a seat goes by its choice between two such places
  pub begins : (u : SemaWorld) → IsHalfway v m i s u → {from : Place} → (u.seats i).place ≡ from → Starts from → (place : Place)
      → Starts place → IsHalfway v m i s (moved u i place)
  begins u half rests leaves place starts =
      let seat : SeatState = record (u.seats i) { place = place } in
      record {
        words = λ r.
            (let before = half.words r in
            let here = ap (λ (z : SeatState). raises_in v m.root r (changed_place v (s.seats i).place z.place)) (put_here u.seats i seat) in
            let was = ap (λ p. raises_in v m.root r (changed_place v (s.seats i).place p)) rests in
            let none = none_raised v m.root r (s.seats i).place starts in
            let no = none_raised v m.root r (s.seats i).place leaves in omega arith);
        others = λ k ne. ap (λ (z : SeatState). z.place) (put_else u.seats i seat k ne) ∙ half.others k ne;
      }

  module _ (in_range : i < m.seats) (inv : IsWellFormedWorld m s) (waiters : WaitersRaisedIn v m s) where
    known : Raised (λ r. raises_in v m.root r (s.seats i).place) m s.words (s.seats i).place
    known = record {
      own = λ r.
          (let all = total_has m.seats (λ k. raises_in v m.root r (s.seats k).place) i in_range in let counted = waiters r in omega arith);
      lists = lists_below m s (λ r. total m.seats (λ k. raises_in v m.root r (s.seats k).place)) waiters;
      within = (inv.seats i).within;
    }

    by_case : {u : SemaWorld} → Step m s i u → IsHalfway v m i s u
    by_case (own {q = q} line) = record {
      words = λ r.
          (let row = rows_in v line known r in
          let here = ap (λ (z : SeatState). raises_in v m.root r (changed_place v (s.seats i).place z.place)) (put_here s.seats i q) in omega arith);
      others = λ k ne. ap (λ (z : SeatState). z.place) (put_else s.seats i q k ne);
    }
    by_case (post {q = q} line) = record {
      words = λ r.
          (let row = posts_in v line m.root r in
          let here = ap (λ (z : SeatState). raises_in v m.root r (changed_place v (s.seats i).place z.place)) (put_here s.seats i q) in omega arith);
      others = λ k ne. ap (λ (z : SeatState). z.place) (put_else s.seats i q k ne);
    }

    pub halfway : IsTrue (can_turn m.root s i) → IsHalfway v m i s (turned m.root s i)
    halfway can =
        by_case (step_of m s (turned m.root s i) i (inv.seats i) (inv.finds i in_range) (turn (record { can = can; is = refl })))

    -- the seat is led where the change leads
    pub led : (u z : SemaWorld) → IsHalfway v m i s u → z.words ≡ u.words → ((k : ℕ) → k ≢ i → (z.seats k).place ≡ (u.seats k).place)
        → ((r : ℕ) → raises_in v m.root r (z.seats i).place ≡ raises_in v m.root r (changed_place v (s.seats i).place (u.seats i).place))
        → WaitersRaisedIn v m z
    led u z half words others here r =
        let sum = total_change m.seats (λ k. raises_in v m.root r (s.seats k).place) (λ k. raises_in v m.root r (z.seats k).place) i in_range
        (λ k ne. ap (raises_in v m.root r) (others k ne ∙ half.others k ne)) in
        let before = waiters r in
        let row = half.words r in
        let now = here r in
        let waiter = ap (λ (g : Words). g.waiters r) words in
        let waiting = ap (waits_of m r) words in omega arith
