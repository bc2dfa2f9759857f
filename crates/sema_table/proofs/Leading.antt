-- Where a row that ran leads its seat, by what the table says of it.
use prog.Atomic.{either}
use Rattle.std.proofs.Common.{◌≡◌, ◌≢◌, ℕ, zero, suc, ◌-◌, ◌+◌, ◌<◌, ◌==◌, cond, Bool, true, false, List}
use Rattle.std.proofs.Common.{refl, sym, ap, ◌∙◌, subst, arith, eq-eqb}
use Rattle.std.proofs.Common.{ne_eqb}
use Rattle.waiters.specs.declared.wait.WaitId.{WaitId}
use Rattle.step_table.specs.declared.effect.Effect.TheVariants.{Nothing}
use Rattle.step_table.specs.declared.word.Word.{Word}
use Rattle.step_table.specs.declared.place.Place.{Place}
use Rattle.step_table.specs.Event.{Event, Next, zero_or}
use Rattle.step_table.specs.Table.{table}
use Rattle.step_table.specs.World.{Layout, SemaWorld, seat_after, lists_after}
use Rattle.step_table.specs.Steps.{IsReached, turn, event_of, finds, turned}
use Rattle.step_table.specs.Turn.{more}
use Rattle.step_table.specs.Path.{Deed, runs, RanRow, Did}
use Rattle.step_table.specs.Journal.{Plain, replay, plain_start}
use Rattle.step_law_semaphores.specs.SemaPath.{SemaSight, SemaStride, SemaRan, RanSemaRow, SemaDid, plain_before, row_next, entries_of, semaphores}
use Rattle.step_law_semaphores.proofs.Promises.{the_law}
use Rattle.step_law_semaphores.proofs.SemaPaths.{the_sema_paths}
use Rattle.sema_table.specs.Setting.{layout}
use Rattle.sema_table.specs.Rule.{stands_by, sight_by, lists_by}
use Rattle.sema_table.specs.Rows.{SemaSeat}
use Rattle.sema_table.specs.Starts.{begin}
use Rattle.sema_table.proofs.Striding.{Ran}
use Rattle.sema_table.proofs.Tellers.{plain_there, stood_there}
use Rattle.sema_table.proofs.Words.{lists_unwritten}

-- the stride led from u to w, and went on so
pub record Goes (u : SemaSeat) (p : SemaStride) (next : Next) (w : SemaSeat) : Type 0 where
  pub stands : stands_by w.knows ≡ seat_after next.1 next.0 (stands_by u.knows)
  pub told : p.told ≡ entries_of next.1
  pub lists : (c : ℕ) → lists_by u.knows.setting w.knows.seen c ≡ lists_after next.1 (plain_before (layout u.knows.setting) p).lists c

-- the lists that a row leaves are those of the world that it leads to, whose journal tells them
module _ (m : Layout) (i : ℕ) (v w : SemaSight) (p : SemaStride) (ran : SemaRan m i v p w) (there : i < m.seats) (row : p.deed ≡ runs) where
  abbrev world : SemaWorld
  world = ran.world

  abbrev event : Event
  event = event_of ran.world i

  did : RanRow (semaphores m) world i p.read p.told w
  did = subst (λ (d : Deed Word). Did (semaphores m) world i d p.read p.told w) row ran.did

  reached : IsReached m (turned m.root world i)
  reached = more i there ran.meets.met (turn (record { can = did.can; is = refl }))

  next_is : row_next m i p ≡ event.leads (finds m.root world i)
  next_is = λ j. (table i (stood_there m i v w p ran j) (plain_there m i v w p ran j).lists).leads (did.read_is j)

  lists_left : (c : ℕ) → (replay (plain_start m.starts) w.seen).lists c ≡ lists_after (row_next m i p).1 (plain_before m p).lists c
  lists_left c =
      let lawful = the_law.reached m (turned m.root world i) reached in
      ap (λ (z : SemaSight). (replay (plain_start m.starts) z.seen).lists c) did.leads ∙ ap (λ (x : Plain). x.lists c) (sym lawful.journal.0)
      ∙ ap (λ (l : ℕ → List WaitId). lists_after (event.leads (finds m.root world i)).1 l c)
      (lists_unwritten m.root world.words event.word (event.becomes (finds m.root world i))
      ∙ ap (λ (x : Plain). x.lists) (sym (plain_there m i v w p ran)))
      ∙ ap (λ (x : Next). lists_after x.1 (plain_before m p).lists c) (sym next_is)

-- what follows the row at this place
abbrev pub next_by : SemaSeat → Place → SemaStride → ℕ → Next
next_by u place p n = (table u.number (stands_by (begin place u.knows)) (plain_before (layout u.knows.setting) p).lists).leads n

pub led : (u w : SemaSeat) (place : Place) (n : ℕ) (r : Ran (begin place) u n w) → Goes u r.stride (next_by u place r.stride n) w
led u w place n r =
    let m = layout u.knows.setting in let p : SemaStride = r.stride in let from : SemaSight = sight_by (begin place u.knows) in
    let row : RanSemaRow m u.number p (sight_by w.knows) = subst (SemaDid m u.number p (sight_by w.knows)) r.did
    (the_sema_paths.does m u.number from (sight_by w.knows) p r.ran) in
    let same : row_next m u.number p ≡ next_by u place p n = λ i. (table u.number (r.ran.stood i) (plain_before m p).lists).leads (r.read i) in
    record {
      stands = row.leads ∙ (λ i. seat_after (same i).1 (same i).0 (r.ran.stood i));
      told = row.told ∙ ap (λ (x : Next). entries_of x.1) same;
      lists = λ c. lists_left m u.number from (sight_by w.knows) p r.ran r.also.there r.did c
          ∙ ap (λ (x : Next). lists_after x.1 (plain_before m p).lists c) same;
    }

at_some : (n : ℕ) (a : Place) (b : ℕ → Place) → 0 < n → zero_or a b n ≡ b (n - 1)
at_some zero a b h = absurd (omega arith)
at_some (suc n) a b h = ap b (omega arith)

module _ {v w : SemaSeat} {p : SemaStride} where
  pub load_zero : (n : ℕ) (a : Place) (b : ℕ → Place) → Goes v p (zero_or a b n, Nothing) w → n ≡ 0 → Goes v p (a, Nothing) w
  load_zero n a b g e = subst (λ (k : ℕ). Goes v p (zero_or a b k, Nothing) w) e g

  pub load_some : (n : ℕ) (a : Place) (b : ℕ → Place) → Goes v p (zero_or a b n, Nothing) w → 0 < n → Goes v p (b (n - 1), Nothing) w
  load_some n a b g h = subst (λ (k : Place). Goes v p (k, Nothing) w) (at_some n a b h) g

  pub won : (k x : ℕ) (a b : Next) → Goes v p (cond (k == x) a b) w → k ≡ x → Goes v p a w
  won k x a b g e = subst (λ (y : Bool). Goes v p (cond y a b) w) (eq-eqb k x e) g

  pub lost : (k x : ℕ) (a b : Next) → Goes v p (cond (k == x) a b) w → k ≢ x → Goes v p b w
  lost k x a b g ne = subst (λ (y : Bool). Goes v p (cond y a b) w) (ne_eqb k x ne) g

either_is : (b : Bool) (x y : ℕ) → either b x y ≡ cond b x y
either_is true x y = refl
either_is false x y = refl

-- an exchange of what was found
pub exchanged : (n m : ℕ) → 0 < n → either (m == n) (n - 1) m ≡ cond (m == (n - 1 + 1)) (n - 1) m
exchanged n m h = either_is (m == n) (n - 1) m ∙ ap (λ (k : ℕ). cond (m == k) (n - 1) m) (omega arith)
