-- What the numbers of words are where a row runs, so that no addition and no subtraction wraps.
use Rattle.std.proofs.Common.{◌≡◌, ℕ, refl, List, ◌+◌, ◌-◌, ◌%◌, ◌^◌, ◌<◌, ◌≤◌, length, ap, ◌∙◌, arith}
use Rattle.step_table.specs.declared.word.Word.TheVariants.{Counter, Waiters}
use Rattle.step_table.specs.World.{SemaWorld, SeatState}
use Rattle.waiters.specs.declared.wait.WaitId.{WaitId}
use Rattle.step_table.specs.declared.effect.Effect.TheVariants.{Tells}
use Rattle.step_table.specs.declared.entry.Entry.TheVariants.{Leave, Withdraw}
use Rattle.step_table.specs.declared.place.Acquire.{Acquire}
use Rattle.step_table.specs.declared.place.AcquireRow.TheVariants.{Parked, D4}
use Rattle.step_table.specs.declared.place.ParkedRow.TheVariants.{D3}
use Rattle.step_table.specs.declared.place.Release.{Release}
use Rattle.step_table.specs.declared.place.ReleaseRow.TheVariants.{R5, R6}
use Rattle.step_table.specs.declared.place.ReleaseMany.{ReleaseMany}
use Rattle.step_table.specs.declared.place.ManyRow.TheVariants.{M5, M6}
use Rattle.step_table.specs.declared.place.Place.TheVariants.{Acquiring, Releasing, ReleasingMany}
use Rattle.step_table.specs.Event.{by_first, to}
use Rattle.step_table.specs.ReleaseMany.{after_leave}
use Rattle.step_table.specs.Table.{table, event_at}
use Rattle.step_table.specs.Counting.{wait}
use Rattle.step_table.specs.Steps.{event_of}
use Rattle.sema_table.specs.Rule.{stands_by}
use Rattle.step_law_semaphores.specs.Lawful.{holds, raises, IsLawfulWorld}
use Rattle.step_law_semaphores.proofs.Promises.{the_law}
use Rattle.step_law_semaphores.proofs.Accounts.{the_accounts}
use Rattle.sema_table.specs.declared.view.Known.{Known}
use Rattle.sema_table.specs.Setting.{root, layout, address}
use Rattle.sema_table.proofs.Keeping.{Ready}

module _ {k : ℕ} {v : Known} {b : SemaWorld} {i n : ℕ} (known : Ready k v b i n) where
  lawful : IsLawfulWorld (layout v.setting) b
  lawful = the_law.reached (layout v.setting) b known.reached

  -- one more in a counter
  pub counter_up : (c : ℕ) → c < length v.setting.starts → address v.setting (Counter c) ≡ i → (n + 1) % 2 ^ 64 ≡ n + 1
  counter_up c inside at =
      let few = (the_accounts.unwrapped (layout v.setting) v.setting.limit b known.reached known.small).numbers c in
      let is = known.word (Counter c) inside at in omega arith

  -- a few more in a counter
  pub counter_up_by : (c j : ℕ) → c < length v.setting.starts → address v.setting (Counter c) ≡ i → j ≤ 256 → (n + j) % 2 ^ 64 ≡ n + j
  counter_up_by c j inside at fewer =
      let few = (the_accounts.unwrapped (layout v.setting) v.setting.limit b known.reached known.small).numbers c in
      let is = known.word (Counter c) inside at in omega arith

  -- one more in a waiter word
  pub waiters_up : (c : ℕ) → address v.setting (Waiters c) ≡ i → (n + 1) % 2 ^ 64 ≡ n + 1
  waiters_up c at =
      let few = (lawful.bounded.1 (root v.setting c)).1 in let seats = known.small.seats in
      let is = known.word (Waiters c) tt at in omega arith

  -- one less in a waiter word that is above 0
  pub waiters_down : (c : ℕ) → address v.setting (Waiters c) ≡ i → 0 < b.words.waiters (root v.setting c)
      → (n + 18446744073709551615) % 2 ^ 64 ≡ n - 1
  waiters_down c at some = let is = known.word (Waiters c) tt at in let below = known.below in omega arith

  -- a waiter word that the seat has raised is above 0
  pub raised_some : (c : ℕ) → holds (root v.setting) (root v.setting c) v.place ≡ 1 → raises (root v.setting) (root v.setting c) v.place ≡ 1
      → 0 < b.words.waiters (root v.setting c)
  raised_some c held raised =
      let x : ℕ = root v.setting c in
      let stands = ap (λ (y : SeatState). y.place) known.knows.meets.stands in
      let counted = (lawful.waiters x).1 k known.there (ap (holds (root v.setting) x) stands ∙ held) in
      let one = ap (raises (root v.setting) x) stands ∙ raised in omega arith

  -- the waiter word that a seat at R5 lowers is above 0
  pub lowered_some : (a : Release) → v.place ≡ Releasing a R5 → 0 < b.words.waiters (root v.setting a.counter)
  lowered_some a at = by (b.words.lists a.counter) refl
    where
      stands : event_of b k ≡ event_at k (stands_by v) b.words.lists (Releasing a R5)
      stands = ap (λ (y : SeatState). table k y b.words.lists) known.knows.meets.stands ∙ ap (λ q. event_at k (stands_by v) b.words.lists q) at

      by : (l : List WaitId) → b.words.lists a.counter ≡ l → 0 < b.words.waiters (root v.setting a.counter)
      by l e = the_accounts.lowered (layout v.setting) b (the_law.invariant (layout v.setting) b known.reached) k (root v.setting a.counter) known.there
          (a.counter, by_first (b.words.lists a.counter) (to (Releasing a R6)) (λ w. (Releasing a R6, Tells (Leave a.counter w k))), refl, stands)

  -- and so is that which a seat at D3 lowers
  pub lowered_own : (a : Acquire) (turn : ℕ) → v.place ≡ Acquiring a (Parked turn D3) → 0 < b.words.waiters (root v.setting a.counter)
  lowered_own a turn at = the_accounts.lowered (layout v.setting) b (the_law.invariant (layout v.setting) b known.reached) k (root v.setting a.counter)
      known.there (a.counter, (Acquiring a D4, Tells (Withdraw a.counter (wait k turn))), refl, stands)
    where
      stands : event_of b k ≡ event_at k (stands_by v) b.words.lists (Acquiring a (Parked turn D3))
      stands = ap (λ (y : SeatState). table k y b.words.lists) known.knows.meets.stands ∙ ap (λ q. event_at k (stands_by v) b.words.lists q) at

  -- and so is that which a seat at M5 lowers
  pub lowered_some_many : (a : ReleaseMany) → v.place ≡ ReleasingMany a M5 → 0 < b.words.waiters (root v.setting a.counter)
  lowered_some_many a at = by (b.words.lists a.counter) refl
    where
      stands : event_of b k ≡ event_at k (stands_by v) b.words.lists (ReleasingMany a M5)
      stands = ap (λ (y : SeatState). table k y b.words.lists) known.knows.meets.stands ∙ ap (λ q. event_at k (stands_by v) b.words.lists q) at

      by : (l : List WaitId) → b.words.lists a.counter ≡ l → 0 < b.words.waiters (root v.setting a.counter)
      by l e = the_accounts.lowered (layout v.setting) b (the_law.invariant (layout v.setting) b known.reached) k (root v.setting a.counter) known.there (
        a.counter,
        by_first (b.words.lists a.counter) (to (ReleasingMany a M6))
            (λ w. (after_leave a (length v.hand) (length (b.words.lists a.counter)), Tells (Leave a.counter w k))),
        refl,
        stands,
      )
