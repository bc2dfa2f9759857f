-- What a stride found: nobody in a list where the waiter word is 0, a wait that has left where a grant is there, and how many waits are in hand.
use Rattle.std.proofs.Common.{◌≡◌, ℕ, ◌<◌, List, [], ◌∷◌, length, sym, ap, ◌∙◌, subst, refl, arith}
use Rattle.waiters.specs.declared.wait.WaitId.{WaitId}
use Rattle.step_table.specs.declared.place.Acquire.{Acquire}
use Rattle.step_table.specs.declared.place.AcquireRow.TheVariants.{Parked}
use Rattle.step_table.specs.declared.place.ParkedRow.TheVariants.{P}
use Rattle.step_table.specs.declared.place.Place.{Place}
use Rattle.step_table.specs.declared.place.Place.TheVariants.{Acquiring}
use Rattle.step_table.specs.declared.word.Word.{Word}
use Rattle.step_table.specs.declared.word.Word.TheVariants.{Waiters, Grant}
use Rattle.step_table.specs.World.{Layout, SeatState, found}
use Rattle.step_table.specs.Event.{Event}
use Rattle.step_table.specs.Table.{table, event_at}
use Rattle.step_table.specs.Steps.{event_of}
use Rattle.step_table.specs.Counting.{on, wait, IsWithin}
use Rattle.step_table.specs.Journal.{Plain, HasLeft}
use Rattle.step_table.specs.Path.{Deed, runs, looks, Did}
use Rattle.step_table.proofs.Sums.{total_has, on_here}
use Rattle.step_law_semaphores.specs.Invariant.{IsInvariant, HandFits, Story}
use Rattle.step_law_semaphores.specs.SemaPath.{SemaSight, SemaStride, SemaRan, semaphores, plain_before, row_event}
use Rattle.step_law_semaphores.proofs.Promises.{the_law}
use Rattle.step_law_semaphores.proofs.Accounts.{the_accounts}
use Rattle.sema_table.proofs.After.{there}
use Rattle.sema_table.proofs.Tellers.{in_law, plain_there, stood_there}

none_long : (l : List WaitId) → length l ≡ 0 → l ≡ []
none_long [] e = refl
none_long (w ∷ l) e = absurd (omega arith)

module _ (m : Layout) (i : ℕ) (v w : SemaSight) (p : SemaStride) (r : SemaRan m i v p w) where
  invariant : IsInvariant m r.world
  invariant = the_law.invariant m r.world r.meets.met

  -- the call is on a counter that is there, and the hand fits it
  pub within : IsWithin m.counters p.stood.place
  within = subst (λ (z : SeatState). IsWithin m.counters z.place) (sym (stood_there m i v w p r)) ((in_law m i v w p r).within i)

  pub fits : HandFits p.stood.place (length p.stood.hand)
  fits = subst (λ (z : SeatState). HandFits z.place (length z.hand)) (sym (stood_there m i v w p r)) (invariant.seats i).fits

  -- a row read what lay in its word
  found_there : (word : Word) → p.deed ≡ runs → (row_event m i p).word ≡ word → p.read ≡ found m.root r.world.words word
  found_there word ran word_is = by p.deed ran r.did
    where
      event_is : row_event m i p ≡ event_of r.world i
      event_is j = table i (stood_there m i v w p r j) (plain_there m i v w p r j).lists

      by : (d : Deed Word) → d ≡ runs → Did (semaphores m) r.world i d p.read p.told w → p.read ≡ found m.root r.world.words word
      by runs e did = did.read_is ∙ ap (λ (x : Event). found m.root r.world.words x.word) (sym event_is) ∙ ap (found m.root r.world.words) word_is
      by (looks x) e did = absurd cc

  -- where the waiter word is 0 nobody waits
  pub nobody_there : (c : ℕ) → c < m.counters → p.deed ≡ runs → (row_event m i p).word ≡ Waiters c → p.read ≡ 0
      → (plain_before m p).lists c ≡ []
  nobody_there c inside ran word_is read_is =
      let read = found_there (Waiters c) ran word_is in
      let near = (the_accounts.near m r.world invariant (m.root c)).0 in
      let lists = r.world.words.lists in
      let own = total_has m.counters (λ d. on (m.root d) (m.root c) (length (lists d))) c inside in
      let here = on_here (m.root c) (length (lists c)) in
      ap (λ (x : Plain). x.lists c) (plain_there m i v w p r) ∙ none_long (lists c) (omega arith)

  -- where a grant of 1 is there the wait has left
  pub left_there : (a : Acquire) (turn : ℕ) → p.deed ≡ runs → p.stood.place ≡ Acquiring a (Parked turn P) → p.read ≡ 1
      → HasLeft a.counter (wait i turn) p.seen
  left_there a turn ran at one =
      let granted : r.world.words.grants i ≡ 1
      = sym (found_there (Grant i) ran (ap (λ (z : Place). (event_at i p.stood (plain_before m p).lists z).word) at)) ∙ one in
      let place : (r.world.seats i).place ≡ Acquiring a (Parked turn P) = ap (λ (z : SeatState). z.place) (sym (stood_there m i v w p r)) ∙ at in
      subst (λ l. HasLeft a.counter (wait i turn) l) (sym r.seen)
      (subst (λ (z : Place × ℕ). Story i z.0 (r.world.seats i).hand z.1 r.world.journal) (λ j. (place j, granted j))
      (invariant.stories i (there m i v w p r ran)))
