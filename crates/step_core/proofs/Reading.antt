-- What a moment and a world answer of a sound state: what the journal tells, that all is lawful, and at rest where no seat can run.
use Rattle.std.proofs.Common.{◌≡◌, ℕ, List, [], ◌∷◌, Result, Ok, Err, IfOk, refl, ap, ◌∙◌, arith}
use Rattle.step_table.specs.declared.entry.Entry.{Entry}
use Rattle.step_table.specs.declared.entry.Entry.TheVariants.{Add, AddMany, Take, Queue, Leave, Withdraw, Ticket, Grant, Forgo}
use Rattle.step_table.specs.Journal.{Plain, plain_start, effect_of, replay}
use Rattle.step_table.specs.Core.{sema_entries}
use Rattle.step_table.specs.Run.{layout}
use Rattle.step_core.specs.State.{State, IsSound, ShowsLawful, RestsAtEnd, TellsLeast, HasFewSteps, run_of, told}
use Rattle.step_law_whole.proofs.RunEarly.{lawful_run, run_ends}
use Rattle.step_law_whole.proofs.RunEnding.{the_run_ends}

-- entries of lists change no counter
replays_all : (x : Plain) (journal : List Entry) → replay x (sema_entries journal) ≡ replay x journal
replays_all x [] = refl
replays_all x (Ticket l s ∷ es) = replays_all x es
replays_all x (Grant l upto s ∷ es) = replays_all x es
replays_all x (Forgo l n s ∷ es) = replays_all x es
replays_all x (Add c s ∷ es) = replays_all (effect_of (Add c s) x) es
replays_all x (AddMany c n s ∷ es) = replays_all (effect_of (AddMany c n s) x) es
replays_all x (Take c s ∷ es) = replays_all (effect_of (Take c s) x) es
replays_all x (Queue c w lifo ∷ es) = replays_all (effect_of (Queue c w lifo) x) es
replays_all x (Leave c w s ∷ es) = replays_all (effect_of (Leave c w s) x) es
replays_all x (Withdraw c w ∷ es) = replays_all (effect_of (Withdraw c w) x) es

module _ (m : State) (sound : IsSound m) where
  tells : record { numbers = (run_of m).core.semaphores.words.numbers; lists = (run_of m).core.semaphores.words.lists } ≡ told m
  tells = sound.run.core.semaphores.replays ∙ replays_all (plain_start (layout m.parts).starts) m.journal

  pub number_told : (c : ℕ) → (run_of m).core.semaphores.words.numbers c ≡ (told m).numbers c
  number_told c = ap (λ (x : Plain). x.numbers c) tells

  pub waits_told : (c : ℕ) → (run_of m).core.semaphores.words.lists c ≡ (told m).lists c
  waits_told c = ap (λ (x : Plain). x.lists c) tells

  pub shows_lawful : ShowsLawful m
  shows_lawful = lawful_run m.parts sound.scenario (run_of m) sound.run

  pub rests_at_end : RestsAtEnd m
  rests_at_end = run_ends m.parts sound.scenario (run_of m) sound.run

  pub tells_least : TellsLeast m
  tells_least l = (shows_lawful.lists l).granted

  pub few_steps : HasFewSteps m
  few_steps schedule all leads = let few = the_run_ends.few m.parts schedule sound.scenario all in omega arith

-- what an answer says implies
pub if_ok : {A E : Type 0} {P Q : A → Type 0} (answer : Result A E) → ((a : A) → P a → Q a) → IfOk answer P → IfOk answer Q
if_ok (Ok a) implies is = implies a is
if_ok (Err e) implies is = tt
