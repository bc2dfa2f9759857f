-- The rule gives the lawful table.
use Rattle.running_rows.specs.Table.{State}
use Rattle.step_table.specs.declared.word.Word.TheVariants.{Counter, Lock, Waiters, Grant}
use Rattle.step_law_semaphores.proofs.Promises.{the_law}
use Rattle.step_law_semaphores.proofs.Accounts.{the_accounts}
use Rattle.running_rows.specs.Rule.{IsKept}
use Rattle.sema_table.specs.Rows.{SemaView, semaphore_rows}
use Rattle.sema_table.specs.declared.view.Record.{Record}
use Rattle.sema_table.specs.declared.view.Setting.{Setting}
use Rattle.sema_table.specs.Setting.{layout}
use Rattle.sema_table.specs.Table.{IsLawfulTable}

pub the_table : (z : Setting) (s : State Record SemaView) → IsKept semaphore_rows z s → IsLawfulTable z s
the_table z s kept = record {
  world = kept.world;
  reached = kept.shows.reached;
  small = kept.shows.small;
  lawful = the_law.reached (layout z) kept.world kept.shows.reached;
  named = the_accounts.named (layout z) kept.world kept.shows.reached;
  shows = record {
    numbers = λ c. kept.shows.words (Counter c);
    locks = λ c. kept.shows.words (Lock c) tt;
    waiters = λ c. kept.shows.words (Waiters c) tt;
    grants = λ k. kept.shows.words (Grant k);
    homes = kept.shows.homes;
    history = kept.history;
    writes = kept.writes;
    made = kept.made;
    by_seats = kept.by_seats;
    spot = kept.spot;
    views = kept.views;
    seated = kept.seated;
    unmade = kept.unmade;
    wide = kept.shows.wide;
    deep = kept.shows.deep;
  };
}
