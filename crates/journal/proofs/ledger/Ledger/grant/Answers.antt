use Rattle.std.proofs.Common.{ap, ◌∙◌}
use Rattle.std.proofs.lemmas.List.{get_or_read_under}
use Rattle.step_law_lists.specs.ListLawful as list
use Rattle.step_table.specs.ListWorld.{Granted}
use Rattle.step_table.specs.Journal.{spent}
use Rattle.journal.specs.Shown.{shown}
use Rattle.journal.proofs.Shown.{tickets_put}
use Rattle.journal.proofs.ledger.Ledger.grant.Goals as goal

pub returns-clause-shown : goal.returns-clause-shown
unfolding spent
returns-clause-shown c = λ seat.
    let old = c.args.self.now.tickets in
    let read = get_or_read_under old.items c.args.list old.len c.index_mut.result.now list.none_told c.index_mut.ensures.value c.requires.list old.ok.0 in
    let told = tickets_put old.items c.args.list old.len c.grant.new.self list.none_told (Granted c.args.upto seat) c.requires.list old.ok.0
    (c.grant.ensures seat ∙ ap (list.counted (Granted c.args.upto seat)) read) in
    (λ i. record (shown c.args.self.now) { told = λ k. told k i })
