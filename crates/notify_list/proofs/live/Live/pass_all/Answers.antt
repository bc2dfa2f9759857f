use Rattle.std.proofs.Common.{refl, ◌∙◌, arith}
use Rattle.notify_list.proofs.LiveTickets.{passed_all, few_words}
use Rattle.notify_list.proofs.live.Live.pass_all.Goals as goal

pub overflow_add-many : goal.overflow_add-many
overflow_add-many c =
    let r = c.requires in
    let many = c.args.self.now.words.ok.0 in
    let low = few_words r.4 r.2 c.args.waited r.5 c.len.result c.minus.result (c.len.ensures ∙ many) c.minus.ensures in omega (arith, low)

pub returns-clause-live : goal.returns-clause-live
returns-clause-live c first passed upto gone live may =
    let many = c.args.self.now.words.ok.0 in
    passed_all live upto c.args.waited may _ c.len.result c.minus.result (c.len.ensures ∙ many) c.minus.ensures c.clear.ensures.items refl
