use Rattle.std.proofs.Common.{sym, ◌∙◌, refl, arith}
use Rattle.notify_list.proofs.LiveTaking.{beyond, there, taken_out}
use Rattle.notify_list.proofs.live.Live.take.Goals as goal

pub remove-requires : goal.remove-requires
remove-requires c =
    let r = c.requires in let m = r.2 in let may = r.5 in
    let low = there r.4 m c.args.ticket _ may c.in-Some.place (sym c.place_of.ensures ∙ c.in-Some.is) in
    let many = c.args.self.now.words.ok.0 in omega (arith, low, many)

pub reach-requires : goal.reach-requires
reach-requires c =
    let r = c.requires in let may = r.5 in
    (r.0, r.1, r.2, r.3, r.4.kept, beyond r.4 r.2 c.args.ticket _ may (sym c.place_of.ensures ∙ c.in-None.is), may)

pub returns-in-Some-clause-live : goal.returns-in-Some-clause-live
returns-in-Some-clause-live c first passed m gone live may =
    taken_out live m c.args.ticket _ may c.in-Some.place (sym c.place_of.ensures ∙ c.in-Some.is) _ c.remove.ensures.items refl

pub returns-in-None-clause-live : goal.returns-in-None-clause-live
returns-in-None-clause-live c first passed m gone live may =
    c.reach.ensures.live first passed m gone live.kept (beyond live m c.args.ticket _ may (sym c.place_of.ensures ∙ c.in-None.is)) may
