use Rattle.std.proofs.Common.{sym, ◌∙◌, subst}
use Rattle.waiters.proofs.StepLemmas.{mine}
use Rattle.waiters.proofs.LocateLemmas.{known_place, nowhere_found, elsewhere_found, other_found, only_found}
use Rattle.waiters.specs.declared.lists.whereabouts.Whereabouts.TheVariants.{Only}
use Rattle.waiters.specs.Whereabouts.{known_about}
use Rattle.std.proofs.Common.{◌≡◌, ℕ}
use Rattle.waiters.proofs.lists.seeking.locate.Goals as goal

pub index-requires : goal.index-requires
index-requires c = let k = c.requires in
    known_place c.args.records.now k.0 k.1 k.2 k.3 c.args.seats.now k.4 c.args.sought.now c.in-Only.there c.in-Only.place (sym c.in-Only.ensures)

pub find-requires : goal.find-requires
find-requires c = let k = c.requires in let own = mine c.args.records.now k.0 k.1 k.2 k.3 c.args.list c.args.chain k.5 in (own.entries, own.links)

pub returns-in-Nowhere : goal.returns-in-Nowhere
returns-in-Nowhere c = let k = c.requires in
    nowhere_found c.args.records.now k.0 k.1 k.2 k.3 c.args.seats.now k.4 c.args.sought.now c.args.list c.args.chain k.5 (sym c.in-Nowhere.ensures)

pub returns-then-there-list : goal.returns-then-there-list
returns-then-there-list c = let k = c.requires in
    elsewhere_found c.args.records.now k.0 k.1 k.2 k.3 c.args.seats.now k.4 c.args.sought.now c.args.list c.args.chain k.5
    c.in-Only.there c.in-Only.place (sym c.in-Only.ensures) c.if-there-list.true

pub returns-then-not-is : goal.returns-then-not-is
returns-then-not-is c = let k = c.requires in
    other_found c.args.records.now k.0 k.1 k.2 k.3 c.args.seats.now k.4 c.args.sought.now c.args.list c.args.chain k.5
    c.in-Only.there c.in-Only.place c.index.result.now (sym c.in-Only.ensures) c.index.ensures (sym c.is.ensures ∙ c.if-not-is.true)

pub returns-else-not-is : goal.returns-else-not-is
returns-else-not-is c = let k = c.requires in
    only_found c.args.records.now k.0 k.1 k.2 k.3 c.args.seats.now k.4 c.args.sought.now c.args.list c.args.chain k.5
    c.in-Only.place c.index.result.now
    (subst (λ (there : ℕ). known_about c.args.seats.now c.args.sought.now ≡ Only there c.in-Only.place) c.if-there-list.false (sym c.in-Only.ensures))
    c.index.ensures (sym c.is.ensures ∙ c.if-not-is.false)
