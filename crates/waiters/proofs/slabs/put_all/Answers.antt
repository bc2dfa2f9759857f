use Rattle.std.proofs.Common.{ap, sym, ◌∙◌, arith}
use Rattle.std.specs.Option.{option_copied}
use Rattle.waiters.proofs.SlotLemmas.{HasBelow-put, HasBelow-vacant, HasAll-from}
use Rattle.waiters.proofs.LeftLemmas.{left_from-value, left_from-vacant, HasAll-none_left}
use Rattle.waiters.proofs.slabs.put_all.Goals as goal
use Rattle.waiters.proofs.slabs.put_all.Goals.{in-Some, in_default}

pub put-requires : goal.put-requires
put-requires g c = omega (arith, c.loop-key.invariant.1, c.requires)

pub returns-then-left-eq0-clause-all : goal.returns-then-left-eq0-clause-all
returns-then-left-eq0-clause-all g c =
    let none = sym c.loop-key.invariant.2 ∙ c.if-left-eq0.true in
    HasAll-none_left c.loop-key.slab c.args.other.now c.loop-key.key none c.loop-key.invariant.0

pub loop-key-preserved : goal.loop-key-preserved
loop-key-preserved g c =
    let slab = c.loop-key.slab in
    let other = c.args.other.now in
    let key = c.loop-key.key in
    let below = c.loop-key.invariant.0 in
    let left = c.loop-key.invariant.2 in
    elim c.match-get.branch [
      | in-Some w ↦
          let has = sym c.get.ensures ∙ ap option_copied w.in-Some.is in
          let put = w.put.ensures in (
            rw w.slab-is (HasBelow-put slab w.put.new.slab other key _ has put.there put.kept below),
            rw w.slab-is (put.capacity ∙ c.loop-key.invariant.1),
            omega (arith, w.left-is, left, left_from-value other key _ has),
          )
      | in_default w ↦
          let vacant = sym c.get.ensures ∙ ap option_copied w.in_default.is in (
            rw w.slab-is (HasBelow-vacant slab other key vacant below),
            rw w.slab-is c.loop-key.invariant.1,
            w.left-is ∙ left ∙ left_from-vacant other key vacant,
          )
    ]

pub returns-clause-all : goal.returns-clause-all
returns-clause-all g c =
    HasAll-from c.loop-key.slab c.args.other.now c.loop-key.key (omega (arith, c.capacity-key-end.ensures.slots)) c.loop-key.invariant.0
