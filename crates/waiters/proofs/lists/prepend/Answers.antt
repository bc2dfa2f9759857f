use Rattle.std.proofs.Common.{refl}
use Rattle.waiters.proofs.lists.prepend.Goals as goal

pub returns : goal.returns
returns c = let added = c.insert_reserved-first.ensures in (
  record {
    key = c.insert_reserved-first.result;
    vacant = added.was_vacant;
    added = added.updates;
    first = refl;
    last = c.or.ensures;
    len = refl;
    room = added.len;
    capacity = added.capacity;
  },
  refl,
)
