use Rattle.std.proofs.Common.{refl}
use Rattle.waiters.proofs.lists.append.Goals as goal

pub returns : goal.returns
returns c = let added = c.insert_reserved-last.ensures in (
  record {
    key = c.insert_reserved-last.result;
    middle = c.insert_reserved-last.new.self;
    vacant = added.was_vacant;
    added = added.updates;
    relinked = c.link-first.ensures;
    last = refl;
    len = refl;
    room = added.len;
    capacity = added.capacity;
  },
  refl,
)
