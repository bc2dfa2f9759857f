use Rattle.std.proofs.Common.{rules, true, refl}
use Rattle.notify_list.proofs.make.first_slots.Goals as goal

pub returns : goal.returns
returns c = (
  record { lists = c.open-key.new.self; key = c.open-key.result; live = c.in_ok-live.live; early = true },
  search rules,
  record {
    opened = search rules;
    waits = search rules;
    room = search rules;
    live = c.in_ok-live.ensures.live;
    fits = c.in_ok-live.ensures.room;
    early = refl;
  },
)
