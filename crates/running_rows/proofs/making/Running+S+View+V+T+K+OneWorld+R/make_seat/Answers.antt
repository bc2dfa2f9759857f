use Rattle.running_rows.proofs.Opening.{splits}
use Rattle.running_rows.proofs.making.Running+S+View+V+T+K+OneWorld+R.make_seat.Goals as goal

pub split_seat-requires : goal.split_seat-requires
split_seat-requires g c = (
  c.requires.own.0,
  c.requires.own.1,
  splits g.R.Rows.family _ _ _ c.requires.made c.requires.room,
)
