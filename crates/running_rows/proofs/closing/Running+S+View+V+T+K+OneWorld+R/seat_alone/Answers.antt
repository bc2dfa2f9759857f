use Rattle.running_rows.proofs.Seating.{forgets_kept}
use Rattle.running_rows.proofs.closing.Running+S+View+V+T+K+OneWorld+R.seat_alone.Goals as goal

pub split_seat-requires : goal.split_seat-requires
split_seat-requires g c = (
  c.requires.own.0,
  c.requires.some,
  forgets_kept g.R.Rows.family _ _ _ c.requires.own.1,
)
