use Rattle.running_rows.proofs.Seating.{sits_kept}
use Rattle.running_rows.proofs.closing.Running+S+View+V+T+K+OneWorld+R.seat_with.Goals as goal

pub join_seat-requires : goal.join_seat-requires
join_seat-requires g c = (
  c.requires.own.0,
  c.requires.other.0,
  c.requires.other.2,
  c.requires.some,
  sits_kept g.R.Rows.family _ _ _ _ _ c.requires.own.1 c.requires.other.1 c.requires.lone,
)
