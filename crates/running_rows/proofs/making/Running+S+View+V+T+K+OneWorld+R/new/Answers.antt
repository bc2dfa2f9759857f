use Rattle.running_rows.proofs.Opening.{opens}
use Rattle.running_rows.proofs.making.Running+S+View+V+T+K+OneWorld+R.new.Goals as goal

pub new-requires : goal.new-requires
new-requires g c = opens g.R.Rows.family _ _ _ c.requires
