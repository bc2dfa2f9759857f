use Rattle.std.proofs.Common.{sym, ◌∙◌}
use Rattle.program.proofs.Nearness.{near_of_both}
use Rattle.program.proofs.parts.fixed_place.Goals as goal

pub only_of-requires : goal.only_of-requires
only_of-requires c =
    near_of_both c.args.span c.index_of.result (c.in_ok-span.span, c.in_ok-span.index) c.requires (sym c.both.ensures ∙ c.in_ok-span.was)
