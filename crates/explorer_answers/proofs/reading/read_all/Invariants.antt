use Rattle.std.proofs.Common.{◌≡◌, ◌+◌, ◌-◌, ◌^◌, false, cond, length}
use Rattle.std.specs.Io.KnownBytes.{Consumes, IsAtEnd}
use Rattle.explorer_answers.proofs.reading.read_all.Given as goal

-- the bytes so far are those that were read, and a piece that isn't full was the last
abbrev pub invariant-loop-is_more : goal.invariant-loop-is_more
invariant-loop-is_more g l = record {
  piece : length l.piece.items ≡ 65536;
  consumed : Consumes (g.R.Source.contents l.initial.reader) (g.R.Source.contents l.reader) l.bytes.items;
  ended : l.is_more ≡ false → IsAtEnd (g.R.Source.contents l.reader);
  ready : g.R.Source.has_failed l.reader ≡ false;
}

abbrev pub decreases-loop-is_more : goal.decreases-loop-is_more
decreases-loop-is_more g l = 2 ^ 64 - length l.bytes.items + cond l.is_more 1 0
