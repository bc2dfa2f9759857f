use Rattle.std.proofs.Common.{◌≡◌, ℕ, ◌^◌, ◌<◌, List, take, slice_index_or}
use Rattle.sema_table.specs.Setting.{apart}
use Rattle.sema_table.proofs.make.first_words.Given as goal

abbrev pub invariant-loop-start : goal.invariant-loop-start
invariant-loop-start l = record {
  copied : ◌≡◌ {A = List ℕ} l.words.items (apart (take l.start-index l.start-items));
  small : (k d : ℕ) → k < l.start-index → slice_index_or l.start-items k d < 2 ^ 32;
}
