-- A lock that is tried for, and left where a look found it held.
use Rattle.std.proofs.Common.{◌≡◌, ℕ, ◌<◌, Bool, true, false, MatchBool, ap, subst}
use Rattle.step_table.specs.declared.place.Place.{Place}
use Rattle.step_table.specs.declared.word.Word.{Word}
use Rattle.step_table.specs.declared.word.Word.TheVariants.{Lock}
use Rattle.step_table.specs.Path.{looks}
use Rattle.running_rows.specs.Strides.{Took, FoundHeld, here}
use Rattle.sema_table.specs.Rows.{Me, semaphore_rows}
use Rattle.sema_table.specs.Setting.{address}
use Rattle.sema_table.specs.Starts.{begin}
use Rattle.sema_table.specs.Seats.{TableModel, Token}
use Rattle.sema_table.specs.Walks.{Starts, Locked, SawHeld}
use Rattle.sema_table.proofs.Striding.{Strode}
use Rattle.sema_table.proofs.Words.{lock_lies}
use Rattle.sema_table.proofs.Locking.{has_locked}

pub has_tried : (t : TableModel) (s u : Token) (p : Place) (c i : ℕ) → Starts t s p → 0 < s.me.0.own.knows.setting.roots
    → address s.me.0.own.knows.setting (Lock c) ≡ i → (b : Bool)
    → MatchBool b (Took semaphore_rows (begin p) s.me u.me) (FoundHeld semaphore_rows i s.me u.me) → u.table_id ≡ s.table_id
    → MatchBool b (Locked s p u) (SawHeld s c u)
has_tried t s u p c i starts some lies true took own = has_locked t s u p starts took own
has_tried t s u p c i starts some lies false (n, ne, (went, same)) own = record {
  table_id = own;
  slots = ap (λ (m : Me). m.1) same;
  found = n;
  held = ne;
  looked = subst (λ (x : Word). Strode here (looks x) s.me.0.own n u.me.0.own) (lock_lies s.me.0.own.knows.setting c i some lies) went;
}
