-- What each kind of step on the state word tells its seat.
use Rattle.std.specs.Prelude.{◌≡◌, ◌/◌, ◌^◌, [], ◌∷◌, ◌++◌}
use Rattle.std.specs.Int.{w32, cast_signed}
use Rattle.running_rows.specs.Parking.{back_at}
use Rattle.running_rows.specs.Table as atomic
use Rattle.running_rows.specs.Words as words
use Rattle.step_table.specs.declared.call.GivingUp.{GivingUp}
use Rattle.step_table.specs.declared.call.Late.TheVariants.{Kept}
use Rattle.step_table.specs.declared.group_word.GroupWord.{GroupWord}
use Rattle.step_table.specs.declared.standing.GroupRow.{GroupRow}
use Rattle.step_table.specs.declared.standing.GroupRow.TheVariants.{G1, G2, V1, V3, V4}
use Rattle.step_table.specs.declared.standing.GroupNext.{GroupNext}
use Rattle.step_table.specs.declared.standing.GroupNext.TheVariants.{Goes, Acquires, SleepsOn}
use Rattle.step_table.specs.declared.standing.Ending.TheVariants.{NextCall}
use Rattle.step_table.specs.Group.{group_row}
use Rattle.step_table.specs.GroupBits.{IsGroupWord}
use Rattle.running_rows.specs.declared.view.View.{View}
use Rattle.sync_parts.specs.declared.group_view.GroupKnown.{GroupKnown}
use Rattle.sync_parts.specs.declared.group_view.GroupStep.{GroupStep}

abbrev pub GroupView : Type 0
GroupView = View GroupKnown GroupStep

abbrev pub Me : Type 0
Me = atomic.Me (Unit {0}) GroupView

abbrev pub Token : Type 0
Token = words.Token (Unit {0}) GroupKnown GroupStep

abbrev pub step : GroupRow → GroupWord → GroupStep
step row found = record { row = row; found = found }

-- the view after this row found this word
abbrev pub stepped : GroupRow → GroupWord → GroupView → GroupView
stepped row found v = record v {
  own = record v.own {
    knows = record v.own.knows { next = (group_row row found).1 };
    gone = v.own.gone ++ step row found ∷ [];
  };
}

-- the row that a load is, by what the last row led to
abbrev pub load_row : GroupNext → GroupRow
load_row (Goes (G2 seen)) = G2 seen
load_row (Acquires ending) = V3 ending
load_row (SleepsOn how) = V3 NextCall
load_row _ = V1 NextCall

-- how a wait gives up
abbrev pub given_up : GivingUp
given_up = record { late = Kept; skips = 0 }

-- the seat goes to this row, by its caller's choice or because it stands there
abbrev pub at_row : GroupRow → GroupKnown → GroupKnown
at_row row v = record v { next = Goes row }

-- d was added to the high half
abbrev pub at_add : atomic.Step (Unit {0}) → GroupKnown → GroupKnown
at_add st v = at_row (G1 (cast_signed w32 (st.first / 2 ^ 32))) v

-- the word was loaded
abbrev pub at_load : atomic.Step (Unit {0}) → GroupKnown → GroupKnown
at_load st v = at_row (load_row v.next) v

-- the word was loaded by a seat that gives up
abbrev pub at_leave : atomic.Step (Unit {0}) → GroupKnown → GroupKnown
at_leave st v = at_row (V4 given_up) v

-- the row ran, and found this word; nothing else changed but what the thread did with sleepers
pub record Steps (s : Token) (row : GroupRow) (found : GroupWord) (t : Token) : Type 0 where
  pub word : IsGroupWord found
  pub table_is : t.table_id ≡ s.table_id
  pub me_is : t.me
      ≡ (record (stepped row found s.me.0) { parking = back_at s.me.0.parking t.me.0.parking }, s.me.1)
