-- The step table with one change: where a row leads. Everything else is as in the table, and nothing is
-- promised of it but that.
use Rattle.std.specs.Prelude.{ℕ, nat_lt, if◌then◌else◌}
use Rattle.step_table.specs.declared.list_place.ListPlace.{ListPlace}
use Rattle.step_table.specs.declared.list_place.ListPlace.TheVariants.{Waiting}
use Rattle.step_table.specs.declared.list_place.WaitRow.{WaitRow}
use Rattle.step_table.specs.declared.list_place.WaitRow.TheVariants.{W2, W3, W4}
use Rattle.step_table.specs.declared.place.AcquireRow.{AcquireRow}
use Rattle.step_table.specs.declared.place.AcquireRow.TheVariants.{A3, A4, A5, A6, A7, A8, A9}
use Rattle.step_table.specs.declared.place.Place.{Place}
use Rattle.step_table.specs.declared.place.Place.TheVariants.{Acquiring}
use Rattle.step_table.specs.declared.parts.Parts.{Parts}
use Rattle.step_table.specs.declared.standing.Standing.{Standing}
use Rattle.step_table.specs.declared.standing.Standing.TheVariants.{AtCounter, AtList}
use Rattle.step_law_alike.specs.declared.variant.Variant.{Variant}
use Rattle.step_law_alike.specs.declared.variant.Variant.TheVariants.{NoLook, LateCount, PlainLess}
use Rattle.step_table.specs.World.{put}
use Rattle.step_table.specs.Steps.{moved}
use Rattle.step_table.specs.ListSteps as list
use Rattle.step_table.specs.Core.{Core}
use Rattle.step_table.specs.Run.{Run, stepped}
use Rattle.step_law_alike.specs.Alike.{AreAlike}

-- a row of an acquire that by the table leads from one row to another leads there: without the second look,
-- A4 leads to A7; with the late count, A3 leads to A5, A5 on 0 to A4, A4 to A7, and A6 won to A9
abbrev pub changed_row : Variant → AcquireRow → AcquireRow → AcquireRow
changed_row NoLook A4 A5 = A7
changed_row LateCount A3 A4 = A5
changed_row LateCount A5 A7 = A4
changed_row LateCount A4 A5 = A7
changed_row LateCount (A6 left) A8 = A9
changed_row v from next = next

abbrev pub changed_place : Variant → Place → Place → Place
changed_place v (Acquiring a from) (Acquiring b next) = Acquiring b (changed_row v from next)
changed_place v from next = next

-- the outcome of W2 where two words are compared as numbers
abbrev pub plainly : ℕ → ℕ → WaitRow
plainly ticket notify = if nat_lt ticket notify then W3 else W4

-- the same of a wait on a list with this ticket and this notify word: with the plain comparison, W2 leads
-- where that tells
abbrev pub changed_wait_row : Variant → ℕ → ℕ → WaitRow → WaitRow → WaitRow
changed_wait_row PlainLess ticket notify W2 W3 = plainly ticket notify
changed_wait_row PlainLess ticket notify W2 W4 = plainly ticket notify
changed_wait_row v ticket notify from next = next

abbrev pub changed_list_place : Variant → ℕ → ListPlace → ListPlace → ListPlace
changed_list_place v notify (Waiting t from) (Waiting u next) =
    Waiting u (changed_wait_row v t.word notify from next)
changed_list_place v notify from next = next

-- the seat i, which stood there before its row on the semaphores, stands where the changed table leads
abbrev pub led_on_counter : Variant → Place → Core → ℕ → Core
led_on_counter v from t i =
    record t { semaphores = moved t.semaphores i (changed_place v from (t.semaphores.seats i).place) }

-- the same of a row on the list l, whose notify word was this
abbrev pub led_on_list : Variant → ℕ → ListPlace → Core → ℕ → ℕ → Core
led_on_list v notify from t i l =
    record t {
      lists = put t.lists l
          (list.moved (t.lists l) i (changed_list_place v notify from ((t.lists l).seats i).place));
    }

-- the machine t after a row of seat i, which did this in s
abbrev pub changed : Variant → Core → Core → ℕ → Standing → Core
changed v s t i (AtCounter after) = led_on_counter v (s.semaphores.seats i).place t i
changed v s t i (AtList l ending) = led_on_list v (s.lists l).words.notify ((s.lists l).seats i).place t i l
changed v s t i _ = t

-- the run after a step of seat i by the changed table
abbrev pub changed_stepped : Variant → Parts → Run → ℕ → Run
changed_stepped v parts run i =
    let next : Run = stepped parts run i in
    record next { core = changed v run.core next.core i (run.core.standing i) }

-- by a changed table too, runs that are alike step to such runs
abbrev pub ChangedAlike : Type 0
ChangedAlike =
    (v : Variant) (parts : Parts) (r s : Run) → AreAlike r s
    → (i : ℕ) → AreAlike (changed_stepped v parts r i) (changed_stepped v parts s i)
